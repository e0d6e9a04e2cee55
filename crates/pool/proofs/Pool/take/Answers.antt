use Rattle.std.proofs.Common.{◌≡◌, ◌-◌, ◌<◌, true, false, eqb, ltb, map, length, get_or, Err, sym, ap, ◌∙◌, arith, le-ltb, lt-ltb, ne_eqb}
use lib.ListN.{length-map}
use Rattle.std.proofs.lemmas.List.{get_or-map}
use Rattle.pool.specs.declared.PoolFault.TheVariants.{Outside}
use Rattle.pool.proofs.Pool.take.Goals as goal

pub returns-then-at-table : goal.returns-then-at-table
returns-then-at-table g c =
    let links = map g.R.Linked.link c.args.table.now in
    let head = c.args.self.now.head in
    let e₁ : eqb c.args.self.now.count 0 ≡ false = ne_eqb c.args.self.now.count 0 c.if-self-eq0.false in
    let e₂ : ltb head (length links) ≡ false = le-ltb head (length links) (let h = c.if-at-table.true in omega (arith, length-map c.args.table.now g.R.Linked.link)) in
    record { answer = rw (e₁, e₂) (ap (λ t. Err (Outside t)) c.table-then-at-table.ensures); after = rw (e₁, e₂) }

pub returns : goal.returns
returns g c =
    let link = g.R.Linked.link in
    let table = c.args.table.now in
    let links = map link table in
    let head = c.args.self.now.head in
    let count = c.args.self.now.count in
    let h : head < length table = c.if-at-table.false in
    let e₁ : eqb count 0 ≡ false = ne_eqb count 0 c.if-self-eq0.false in
    let e₂ : ltb head (length links) ≡ true = lt-ltb head (length links) (omega (arith, length-map table link)) in
    let e : get_or links head 0 ≡ c.next-self.result = get_or-map link table head c.index-table-at.result 0 h ∙ ap link (sym c.index-table-at.is) ∙ sym c.next-self.ensures in
    record { answer = rw (e₁, e₂); after = rw (e₁, e₂) (ap (λ n. record { head = n; count = count - 1 }) (sym e)) }
