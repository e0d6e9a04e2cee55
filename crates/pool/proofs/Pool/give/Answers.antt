use Rattle.std.proofs.Common.{◌≡◌, true, false, eqb, ltb, length, get_or, set, refl, ap, ◌∙◌, lt-ltb, ne_eqb}
use Rattle.pool.specs.Chain.{nowhere}
use Rattle.pool.proofs.Chains.{set_modify}
use Rattle.pool.proofs.Pool.give.Goals as goal

pub returns : goal.returns
returns g c =
    let table = c.args.table.now in
    let head = c.args.self.now.head in
    let count = c.args.self.now.count in
    let at = c.args.at in
    let e₁ : ltb at (length table) ≡ true = lt-ltb at (length table) c.if-at-table.false in
    let e₂ : eqb count nowhere ≡ false = ne_eqb count nowhere c.if-self.false in
    let x = get_or table at c.index-table-at.result in
    let w : set table at c.set_next.new.self ≡ set table at (g.R.Linked.relinked x head) = ap (set table at) c.set_next.ensures in
    record {
      answer = rw (e₁, e₂);
      accepted = (w ∙ set_modify (λ y. g.R.Linked.relinked y head) at table c.index-table-at.result c.if-at-table.false, refl);
    }
