use Rattle.std.proofs.Common.{◌≡◌, suc, ◌+◌, ◌-◌, ◌<◌, ◌∷◌, map, length, get_or, set, sym, refl, ap, ◌∙◌, arith}
use lib.ListN.{length-map}
use lib.Seq.{map-set}
use Rattle.std.specs.List.{range_with_len}
use Rattle.pool.proofs.Chains.{chain_push, places_push, occurrences_counting}
use Rattle.pool.specs.Chain.{places, occurrences}
use Rattle.pool.proofs.Pool.start.Goals as goal

pub loop-at-init : goal.loop-at-init
loop-at-init g c =
    let n = length c.args.table.now in
    let z : n - n ≡ 0 = omega arith in
    (omega arith, rw z refl, rw z refl)

pub loop-at-preserved : goal.loop-at-preserved
loop-at-preserved g c =
    let link = g.R.Linked.link in
    let table = c.loop-at.table in
    let head = c.loop-at.head in
    let n = length c.args.table.now in
    let at = c.loop-at.at - 1 in
    let links = map link table in
    let i = c.loop-at.invariant in
    let k = c.loop-at.auto.table in
    let t = c.loop-at-test.true in
    let x = get_or table at c.index-table-at.result in
    let m : map link (set table at c.set_next.new.self) ≡ set links at head = map-set link table at c.set_next.new.self ∙ ap (set links at) (ap link c.set_next.ensures ∙ g.met.R.Linked.linked x head) in
    let h : at < length links = omega (arith, length-map table link) in
    let s : n - at ≡ suc (n - c.loop-at.at) = omega arith in
    let a : at + 1 ≡ c.loop-at.at = omega arith in
    let o : occurrences at (places links head (n - c.loop-at.at)) ≡ 0 = rw i.2 (occurrences_counting at c.loop-at.at (n - c.loop-at.at) (omega arith)) in
    let p : places (set links at head) at (suc (n - c.loop-at.at)) ≡ range_with_len at (suc (n - c.loop-at.at)) = places_push links at head (n - c.loop-at.at) h o ∙ ap (λ l. at ∷ l) (i.2 ∙ ap (λ b. range_with_len b (n - c.loop-at.at)) (sym a)) in
    (omega arith, rw (m, s) (chain_push links at head (n - c.loop-at.at) h i.1 o), rw (m, s) p)

pub returns : goal.returns
returns g c =
    let n = length c.args.table.now in
    let k = c.loop-at.auto.table in
    let t = c.loop-at-test.false in
    let z : c.loop-at.at ≡ 0 = omega arith in
    let e : n - c.loop-at.at ≡ length c.loop-at.table = omega arith in
    let i = c.loop-at.invariant in
    ((let l = c.if-table.false in omega arith), refl, rw e at i.1, rw (e, z) at i.2)
