use Rattle.std.proofs.Common.{ℕ, refl, ap, arith, inl, length, subst, map}
use lib.ListN.{length-map}
use Rattle.std.proofs.lemmas.Iterator.{items_from_drains}
use Rattle.std.proofs.lemmas.Iterator.Consumers.{YieldsList-from_first}
use Rattle.pool.specs.Chain.{Chain}
use Rattle.records.specs.Walked.{ahead}
use Rattle.writing.proofs.Walks.{chain_met}
use Rattle.writing.proofs.bytes.count.Goals as goal

pub count-requires-clause-fits : goal.count-requires-clause-fits
count-requires-clause-fits g c =
    let (n, h, s) = c.requires.countable in
    let e = chain_met g.R.Linked.link c.args.table.now c.requires.short c.args.row n h c.along.ensures in
    inl (omega arith)

pub overflow_cast-result : goal.overflow_cast-result
overflow_cast-result g c =
    let (n, h, s) = c.requires.countable in
    let e = chain_met g.R.Linked.link c.args.table.now c.requires.short c.args.row n h c.along.ensures in
    let b = c.count.ensures.bound in
    omega arith

pub returns : goal.returns
returns g c =
    let link = g.R.Linked.link in
    let (n, h, s) = c.requires.countable in
    let (xs, d, r) = c.count.ensures.ran in
    let e = chain_met link c.args.table.now c.requires.short c.args.row n h c.along.ensures in
    let l = items_from_drains xs (d.1.0, d.1.1, λ _. (d.0, d.1.2)) (YieldsList-from_first (λ x. x) (ahead link) (ahead link c.along.result) refl) in
    let m = ap length l in
    subst (λ (k : ℕ). Chain (map link c.args.table.now) c.args.row k) (omega (arith, length-map xs (λ x. x))) h
