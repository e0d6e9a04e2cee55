use Rattle.std.proofs.Common.{◌≡◌, suc, ◌+◌, ◌-◌, ◌<◌, map, length, get_or, sym, ap, ◌∙◌, arith}
use lib.ListN.{length-map}
use Rattle.std.proofs.lemmas.List.{get_or-map}
use Rattle.lending.proofs.SparesMarked.{going_start, going_step, going_out, going_end}
use Rattle.lending.proofs.check.mark_spares.Goals as goal

pub loop-init : goal.loop-init
loop-init g c =
    let n = c.args.pool.now.count in
    let e : n - 0 ≡ n = omega arith in
    rw e (going_start c.args.marks.now (map g.R.Linked.link c.args.table.now) c.args.pool.now.head n)

pub returns-then-not-claim : goal.returns-then-not-claim
returns-then-not-claim g c =
    let link = g.R.Linked.link in
    let table = c.args.table.now in
    let n = c.args.pool.now.count in
    let t = c.loop-test.true in
    let e : n - c.loop.counter ≡ suc (n - (c.loop.counter + 1)) = omega arith in
    let i = rw e at c.loop.invariant in
    going_out _ c.claim.new.marks (c.loop.auto.marks ∙ c.requires ∙ sym (length-map table link)) i c.if-not-claim.ensures

pub loop-preserved : goal.loop-preserved
loop-preserved g c =
    let link = g.R.Linked.link in
    let table = c.args.table.now in
    let n = c.args.pool.now.count in
    let t = c.loop-test.true in
    let e : n - c.loop.counter ≡ suc (n - (c.loop.counter + 1)) = omega arith in
    let i = rw e at c.loop.invariant in
    let h = c.if-not-claim.ensures in
    let inside : c.loop.at < length table = let k = c.loop.auto.marks in let p = c.requires in let b = h.0 in omega arith in
    let x : get_or (map link table) c.loop.at 0 ≡ c.next-at.result =
    get_or-map link table c.loop.at c.index-table-at.result 0 inside ∙ ap link (sym c.index-table-at.is) ∙ sym c.next-at.ensures in
    rw x at (going_step _ c.claim.new.marks (c.loop.auto.marks ∙ c.requires ∙ sym (length-map table link)) i h)

pub returns : goal.returns
returns g c =
    let n = c.args.pool.now.count in
    let e : n - c.loop.counter ≡ 0 = let t = c.loop-test.false in omega arith in
    let i = rw e at c.loop.invariant in
    going_end i
