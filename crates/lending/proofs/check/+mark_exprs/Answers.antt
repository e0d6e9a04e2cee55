use Rattle.std.proofs.Common.{Some, None, ap, arith}
use Rattle.lending.specs.Marked.{unmarked}
use Rattle.lending.proofs.Marking.{claimed_unmarked}
use Rattle.lending.proofs.ExprsMarked.{exprs_ended, exprs_unclaimed, exprs_first, exprs_misfit, exprs_start, exprs_again}
use Rattle.lending.proofs.check.+mark_exprs.Goals as goal

pub loop-at-init : goal.loop-at-init
loop-at-init t c = exprs_start c.args.exprs.now c.args.marks.now c.args.row c.requires.0 c.requires.1

pub returns-then-not-claim : goal.returns-then-not-claim
returns-then-not-claim t c =
    let o = c.loop-at.invariant in
    let h = c.if-not-claim.ensures in
    record {
      row = λ ss ds ms md s. o.on ss ds ms md s None c.claim.new.marks
          (exprs_unclaimed c.args.exprs.now c.loop-at.at c.loop-at.count c.loop-at.marks ss ds ms md s c.claim.new.marks o.fit c.loop-at-test.true h.1);
      left = let u = ap unmarked h.0 in let l = o.left in omega arith;
    }

pub mark_exprs-requires : goal.mark_exprs-requires
mark_exprs-requires t c =
    let o = c.loop-at.invariant in
    let f = o.fit in
    let l = o.left in
    let u = claimed_unmarked c.loop-at.marks c.loop-at.at c.claim.new.marks c.if-not-claim.ensures in
    let k = c.claim.auto.marks in
    let m = c.decreases in
    (omega arith, (c.requires.0, omega arith))

pub returns-in_err-parts : goal.returns-in_err-parts
returns-in_err-parts t c =
    let o = c.loop-at.invariant in
    let u = claimed_unmarked c.loop-at.marks c.loop-at.at c.claim.new.marks c.if-not-claim.ensures in
    let h = c.in_err-parts.ensures in
    record {
      row = λ ss ds ms md s. o.on ss ds ms md s c.from_residual.result c.mark_exprs.new.marks
          (exprs_first c.args.exprs.now c.loop-at.at c.loop-at.count c.loop-at.marks ss ds ms md s c.claim.new.marks o.fit c.if-not-claim.ensures
          c.mark_exprs.new.marks c.from_residual.result c.from_residual.ensures (h.row ss ds ms md s));
      left = let l = h.left in let l₂ = o.left in omega arith;
    }

pub returns-then-not-fits_expr : goal.returns-then-not-fits_expr
returns-then-not-fits_expr t c =
    let o = c.loop-at.invariant in
    let u = claimed_unmarked c.loop-at.marks c.loop-at.at c.claim.new.marks c.if-not-claim.ensures in
    let h = c.in_ok-parts.ensures in
    record {
      row = λ ss ds ms md s. o.on ss ds ms md s None c.mark_exprs.new.marks
          (exprs_misfit c.args.exprs.now c.loop-at.at c.loop-at.count c.loop-at.marks ss ds ms md s c.claim.new.marks o.fit c.if-not-claim.ensures
          c.mark_exprs.new.marks c.in_ok-parts.parts (h.row ss ds ms md s) c.if-not-fits_expr.ensures);
      left = let l = h.left in let l₂ = o.left in omega arith;
    }

pub overflow_add-count : goal.overflow_add-count
overflow_add-count t c =
    let u = claimed_unmarked c.loop-at.marks c.loop-at.at c.claim.new.marks c.if-not-claim.ensures in
    let r = c.loop-at.invariant.room in
    omega arith

pub loop-at-smaller : goal.loop-at-smaller
loop-at-smaller t c =
    let u = claimed_unmarked c.loop-at.marks c.loop-at.at c.claim.new.marks c.if-not-claim.ensures in
    let l = c.in_ok-parts.ensures.left in
    omega arith

pub loop-at-preserved : goal.loop-at-preserved
loop-at-preserved t c =
    let o = c.loop-at.invariant in
    let f = o.fit in
    let k = c.claim.auto.marks in
    let k₁ = c.mark_exprs.auto.marks in
    let h = c.in_ok-parts.ensures in
    exprs_again o c.claim.new.marks c.if-not-claim.ensures c.mark_exprs.new.marks (omega arith) c.in_ok-parts.parts h.row h.left c.if-not-fits_expr.ensures

pub returns : goal.returns
returns t c =
    let o = c.loop-at.invariant in
    record {
      row = λ ss ds ms md s. o.on ss ds ms md s (Some c.loop-at.count) c.loop-at.marks (exprs_ended c.args.exprs.now c.loop-at.at c.loop-at.count c.loop-at.marks ss ds ms md s c.loop-at-test.false);
      left = o.left;
    }
