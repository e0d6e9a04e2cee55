use Rattle.std.proofs.Common.{Some, None, refl, arith}
use Rattle.lending.proofs.Counts.{same_decls}
use Rattle.lending.proofs.Marking.{claimed_unmarked}
use Rattle.lending.proofs.DeclsMarked.{decls_ended, decls_unclaimed, decls_value, decls_misfit, decls_start, decls_again}
use Rattle.lending.proofs.check.mark_decls.Goals as goal

pub loop-at-init : goal.loop-at-init
loop-at-init c = decls_start c.args.exprs.now c.args.decls.now c.args.marks_exprs.now c.args.marks_decls.now c.args.row c.default-survey.result
    (let e = c.default-survey.ensures in same_decls e.0 e.1) c.requires.decls.0 c.requires.decls.1

pub returns-then-not-claim : goal.returns-then-not-claim
returns-then-not-claim c = λ ss ms s.
    let o = c.loop-at.invariant in
    o.on ss ms s None c.loop-at.marks_exprs c.claim.new.marks
    (decls_unclaimed c.args.exprs.now c.args.decls.now c.loop-at.at c.loop-at.survey c.loop-at.marks_exprs c.loop-at.marks_decls ss ms s
    c.loop-at.marks_exprs c.claim.new.marks o.fit c.loop-at-test.true c.if-not-claim.ensures.1)

pub returns-in_err-values : goal.returns-in_err-values
returns-in_err-values c = λ ss ms s.
    let o = c.loop-at.invariant in
    o.on ss ms s c.from_residual.result c.mark_exprs.new.marks c.claim.new.marks
    (decls_value c.args.exprs.now c.args.decls.now c.loop-at.at c.loop-at.survey c.loop-at.marks_exprs c.loop-at.marks_decls ss ms s c.claim.new.marks
    o.fit c.if-not-claim.ensures c.mark_exprs.new.marks c.from_residual.result c.from_residual.ensures
    (c.in_err-values.ensures.row ss c.args.decls.now ms c.claim.new.marks s))

pub returns-then-values-gt1 : goal.returns-then-values-gt1
returns-then-values-gt1 c = λ ss ms s.
    let o = c.loop-at.invariant in
    o.on ss ms s None c.mark_exprs.new.marks c.claim.new.marks
    (decls_misfit c.args.exprs.now c.args.decls.now c.loop-at.at c.loop-at.survey c.loop-at.marks_exprs c.loop-at.marks_decls ss ms s c.claim.new.marks
    o.fit c.if-not-claim.ensures c.mark_exprs.new.marks c.in_ok-values.values
    (c.in_ok-values.ensures.row ss c.args.decls.now ms c.claim.new.marks s) c.if-values-gt1.true)

pub overflow_add-survey : goal.overflow_add-survey
overflow_add-survey c =
    let u = claimed_unmarked c.loop-at.marks_decls c.loop-at.at c.claim.new.marks c.if-not-claim.ensures in
    let r = c.loop-at.invariant.room in
    omega arith

pub loop-at-smaller : goal.loop-at-smaller
loop-at-smaller c =
    let u = claimed_unmarked c.loop-at.marks_decls c.loop-at.at c.claim.new.marks c.if-not-claim.ensures in
    omega arith

pub loop-at-preserved : goal.loop-at-preserved
loop-at-preserved c =
    decls_again c.loop-at.invariant c.claim.new.marks c.if-not-claim.ensures c.mark_exprs.new.marks c.in_ok-values.values c.in_ok-values.ensures.row
    c.if-values-gt1.false _ (let e = c.from.ensures in same_decls refl (omega arith))

pub returns : goal.returns
returns c = λ ss ms s.
    c.loop-at.invariant.on ss ms s (Some c.loop-at.survey) c.loop-at.marks_exprs c.loop-at.marks_decls (decls_ended c.args.exprs.now c.args.decls.now c.loop-at.at c.loop-at.survey c.loop-at.marks_exprs c.loop-at.marks_decls ss ms s c.loop-at-test.false)
