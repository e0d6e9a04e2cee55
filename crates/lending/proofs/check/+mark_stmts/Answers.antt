use Rattle.std.proofs.Common.{Some, None, ap, arith}
use Rattle.records.specs.Lent.{heap}
use Rattle.lending.specs.Marked.{marks_of, unmarked, Sized}
use Rattle.lending.proofs.Counts.{same_stmts}
use Rattle.lending.proofs.Marking.{claimed_unmarked}
use Rattle.lending.proofs.StmtsMarked.{stmts_ended, stmts_unclaimed, stmts_parts, stmts_inner, stmts_misfit, stmts_start, stmts_again}
use Rattle.lending.proofs.check.+mark_stmts.Goals as goal

pub loop-at-init : goal.loop-at-init
loop-at-init t c =
    stmts_start (heap c.args.tables.now) c.args.marks_exprs.now c.args.marks_stmts.now c.args.marks_decls.now c.args.row c.default-survey.result
    (let e = c.default-survey.ensures in same_stmts e.0 e.1.0 e.1.1.0 e.1.1.1) c.requires.short c.requires.sized

pub returns-then-not-claim : goal.returns-then-not-claim
returns-then-not-claim t c =
    let o = c.loop-at.invariant in
    let h = c.if-not-claim.ensures in
    let m = marks_of c.loop-at.marks_exprs c.claim.new.marks c.loop-at.marks_decls in
    record {
      row = o.on None m (stmts_unclaimed (heap c.args.tables.now) c.loop-at.at c.loop-at.survey c.loop-at.marks_exprs c.loop-at.marks_stmts
          c.loop-at.marks_decls c.requires.short m o.sized.stmts c.loop-at-test.true h.1);
      left = let u = ap unmarked h.0 in let l = o.left in omega arith;
    }

pub returns-in_err-parts : goal.returns-in_err-parts
returns-in_err-parts t c =
    let o = c.loop-at.invariant in
    let u = claimed_unmarked c.loop-at.marks_stmts c.loop-at.at c.claim.new.marks c.if-not-claim.ensures in
    let m₁ = marks_of c.mark_parts.new.marks_exprs c.claim.new.marks c.mark_parts.new.marks_decls in
    record {
      row = o.on c.from_residual.result m₁ (stmts_parts (heap c.args.tables.now) c.loop-at.at c.loop-at.survey c.loop-at.marks_exprs c.loop-at.marks_stmts
          c.loop-at.marks_decls c.requires.short c.claim.new.marks o.sized.stmts c.if-not-claim.ensures m₁ c.from_residual.result
          c.from_residual.ensures (c.in_err-parts.ensures c.args.tables.now.stmts.now c.claim.new.marks c.requires.short));
      left = let l = o.left in omega arith;
    }

pub mark_stmts-requires : goal.mark_stmts-requires
mark_stmts-requires t c =
    let o = c.loop-at.invariant in
    let s = o.sized in
    let l = o.left in
    let u = claimed_unmarked c.loop-at.marks_stmts c.loop-at.at c.claim.new.marks c.if-not-claim.ensures in
    let k = c.claim.auto.marks in
    let k₁ = c.mark_parts.auto.marks_exprs in
    let k₂ = c.mark_parts.auto.marks_decls in
    let m = c.decreases in
    let sized : Sized (heap c.args.tables.now) c.mark_parts.new.marks_exprs c.claim.new.marks c.mark_parts.new.marks_decls =
    record { exprs = omega arith; stmts = omega arith; decls = omega arith } in
    (omega arith, (c.requires.short, sized))

pub returns-in_err-inner : goal.returns-in_err-inner
returns-in_err-inner t c =
    let o = c.loop-at.invariant in
    let u = claimed_unmarked c.loop-at.marks_stmts c.loop-at.at c.claim.new.marks c.if-not-claim.ensures in
    let h = c.in_err-inner.ensures in
    let m₁ = marks_of c.mark_parts.new.marks_exprs c.claim.new.marks c.mark_parts.new.marks_decls in
    let m₂ = marks_of c.mark_stmts.new.marks_exprs c.mark_stmts.new.marks_stmts c.mark_stmts.new.marks_decls in
    record {
      row = o.on c.from_residual-in_err-inner.result m₂
          (stmts_inner (heap c.args.tables.now) c.loop-at.at c.loop-at.survey c.loop-at.marks_exprs c.loop-at.marks_stmts c.loop-at.marks_decls c.requires.short
          c.claim.new.marks o.sized.stmts c.if-not-claim.ensures m₁ c.in_ok-parts.parts
          (c.in_ok-parts.ensures c.args.tables.now.stmts.now c.claim.new.marks c.requires.short) m₂ c.from_residual-in_err-inner.result
          c.from_residual-in_err-inner.ensures h.row);
      left = let l = h.left in let l₂ = o.left in omega arith;
    }

pub weighed-requires : goal.weighed-requires
weighed-requires t c =
    let o = c.loop-at.invariant in
    let u = claimed_unmarked c.loop-at.marks_stmts c.loop-at.at c.claim.new.marks c.if-not-claim.ensures in
    let r = o.room in
    (omega arith, o.few.cases, o.few.defaults, o.few.lexicals)

pub returns-in_err-survey : goal.returns-in_err-survey
returns-in_err-survey t c =
    let o = c.loop-at.invariant in
    let u = claimed_unmarked c.loop-at.marks_stmts c.loop-at.at c.claim.new.marks c.if-not-claim.ensures in
    let h = c.in_ok-inner.ensures in
    let m₁ = marks_of c.mark_parts.new.marks_exprs c.claim.new.marks c.mark_parts.new.marks_decls in
    let m₂ = marks_of c.mark_stmts.new.marks_exprs c.mark_stmts.new.marks_stmts c.mark_stmts.new.marks_decls in
    record {
      row = o.on c.from_residual-in_err-survey.result m₂
          (stmts_misfit (heap c.args.tables.now) c.loop-at.at c.loop-at.survey c.loop-at.marks_exprs c.loop-at.marks_stmts c.loop-at.marks_decls
          c.requires.short c.claim.new.marks o.sized.stmts c.if-not-claim.ensures m₁ c.in_ok-parts.parts
          (c.in_ok-parts.ensures c.args.tables.now.stmts.now c.claim.new.marks c.requires.short) m₂ c.in_ok-inner.inner h.row
          c.from_residual-in_err-survey.result c.from_residual-in_err-survey.ensures c.in_err-survey.ensures);
      left = let l = h.left in let l₂ = o.left in omega arith;
    }

pub loop-at-smaller : goal.loop-at-smaller
loop-at-smaller t c =
    let u = claimed_unmarked c.loop-at.marks_stmts c.loop-at.at c.claim.new.marks c.if-not-claim.ensures in
    let l = c.in_ok-inner.ensures.left in
    omega arith

pub loop-at-preserved : goal.loop-at-preserved
loop-at-preserved t c =
    let o = c.loop-at.invariant in
    let h = c.in_ok-inner.ensures in
    let s = o.sized in
    let k = c.claim.auto.marks in
    let k₁ = c.mark_parts.auto.marks_exprs in
    let k₂ = c.mark_parts.auto.marks_decls in
    let l = c.mark_stmts.auto in
    let sized : Sized (heap c.args.tables.now) c.mark_stmts.new.marks_exprs c.mark_stmts.new.marks_stmts c.mark_stmts.new.marks_decls =
    record { exprs = omega arith; stmts = omega arith; decls = omega arith } in
    stmts_again c.requires.short o c.claim.new.marks c.if-not-claim.ensures c.mark_parts.new.marks_exprs c.mark_parts.new.marks_decls c.in_ok-parts.parts
    (c.in_ok-parts.ensures c.args.tables.now.stmts.now c.claim.new.marks c.requires.short) c.mark_stmts.new.marks_exprs c.mark_stmts.new.marks_stmts
    c.mark_stmts.new.marks_decls sized c.in_ok-inner.inner h.row h.left c.in_ok-survey.survey c.in_ok-survey.ensures

pub returns : goal.returns
returns t c =
    let o = c.loop-at.invariant in
    record {
      row = o.on (Some c.loop-at.survey) (marks_of c.loop-at.marks_exprs c.loop-at.marks_stmts c.loop-at.marks_decls)
          (stmts_ended (heap c.args.tables.now) c.loop-at.at c.loop-at.survey c.loop-at.marks_exprs c.loop-at.marks_stmts c.loop-at.marks_decls c.requires.short
          c.loop-at-test.false);
      left = o.left;
    }
