use Rattle.std.proofs.Common.{refl, sym, subst, arith}
use Rattle.records.specs.Turning.{stmt_next}
use Rattle.records.specs.Walked.{ahead}
use Rattle.unreachable.proofs.Walks.{no_vars, none_taken, noting_both, one_taken, vars_walked}
use Rattle.unreachable.specs.Noted.{Noting, vars_of_kind, vars_of_row}
use Rattle.unreachable.proofs.noting.+note_vars.Goals as goal

pub returns-in_default : goal.returns-in_default
returns-in_default t c es r s a m d = subst (Noting c.args.noted.now c.args.noted.now) (sym (no_vars r (omega arith))) (λ l q. q)

pub loop-stmt-preserved : goal.loop-stmt-preserved
loop-stmt-preserved t c after more =
    let n = c.note_vars.new.noted in
    let e = c.in-Some-2.ensures.steps in
    c.loop-stmt.invariant after
    (rw (one_taken c.loop-stmt.stmt-iterator.n _ _ _ _ e.0 e.1) (
      n,
      (λ es y z s a b u v w.
          noting_both c.loop-stmt.noted c.note_declaration.new.noted n (vars_of_kind c.in-Some-2.stmt.kind z) (vars_of_row y)
          (c.note_declaration.ensures es c.args.stmts.now z s b w) (c.note_vars.ensures es y s a u v)),
      more,
    ))

pub returns : goal.returns
returns t c es r s a m d =
    let all = none_taken c.loop-stmt.stmt-iterator.n (ahead stmt_next c.loop-stmt.stmt-iterator.iter) (λ e. (c.in-None.ensures.steps e).0) in
    vars_walked es c.args.stmts.now c.args.decls.now c.in-Some.below c.args.row c.args.most r c.args.noted.now c.loop-stmt.noted s a
    m (omega arith) d (c.loop-stmt.invariant c.loop-stmt.noted (rw all refl))
