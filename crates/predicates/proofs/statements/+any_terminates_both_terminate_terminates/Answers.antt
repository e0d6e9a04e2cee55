use Rattle.std.proofs.Common.{ap, eqb, not, refl, sym, ◌∙◌}
use Rattle.pool.specs.Chain.{nowhere}
use mathlib.Core.Bool.{false, true≢false}
use mathlib.Core.Logic.{⊎_elim}
use Rattle.records.specs.Readable.{tables}
use Rattle.rules.specs.Statements.{is_terminated, is_terminated_list}
use Rattle.moves.proofs.Told.{told_stmt_kind}
use Rattle.predicates.proofs.ByKind.{break_told, continue_told, not_ended_told, return_told, throw_told}
use Rattle.predicates.proofs.Parts.{block_terminated, first_goes_on, if_terminated, one_branch, second_tells, within_none}
use Rattle.predicates.proofs.statements.+any_terminates_both_terminate_terminates.Goals as goal
use Rattle.predicates.proofs.statements.+any_terminates_both_terminate_terminates.Goals.{both_terminate-else-other, both_terminate-then-other}

pub any_terminates-returns : goal.any_terminates-returns
any_terminates-returns t c =
    c.any_of_row.ensures is_terminated is_terminated_list c.args.depth (record { none = refl; more = λ x xs. refl }) (λ at b p. p)

pub both_terminate-returns-then-terminates : goal.both_terminate-returns-then-terminates
both_terminate-returns-then-terminates t c =
    elim c.if-other.branch [
      | both_terminate-then-other w ↦
          second_tells c.args.stmts.now c.args.branches c.args.depth c.record_at-other.result c.record_at-other.ensures w.if-other.true
          (rw (sym c.if-terminates.true) (rw w.value-is w.terminates.ensures)) c.terminates-then-terminates.ensures
      | both_terminate-else-other w ↦
          absurd (true≢false (sym c.if-terminates.true ∙ w.value-is ∙ ap (λ n. not (eqb n nowhere)) w.if-other.false))
    ]

pub both_terminate-returns-else-terminates : goal.both_terminate-returns-else-terminates
both_terminate-returns-else-terminates t c =
    rw c.if-terminates.false
    (elim c.if-other.branch [
      | both_terminate-then-other w ↦
          first_goes_on c.args.stmts.now c.args.branches c.args.depth c.record_at-other.result c.record_at-other.ensures
          (rw (sym c.if-terminates.false) (rw w.value-is w.terminates.ensures))
      | both_terminate-else-other w ↦
          one_branch c.args.stmts.now c.args.branches c.args.depth c.record_at-other.result c.record_at-other.ensures w.if-other.false
    ])

pub terminates-returns-in_default : goal.terminates-returns-in_default
terminates-returns-in_default t c = within_none is_terminated c.args.stmts.now c.args.at c.args.depth false c.in_default.ensures

pub terminates-returns-in-Return : goal.terminates-returns-in-Return
terminates-returns-in-Return t c es ds x w s a n l =
    let k = told_stmt_kind (tables es c.args.stmts.now ds) c.args.at x w c.record_at-stmt.ensures a in
    ⊎_elim (λ q. return_told x (sym q ∙ k))
    (⊎_elim (λ q. throw_told x (sym q ∙ k)) (⊎_elim (λ q. break_told x (sym q ∙ k)) (λ q. continue_told x (sym q ∙ k)))) c.in-Return.is

pub terminates-returns-in-If : goal.terminates-returns-in-If
terminates-returns-in-If t c =
    if_terminated c.args.stmts.now c.args.at c.args.depth c.in-Some.left c.record_at-stmt.result c.record_at-stmt.ensures c.in-Some.ensures c.in-If.is
    c.both_terminate.ensures

pub terminates-returns-in-Block : goal.terminates-returns-in-Block
terminates-returns-in-Block t c =
    block_terminated c.args.stmts.now c.args.at c.args.depth c.in-Some.left c.record_at-stmt.result c.record_at-stmt.ensures c.in-Some.ensures c.in-Block.is
    c.any_terminates.ensures

pub terminates-returns-in_default-kind : goal.terminates-returns-in_default-kind
terminates-returns-in_default-kind t c es ds x w s a n l =
    let k = told_stmt_kind (tables es c.args.stmts.now ds) c.args.at x w c.record_at-stmt.ensures a in
    not_ended_told x (λ z. c.in_default-kind.not-Return (k ∙ z)) (λ z. c.in_default-kind.not-Throw (k ∙ z)) (λ z. c.in_default-kind.not-Break (k ∙ z))
    (λ z. c.in_default-kind.not-Continue (k ∙ z)) (λ z. c.in_default-kind.not-If (k ∙ z)) (λ z. c.in_default-kind.not-Block (k ∙ z))
