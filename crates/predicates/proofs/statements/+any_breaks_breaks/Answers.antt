use mathlib.Core.Path.{refl, sym, ◌∙◌}
use mathlib.Core.Bool.{false}
use Rattle.records.specs.Readable.{tables}
use Rattle.rules.specs.Switches.{has_nested_break, has_nested_break_in_list}
use Rattle.moves.proofs.Told.{told_stmt_kind}
use Rattle.predicates.proofs.ByKind.{broke_told, not_broke_told}
use Rattle.predicates.proofs.Parts.{block_breaks, if_breaks, within_none}
use Rattle.predicates.proofs.statements.+any_breaks_breaks.Goals as goal

pub any_breaks-returns : goal.any_breaks-returns
any_breaks-returns t c =
    c.any_of_row.ensures has_nested_break has_nested_break_in_list c.args.depth (record { none = refl; more = λ x xs. refl }) (λ at b p. p)

pub breaks-returns-in_default : goal.breaks-returns-in_default
breaks-returns-in_default t c = within_none has_nested_break c.args.stmts.now c.args.at c.args.depth false c.in_default.ensures

pub breaks-returns-in-Break : goal.breaks-returns-in-Break
breaks-returns-in-Break t c es ds x w s a n l =
    let k = told_stmt_kind (tables es c.args.stmts.now ds) c.args.at x w c.record_at-stmt.ensures a in broke_told x (sym c.in-Break.is ∙ k)

pub breaks-returns-in-If : goal.breaks-returns-in-If
breaks-returns-in-If t c =
    if_breaks c.args.stmts.now c.args.at c.args.depth c.in-Some.left c.record_at-stmt.result c.record_at-stmt.ensures c.in-Some.ensures
    c.in-If.is c.any_breaks.ensures

pub breaks-returns-in-Block : goal.breaks-returns-in-Block
breaks-returns-in-Block t c =
    block_breaks c.args.stmts.now c.args.at c.args.depth c.in-Some.left c.record_at-stmt.result c.record_at-stmt.ensures c.in-Some.ensures
    c.in-Block.is c.any_breaks-in-Block.ensures

pub breaks-returns-in_default-kind : goal.breaks-returns-in_default-kind
breaks-returns-in_default-kind t c es ds x w s a n l =
    let k = told_stmt_kind (tables es c.args.stmts.now ds) c.args.at x w c.record_at-stmt.ensures a in
    not_broke_told x (λ z. c.in_default-kind.not-Break (k ∙ z)) (λ z. c.in_default-kind.not-If (k ∙ z)) (λ z. c.in_default-kind.not-Block (k ∙ z))
