use Rattle.std.proofs.Common.{arith}
use Rattle.heading.proofs.Discriminant.{switch_done}
use Rattle.heading.proofs.switches.handle_switch_statement.Goals as goal

pub returns-clause-makes : goal.returns-clause-makes
returns-clause-makes c d cs r n loose rest o =
    let a = c.merge_last_expression_into_sequence-merged.auto in
    let b = c.merge_leading_assignments_to_declaration-worked.auto in
    let l = n.exprs in
    switch_done c.args.sequences d cs r n (record { exprs = omega arith; stmts = omega arith; decls = omega arith })
    (c.merge_last_expression_into_sequence-merged.ensures c.args.tables.now.decls.now d r (omega arith))
    (λ e r₁. c.merge_leading_assignments_to_declaration-worked.ensures e r₁)
    (λ e r₂ x s. c.inline_case.ensures c.merge_leading_assignments_to_declaration-worked.new.decls e cs r₂ x s) o
