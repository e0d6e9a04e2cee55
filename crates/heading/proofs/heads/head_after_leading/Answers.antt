use Rattle.std.proofs.Common.{arith}
use Rattle.moves.proofs.Trees.{detached_expr}
use Rattle.heading.proofs.Fronting.{leading_done}
use Rattle.heading.proofs.heads.head_after_leading.Goals as goal

pub returns-clause-makes : goal.returns-clause-makes
returns-clause-makes c e w y r n loose rest o =
    let t = c.args.tables.now in
    let k = c.merge_leading_assignments_to_declaration-worked.auto in
    leading_done c.args.sequences e w y r n (record { exprs = omega arith; stmts = omega arith; decls = omega arith })
    (detached_expr t.exprs.now c.detach-behind.new.table c.args.front.values c.detach-behind.result
    c.detach-behind.ensures t.stmts.now t.decls.now t.pools e w)
    (c.merge_leading_assignments_to_declaration-worked.ensures e r)
    (λ m o₁. c.head_from_expression.ensures c.merge_leading_assignments_to_declaration-worked.new.decls _ w y _ m loose rest o₁) o
