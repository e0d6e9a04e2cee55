use Rattle.std.proofs.Common.{refl, arith}
use Rattle.merging.proofs.LastExpression.{pushed}
use Rattle.merging.proofs.last.push_new_expression_stmt_to_result.Goals as goal

pub returns : goal.returns
returns c ds e r n s loose rest o =
    let k = c.merge_last_expression_into_sequence-merged.auto in
    let a = k.exprs in
    let b = k.stmts in
    rw c.set.ensures
    (pushed c.args.sequences e r c.take-at.result c.take-at.new.pool (record { exprs = omega arith; stmts = omega arith; decls = refl }) s
    c.take-at.ensures o (c.merge_last_expression_into_sequence-merged.ensures ds e r n loose rest o))
