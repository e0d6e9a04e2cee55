use mathlib.Core.List.{◌∷◌}
use mathlib.Core.Path.{◌∙◌, sym}
use native.Mathlib.Omega.{arith}
use Rattle.records.specs.Embedding.{expr_row}
use Rattle.records.specs.Heap.{expr_at}
use Rattle.records.specs.Rows.{end}
use Rattle.rules.specs.Expressions.{minimize_not}
use Rattle.moves.proofs.Frames.{then_move}
use Rattle.moves.proofs.Rows.{expr_fits}
use Rattle.branching.proofs.Spares.{spared_by_not}
use Rattle.joining.proofs.Lengths.{as_long}
use Rattle.branching.proofs.logical.to_logical.Goals as goal

pub returns-then-has_negated_result : goal.returns-then-has_negated_result
returns-then-has_negated_result c ss ds t e n loose rest o =
    let b = c.has_negated_result.ensures ss ds t end o.short o.held.0 (expr_fits t end o) in
    rw (sym b ∙ c.if-has_negated_result.true)
    (then_move (c.minimize_not.ensures ss ds t end (omega arith) loose ((expr_at c.args.expr, expr_row e end) ∷ rest) o)
    (λ o₁.
    let l = as_long _ _ _ _ c.minimize_not.auto.exprs in
    let m = spared_by_not t end 1 0 l (record { exprs = n; stmts = omega arith; decls = omega arith }) o o₁ in
    c.join_with_left_associative_op.ensures ss ds (minimize_not t) e end m.exprs loose rest o₁))

pub returns-else-has_negated_result : goal.returns-else-has_negated_result
returns-else-has_negated_result c ss ds t e n loose rest o =
    let b = c.has_negated_result.ensures ss ds t end o.short o.held.0 (expr_fits t end o) in
    rw (sym b ∙ c.if-has_negated_result.false)
    (c.join_with_left_associative_op-else-has_negated_result.ensures ss ds t e end (omega arith) loose rest o)
