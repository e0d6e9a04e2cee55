use mathlib.Core.List.{◌∷◌}
use mathlib.Core.Path.{◌∙◌, sym}
use Rattle.records.specs.Embedding.{expr_row}
use Rattle.records.specs.Heap.{stmt_at}
use Rattle.records.specs.Rows.{end}
use Rattle.moves.proofs.Rows.{expr_fits}
use Rattle.branching.proofs.minimize.minimize_empty_alone.Goals as goal
use Rattle.moves.proofs.Frames.{then_use}

pub returns-then-is_harmless : goal.returns-then-is_harmless
returns-then-is_harmless g c ds t loose rest o =
    let b = c.is_harmless.ensures c.args.stmts.now ds t end o.short o.held.0 (expr_fits t end o) in
    rw (sym b ∙ c.if-is_harmless.true)
    (then_use (c.drop_expr_row.ensures c.args.stmts.now ds (expr_row t end) (stmt_at c.args.at ∷ loose) rest o)
    (λ o₁. c.write_empty.ensures c.drop_expr_row.new.exprs ds c.drop_expr_row.new.pools loose rest o₁))

pub returns-else-is_harmless : goal.returns-else-is_harmless
returns-else-is_harmless g c ds t loose rest o =
    let b = c.is_harmless.ensures c.args.stmts.now ds t end o.short o.held.0 (expr_fits t end o) in
    rw (sym b ∙ c.if-is_harmless.false) (c.write_expression.ensures c.args.exprs.now ds c.args.pools.now t loose rest o)
