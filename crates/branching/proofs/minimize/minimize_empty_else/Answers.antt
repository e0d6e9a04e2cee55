use mathlib.Core.List.{◌∷◌}
use mathlib.Core.Path.{◌∙◌, sym}
use native.Mathlib.Omega.{arith}
use Rattle.records.specs.Embedding.{expr_row, stmt_row}
use Rattle.records.specs.Heap.{expr_at, stmt_at}
use Rattle.records.specs.Rows.{end}
use Rattle.records.proofs.Moves.{pick}
use Rattle.rules.specs.Expressions.{minimize_not}
use Rattle.rules.specs.Ifs.{branch?, else_to_logical}
use Rattle.moves.proofs.Frames.{then_move, then_use}
use Rattle.branching.proofs.Rules.{empty_else_turned, of_kind}
use Rattle.branching.proofs.Spares.{spared_by_not}
use Rattle.joining.proofs.Lengths.{as_long}
use Rattle.branching.proofs.minimize.minimize_empty_else.Goals as goal

pub returns-in-Expression : goal.returns-in-Expression
returns-in-Expression c ds t x n loose rest o =
    let p = c.args.pools.now in
    let b = c.branch_of.ensures c.args.exprs.now ds x end o.short o.held.1.0 in
    let s = of_kind (branch? x) (sym c.in-Expression.is ∙ b) in
    let m = n.exprs in
    rw s.1
    (then_use
    (then_move
    (c.open_expression-expr.ensures c.args.exprs.now ds p.exprs p.decls s.0 (stmt_at c.args.parts.at ∷ loose)
    ((expr_at c.args.parts.test, expr_row t end) ∷ rest) (pick 1 (rw s.1 at o)))
    (λ o₁. c.else_to_logical.ensures c.open_expression-expr.new.stmts ds t s.0 (omega arith) (stmt_at c.args.parts.at ∷ loose) rest (pick 1 o₁)))
    (λ o₂. c.write_expression.ensures c.else_to_logical.new.exprs ds c.else_to_logical.new.pools (else_to_logical t s.0) loose rest o₂))

pub returns-in_default : goal.returns-in_default
returns-in_default c ds t x n loose rest o =
    let b = c.branch_of.ensures c.args.exprs.now ds x end o.short o.held.1.0 in
    let m = n.exprs in
    rw (sym (empty_else_turned t (branch? x) (λ z. c.in_default.not-Expression (b ∙ z))))
    (then_use
    (c.minimize_not.ensures c.args.stmts.now ds t end (omega arith) (stmt_at c.args.parts.at ∷ loose)
    ((stmt_at c.args.parts.branches, stmt_row x end) ∷ rest) o)
    (λ o₁.
    let l = as_long _ _ _ _ c.minimize_not.auto.exprs in
    c.minimize_if_alone.ensures ds (minimize_not t) x (spared_by_not t end 2 1 l n o o₁) loose rest o₁))
