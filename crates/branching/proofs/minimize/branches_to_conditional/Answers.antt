use mathlib.Core.List.{[], ◌∷◌}
use Rattle.script.specs.Tree.{expression}
use Rattle.records.specs.Embedding.{expr_row, stmt_row}
use Rattle.records.specs.Heap.{expr_at, stmt_at}
use Rattle.records.specs.Owned.{Root}
use Rattle.records.specs.Rows.{end}
use Rattle.records.proofs.Moves.{pick}
use Rattle.moves.proofs.Frames.{arrange, then_move}
use Rattle.moves.proofs.Trees.{detached_stmt}
use Rattle.branching.proofs.minimize.branches_to_conditional.Goals as goal

pub returns : goal.returns
returns c ds t x y n loose rest o =
    let es = c.args.exprs.now in
    let p = c.args.pools.now in
    let test : Root = (expr_at c.args.test, expr_row t end) in
    then_move
    (then_move
    (then_move
    (detached_stmt _ _ _ _ c.detach-other.ensures es ds p (expression x) (stmt_row (expression y) end) loose (test ∷ rest) (pick 1 o))
    (λ o₁. c.open_expression-a.ensures es ds p.exprs p.decls x loose
    ((stmt_at c.detach-other.result, stmt_row (expression y) end) ∷ test ∷ rest) o₁))
    (λ o₂. c.open_expression-b.ensures es ds p.exprs p.decls y loose
    ((expr_at c.open_expression-a.result, expr_row x end) ∷ test ∷ rest) (pick 1 o₂)))
    (λ o₃. c.minimize_conditional.ensures c.open_expression-b.new.stmts ds t x y end n loose rest (arrange (2 ∷ 1 ∷ []) o₃))
