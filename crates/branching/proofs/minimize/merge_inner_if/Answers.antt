use mathlib.Core.List.{[], ◌∷◌}
use Rattle.script.specs.Tree.{no_alternate}
use Rattle.records.specs.Embedding.{expr_row, stmt_row}
use Rattle.records.specs.Heap.{expr_at, stmt_at}
use Rattle.records.specs.Rows.{end}
use Rattle.records.proofs.Moves.{pick}
use Rattle.rules.specs.Ifs.{branch?, wrap_to_avoid_ambiguous_else}
use Rattle.moves.proofs.Frames.{arrange, then_move, then_use}
use Rattle.moves.proofs.Single.{give_stmt_of}
use Rattle.branching.proofs.Opening.{opens_if}
use Rattle.branching.proofs.minimize.merge_inner_if.Goals as goal

pub returns : goal.returns
returns c ds t u x n loose rest o =
    let p = c.args.pools.now in
    let inner = stmt_at c.args.inner in
    let stmt = c.record_at-stmt.result in
    let o₁ = opens_if _ c.record_at-stmt.ensures u x no_alternate (pick 1 o) in
    let m = then_move
    (c.wrap_to_avoid_ambiguous_else-body.ensures c.args.exprs.now ds p.exprs p.decls x end n.stmts (inner ∷ loose)
    ((expr_at stmt.exprs, expr_row u end) ∷ (expr_at c.args.test, expr_row t end) ∷ rest) o₁)
    (λ o₂. c.join_with_left_associative_op.ensures c.wrap_to_avoid_ambiguous_else-body.new.stmts ds t u end n.exprs (inner ∷ loose)
    ((stmt_at c.wrap_to_avoid_ambiguous_else-body.result, stmt_row (wrap_to_avoid_ambiguous_else (branch? x)) end) ∷ rest)
    (arrange (2 ∷ 1 ∷ []) o₂)) in
    then_use m (λ o₃. give_stmt_of _ _ _ c.give.ensures o₃)
