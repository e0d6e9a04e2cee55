use Rattle.std.proofs.Common.{[], ◌∷◌, refl, arith}
use Rattle.pool.specs.Chain.{nowhere}
use Rattle.script.specs.Tree.{number}
use Rattle.records.specs.Embedding.{expr_row}
use Rattle.records.specs.Heap.{expr_at}
use Rattle.records.specs.Rows.{end}
use Rattle.records.proofs.Moves.{end_in}
use Rattle.moves.proofs.Frames.{then_move}
use Rattle.moves.proofs.Spared.{spared}
use Rattle.joining.proofs.Lengths.{as_long}
use Rattle.joining.proofs.values.void_0.Goals as goal

pub returns : goal.returns
returns c ss ds n loose rest o =
    then_move (c.make-zero.ensures ss ds end (omega arith) loose rest (end_in (expr_at nowhere) refl o))
    (λ o₁.
    let l = as_long _ _ _ _ c.make-zero.auto.exprs in
    let s = (spared loose rest [] [] ((expr_at c.make-zero.result, expr_row (number 0) end) ∷ []) l o o₁).exprs in
    c.make.ensures ss ds (expr_row (number 0) end) (omega arith) loose rest o₁)
