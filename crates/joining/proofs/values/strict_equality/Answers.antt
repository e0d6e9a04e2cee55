use Rattle.records.specs.Embedding.{expr_row}
use Rattle.records.specs.Rows.{end}
use Rattle.moves.proofs.Frames.{then_move}
use Rattle.moves.proofs.Trees.{linked_expr}
use Rattle.joining.proofs.values.strict_equality.Goals as goal

pub returns : goal.returns
returns c ss ds x y n loose rest o =
    then_move (linked_expr _ _ _ _ c.link.ensures.turns ss ds c.args.pools.now x (expr_row y end) loose rest o)
    (λ o₁. c.make.ensures ss ds (expr_row x (expr_row y end)) n loose rest o₁)
