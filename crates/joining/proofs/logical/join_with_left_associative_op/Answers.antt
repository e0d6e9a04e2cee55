use mathlib.Core.List.{[], ◌∷◌}
use Rattle.records.specs.Embedding.{expr_row}
use Rattle.records.specs.Heap.{expr_at}
use Rattle.records.specs.Rows.{end}
use Rattle.rules.specs.Expressions.{join_onto}
use Rattle.moves.proofs.Rows.{expr_fits}
use Rattle.joining.proofs.LastItem.{at_last}
use Rattle.joining.proofs.logical.join_with_left_associative_op.Goals as goal

pub returns : goal.returns
returns c ss ds x y w n loose rest o =
    at_last ((expr_at c.args.b, expr_row y end) ∷ []) (join_onto c.args.operator y) (λ e v. c.join_onto.ensures ss ds y e v n) x w
    (c.last_item-last.ensures ss ds x w o.short o.held.0 (expr_fits x w o)) loose rest o
