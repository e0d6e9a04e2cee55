use mathlib.Core.List.{[], ◌∷◌}
use Rattle.script.specs.Tree.{conditional}
use Rattle.records.specs.Embedding.{expr_row}
use Rattle.records.specs.Heap.{expr_at}
use Rattle.records.specs.Rows.{end}
use Rattle.records.proofs.Moves.{pick}
use Rattle.moves.proofs.Frames.{arrange, regroup, then_move}
use Rattle.moves.proofs.Rows.{expr_fits}
use Rattle.moves.proofs.Trees.{linked_expr}
use Rattle.joining.proofs.LastItem.{at_last}
use Rattle.joining.proofs.items.minimize_conditional.Goals as goal

pub returns : goal.returns
returns c ss ds t x y w n loose rest o =
    then_move
    (regroup
    (linked_expr _ _ _ _ c.link.ensures.turns ss ds c.args.pools.now x (expr_row y end) loose ((expr_at c.args.test, expr_row t w) ∷ rest) (arrange (1 ∷ 1 ∷ []) o))
    (λ q. pick 1 q))
    (λ q. at_last ((expr_at c.args.a, expr_row x (expr_row y end)) ∷ []) (λ e. conditional e x y)
    (λ e v. c.wrap.ensures ss ds e v (expr_row x (expr_row y end)) n) t w
    (c.last_item-last.ensures ss ds t w q.short q.held.0 (expr_fits t w q)) loose rest q)
