use Rattle.records.specs.Embedding.{stmt_row}
use Rattle.records.specs.Rows.{end}
use Rattle.records.proofs.Moves.{pick}
use Rattle.moves.proofs.Frames.{then_move}
use Rattle.moves.proofs.Trees.{detached_stmt, linked_stmt}
use Rattle.branching.proofs.branches.exchange.Goals as goal

pub returns : goal.returns
returns c es ds p x y loose rest o =
    then_move (detached_stmt _ _ _ _ c.detach-other.ensures es ds p x (stmt_row y end) loose rest o)
    (λ o₁. linked_stmt _ _ _ _ c.link.ensures.turns es ds p y (stmt_row x end) loose rest (pick 1 o₁))
