use mathlib.Core.List.{◌∷◌}
use Rattle.records.specs.Embedding.{alternate_row}
use Rattle.records.specs.Heap.{stmt_at}
use Rattle.records.proofs.Moves.{pick}
use Rattle.rules.specs.Ifs.{empty?}
use Rattle.moves.proofs.Single.{give_stmt_of}
use Rattle.branching.proofs.Opening.{opens_nothing, swap_loose}
use Rattle.branching.proofs.minimize.minimize_empty_if.Goals as goal
use Rattle.moves.proofs.Frames.{then_use}

pub returns : goal.returns
returns g c ds t x a z n loose rest o =
    let o₁ = opens_nothing _ c.record_at-stmt.ensures (empty? x) (alternate_row a) z (pick 1 o) in
    then_use (c.minimize_without_consequent.ensures ds t a n (stmt_at c.args.parts.branches ∷ loose) rest (pick 1 (swap_loose o₁)))
    (λ o₂. give_stmt_of _ _ _ c.give.ensures o₂)
