use mathlib.Core.List.{◌∷◌}
use Rattle.records.specs.Heap.{stmt_at}
use Rattle.moves.proofs.Single.{take_stmt_of}
use Rattle.moves.proofs.Trees.{detached_stmt}
use Rattle.branching.proofs.Writing.{writes_braces}
use Rattle.branching.proofs.statements.put_in_braces.Goals as goal
use Rattle.moves.proofs.Frames.{then_use}

pub returns : goal.returns
returns c es ds a d x w n loose rest o =
    let o₁ = take_stmt_of _ _ c.take-braces.ensures n o in
    rw c.set.ensures
    (then_use
    (detached_stmt _ _ _ _ c.detach-behind.ensures es ds (record { exprs = a; stmts = c.take-braces.new.pool; decls = d }) x w
    (stmt_at c.take-braces.result ∷ loose) rest o₁)
    (λ o₂. writes_braces x w o₂))
