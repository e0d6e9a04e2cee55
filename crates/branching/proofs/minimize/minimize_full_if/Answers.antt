use native.Mathlib.Omega.{arith}
use Rattle.records.specs.Embedding.{alternate_row}
use Rattle.branching.proofs.Rules.{none_there, some_there}
use Rattle.branching.proofs.Spares.{fewer}
use Rattle.branching.proofs.Viewing.{behind_read}
use Rattle.branching.proofs.minimize.minimize_full_if.Goals as goal

pub returns-then-stmt : goal.returns-then-stmt
returns-then-stmt c ds t x a n loose rest o =
    let b = behind_read _ _ _ c.record_at-stmt.ensures x (alternate_row a) o.held.1.0 in
    let e = none_there _ _ a o.short b c.if-stmt.true in
    rw e (c.minimize_if_alone.ensures ds t x n loose rest (rw e at o))

pub returns-else-stmt : goal.returns-else-stmt
returns-else-stmt c ds t x a n loose rest o =
    let b = behind_read _ _ _ c.record_at-stmt.ensures x (alternate_row a) o.held.1.0 in
    let s = some_there _ _ a b c.if-stmt.false in
    rw s.1 (c.minimize_if_else.ensures ds t x s.0 (fewer n 1 1 (omega arith) (omega arith)) loose rest (rw s.1 at o))
