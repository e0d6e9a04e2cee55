use Rattle.records.proofs.Moves.{end_out, pick}
use Rattle.branching.proofs.Rules.{none_there, some_there}
use Rattle.branching.proofs.minimize.minimize_without_consequent.Goals as goal

pub returns-then-parts-eq-NOWHERE : goal.returns-then-parts-eq-NOWHERE
returns-then-parts-eq-NOWHERE g c ds t a n loose rest o =
    let e = none_there _ _ a o.short o.held.1.0 c.if-parts-eq-NOWHERE.true in
    rw e (c.minimize_empty_alone.ensures ds t loose rest (end_out (pick 1 (rw e at o))))

pub returns-else-parts-eq-NOWHERE : goal.returns-else-parts-eq-NOWHERE
returns-else-parts-eq-NOWHERE g c ds t a n loose rest o =
    let s = some_there _ _ a o.held.1.0 c.if-parts-eq-NOWHERE.false in
    rw s.1 (c.minimize_empty_else.ensures ds t s.0 n loose rest (rw s.1 at o))
