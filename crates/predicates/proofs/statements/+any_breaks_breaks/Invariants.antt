use Prim.Native.Nat.{◌*◌, ◌+◌}
use Rattle.predicates.proofs.statements.+any_breaks_breaks.Given as goal

abbrev pub decreases-any_breaks : goal.decreases-any_breaks
decreases-any_breaks l = 3 * l.depth + 2

abbrev pub decreases-any_breaks-any_of_row : goal.decreases-any_breaks-any_of_row
decreases-any_breaks-any_of_row l = 3 * l.depth + 1

abbrev pub decreases-breaks : goal.decreases-breaks
decreases-breaks l = 3 * l.depth
