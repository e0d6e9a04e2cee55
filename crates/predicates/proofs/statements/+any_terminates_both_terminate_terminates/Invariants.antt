use Prim.Native.Nat.{◌*◌, ◌+◌}
use Rattle.predicates.proofs.statements.+any_terminates_both_terminate_terminates.Given as goal

abbrev pub decreases-any_terminates : goal.decreases-any_terminates
decreases-any_terminates l = 3 * l.depth + 2

abbrev pub decreases-any_terminates-any_of_row : goal.decreases-any_terminates-any_of_row
decreases-any_terminates-any_of_row l = 3 * l.depth + 1

abbrev pub decreases-both_terminate : goal.decreases-both_terminate
decreases-both_terminate l = 3 * l.depth + 1

abbrev pub decreases-terminates : goal.decreases-terminates
decreases-terminates l = 3 * l.depth
