use Rattle.std.proofs.Common.{Bool, length}
use Rattle.records.specs.Turning.{stmt_next}
use Rattle.records.specs.Walked.{ahead, walked}
use Rattle.predicates.proofs.Some.{SomeMet}
use Rattle.predicates.proofs.statements.any_of_row.Given as goal

abbrev pub invariant-loop-at : goal.invariant-loop-at
invariant-loop-at g l =
    (r : Bool) → SomeMet (goal.F-post g l.is_such) (ahead stmt_next l.at-iterator) r
    → SomeMet (goal.F-post g l.is_such) (walked stmt_next l.stmts l.row (length l.stmts)) r
