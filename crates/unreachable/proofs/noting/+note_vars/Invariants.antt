use Rattle.std.proofs.Common.{take, length}
use Rattle.records.specs.Turning.{stmt_next}
use Rattle.records.specs.Walked.{ahead, walked}
use Rattle.unreachable.specs.declared.noting.NotedNames.{NotedNames}
use Rattle.unreachable.proofs.Walks.{NotingStmts}
use Rattle.unreachable.proofs.noting.+note_vars.Given as goal

abbrev pub decreases-note_vars : goal.decreases-note_vars
decreases-note_vars l = l.most

-- noting those that are left notes all
abbrev pub invariant-loop-stmt : goal.invariant-loop-stmt
invariant-loop-stmt l =
    (after : NotedNames) → NotingStmts l.stmts l.decls l.below l.noted (take l.stmt-iterator.n (ahead stmt_next l.stmt-iterator.iter)) after
    → NotingStmts l.stmts l.decls l.below l.fn.noted (take l.most (walked stmt_next l.stmts l.row (length l.stmts))) after
