use Rattle.std.proofs.Common.{length}
use Rattle.records.specs.Turning.{decl_next}
use Rattle.records.specs.Walked.{ahead, walked}
use Rattle.unreachable.specs.Noted.{Noting}
use Rattle.unreachable.specs.declared.noting.NotedNames.{NotedNames}
use Rattle.unreachable.proofs.Walks.{names_of}
use Rattle.unreachable.proofs.noting.note_declarators.Given as goal

-- noting those that are left notes all
abbrev pub invariant-loop-decl : goal.invariant-loop-decl
invariant-loop-decl l =
    (after : NotedNames) → Noting l.noted after (names_of (ahead decl_next l.decl-iterator))
    → Noting l.fn.noted after (names_of (walked decl_next l.decls l.row (length l.decls)))
