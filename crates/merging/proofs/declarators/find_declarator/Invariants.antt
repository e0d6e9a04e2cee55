use Rattle.std.proofs.Common.{◌≡◌, None, fold, length}
use Rattle.records.specs.Turning.{decl_next}
use Rattle.records.specs.Walked.{ahead, walked}
use Rattle.merging.proofs.Searching.{found_with}
use Rattle.merging.proofs.declarators.find_declarator.Given as goal

abbrev pub invariant-loop-at : goal.invariant-loop-at
invariant-loop-at l =
    fold (found_with l.kind l.literal l.name) l.found (ahead decl_next l.at-iterator)
    ≡ fold (found_with l.kind l.literal l.name) None (walked decl_next l.decls l.names (length l.decls))
