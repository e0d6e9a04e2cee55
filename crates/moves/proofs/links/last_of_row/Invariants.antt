use Rattle.std.proofs.Common.{◌≡◌, length}
use Rattle.records.specs.Walked.{ahead, walked}
use Rattle.moves.proofs.Chained.{last_met}
use Rattle.moves.proofs.links.last_of_row.Given as goal

abbrev pub invariant-loop-at : goal.invariant-loop-at
invariant-loop-at g l =
    last_met l.last (ahead g.R.Linked.link l.at-iterator) ≡ last_met l.row (walked g.R.Linked.link l.table l.row (length l.table))
