use Rattle.std.proofs.Common.{ℕ, ◌+◌, ◌*◌, ◌≤◌, Option, length}
use Rattle.records.specs.Turning.{expr_next}
use Rattle.records.specs.Walked.{ahead, walked}
use Rattle.hosts.proofs.Walks.{WalksEach}
use Rattle.hosts.proofs.reader.+walk_walk_row.Given as goal

abbrev pub decreases-walk : goal.decreases-walk
decreases-walk l = 2 * l.budget

abbrev pub decreases-walk_row : goal.decreases-walk_row
decreases-walk_row l = 2 * l.budget + 1

-- what walks of those that are left answer, walks of all answer
abbrev pub invariant-walk_row-loop-at : goal.invariant-walk_row-loop-at
invariant-walk_row-loop-at l =
    (l.left ≤ l.budget) × ((r : Option ℕ) → WalksEach l.exprs (ahead expr_next l.at-iterator) l.left r
    → WalksEach l.exprs (walked expr_next l.exprs l.row (length l.exprs)) l.budget r)
