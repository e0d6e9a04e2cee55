use Rattle.std.proofs.Common.{◌≡◌, ◌-◌, ◌≤◌, map, length}
use Rattle.std.specs.List.{range_with_len}
use Rattle.pool.specs.Chain.{Chain, places}
use Rattle.pool.proofs.Pool.start.Given as goal

abbrev pub invariant-loop-at : goal.invariant-loop-at
invariant-loop-at g l =
    (l.at ≤ length l.initial.table)
    × Chain (map g.R.Linked.link l.table) l.head (length l.initial.table - l.at)
    × (places (map g.R.Linked.link l.table) l.head (length l.initial.table - l.at) ≡ range_with_len l.at (length l.initial.table - l.at))

abbrev pub decreases-loop-at : goal.decreases-loop-at
decreases-loop-at g l = l.at
