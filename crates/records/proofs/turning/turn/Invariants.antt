use Rattle.std.proofs.Common.{◌-◌}
use Rattle.pool.specs.Chain.{nowhere}
use Rattle.records.proofs.Turns.{Turning}
use Rattle.records.proofs.turning.turn.Given as goal

abbrev pub invariant-loop-i : goal.invariant-loop-i
invariant-loop-i g l =
    Turning g.R.Linked.link g.R.Linked.relinked l.count l.initial.table l.top nowhere (l.count - l._i) l.table l.rest l.row
