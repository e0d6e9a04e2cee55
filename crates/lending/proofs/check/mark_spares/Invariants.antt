use Rattle.std.proofs.Common.{◌-◌, map}
use Rattle.lending.proofs.SparesMarked.{Going}
use Rattle.lending.proofs.check.mark_spares.Given as goal

abbrev pub invariant-loop : goal.invariant-loop
invariant-loop g l = Going l.initial.marks (map g.R.Linked.link l.table) l.pool.head l.pool.count l.marks l.at (l.end - l.counter)
