use Rattle.moves.proofs.Tabled.{Pushing}
use Rattle.moves.proofs.links.push_all.Given as goal

abbrev pub invariant-loop-i : goal.invariant-loop-i
invariant-loop-i g l = Pushing g.R.Record.table_of l.initial.table l.initial.row l.initial.onto l.table l.from l.pushed l._i
