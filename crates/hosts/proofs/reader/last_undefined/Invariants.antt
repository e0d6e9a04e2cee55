use Rattle.hosts.proofs.Steps.{ToLast}
use Rattle.hosts.proofs.reader.last_undefined.Given as goal

abbrev pub invariant-loop : goal.invariant-loop
invariant-loop l = ToLast l.exprs l.row l.at l.counter
