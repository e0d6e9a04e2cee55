use Rattle.hosts.proofs.Steps.{UnderNots}
use Rattle.hosts.proofs.reader.ReaderHost.truth.Given as goal

abbrev pub invariant-loop : goal.invariant-loop
invariant-loop l = UnderNots l.exprs l.at l.part l.turn l.counter
