use Rattle.joining.proofs.Pending.{JoinsOn}
use Rattle.joining.proofs.logical.join_onto.Given as goal

abbrev pub invariant-loop : goal.invariant-loop
invariant-loop l = JoinsOn l.initial.exprs l.initial.pools l.exprs l.pools l.operator l.at l.b l.pending l.counter
