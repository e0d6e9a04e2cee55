use Rattle.rules.specs.Literals.{is_literal_value}
use Rattle.predicates.proofs.Reached.{Reached}
use Rattle.predicates.proofs.expressions.is_literal_value.Given as goal

abbrev pub invariant-loop : goal.invariant-loop
invariant-loop l = Reached is_literal_value l.exprs l.at l.part l.counter
