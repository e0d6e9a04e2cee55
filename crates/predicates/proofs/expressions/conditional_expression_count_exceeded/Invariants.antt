use Rattle.predicates.proofs.Reached.{Counted}
use Rattle.predicates.proofs.expressions.conditional_expression_count_exceeded.Given as goal

abbrev pub invariant-loop : goal.invariant-loop
invariant-loop l = Counted l.exprs l.at l.part l.counter
