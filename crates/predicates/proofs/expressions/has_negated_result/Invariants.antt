use Rattle.rules.specs.Ifs.{has_negated_result}
use Rattle.predicates.proofs.Reached.{Reached}
use Rattle.predicates.proofs.expressions.has_negated_result.Given as goal

abbrev pub invariant-loop : goal.invariant-loop
invariant-loop l = Reached has_negated_result l.exprs l.at l.part l.counter
