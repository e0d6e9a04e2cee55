use Rattle.joining.proofs.WayToLast.{ToLast}
use Rattle.joining.proofs.items.last_item.Given as goal

abbrev pub invariant-loop : goal.invariant-loop
invariant-loop l = ToLast l.exprs l.at l.last l.counter
