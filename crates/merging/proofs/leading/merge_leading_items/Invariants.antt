use Rattle.merging.proofs.LeadingItems.{Going}
use Rattle.merging.proofs.leading.merge_leading_items.Given as goal

abbrev pub invariant-loop : goal.invariant-loop
invariant-loop l =
    Going l.initial.exprs l.initial.decls l.initial.pools l.exprs l.decls l.pools l.discarded l.kind l.names l.items l.left l.counter
