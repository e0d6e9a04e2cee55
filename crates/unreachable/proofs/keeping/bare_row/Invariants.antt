use Rattle.std.proofs.Common.{map}
use Rattle.unreachable.proofs.BareNames.{Baring}
use Rattle.unreachable.proofs.keeping.bare_row.Given as goal

abbrev pub invariant-loop-name : goal.invariant-loop-name
invariant-loop-name l = Baring l.initial.decls l.decls l.initial.pools l.pools l.noted l.row (map (λ b. b.now) l.yielded)
