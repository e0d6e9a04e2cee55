use Rattle.moves.specs.Lent.{SameSlices, heap}
use Rattle.unreachable.proofs.Sifting.{Sifting}
use Rattle.unreachable.proofs.keeping.sift_row.Given as goal

abbrev pub invariant-loop-i : goal.invariant-loop-i
invariant-loop-i l = record {
  lent : SameSlices l.initial.tables l.tables;
  sifting : Sifting (heap l.initial.tables) (heap l.tables) l.initial.tables.pools l.tables.pools l.row l.results l.pushed l.at l._i;
}
