use Rattle.records.specs.TableOf.{stmt_table}
use Rattle.moves.specs.Lent.{SameSlices, heap}
use Rattle.moves.proofs.Dropping.{Pending}
use Rattle.moves.proofs.drops.drop_stmt_row.Given as goal

abbrev pub invariant-loop-i : goal.invariant-loop-i
invariant-loop-i l = record {
  lent : SameSlices l.initial.tables l.tables;
  pending : Pending stmt_table (heap l.initial.tables) l.initial.tables.pools l.initial.row (heap l.tables) l.tables.pools l.at l._i;
}
