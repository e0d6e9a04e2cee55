use Rattle.std.proofs.Common.{List}
use Rattle.records.specs.declared.record.DeclRecord.{DeclRecord}
use Rattle.records.specs.declared.record.StmtRecord.{StmtRecord}
use Rattle.records.specs.Readable.{tables}
use Rattle.records.specs.TableOf.{expr_table}
use Rattle.moves.proofs.Dropping.{Pending}
use Rattle.moves.proofs.drops.drop_expr_row.Given as goal

abbrev pub invariant-loop-i : goal.invariant-loop-i
invariant-loop-i l =
    (ss : List StmtRecord) (ds : List DeclRecord)
    → Pending expr_table (tables l.initial.exprs ss ds) l.initial.pools l.initial.row (tables l.exprs ss ds) l.pools l.at l._i
