use Rattle.std.proofs.Common.{List}
use Rattle.records.specs.declared.record.StmtRecord.{StmtRecord}
use Rattle.records.specs.Readable.{tables}
use Rattle.records.specs.TableOf.{decl_table}
use Rattle.moves.proofs.Dropping.{Pending}
use Rattle.moves.proofs.drops.drop_decl_row.Given as goal

abbrev pub invariant-loop-i : goal.invariant-loop-i
invariant-loop-i l =
    (ss : List StmtRecord)
    → Pending decl_table (tables l.initial.exprs ss l.initial.decls) l.initial.pools l.initial.row (tables l.exprs ss l.decls) l.pools l.at l._i
