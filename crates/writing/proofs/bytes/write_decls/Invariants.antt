use Rattle.records.specs.Heap.{decl_at}
use Rattle.records.specs.Lent.{heap}
use Rattle.records.specs.TableOf.{decl_table}
use Rattle.writing.specs.Bytes.{decls_row_bytes, weight}
use Rattle.writing.proofs.Writing.{Going}
use Rattle.writing.proofs.bytes.write_decls.Given as goal

abbrev pub invariant-loop-at : goal.invariant-loop-at
invariant-loop-at l = Going decl_table decls_row_bytes (heap l.tables) l.row l.at l.initial.out l.from l.out l.end

abbrev pub decreases-loop-at : goal.decreases-loop-at
decreases-loop-at l = weight (heap l.tables) (decl_at l.at)
