use Rattle.std.proofs.Common.{◌+◌, ◌*◌}
use Rattle.records.specs.Heap.{stmt_at}
use Rattle.records.specs.Lent.{heap}
use Rattle.records.specs.TableOf.{stmt_table}
use Rattle.writing.specs.Bytes.{stmts_row_bytes, weight}
use Rattle.writing.proofs.Writing.{Going}
use Rattle.writing.proofs.bytes.+write_around_write_parts_write_stmt_write_stmts.Given as goal

abbrev pub decreases-write_around : goal.decreases-write_around
decreases-write_around l = 4 * weight (heap l.tables.now) (stmt_at l.at)

abbrev pub decreases-write_parts : goal.decreases-write_parts
decreases-write_parts l = 4 * weight (heap l.tables.now) (stmt_at l.at) + 1

abbrev pub decreases-write_stmt : goal.decreases-write_stmt
decreases-write_stmt l = 4 * weight (heap l.tables.now) (stmt_at l.at) + 2

abbrev pub decreases-write_stmts : goal.decreases-write_stmts
decreases-write_stmts l = 4 * weight (heap l.tables.now) (stmt_at l.row) + 3

abbrev pub invariant-write_stmts-loop-at : goal.invariant-write_stmts-loop-at
invariant-write_stmts-loop-at l = Going stmt_table stmts_row_bytes (heap l.tables) l.row l.at l.initial.out l.from l.out l.end

abbrev pub decreases-write_stmts-loop-at : goal.decreases-write_stmts-loop-at
decreases-write_stmts-loop-at l = weight (heap l.tables) (stmt_at l.at)
