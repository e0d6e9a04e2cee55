use Rattle.std.proofs.Common.{◌+◌, ◌*◌}
use Rattle.records.specs.Heap.{expr_at}
use Rattle.records.specs.Lent.{heap}
use Rattle.records.specs.TableOf.{expr_table}
use Rattle.writing.specs.Bytes.{exprs_row_bytes, weight}
use Rattle.writing.proofs.Writing.{Going}
use Rattle.writing.proofs.bytes.+write_expr_write_exprs.Given as goal

abbrev pub decreases-write_expr : goal.decreases-write_expr
decreases-write_expr l = 2 * weight (heap l.tables.now) (expr_at l.at)

abbrev pub decreases-write_exprs : goal.decreases-write_exprs
decreases-write_exprs l = 2 * weight (heap l.tables.now) (expr_at l.row) + 1

abbrev pub invariant-write_exprs-loop-at : goal.invariant-write_exprs-loop-at
invariant-write_exprs-loop-at l = Going expr_table exprs_row_bytes (heap l.tables) l.row l.at l.initial.out l.from l.out l.end

abbrev pub decreases-write_exprs-loop-at : goal.decreases-write_exprs-loop-at
decreases-write_exprs-loop-at l = weight (heap l.tables) (expr_at l.at)
