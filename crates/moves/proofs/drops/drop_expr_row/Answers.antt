use Rattle.std.proofs.Common.{arith}
use Rattle.records.proofs.Tables.{exprs_tabled}
use Rattle.moves.specs.Front.{in_front}
use Rattle.moves.proofs.Dropping.{count_in_front, pending_all, pending_fewer, pending_none, pending_out}
use Rattle.moves.proofs.drops.drop_expr_row.Goals as goal

pub loop-i-init : goal.loop-i-init
loop-i-init c ss ds = pending_all

pub returns-then-at : goal.returns-then-at
returns-then-at c ss ds = pending_none exprs_tabled (c.loop-i.invariant ss ds) c.if-at.true

pub loop-i-preserved : goal.loop-i-preserved
loop-i-preserved c ss ds =
    pending_fewer exprs_tabled (c.loop-i.invariant ss ds) c.if-at.false (λ x y z w. in_front x w)
    (λ x y z w. let e = count_in_front exprs_tabled x w in omega arith) (c.drop_first_expr-at.ensures ss ds)

pub returns : goal.returns
returns c ss ds = pending_out exprs_tabled (c.loop-i.invariant ss ds) c.loop-i-test.false
