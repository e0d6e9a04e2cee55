use Rattle.std.proofs.Common.{arith}
use Rattle.records.proofs.Tables.{decls_tabled}
use Rattle.moves.proofs.Dropping.{pending_all, pending_fewer, pending_none, pending_out}
use Rattle.moves.proofs.drops.drop_decl_row.Goals as goal

pub loop-i-init : goal.loop-i-init
loop-i-init c ss = pending_all

pub returns-then-at : goal.returns-then-at
returns-then-at c ss = pending_none decls_tabled (c.loop-i.invariant ss) c.if-at.true

pub loop-i-preserved : goal.loop-i-preserved
loop-i-preserved c ss =
    pending_fewer decls_tabled (c.loop-i.invariant ss) c.if-at.false (λ x y z w. w) (λ x y z w. omega arith) (c.drop_first_decl-at.ensures ss)

pub returns : goal.returns
returns c ss = pending_out decls_tabled (c.loop-i.invariant ss) c.loop-i-test.false
