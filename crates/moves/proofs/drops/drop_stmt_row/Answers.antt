use Rattle.std.proofs.Common.{arith, rules}
use Rattle.records.proofs.Tables.{stmts_tabled}
use Rattle.moves.specs.Front.{in_front}
use Rattle.moves.proofs.Dropping.{count_in_front, pending_all, pending_fewer, pending_none, pending_out}
use Rattle.moves.proofs.drops.drop_stmt_row.Goals as goal

pub loop-i-init : goal.loop-i-init
loop-i-init c = record { lent = search rules; pending = pending_all }

pub returns-then-at-clause-makes : goal.returns-then-at-clause-makes
returns-then-at-clause-makes c = pending_none stmts_tabled c.loop-i.invariant.pending c.if-at.true

pub loop-i-preserved : goal.loop-i-preserved
loop-i-preserved c = record {
  lent = search rules;
  pending =
      pending_fewer stmts_tabled c.loop-i.invariant.pending c.if-at.false (λ x y z w. in_front y w)
      (λ x y z w. let e = count_in_front stmts_tabled y w in omega arith) c.drop_first_stmt-at.ensures.makes;
}

pub returns-clause-makes : goal.returns-clause-makes
returns-clause-makes c = pending_out stmts_tabled c.loop-i.invariant.pending c.loop-i-test.false
