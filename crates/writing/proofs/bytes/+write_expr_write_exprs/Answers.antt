use Rattle.std.proofs.Common.{refl, arith}
use Rattle.records.proofs.Tables.{exprs_tabled}
use Rattle.writing.specs.Bytes.{first_expr_bytes}
use Rattle.writing.proofs.Writing.{opened, going_from, going_here, going_on, going_off, exprs_law, exprs_countable, expr_written}
use Rattle.writing.proofs.bytes.+write_expr_write_exprs.Goals as goal

-- one expression
pub write_expr-bounds-tables-at : goal.write_expr-bounds-tables-at
write_expr-bounds-tables-at t c = (opened c.requires.writable c.requires.some).within

pub write_expr-write_exprs-end-requires : goal.write_expr-write_exprs-end-requires
write_expr-write_exprs-end-requires t c =
    let o = opened c.requires.writable c.requires.some in
    ((let m = c.decreases in let l = o.exprs_less in omega arith), o.exprs)

pub write_expr-count-parts-requires-clause-countable : goal.write_expr-count-parts-requires-clause-countable
write_expr-count-parts-requires-clause-countable t c = exprs_countable (opened c.requires.writable c.requires.some).exprs

pub write_expr-returns : goal.write_expr-returns
write_expr-returns t c =
    expr_written c.count-parts.result c.requires.writable c.requires.some c.write_exprs-end.ensures c.count-parts.ensures c.put_expr.ensures

-- a row of expressions
pub write_exprs-loop-at-init : goal.write_exprs-loop-at-init
write_exprs-loop-at-init t c = going_from c.requires

pub write_exprs-write_expr-end-requires : goal.write_exprs-write_expr-end-requires
write_exprs-write_expr-end-requires t c =
    let h = going_here exprs_tabled c.loop-at.invariant c.loop-at-test.true in
    ((let m = c.decreases in let l = h.less in omega arith), (c.loop-at-test.true, h.writable))

pub write_exprs-bounds-tables-at : goal.write_exprs-bounds-tables-at
write_exprs-bounds-tables-at t c = (going_here exprs_tabled c.loop-at.invariant c.loop-at-test.true).opened.within

pub write_exprs-loop-at-smaller : goal.write_exprs-loop-at-smaller
write_exprs-loop-at-smaller t c = (going_here exprs_tabled c.loop-at.invariant c.loop-at-test.true).opened.next_less

pub write_exprs-loop-at-preserved : goal.write_exprs-loop-at-preserved
write_exprs-loop-at-preserved t c =
    going_on exprs_tabled c.loop-at.invariant c.loop-at-test.true first_expr_bytes exprs_law c.write_expr-end.ensures

pub write_exprs-returns : goal.write_exprs-returns
write_exprs-returns t c = going_off exprs_tabled c.loop-at.invariant c.loop-at-test.false (λ rest. refl)
