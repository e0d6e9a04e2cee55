use Rattle.std.proofs.Common.{sym, refl, ap, ◌∙◌, arith, rules}
use Rattle.records.proofs.Tables.{stmts_tabled}
use Rattle.writing.specs.Bytes.{order, exprs_first, stmts_first, exprs_row_bytes, decls_row_bytes, first_bytes, stmts_row_bytes}
use Rattle.writing.proofs.Writing.{opened, going_from, going_here, going_on, going_off, stmts_law}
use Rattle.writing.proofs.Writing.{stmt_written, parts_written, around_bare, around_written}
use Rattle.writing.proofs.bytes.+write_around_write_parts_write_stmt_write_stmts.Goals as goal
use Rattle.writing.proofs.bytes.+write_around_write_parts_write_stmt_write_stmts.Goals.{write_parts-in_default-via-in-For+else-eq}
use Rattle.writing.proofs.bytes.+write_around_write_parts_write_stmt_write_stmts.Goals.{write_parts-in_default-via-in_default}

-- a for that begins with a declaration
pub write_around-bounds-tables-at : goal.write_around-bounds-tables-at
write_around-bounds-tables-at t c = (opened c.requires.writable c.requires.some).within

pub write_around-write_exprs-requires : goal.write_around-write_exprs-requires
write_around-write_exprs-requires t c = (opened c.requires.writable c.requires.some).exprs

pub write_around-returns-then-first : goal.write_around-returns-then-first
write_around-returns-then-first t c = around_bare c.requires.writable c.requires.some c.if-first.true c.write_exprs.ensures

pub write_around-write_stmt-end-requires : goal.write_around-write_stmt-end-requires
write_around-write_stmt-end-requires t c =
    let o = opened c.requires.writable c.requires.some in
    ((let m = c.decreases in let l = o.stmts_less in omega arith), (c.if-first.false, o.stmts))

pub write_around-write_exprs-end-requires : goal.write_around-write_exprs-end-requires
write_around-write_exprs-end-requires t c = (opened c.requires.writable c.requires.some).exprs

pub write_around-bounds-tables-first : goal.write_around-bounds-tables-first
write_around-bounds-tables-first t c = (opened (opened c.requires.writable c.requires.some).stmts c.if-first.false).within

pub write_around-overflow_cast-first : goal.write_around-overflow_cast-first
write_around-overflow_cast-first t c =
    let v = (opened (opened c.requires.writable c.requires.some).stmts c.if-first.false).within in
    let s = c.requires.writable.short.stmts in
    omega arith

pub write_around-offset_bounds-tables-first : goal.write_around-offset_bounds-tables-first
write_around-offset_bounds-tables-first t c =
    let v = (opened (opened c.requires.writable c.requires.some).stmts c.if-first.false).within in
    let s = c.requires.writable.short.stmts in
    omega arith

pub write_around-write_stmts-requires : goal.write_around-write_stmts-requires
write_around-write_stmts-requires t c =
    let o = opened c.requires.writable c.requires.some in
    let f = opened o.stmts c.if-first.false in
    ((let m = c.decreases in let l = o.stmts_less in let k = f.next_less in omega arith), f.next)

pub write_around-returns : goal.write_around-returns
write_around-returns t c =
    around_written c.requires.writable c.requires.some c.if-first.false c.write_stmt-end.ensures c.write_exprs-end.ensures c.write_stmts.ensures

-- the parts in their order
pub write_parts-bounds-tables-at : goal.write_parts-bounds-tables-at
write_parts-bounds-tables-at t c = (opened c.requires.writable c.requires.some).within

pub write_parts-write_exprs-end-requires : goal.write_parts-write_exprs-end-requires
write_parts-write_exprs-end-requires t c = (opened c.requires.writable c.requires.some).exprs

pub write_parts-write_decls-end-requires : goal.write_parts-write_decls-end-requires
write_parts-write_decls-end-requires t c = (opened c.requires.writable c.requires.some).decls

pub write_parts-write_stmts-requires : goal.write_parts-write_stmts-requires
write_parts-write_stmts-requires t c =
    let o = opened c.requires.writable c.requires.some in
    ((let m = c.decreases in let l = o.stmts_less in omega arith), o.stmts)

pub write_parts-write_stmts-end-requires : goal.write_parts-write_stmts-end-requires
write_parts-write_stmts-end-requires t c =
    let o = opened c.requires.writable c.requires.some in
    ((let m = c.decreases in let l = o.stmts_less in omega arith), o.stmts)

pub write_parts-write_exprs-requires : goal.write_parts-write_exprs-requires
write_parts-write_exprs-requires t c = (opened c.requires.writable c.requires.some).exprs

pub write_parts-returns-in_default : goal.write_parts-returns-in_default
write_parts-returns-in_default t c =
    let px = c.write_exprs-end.ensures in
    let pz = c.write_decls-end.ensures in
    let py = c.write_stmts.ensures in
    parts_written c.requires.writable c.requires.some exprs_first
    (elim c.in_default.branch [
      | write_parts-in_default-via-in-For+else-eq w ↦ search rules
      | write_parts-in_default-via-in_default w ↦ search rules
    ])
    px.row py.row pz.row px.held py.held pz.held
    (λ rest. px.put (decls_row_bytes pz.row (stmts_row_bytes py.row rest)) ∙ pz.put (stmts_row_bytes py.row rest) ∙ py.put rest)

pub write_parts-returns-in-DoWhile : goal.write_parts-returns-in-DoWhile
write_parts-returns-in-DoWhile t c =
    let o = opened c.requires.writable c.requires.some in
    let py = c.write_stmts-end.ensures in
    let px = c.write_exprs.ensures in
    parts_written c.requires.writable c.requires.some stmts_first (ap order (sym c.in-DoWhile.is))
    px.row py.row o.decls.row px.held py.held o.decls.held (λ rest. py.put (exprs_row_bytes px.row rest) ∙ px.put rest)

-- one statement
pub write_stmt-returns : goal.write_stmt-returns
write_stmt-returns t c = stmt_written c.requires.writable c.write_parts-end.ensures c.write_command.ensures

-- a row of statements
pub write_stmts-loop-at-init : goal.write_stmts-loop-at-init
write_stmts-loop-at-init t c = going_from c.requires

pub write_stmts-write_stmt-end-requires : goal.write_stmts-write_stmt-end-requires
write_stmts-write_stmt-end-requires t c =
    let h = going_here stmts_tabled c.loop-at.invariant c.loop-at-test.true in
    ((let m = c.decreases in let l = h.less in omega arith), (c.loop-at-test.true, h.writable))

pub write_stmts-bounds-tables-at : goal.write_stmts-bounds-tables-at
write_stmts-bounds-tables-at t c = (going_here stmts_tabled c.loop-at.invariant c.loop-at-test.true).opened.within

pub write_stmts-loop-at-smaller : goal.write_stmts-loop-at-smaller
write_stmts-loop-at-smaller t c = (going_here stmts_tabled c.loop-at.invariant c.loop-at-test.true).opened.next_less

pub write_stmts-loop-at-preserved : goal.write_stmts-loop-at-preserved
write_stmts-loop-at-preserved t c =
    going_on stmts_tabled c.loop-at.invariant c.loop-at-test.true first_bytes stmts_law c.write_stmt-end.ensures

pub write_stmts-returns : goal.write_stmts-returns
write_stmts-returns t c = going_off stmts_tabled c.loop-at.invariant c.loop-at-test.false (λ rest. refl)
