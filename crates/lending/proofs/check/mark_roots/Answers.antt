use Rattle.std.proofs.Common.{◌≡◌, Bool, true, false, is_some, refl, ap, ◌∙◌}
use Rattle.std.specs.Bool.{then_some}
use Rattle.records.specs.Lent.{heap}
use Rattle.lending.specs.Marked.{marks_of}
use Rattle.lending.proofs.RootsMarked.{roots_parts, roots_items, roots_body, roots_told}
use Rattle.lending.proofs.check.mark_roots.Goals as goal

some_told : (b : Bool) → is_some (then_some b (tt {0})) ≡ b
some_told true = refl
some_told false = refl

pub returns-in_err-parts : goal.returns-in_err-parts
returns-in_err-parts c =
    let m₁ = marks_of c.mark_parts.new.marks_exprs c.args.marks_stmts.now c.mark_parts.new.marks_decls in
    roots_parts (heap c.args.tables) c.requires.short c.args.roots (marks_of c.args.marks_exprs.now c.args.marks_stmts.now c.args.marks_decls.now) m₁ m₁
    c.from_residual.ensures (c.in_err-parts.ensures c.args.tables.stmts.now c.args.marks_stmts.now c.requires.short)

pub returns-in_err-items : goal.returns-in_err-items
returns-in_err-items c =
    roots_items (heap c.args.tables) c.requires.short c.args.roots (marks_of c.args.marks_exprs.now c.args.marks_stmts.now c.args.marks_decls.now)
    (marks_of c.mark_parts.new.marks_exprs c.args.marks_stmts.now c.mark_parts.new.marks_decls) c.in_ok-parts.parts
    (c.in_ok-parts.ensures c.args.tables.stmts.now c.args.marks_stmts.now c.requires.short)
    (marks_of c.mark_stmts.new.marks_exprs c.mark_stmts.new.marks_stmts c.mark_stmts.new.marks_decls) c.from_residual-in_err-items.ensures
    c.in_err-items.ensures.row

pub returns-in_err-body : goal.returns-in_err-body
returns-in_err-body c =
    roots_body (heap c.args.tables) c.requires.short c.args.roots (marks_of c.args.marks_exprs.now c.args.marks_stmts.now c.args.marks_decls.now)
    (marks_of c.mark_parts.new.marks_exprs c.args.marks_stmts.now c.mark_parts.new.marks_decls) c.in_ok-parts.parts
    (c.in_ok-parts.ensures c.args.tables.stmts.now c.args.marks_stmts.now c.requires.short)
    (marks_of c.mark_stmts.new.marks_exprs c.mark_stmts.new.marks_stmts c.mark_stmts.new.marks_decls) c.in_ok-items.items c.in_ok-items.ensures.row
    (marks_of c.mark_stmts-2.new.marks_exprs c.mark_stmts-2.new.marks_stmts c.mark_stmts-2.new.marks_decls) c.from_residual-in_err-body.ensures
    c.in_err-body.ensures.row

pub returns : goal.returns
returns c =
    roots_told (heap c.args.tables) c.requires.short c.args.roots (marks_of c.args.marks_exprs.now c.args.marks_stmts.now c.args.marks_decls.now)
    (marks_of c.mark_parts.new.marks_exprs c.args.marks_stmts.now c.mark_parts.new.marks_decls) c.in_ok-parts.parts
    (c.in_ok-parts.ensures c.args.tables.stmts.now c.args.marks_stmts.now c.requires.short)
    (marks_of c.mark_stmts.new.marks_exprs c.mark_stmts.new.marks_stmts c.mark_stmts.new.marks_decls) c.in_ok-items.items c.in_ok-items.ensures.row
    (marks_of c.mark_stmts-2.new.marks_exprs c.mark_stmts-2.new.marks_stmts c.mark_stmts-2.new.marks_decls) c.in_ok-body.body c.in_ok-body.ensures.row
    (is_some c.then_some.result) (ap is_some c.then_some.ensures ∙ some_told c.told.result ∙ c.told.ensures)
