use Rattle.records.specs.Readable.{tables}
use Rattle.lending.specs.Marked.{marks_of}
use Rattle.lending.proofs.PartsMarked.{parts_exprs, parts_decls, parts_found}
use Rattle.lending.proofs.check.mark_parts.Goals as goal

pub returns-in_err-mark_exprs : goal.returns-in_err-mark_exprs
returns-in_err-mark_exprs c = λ ss ms s.
    parts_exprs (marks_of c.args.marks_exprs.now ms c.args.marks_decls.now)
    (tables c.args.tables.now.exprs.now ss c.args.tables.now.decls.now) c.args.at_exprs c.args.at_decls
    (marks_of c.mark_exprs.new.marks ms c.args.marks_decls.now) c.from_residual.result c.from_residual.ensures
    (c.in_err-mark_exprs.ensures.row ss c.args.tables.now.decls.now ms c.args.marks_decls.now s)

pub returns-in_err-mark_decls : goal.returns-in_err-mark_decls
returns-in_err-mark_decls c = λ ss ms s.
    parts_decls (marks_of c.args.marks_exprs.now ms c.args.marks_decls.now) (tables c.args.tables.now.exprs.now ss c.args.tables.now.decls.now) c.args.at_exprs
    c.args.at_decls (marks_of c.mark_exprs.new.marks ms c.args.marks_decls.now) c.in_ok-mark_exprs.field-0
    (marks_of c.mark_decls.new.marks_exprs ms c.mark_decls.new.marks_decls) s c.from_residual-in_err-mark_decls.result
    c.from_residual-in_err-mark_decls.ensures (c.in_ok-mark_exprs.ensures.row ss c.args.tables.now.decls.now ms c.args.marks_decls.now s)
    (c.in_err-mark_decls.ensures ss ms s)

pub returns : goal.returns
returns c = λ ss ms s.
    parts_found (marks_of c.args.marks_exprs.now ms c.args.marks_decls.now)
    (tables c.args.tables.now.exprs.now ss c.args.tables.now.decls.now) c.args.at_exprs c.args.at_decls
    (marks_of c.mark_exprs.new.marks ms c.args.marks_decls.now) c.in_ok-mark_exprs.field-0
    (marks_of c.mark_decls.new.marks_exprs ms c.mark_decls.new.marks_decls)
    (c.in_ok-mark_exprs.ensures.row ss c.args.tables.now.decls.now ms c.args.marks_decls.now s) (c.in_ok-mark_decls.ensures ss ms s)
