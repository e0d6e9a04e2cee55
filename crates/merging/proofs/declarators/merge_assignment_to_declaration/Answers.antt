use Rattle.records.specs.Rows.{end}
use Rattle.records.proofs.Moves.{pick}
use Rattle.moves.proofs.Rows.{expr_fits}
use Rattle.rules.specs.Literals.{is_literal_value}
use Rattle.merging.proofs.Searching.{declarators_fit, none_found, one_found}
use Rattle.merging.proofs.declarators.merge_assignment_to_declaration.Goals as goal

pub returns-in_default : goal.returns-in_default
returns-in_default c ss p ds e loose rest o =
    let l = c.is_literal_value-literal.ensures ss c.args.decls.now e end o.short o.held.1.0 (expr_fits e end (pick 1 o)) in
    let f = c.in_default.ensures c.args.exprs.now ss ds o.short o.held.0 (declarators_fit ds o) in
    none_found ds e o c.args.kind (is_literal_value e) c.args.name (rw l at f)

pub returns : goal.returns
returns c ss p ds e loose rest o =
    let l = c.is_literal_value-literal.ensures ss c.args.decls.now e end o.short o.held.1.0 (expr_fits e end (pick 1 o)) in
    let f = c.in-Some.ensures c.args.exprs.now ss ds o.short o.held.0 (declarators_fit ds o) in
    rw (c.set.ensures, c.record_at-decl.ensures)
    (one_found ds e o c.args.kind (is_literal_value e) c.args.name c.in-Some.at (rw l at f))
