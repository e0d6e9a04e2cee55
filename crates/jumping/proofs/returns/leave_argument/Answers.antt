use Rattle.std.proofs.Common.{sym, ◌∙◌}
use Rattle.records.specs.Rows.{end}
use Rattle.moves.proofs.Rows.{expr_fits}
use Rattle.records.specs.Embedding.{expr_row}
use Rattle.jumping.proofs.WorkedReturn.{left_harmless, left_pushed}
use Rattle.jumping.proofs.returns.leave_argument.Goals as goal

pub returns-then-is_harmless : goal.returns-then-is_harmless
returns-then-is_harmless g c ds e r n k loose rest o =
    left_harmless c.args.sequences (g.H.Host.meaning c.args.host.now) e r
    (sym c.if-is_harmless.true ∙ c.is_harmless.ensures c.args.stmts.now ds e end o.short o.held.0 (expr_fits e end o))
    (c.drop_expr_row.ensures c.args.stmts.now ds (expr_row e end)) o

pub returns : goal.returns
returns g c ds e r n k loose rest o =
    left_pushed c.args.sequences (g.H.Host.meaning c.args.host.now) e r
    (sym c.if-is_harmless.false ∙ c.is_harmless.ensures c.args.stmts.now ds e end o.short o.held.0 (expr_fits e end o))
    (c.push_new_expression_stmt_to_result.ensures ds e r n k loose rest o)
