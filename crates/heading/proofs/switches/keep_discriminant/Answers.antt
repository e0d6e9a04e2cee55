use Rattle.std.proofs.Common.{◌≡◌, true, false, ◌∷◌, sym, ◌∙◌}
use Rattle.records.specs.Embedding.{expr_row, stmts_row}
use Rattle.records.specs.Heap.{stmt_at}
use Rattle.records.specs.Rows.{end}
use Rattle.rules.specs.Literals.{is_literal}
use Rattle.moves.proofs.Rows.{expr_fits}
use Rattle.heading.proofs.switches.keep_discriminant.Goals as goal

pub returns-then-is_literal : goal.returns-then-is_literal
returns-then-is_literal c ds d r n m loose rest o =
    let l : is_literal d ≡ true =
    sym (c.is_literal.ensures c.args.stmts.now ds d end o.short o.held.0 (expr_fits d end o)) ∙ c.if-is_literal.true in
    rw l (c.drop_expr_row.ensures c.args.stmts.now ds (expr_row d end) loose ((stmt_at c.args.results, stmts_row r) ∷ rest) o)

pub returns : goal.returns
returns c ds d r n m loose rest o =
    let l : is_literal d ≡ false =
    sym (c.is_literal.ensures c.args.stmts.now ds d end o.short o.held.0 (expr_fits d end o)) ∙ c.if-is_literal.false in
    rw l (c.push_new_expression_stmt_to_result.ensures ds d r n m loose rest o)
