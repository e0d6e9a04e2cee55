use Rattle.std.proofs.Common.{sym, ◌∙◌}
use Rattle.records.specs.Embedding.{stmt_row, stmts_row}
use Rattle.records.specs.Rows.{end}
use Rattle.moves.proofs.Trees.{detached_stmt, relinked_stmt}
use Rattle.unreachable.proofs.Rows.{stmt_fits}
use Rattle.unreachable.proofs.Sifting.{sift_drops, sift_keeps}
use Rattle.unreachable.proofs.keeping.sift_stmt.Goals as goal

pub returns-then-statement_cares_about_scope-clause-makes : goal.returns-then-statement_cares_about_scope-clause-makes
returns-then-statement_cares_about_scope-clause-makes c x w r loose rest o =
    let t = c.args.tables.now in
    sift_keeps x w r
    (sym (rw c.stmts.ensures at (c.statement_cares_about_scope.ensures t.exprs.now t.decls.now x w) o.short o.held.0 (stmt_fits x w o))
    ∙ c.if-statement_cares_about_scope.true)
    (relinked_stmt t.stmts.now c.relink-rest.new.table c.args.at c.args.results c.relink-rest.result c.relink-rest.ensures.turns t.exprs.now t.decls.now t.pools
    x w (stmts_row r) loose rest o)

pub returns-clause-makes : goal.returns-clause-makes
returns-clause-makes c x w r loose rest o =
    let t = c.args.tables.now in
    sift_drops x w r
    (sym (rw c.stmts.ensures at (c.statement_cares_about_scope.ensures t.exprs.now t.decls.now x w) o.short o.held.0 (stmt_fits x w o))
    ∙ c.if-statement_cares_about_scope.false)
    (detached_stmt t.stmts.now c.detach-rest.new.table c.args.at c.detach-rest.result c.detach-rest.ensures t.exprs.now t.decls.now t.pools x w)
    (c.drop_stmt_row.ensures.makes (stmt_row x end)) o
