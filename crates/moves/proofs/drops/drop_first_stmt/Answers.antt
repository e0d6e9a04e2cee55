use Rattle.std.proofs.Common.{[]}
use Rattle.records.specs.Readable.{tables}
use Rattle.moves.proofs.Dropping.{drop_stmt}
use Rattle.moves.proofs.drops.drop_first_stmt.Goals as goal

pub returns-clause-makes : goal.returns-clause-makes
returns-clause-makes c l x y z w =
    let t = c.args.tables.now in
    let joins = c.join_rows-row.ensures y w (tables c.drop_decl_row.new.exprs [] c.drop_decl_row.new.decls) c.drop_decl_row.new.pools in
    drop_stmt l x y z w c.stmt-stmt.ensures (c.drop_expr_row.ensures t.stmts.now t.decls.now x) (c.drop_decl_row.ensures t.stmts.now z) joins
    c.give.ensures
