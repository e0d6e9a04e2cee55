-- The first record of a tree: its kind, and the rows of its parts.
use Rattle.script.specs.declared.ExpressionKind.{ExpressionKind}
use Rattle.script.specs.declared.ExpressionKind.TheVariants as expression
use Rattle.script.specs.declared.StatementKind.{StatementKind}
use Rattle.script.specs.declared.StatementKind.TheVariants as statement
use Rattle.script.specs.Tree.{Expr, assignment, call, conditional, logical, name, not, number, sequence, strict_equality, void, word}
use Rattle.script.specs.Tree.{Stmt, block, break, continue, declaration, do_while, empty, expression, for, if_then, return_of, switch, throw, while}
use Rattle.records.specs.Rows.{Row, end}
use Rattle.records.specs.Embedding.{alternate_row, cases_row, declarators_row, expr_row, exprs_row, for_head, init_exprs, init_stmts, optional_row}
use Rattle.records.specs.Embedding.{stmt_row, stmts_row}

abbrev pub expr_kind : Expr → ExpressionKind
expr_kind (number b) = expression.Number b
expr_kind (word c) = expression.Word c
expr_kind (name n) = expression.Name n
expr_kind (assignment n e) = expression.Assignment n
expr_kind (call n es) = expression.Call n
expr_kind (sequence e es) = expression.Sequence
expr_kind (conditional t a b) = expression.Conditional
expr_kind (logical o a b) = expression.Logical o
expr_kind (not e) = expression.Not
expr_kind (void e) = expression.Void
expr_kind (strict_equality a b) = expression.StrictEquality

abbrev pub expr_parts : Expr → Row
expr_parts (number b) = end
expr_parts (word c) = end
expr_parts (name n) = end
expr_parts (assignment n e) = expr_row e end
expr_parts (call n es) = exprs_row es
expr_parts (sequence e es) = expr_row e (exprs_row es)
expr_parts (conditional t a b) = expr_row t (expr_row a (expr_row b end))
expr_parts (logical o a b) = expr_row a (expr_row b end)
expr_parts (not e) = expr_row e end
expr_parts (void e) = expr_row e end
expr_parts (strict_equality a b) = expr_row a (expr_row b end)

abbrev pub stmt_kind : Stmt → StatementKind
stmt_kind empty = statement.Empty
stmt_kind (expression e) = statement.Expression
stmt_kind (declaration k ds) = statement.Declaration k
stmt_kind (return_of v) = statement.Return
stmt_kind (throw e) = statement.Throw
stmt_kind (if_then t c a) = statement.If
stmt_kind (block ss) = statement.Block
stmt_kind (while t b) = statement.While
stmt_kind (do_while b t) = statement.DoWhile
stmt_kind (for i t u b) = statement.For (for_head i t u)
stmt_kind (switch d cs) = statement.Switch
stmt_kind break = statement.Break
stmt_kind continue = statement.Continue

abbrev pub stmt_exprs : Stmt → Row
stmt_exprs empty = end
stmt_exprs (expression e) = expr_row e end
stmt_exprs (declaration k ds) = end
stmt_exprs (return_of v) = optional_row v end
stmt_exprs (throw e) = expr_row e end
stmt_exprs (if_then t c a) = expr_row t end
stmt_exprs (block ss) = end
stmt_exprs (while t b) = expr_row t end
stmt_exprs (do_while b t) = expr_row t end
stmt_exprs (for i t u b) = init_exprs i (optional_row t (optional_row u end))
stmt_exprs (switch d cs) = expr_row d end
stmt_exprs break = end
stmt_exprs continue = end

abbrev pub stmt_stmts : Stmt → Row
stmt_stmts empty = end
stmt_stmts (expression e) = end
stmt_stmts (declaration k ds) = end
stmt_stmts (return_of v) = end
stmt_stmts (throw e) = end
stmt_stmts (if_then t c a) = stmt_row c (alternate_row a)
stmt_stmts (block ss) = stmts_row ss
stmt_stmts (while t b) = stmt_row b end
stmt_stmts (do_while b t) = stmt_row b end
stmt_stmts (for i t u b) = init_stmts i (stmt_row b end)
stmt_stmts (switch d cs) = cases_row cs
stmt_stmts break = end
stmt_stmts continue = end

abbrev pub stmt_decls : Stmt → Row
stmt_decls empty = end
stmt_decls (expression e) = end
stmt_decls (declaration k ds) = declarators_row ds
stmt_decls (return_of v) = end
stmt_decls (throw e) = end
stmt_decls (if_then t c a) = end
stmt_decls (block ss) = end
stmt_decls (while t b) = end
stmt_decls (do_while b t) = end
stmt_decls (for i t u b) = end
stmt_decls (switch d cs) = end
stmt_decls break = end
stmt_decls continue = end
