-- Which tree stands behind a first record's kind.
use Rattle.std.specs.Prelude.{◌≡◌}
use Rattle.script.specs.declared.ExpressionKind.{ExpressionKind}
use Rattle.script.specs.declared.ExpressionKind.TheVariants as expression
use Rattle.script.specs.declared.StatementKind.{StatementKind}
use Rattle.script.specs.declared.StatementKind.TheVariants as statement
use Rattle.script.specs.Tree.{Alternate, Cases, Declarators, Expr, Exprs, Init, OptionalExpr, Stmt, Stmts}
use Rattle.script.specs.Tree.{assignment, call, conditional, logical, name, not, number, sequence, strict_equality, void, word}
use Rattle.script.specs.Tree.{block, break, continue, declaration, do_while, empty, expression, for, if_then, return_of, switch, throw, while}
use Rattle.records.specs.Embedding.{for_head}

abbrev pub ExprOf : ExpressionKind → Expr → Type 0
ExprOf (expression.Number b) x = x ≡ (number b)
ExprOf (expression.Word c) x = x ≡ (word c)
ExprOf (expression.Name n) x = x ≡ (name n)
ExprOf (expression.Assignment n) x = (e : Expr) × (x ≡ (assignment n e))
ExprOf (expression.Call n) x = (es : Exprs) × (x ≡ (call n es))
ExprOf expression.Sequence x = (e : Expr) × (es : Exprs) × (x ≡ (sequence e es))
ExprOf expression.Conditional x = (t : Expr) × (a : Expr) × (b : Expr) × (x ≡ (conditional t a b))
ExprOf (expression.Logical o) x = (a : Expr) × (b : Expr) × (x ≡ (logical o a b))
ExprOf expression.Not x = (e : Expr) × (x ≡ (not e))
ExprOf expression.Void x = (e : Expr) × (x ≡ (void e))
ExprOf expression.StrictEquality x = (a : Expr) × (b : Expr) × (x ≡ (strict_equality a b))

abbrev pub StmtOf : StatementKind → Stmt → Type 0
StmtOf statement.Empty x = x ≡ empty
StmtOf statement.Expression x = (e : Expr) × (x ≡ (expression e))
StmtOf (statement.Declaration k) x = (ds : Declarators) × (x ≡ (declaration k ds))
StmtOf statement.Return x = (v : OptionalExpr) × (x ≡ (return_of v))
StmtOf statement.Throw x = (e : Expr) × (x ≡ (throw e))
StmtOf statement.If x = (t : Expr) × (c : Stmt) × (a : Alternate) × (x ≡ (if_then t c a))
StmtOf statement.Block x = (ss : Stmts) × (x ≡ (block ss))
StmtOf statement.While x = (t : Expr) × (b : Stmt) × (x ≡ (while t b))
StmtOf statement.DoWhile x = (b : Stmt) × (t : Expr) × (x ≡ (do_while b t))
StmtOf (statement.For h) x = (i : Init) × (t : OptionalExpr) × (u : OptionalExpr) × (b : Stmt) × (h ≡ for_head i t u) × (x ≡ for i t u b)
StmtOf statement.Switch x = (d : Expr) × (cs : Cases) × (x ≡ (switch d cs))
StmtOf statement.Break x = x ≡ break
StmtOf statement.Continue x = x ≡ continue
StmtOf statement.Case x = ⊥
