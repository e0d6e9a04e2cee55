-- A tree is known by its first record's kind.
use Rattle.std.proofs.Common.{◌≡◌, sym, refl, subst}
use Rattle.script.specs.declared.ExpressionKind.{ExpressionKind}
use Rattle.script.specs.declared.StatementKind.{StatementKind}
use Rattle.script.specs.Tree.{Expr, Stmt}
use Rattle.script.specs.Tree.{assignment, call, conditional, logical, name, not, number, sequence, strict_equality, void, word}
use Rattle.script.specs.Tree.{block, break, continue, declaration, do_while, empty, expression, for, if_then, return_of, switch, throw, while}
use Rattle.moves.specs.First.{expr_kind, stmt_kind}
use Rattle.moves.specs.ByKind.{ExprOf, StmtOf}

expr_is : (x : Expr) → ExprOf (expr_kind x) x
expr_is (number b) = refl
expr_is (word c) = refl
expr_is (name n) = refl
expr_is (assignment n e) = (e, refl)
expr_is (call n es) = (es, refl)
expr_is (sequence e es) = (e, es, refl)
expr_is (conditional t a b) = (t, a, b, refl)
expr_is (logical o a b) = (a, b, refl)
expr_is (not e) = (e, refl)
expr_is (void e) = (e, refl)
expr_is (strict_equality a b) = (a, b, refl)

pub expr_of_kind : (x : Expr) {k : ExpressionKind} → k ≡ expr_kind x → ExprOf k x
expr_of_kind x e = subst (λ (k : ExpressionKind). ExprOf k x) (sym e) (expr_is x)

stmt_is : (x : Stmt) → StmtOf (stmt_kind x) x
stmt_is empty = refl
stmt_is (expression e) = (e, refl)
stmt_is (declaration k ds) = (ds, refl)
stmt_is (return_of v) = (v, refl)
stmt_is (throw e) = (e, refl)
stmt_is (if_then t c a) = (t, c, a, refl)
stmt_is (block ss) = (ss, refl)
stmt_is (while t b) = (t, b, refl)
stmt_is (do_while b t) = (b, t, refl)
stmt_is (for i t u b) = (i, t, u, b, refl, refl)
stmt_is (switch d cs) = (d, cs, refl)
stmt_is break = refl
stmt_is continue = refl

pub stmt_of_kind : (x : Stmt) {k : StatementKind} → k ≡ stmt_kind x → StmtOf k x
stmt_of_kind x e = subst (λ (k : StatementKind). StmtOf k x) (sym e) (stmt_is x)
