-- A tree is one record in its row, with its parts below it.
use Rattle.std.proofs.Common.{◌≡◌, suc, refl}
use Rattle.script.specs.Tree.{Expr, assignment, call, conditional, logical, name, not, number, sequence, strict_equality, void, word}
use Rattle.script.specs.Tree.{Stmt, block, break, continue, declaration, do_while, empty, expression, for, if_then, return_of, switch, throw, while}
use Rattle.records.specs.Embedding.{expr_row, stmt_row}
use Rattle.records.specs.Rows.{Row, row_length}

pub expr_row_length : (e : Expr) (w : Row) → row_length (expr_row e w) ≡ suc (row_length w)
expr_row_length (number b) w = refl
expr_row_length (word c) w = refl
expr_row_length (name n) w = refl
expr_row_length (assignment n e) w = refl
expr_row_length (call n es) w = refl
expr_row_length (sequence e es) w = refl
expr_row_length (conditional t a b) w = refl
expr_row_length (logical o a b) w = refl
expr_row_length (not e) w = refl
expr_row_length (void e) w = refl
expr_row_length (strict_equality a b) w = refl

pub stmt_row_length : (s : Stmt) (w : Row) → row_length (stmt_row s w) ≡ suc (row_length w)
stmt_row_length empty w = refl
stmt_row_length (expression e) w = refl
stmt_row_length (declaration k ds) w = refl
stmt_row_length (return_of v) w = refl
stmt_row_length (throw e) w = refl
stmt_row_length (if_then t c a) w = refl
stmt_row_length (block ss) w = refl
stmt_row_length (while t b) w = refl
stmt_row_length (do_while b t) w = refl
stmt_row_length (for i t u b) w = refl
stmt_row_length (switch d cs) w = refl
stmt_row_length break w = refl
stmt_row_length continue w = refl
