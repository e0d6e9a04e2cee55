-- A tree's row begins with its first record.
use Rattle.std.proofs.Common.{◌≡◌, refl}
use Rattle.script.specs.Tree.{Expr, assignment, call, conditional, logical, name, not, number, sequence, strict_equality, void, word}
use Rattle.script.specs.Tree.{Stmt, block, break, continue, declaration, do_while, empty, expression, for, if_then, return_of, switch, throw, while}
use Rattle.records.specs.Heap.{expr_label, stmt_label}
use Rattle.records.specs.Rows.{Row, end, node}
use Rattle.records.specs.Embedding.{expr_row, stmt_row}
use Rattle.moves.specs.First.{expr_kind, expr_parts, stmt_decls, stmt_exprs, stmt_kind, stmt_stmts}

pub expr_first : (e : Expr) (w : Row) → expr_row e w ≡ node (expr_label (expr_kind e)) (expr_parts e) end end w
expr_first (number b) w = refl
expr_first (word c) w = refl
expr_first (name n) w = refl
expr_first (assignment n e) w = refl
expr_first (call n es) w = refl
expr_first (sequence e es) w = refl
expr_first (conditional t a b) w = refl
expr_first (logical o a b) w = refl
expr_first (not e) w = refl
expr_first (void e) w = refl
expr_first (strict_equality a b) w = refl

pub stmt_first : (x : Stmt) (w : Row) → stmt_row x w ≡ node (stmt_label (stmt_kind x)) (stmt_exprs x) (stmt_stmts x) (stmt_decls x) w
stmt_first empty w = refl
stmt_first (expression e) w = refl
stmt_first (declaration k ds) w = refl
stmt_first (return_of v) w = refl
stmt_first (throw e) w = refl
stmt_first (if_then t c a) w = refl
stmt_first (block ss) w = refl
stmt_first (while t b) w = refl
stmt_first (do_while b t) w = refl
stmt_first (for i t u b) w = refl
stmt_first (switch d cs) w = refl
stmt_first break w = refl
stmt_first continue w = refl
