-- What is read of the tree at a place, whatever stands behind it and in the other tables.
use Rattle.std.specs.Prelude.{◌≡◌, ℕ, ◌≤◌, List, length}
use Rattle.script.specs.Sound.{records_expr, records_stmt, records_stmts}
use Rattle.script.specs.Tree.{Expr, Stmt, Stmts}
use Rattle.records.specs.declared.record.DeclRecord.{DeclRecord}
use Rattle.records.specs.declared.record.ExprRecord.{ExprRecord}
use Rattle.records.specs.declared.record.StmtRecord.{StmtRecord}
use Rattle.records.specs.Embedding.{expr_row, stmt_row, stmts_row}
use Rattle.records.specs.Heap.{expr_at, stmt_at}
use Rattle.records.specs.Owned.{Short}
use Rattle.records.specs.Readable.{tables}
use Rattle.records.specs.Rows.{At, Row}

-- the answer is this fact of the expression
abbrev pub TellsExpr : {A : Type 0} → (Expr → A) → List ExprRecord → ℕ → A → Type 0
TellsExpr fact exprs at r =
    (ss : List StmtRecord) (ds : List DeclRecord) (e : Expr) (w : Row) → Short (tables exprs ss ds)
    → At (tables exprs ss ds) (expr_at at) (expr_row e w) → records_expr e ≤ length exprs → r ≡ fact e

-- the answer is this fact of the statement
abbrev pub TellsStmt : {A : Type 0} → (Stmt → A) → List StmtRecord → ℕ → A → Type 0
TellsStmt fact stmts at r =
    (es : List ExprRecord) (ds : List DeclRecord) (x : Stmt) (w : Row) → Short (tables es stmts ds)
    → At (tables es stmts ds) (stmt_at at) (stmt_row x w) → (records_stmt x).stmts ≤ length stmts → r ≡ fact x

-- the answer is this fact of a row of statements
abbrev pub TellsStmts : {A : Type 0} → (Stmts → A) → List StmtRecord → ℕ → A → Type 0
TellsStmts fact stmts row r =
    (es : List ExprRecord) (ds : List DeclRecord) (xs : Stmts) → Short (tables es stmts ds)
    → At (tables es stmts ds) (stmt_at row) (stmts_row xs) → (records_stmts xs).stmts ≤ length stmts → r ≡ fact xs
