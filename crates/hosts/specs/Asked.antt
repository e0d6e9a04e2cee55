-- What a host is asked: the fact of the expression that the table has at a place.
use Rattle.std.specs.Prelude.{◌≡◌, ℕ, ◌≤◌, List, length}
use Rattle.script.specs.Tree.{Expr, Exprs}
use Rattle.script.specs.Sound.{records_expr, records_exprs}
use Rattle.records.specs.declared.record.ExprRecord.{ExprRecord}
use Rattle.records.specs.declared.record.StmtRecord.{StmtRecord}
use Rattle.records.specs.declared.record.DeclRecord.{DeclRecord}
use Rattle.records.specs.Heap.{expr_at}
use Rattle.records.specs.Rows.{Row, At}
use Rattle.records.specs.Owned.{Short}
use Rattle.records.specs.Readable.{tables}
use Rattle.records.specs.Embedding.{expr_row, exprs_row}

-- so it is of every expression that stands at the place, whatever stands behind it and in the other tables;
-- the expression has no more records than the table
abbrev pub AskedSo : (Expr → Type 0) → List ExprRecord → ℕ → Type 0
AskedSo P exprs at =
    (ss : List StmtRecord) (ds : List DeclRecord) (e : Expr) (w : Row) → Short (tables exprs ss ds)
    → At (tables exprs ss ds) (expr_at at) (expr_row e w) → records_expr e ≤ length exprs → P e

-- The answer is the fact of the expression there.
-- So it is a function of the expression: equal ones at two places, or in two tables, get equal answers.
abbrev pub Answers : {A : Type 0} → (Expr → A) → List ExprRecord → ℕ → A → Type 0
Answers fact exprs at r = AskedSo (λ e. r ≡ fact e) exprs at

-- the same of a row of expressions
abbrev pub AnswersRow : {A : Type 0} → (Exprs → A) → List ExprRecord → ℕ → A → Type 0
AnswersRow fact exprs row r =
    (ss : List StmtRecord) (ds : List DeclRecord) (es : Exprs) → Short (tables exprs ss ds)
    → At (tables exprs ss ds) (expr_at row) (exprs_row es) → records_exprs es ≤ length exprs → r ≡ fact es
