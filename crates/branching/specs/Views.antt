-- What the rules on `if` look at in a statement, as answers that code can give.
use Rattle.std.specs.Prelude.{◌≡◌, Bool, false, true, List, ℕ}
use Rattle.script.specs.Tree.{Expr, Stmt}
use Rattle.records.specs.declared.record.DeclRecord.{DeclRecord}
use Rattle.records.specs.declared.record.ExprRecord.{ExprRecord}
use Rattle.records.specs.declared.record.StmtRecord.{StmtRecord}
use Rattle.records.specs.Embedding.{stmt_row}
use Rattle.records.specs.Heap.{stmt_at}
use Rattle.records.specs.Owned.{Short}
use Rattle.records.specs.Readable.{tables}
use Rattle.records.specs.Rows.{At, Row}
use Rattle.rules.specs.Expressions.{Not?, is_not, no_not}
use Rattle.rules.specs.Ifs.{Branch?, Empty?, is_empty, is_empty_block, is_expression, is_full_if, is_lone_if, no_branch, no_empty}
use Rattle.branching.specs.declared.views.Branch.{Branch}
use Rattle.branching.specs.declared.views.Branch.TheVariants.{Expression, FullIf, LoneIf, Other}

-- the answer is this fact of the statement at the place, whatever stands behind it and in the other tables
abbrev pub Shows : {A : Type 0} → (Stmt → A) → List StmtRecord → ℕ → A → Type 0
Shows fact stmts at r =
    (es : List ExprRecord) (ds : List DeclRecord) (x : Stmt) (w : Row) → Short (tables es stmts ds)
    → At (tables es stmts ds) (stmt_at at) (stmt_row x w) → r ≡ fact x

abbrev pub is_nothing : {x : Stmt} → Empty? x → Bool
is_nothing is_empty = true
is_nothing is_empty_block = true
is_nothing no_empty = false

abbrev pub branch_kind : {x : Stmt} → Branch? x → Branch
branch_kind (is_expression e) = Expression
branch_kind (is_lone_if t c) = LoneIf
branch_kind (is_full_if t c x) = FullIf
branch_kind no_branch = Other

-- the branches are swapped: the test is `!t`, and the alternate is no `if`
abbrev pub swaps : {t : Expr} → Not? t → {x : Stmt} → Branch? x → Bool
swaps (is_not t) (is_expression e) = true
swaps (is_not t) (is_lone_if u d) = false
swaps (is_not t) (is_full_if u d y) = false
swaps (is_not t) no_branch = true
swaps no_not v = false
