-- What is told of trees that have no more statements than a bound, which keeps a walk into their depth from going on for ever.
use Rattle.std.specs.Prelude.{◌≡◌, List, ℕ, ◌+◌, ◌≤◌, Bool, ◌||◌, false, length}
use Rattle.script.specs.Sound.{records_alternate, records_stmt, records_stmts}
use Rattle.script.specs.Tree.{Alternate, Stmt, Stmts, no_stmts, stmt_then}
use Rattle.records.specs.declared.record.DeclRecord.{DeclRecord}
use Rattle.records.specs.declared.record.ExprRecord.{ExprRecord}
use Rattle.records.specs.declared.record.StmtRecord.{StmtRecord}
use Rattle.records.specs.Embedding.{alternate_row, stmt_row, stmts_row}
use Rattle.records.specs.Heap.{stmt_at}
use Rattle.records.specs.Owned.{Short}
use Rattle.records.specs.Readable.{tables}
use Rattle.records.specs.Rows.{At, Row}

-- the answer is this fact of the statement
abbrev pub TellsStmtWithin : {A : Type 0} → (Stmt → A) → List StmtRecord → ℕ → ℕ → A → Type 0
TellsStmtWithin fact stmts at bound r =
    (es : List ExprRecord) (ds : List DeclRecord) (x : Stmt) (w : Row) → Short (tables es stmts ds)
    → At (tables es stmts ds) (stmt_at at) (stmt_row x w) → (records_stmt x).stmts ≤ bound → bound ≤ length stmts → r ≡ fact x

-- the answer is this fact of a row of statements
abbrev pub TellsStmtsWithin : {A : Type 0} → (Stmts → A) → List StmtRecord → ℕ → ℕ → A → Type 0
TellsStmtsWithin fact stmts row bound r =
    (es : List ExprRecord) (ds : List DeclRecord) (xs : Stmts) → Short (tables es stmts ds)
    → At (tables es stmts ds) (stmt_at row) (stmts_row xs) → (records_stmts xs).stmts ≤ bound → bound ≤ length stmts → r ≡ fact xs

-- the answer is this fact of an if's branches
abbrev pub TellsBranchesWithin : {A : Type 0} → (Stmt → Alternate → A) → List StmtRecord → ℕ → ℕ → A → Type 0
TellsBranchesWithin fact stmts row bound r =
    (es : List ExprRecord) (ds : List DeclRecord) (c : Stmt) (a : Alternate) → Short (tables es stmts ds)
    → At (tables es stmts ds) (stmt_at row) (stmt_row c (alternate_row a)) → (records_stmt c).stmts + (records_alternate a).stmts ≤ bound
    → bound ≤ length stmts → r ≡ fact c a

-- a fact of a row is that some statement of it has this fact
pub record SomeHas (fact : Stmt → Bool) (facts : Stmts → Bool) : Type 0 where
  pub none : facts no_stmts ≡ false
  pub more : (x : Stmt) (xs : Stmts) → facts (stmt_then x xs) ≡ (fact x || facts xs)

-- where such answers at places are a fact of the statements there, this answer is whether some statement of the row has it
abbrev pub TellsSome : (ℕ → Bool → Type 0) → List StmtRecord → ℕ → Bool → Type 0
TellsSome answers stmts row r =
    (fact : Stmt → Bool) (facts : Stmts → Bool) (bound : ℕ) → SomeHas fact facts → ((at : ℕ) (b : Bool) → answers at b → TellsStmtWithin fact stmts at bound b)
    → TellsStmtsWithin facts stmts row bound r
