-- Is the newest result an `if` around a jump, without an alternate.
use Rattle.std.specs.Prelude.{◌≡◌, ℕ, ◌≤◌, Bool, true, false, List, length}
use Rattle.script.specs.declared.StatementKind.{StatementKind}
use Rattle.script.specs.declared.StatementKind.TheVariants as statement
use Rattle.script.specs.Sound.{records_stmts}
use Rattle.script.specs.Tree.{Expr, Stmt, Stmts, if_then, no_alternate, stmt_then}
use Rattle.records.specs.declared.record.DeclRecord.{DeclRecord}
use Rattle.records.specs.declared.record.ExprRecord.{ExprRecord}
use Rattle.records.specs.declared.record.StmtRecord.{StmtRecord}
use Rattle.records.specs.Embedding.{stmts_row}
use Rattle.records.specs.Heap.{stmt_at}
use Rattle.records.specs.Owned.{Short}
use Rattle.records.specs.Readable.{tables}
use Rattle.records.specs.Rows.{At}
use Rattle.moves.specs.First.{stmt_kind}
use Rattle.jumping.specs.declared.jump.Jump.{Jump}
use Rattle.jumping.specs.declared.jump.Jump.TheVariants.{Return, Throw}

abbrev pub kind_of : Jump → StatementKind
kind_of Throw = statement.Throw
kind_of (Return holder) = statement.Return

-- the newest result is an `if` without an alternate around a statement of this kind
pub record IfAround (k : StatementKind) (r : Stmts) : Type 0 where
  pub test : Expr
  pub inner : Stmt
  pub below : Stmts
  pub same : r ≡ stmt_then (if_then test inner no_alternate) below
  pub kind : k ≡ stmt_kind inner

abbrev pub IsIfAround : StatementKind → Stmts → Bool → Type 0
IsIfAround k r true = IfAround k r
IsIfAround k r false = IfAround k r → ⊥

-- the answer says which of results
abbrev pub TellsIfJump : StatementKind → List StmtRecord → ℕ → Bool → Type 0
TellsIfJump k stmts results b =
    (es : List ExprRecord) (ds : List DeclRecord) (r : Stmts) → Short (tables es stmts ds)
    → At (tables es stmts ds) (stmt_at results) (stmts_row r) → (records_stmts r).stmts ≤ length stmts → IsIfAround k r b
