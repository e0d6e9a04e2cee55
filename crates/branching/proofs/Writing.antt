-- What is owned after a statement was written at a loose place, cut off or put in braces.
use mathlib.Core.Path.{refl}
use mathlib.Core.List.{List, [], ◌∷◌}
use Prim.Native.Nat.{ℕ}
use lib.ListN.{set}
use Rattle.pool.specs.Chain.{nowhere}
use Rattle.script.specs.declared.StatementKind.TheVariants as kind
use Rattle.script.specs.Tree.{Alternate, Expr, Stmt, block, empty, expression, if_then, no_stmts, stmt_then}
use Rattle.records.specs.declared.record.DeclRecord.{DeclRecord}
use Rattle.records.specs.declared.record.ExprRecord.{ExprRecord}
use Rattle.records.specs.declared.record.Pools.{Pools}
use Rattle.records.specs.declared.record.StmtRecord.{StmtRecord}
use Rattle.records.specs.Embedding.{alternate_row, expr_row, stmt_row}
use Rattle.records.specs.Heap.{Place, decl_at, expr_at, stmt_at}
use Rattle.records.specs.Owned.{Owns, Root}
use Rattle.records.specs.Readable.{tables}
use Rattle.records.specs.Rows.{Row, end}
use Rattle.moves.specs.Moved.{Moved}
use Rattle.records.proofs.Moves.{end_in, pick}
use Rattle.moves.proofs.Frames.{arrange}
use Rattle.moves.proofs.Open.{close_stmt}

module _ {es : List ExprRecord} {stmts : List StmtRecord} {ds : List DeclRecord} {p : Pools} {loose : List Place} {rest : List Root} {at : ℕ} where
  pub writes_if : {i j : ℕ} (t : Expr) (c : Stmt) (a : Alternate)
      → Owns (tables es stmts ds) p (stmt_at at ∷ loose) ((expr_at i, expr_row t end) ∷ (stmt_at j, stmt_row c (alternate_row a)) ∷ rest)
      → Moved (tables es stmts ds) (tables es (set stmts at (record { kind = kind.If; exprs = i; stmts = j; decls = nowhere; next = nowhere })) ds) p loose
      ((stmt_at at, stmt_row (if_then t c a) end) ∷ rest)
  writes_if t c a o =
      close_stmt (if_then t c a) end _ refl
      (arrange (2 ∷ 2 ∷ []) (end_in (decl_at nowhere) refl (end_in (stmt_at nowhere) refl o)))

  pub writes_expression : {i : ℕ} (e : Expr) → Owns (tables es stmts ds) p (stmt_at at ∷ loose) ((expr_at i, expr_row e end) ∷ rest)
      → Moved (tables es stmts ds)
      (tables es (set stmts at (record { kind = kind.Expression; exprs = i; stmts = nowhere; decls = nowhere; next = nowhere })) ds) p loose
      ((stmt_at at, stmt_row (expression e) end) ∷ rest)
  writes_expression e o =
      close_stmt (expression e) end _ refl
      (pick 3 (end_in (stmt_at nowhere) refl (end_in (decl_at nowhere) refl (end_in (stmt_at nowhere) refl o))))

  pub writes_empty : Owns (tables es stmts ds) p (stmt_at at ∷ loose) rest
      → Moved (tables es stmts ds)
      (tables es (set stmts at (record { kind = kind.Empty; exprs = nowhere; stmts = nowhere; decls = nowhere; next = nowhere })) ds) p loose
      ((stmt_at at, stmt_row empty end) ∷ rest)
  writes_empty o =
      close_stmt empty end _ refl
      (end_in (expr_at nowhere) refl (end_in (stmt_at nowhere) refl (end_in (decl_at nowhere) refl (end_in (stmt_at nowhere) refl o))))

-- a loose record is written as braces round a statement
pub writes_braces : {es : List ExprRecord} {stmts : List StmtRecord} {ds : List DeclRecord} {p : Pools}
    {loose : List Place} {rest : List Root} {row behind at : ℕ}
    (x : Stmt) (w : Row) → Owns (tables es stmts ds) p (stmt_at at ∷ loose) ((stmt_at row, stmt_row x end) ∷ (stmt_at behind, w) ∷ rest)
    → Moved (tables es stmts ds)
    (tables es (set stmts at (record { kind = kind.Block; exprs = nowhere; stmts = row; decls = nowhere; next = behind })) ds) p loose
    ((stmt_at at, stmt_row (block (stmt_then x no_stmts)) w) ∷ rest)
writes_braces x w o =
    close_stmt (block (stmt_then x no_stmts)) w _ refl
    (end_in (expr_at nowhere) refl (pick 1 (end_in (decl_at nowhere) refl o)))
