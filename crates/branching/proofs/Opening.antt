-- Statements and a `!` opened for their parts, and their records given back.
use mathlib.Core.Path.{◌≡◌}
use mathlib.Core.Bool.{true}
use mathlib.Core.List.{List, [], ◌∷◌}
use Prim.Native.Nat.{ℕ}
use borrow.Author.Tests.{clash}
use native.Mathlib.Omega.{arith}
use lib.ListN.{get_or}
use Rattle.pool.specs.declared.Pool.{Pool}
use Rattle.script.specs.Tree.{Alternate, Expr, Stmt, block, empty, expression, if_then, no_stmts, not}
use Rattle.records.specs.declared.record.ExprRecord.{ExprRecord}
use Rattle.records.specs.declared.record.Pools.{Pools}
use Rattle.records.specs.declared.record.StmtRecord.{StmtRecord}
use Rattle.records.specs.Embedding.{alternate_row, expr_row, stmt_row}
use Rattle.records.specs.Heap.{Heap, Place, blank_expr, blank_stmt, expr_at, stmt_at}
use Rattle.records.specs.Owned.{Owns, Root}
use Rattle.records.specs.Rows.{Row, end}
use Rattle.records.specs.Turning.{expr_relinked, stmt_relinked}
use Rattle.rules.specs.Ifs.{Empty?, is_empty, is_empty_block, no_empty}
use Rattle.moves.specs.Cells.{Gave}
use Rattle.moves.specs.Moved.{Moved}
use Rattle.branching.specs.Views.{is_nothing}
use Rattle.records.proofs.Moves.{end_out, pick}
use Rattle.moves.proofs.Frames.{arrange}
use Rattle.moves.proofs.Open.{open_expr, open_stmt}
use Rattle.moves.proofs.Single.{give_expr_of, give_stmt_of}

-- an `if` opened, its record was read
pub opens_if : {h : Heap} {p : Pools} {loose : List Place} {rest : List Root} {at : ℕ} (stmt : StmtRecord) → stmt ≡ get_or h.stmts at blank_stmt
    → (t : Expr) (c : Stmt) (a : Alternate) → Owns h p loose ((stmt_at at, stmt_row (if_then t c a) end) ∷ rest)
    → Owns h p (stmt_at at ∷ loose) ((stmt_at stmt.stmts, stmt_row c (alternate_row a)) ∷ (expr_at stmt.exprs, expr_row t end) ∷ rest)
opens_if stmt r t c a o = rw r (pick 1 (end_out (end_out (arrange (2 ∷ 2 ∷ []) (open_stmt (if_then t c a) end o)))))

-- an empty statement opened
pub opens_nothing : {h : Heap} {p : Pools} {loose : List Place} {rest : List Root} {at : ℕ} (stmt : StmtRecord) → stmt ≡ get_or h.stmts at blank_stmt
    → {x : Stmt} (v : Empty? x) (w : Row) → is_nothing v ≡ true → Owns h p loose ((stmt_at at, stmt_row x w) ∷ rest)
    → Owns h p (stmt_at at ∷ loose) ((stmt_at stmt.next, w) ∷ rest)
opens_nothing stmt r is_empty w z o = rw r (end_out (end_out (end_out (open_stmt empty w o))))
opens_nothing stmt r is_empty_block w z o = rw r (end_out (end_out (end_out (open_stmt (block no_stmts) w o))))
opens_nothing stmt r no_empty w z o = absurd (clash z)

-- loose places in the other order
pub swap_loose : {h : Heap} {p : Pools} {j k : Place} {loose : List Place} {roots : List Root} → Owns h p (j ∷ k ∷ loose) roots
    → Owns h p (k ∷ j ∷ loose) roots
swap_loose o = record {
  short = o.short;
  inside = (o.inside.1.0, (o.inside.0, o.inside.1.1));
  held = o.held;
  chains = o.chains;
  once = λ q v. let n = o.once q v in omega arith;
}

-- an expression statement is given back for its expression
pub gives_expression : {h : Heap} {p : Pools} {loose : List Place} {rest : List Root} {at : ℕ} (e : Expr) (t' : List StmtRecord) (p' : Pool)
    → Gave stmt_relinked h.stmts p.stmts at t' p' → Owns h p loose ((stmt_at at, stmt_row (expression e) end) ∷ rest)
    → Moved h (record { exprs = h.exprs; stmts = t'; decls = h.decls }) (record { exprs = p.exprs; stmts = p'; decls = p.decls }) loose
    ((expr_at (get_or h.stmts at blank_stmt).exprs, expr_row e end) ∷ rest)
gives_expression {at = at} e t' p' g o =
    give_stmt_of at t' p' g (end_out (pick 1 (end_out (pick 1 (end_out (pick 1 (open_stmt (expression e) end o)))))))

-- a `!` is given back for what it negates
pub gives_not : {h : Heap} {p : Pools} {loose : List Place} {rest : List Root} {at : ℕ} (e : Expr) (t' : List ExprRecord) (p' : Pool)
    → Gave expr_relinked h.exprs p.exprs at t' p' → Owns h p loose ((expr_at at, expr_row (not e) end) ∷ rest)
    → Moved h (record { exprs = t'; stmts = h.stmts; decls = h.decls }) (record { exprs = p'; stmts = p.stmts; decls = p.decls }) loose
    ((expr_at (get_or h.exprs at blank_expr).first, expr_row e end) ∷ rest)
gives_not {at = at} e t' p' g o = give_expr_of at t' p' g (end_out (pick 1 (open_expr (not e) end o)))
