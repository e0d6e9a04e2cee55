-- Rows of statements: where they end, and how long they are at most.
use Rattle.std.proofs.Common.{◌≡◌, ℕ, ◌≤◌, List, ◌∷◌, length, refl, ap, arith}
use Rattle.pool.specs.Chain.{nowhere}
use Rattle.script.specs.Judge.{Spares}
use Rattle.script.specs.Sound.{count_stmts, records_stmt, records_stmts}
use Rattle.script.specs.Tree.{Stmt, Stmts, no_stmts, stmt_then}
use Rattle.records.specs.declared.record.Pools.{Pools}
use Rattle.records.specs.Embedding.{stmt_row, stmts_row}
use Rattle.records.specs.Heap.{Heap, Place, stmt_at}
use Rattle.records.specs.Owned.{Owns, Root}
use Rattle.records.specs.Rows.{Row}
use Rattle.records.proofs.Balance.{balance}
use Rattle.records.proofs.Tallies.{lengths, records_stmt_row, records_stmts_row}
use Rattle.rules.proofs.BudgetUnreachable.{some_statement}
use Rattle.moves.proofs.Told.{stmt_within}

pub no_stmt_nowhere : {h : Heap} {p : Pools} {loose : List Place} {rest : List Root} {i : ℕ} (x : Stmt) (w : Row) → i ≡ nowhere
    → Owns h p loose ((stmt_at i, stmt_row x w) ∷ rest)
    → ⊥
no_stmt_nowhere {h} {i = i} x w e o = let v = stmt_within h i x w o.held.0 in let u = o.short.stmts in omega arith

pub none_from_nowhere : {h : Heap} {p : Pools} {loose : List Place} {rest : List Root} {i : ℕ} (xs : Stmts) → i ≡ nowhere
    → Owns h p loose ((stmt_at i, stmts_row xs) ∷ rest)
    → xs ≡ no_stmts
none_from_nowhere no_stmts e o = refl
none_from_nowhere (stmt_then x xs) e o = absurd (no_stmt_nowhere x (stmts_row xs) e o)

-- no row of statements is longer than the table
pub row_counted : {h : Heap} {p : Pools} {loose : List Place} {rest : List Root} {i : ℕ} (xs : Stmts)
    → Owns h p loose ((stmt_at i, stmts_row xs) ∷ rest)
    → count_stmts xs ≤ length h.stmts
row_counted {h} xs o =
    let b : (lengths h).stmts ≡ _ = ap (λ (s : Spares). s.stmts) (balance o) in
    let r = records_stmts_row xs in
    let n = counted_records xs in
    omega arith
  where
    counted_records : (ys : Stmts) → count_stmts ys ≤ (records_stmts ys).stmts
    counted_records no_stmts = omega arith
    counted_records (stmt_then y ys) = let a = some_statement y in let b = counted_records ys in omega arith

pub none_counted : (xs : Stmts) → count_stmts xs ≡ 0 → xs ≡ no_stmts
none_counted no_stmts e = refl
none_counted (stmt_then x xs) e = absurd (omega arith)

-- no statement has more records than the table
pub stmt_fits : {h : Heap} {p : Pools} {loose : List Place} {rest : List Root} {i : ℕ} (x : Stmt) (w : Row)
    → Owns h p loose ((stmt_at i, stmt_row x w) ∷ rest)
    → (records_stmt x).stmts ≤ length h.stmts
stmt_fits {h} x w o =
    let b : (lengths h).stmts ≡ _ = ap (λ (s : Spares). s.stmts) (balance o) in let r = records_stmt_row x w in omega arith
