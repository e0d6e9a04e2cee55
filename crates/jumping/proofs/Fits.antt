-- No results and no argument have more records than their tables.
use Rattle.std.proofs.Common.{◌≡◌, ℕ, ◌+◌, ◌≤◌, List, ◌∷◌, length, ap, arith}
use Rattle.script.specs.Judge.{Spares}
use Rattle.script.specs.Sound.{records_optional, records_stmts}
use Rattle.script.specs.Tree.{OptionalExpr, Stmts}
use Rattle.records.specs.declared.record.Pools.{Pools}
use Rattle.records.specs.Embedding.{optional_row, stmts_row}
use Rattle.records.specs.Heap.{Heap, Place, expr_at, stmt_at}
use Rattle.records.specs.Owned.{Owns, Root}
use Rattle.records.specs.Rows.{end}
use Rattle.records.proofs.Balance.{balance}
use Rattle.records.proofs.Tallies.{lengths, records_optional_row, records_stmts_row}

module _ {h : Heap} {p : Pools} {loose : List Place} {rest : List Root} {root : Root} {i : ℕ} where
  pub results_fit : (r : Stmts) → Owns h p loose (root ∷ (stmt_at i, stmts_row r) ∷ rest) → (records_stmts r).stmts ≤ length h.stmts
  results_fit r o =
      let b : (lengths h).stmts ≡ _ = ap (λ (s : Spares). s.stmts) (balance o) in
      let q = records_stmts_row r in
      omega arith

  -- nor as many, beside a loose statement
  pub results_fit_beside : {at : ℕ} (r : Stmts) → Owns h p (stmt_at at ∷ loose) (root ∷ (stmt_at i, stmts_row r) ∷ rest)
      → 1 + (records_stmts r).stmts ≤ length h.stmts
  results_fit_beside r o =
      let b : (lengths h).stmts ≡ _ = ap (λ (s : Spares). s.stmts) (balance o) in
      let q = records_stmts_row r in
      omega arith

-- no argument has more records than its table
pub optional_fits : {h : Heap} {p : Pools} {loose : List Place} {rest : List Root} {i : ℕ} (v : OptionalExpr)
    → Owns h p loose ((expr_at i, optional_row v end) ∷ rest) → records_optional v ≤ length h.exprs
optional_fits {h} v o =
    let b : (lengths h).exprs ≡ _ = ap (λ (s : Spares). s.exprs) (balance o) in
    let q = records_optional_row v end in
    omega arith
