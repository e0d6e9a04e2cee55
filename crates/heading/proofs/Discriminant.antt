-- A `switch` whose discriminant takes in what stands before it.
use Rattle.std.proofs.Common.{◌≡◌, ℕ, ◌≤◌, Bool, false, List, [], ◌∷◌, arith}
use Rattle.script.specs.Sound.{exprs_only, plus, records_expr, records_optional}
use Rattle.script.specs.Tree.{Cases, Expr, OptionalExpr, Stmts, absent, present, switch}
use Rattle.records.specs.declared.record.Pools.{Pools}
use Rattle.records.specs.Embedding.{cases_row, expr_row, optional_row, stmts_row}
use Rattle.records.specs.Heap.{Heap, Place, expr_at, stmt_at}
use Rattle.records.specs.Holds.{counted}
use Rattle.records.specs.Owned.{Owns, Root}
use Rattle.records.specs.Rows.{end}
use Rattle.records.proofs.Tallies.{Equals, equal, lengths, records_expr_row, records_optional_row, records_stmts_row}
use Rattle.rules.specs.Budget.{AtMost, budget_stmts, budget_worked, weight_stmts}
use Rattle.rules.specs.Merging.{Worked, last_expression?, merge_last_expression_into_sequence, merge_leading_assignments_to_declaration, next_work}
use Rattle.rules.specs.Returns.{value_or_void_0}
use Rattle.rules.specs.Switches.{handle_switch_statement, inline_switch_case, one_case?}
use Rattle.rules.proofs.BudgetMerging.{merge_last_value, merge_leading_value, merged_budget}
use Rattle.joining.specs.Needs.{EnoughFor}
use Rattle.moves.specs.Moved.{Moved, Turns}
use Rattle.moves.proofs.Frames.{arrange, then_move, then_use}
use Rattle.moves.proofs.Spared.{spared}

-- the spare records after an expression was worked: no more are taken than the results weigh
pub worked_spares : {h h' : Heap} {p p' : Pools} {target results target' results' : ℕ} (loose : List Place) (rest : List Root) (e : Expr) (r : Stmts)
    (w : Worked)
    → Equals (lengths h) (lengths h') → AtMost (budget_worked w) (plus (exprs_only (records_expr e)) (budget_stmts r))
    → Owns h p loose ((expr_at target, expr_row e end) ∷ (stmt_at results, stmts_row r) ∷ rest)
    → Owns h' p' loose ((expr_at target', optional_row w.target end) ∷ (stmt_at results', stmts_row w.results) ∷ rest)
    → AtMost (counted p) (plus (weight_stmts r) (counted p'))
worked_spares {target = target} {results = results} {target' = target'} {results' = results'} loose rest e r w l b o o' =
    let s = spared loose rest [] ((expr_at target, expr_row e end) ∷ (stmt_at results, stmts_row r) ∷ [])
    ((expr_at target', optional_row w.target end) ∷ (stmt_at results', stmts_row w.results) ∷ []) (equal l) o o' in
    let x₁ = records_expr_row e end in
    let x₂ = records_stmts_row r in
    let x₃ = records_optional_row w.target end in
    let x₄ = records_stmts_row w.results in
    record { exprs = omega arith; stmts = omega arith; decls = omega arith }

module _ {h h₁ h₂ h₃ : Heap} {p p₁ p₂ p₃ : Pools} {loose : List Place} {rest : List Root}
    {at discriminant cases results target₁ results₁ target₂ results₂ res : ℕ} where
  pub switch_done : (q : Bool) (d : Expr) (cs : Cases) (r : Stmts) → EnoughFor (switch d cs) r p → Equals (lengths h) (lengths h₂)
      → Turns h p h₁ p₁ [] ((expr_at discriminant, expr_row d end) ∷ (stmt_at results, stmts_row r) ∷ [])
      ((expr_at target₁, optional_row (merge_last_expression_into_sequence q d r).target end)
      ∷ (stmt_at results₁, stmts_row (merge_last_expression_into_sequence q d r).results) ∷ [])
      → ((e : Expr) (r₁ : Stmts) → Turns h₁ p₁ h₂ p₂ [] ((expr_at target₁, expr_row e end) ∷ (stmt_at results₁, stmts_row r₁) ∷ [])
      ((expr_at target₂, optional_row (merge_leading_assignments_to_declaration false e r₁).target end)
      ∷ (stmt_at results₂, stmts_row (merge_leading_assignments_to_declaration false e r₁).results) ∷ []))
      → ((e : Expr) (r₂ : Stmts) → 1 ≤ p₂.exprs.count → 1 ≤ p₂.stmts.count
      → Turns h₂ p₂ h₃ p₃ (stmt_at at ∷ []) ((expr_at target₂, expr_row e end) ∷ (stmt_at cases, cases_row cs) ∷ (stmt_at results₂, stmts_row r₂) ∷ [])
      ((stmt_at res, stmts_row (inline_switch_case q e (one_case? cs) r₂)) ∷ []))
      → Owns h p (stmt_at at ∷ loose) ((expr_at discriminant, expr_row d end) ∷ (stmt_at cases, cases_row cs) ∷ (stmt_at results, stmts_row r) ∷ rest)
      → Moved h h₃ p₃ loose ((stmt_at res, stmts_row (handle_switch_statement q d cs r)) ∷ rest)
  switch_done q d cs r n l merges leads inlining o =
      by₁ m.target m.results (merge_last_value (last_expression? q r) d) (merged_budget q false d r)
      (merges (stmt_at at ∷ loose) ((stmt_at cases, cases_row cs) ∷ rest) o₁)
    where
      m : Worked
      m = merge_last_expression_into_sequence q d r

      o₁ : Owns h p (stmt_at at ∷ loose) ((expr_at discriminant, expr_row d end) ∷ (stmt_at results, stmts_row r) ∷ (stmt_at cases, cases_row cs) ∷ rest)
      o₁ = arrange (0 ∷ 1 ∷ []) o

      -- a value that is wanted is there after the leading assignments
      by₂ : (t : OptionalExpr) (r₂ : Stmts) → records_expr (value_or_void_0 t) ≡ records_optional t
          → AtMost (budget_worked (record { target = t; results = r₂ })) (plus (exprs_only (records_expr d)) (budget_stmts r))
          → Moved h h₂ p₂ (stmt_at at ∷ loose) ((expr_at target₂, optional_row t end) ∷ (stmt_at results₂, stmts_row r₂)
          ∷ (stmt_at cases, cases_row cs) ∷ rest)
          → Moved h h₃ p₃ loose ((stmt_at res, stmts_row (inline_switch_case q (value_or_void_0 t) (one_case? cs) r₂)) ∷ rest)
      by₂ absent r₂ v b k = absurd (omega arith)
      by₂ (present e) r₂ v b k =
          let s = worked_spares (stmt_at at ∷ loose) ((stmt_at cases, cases_row cs) ∷ rest) d r (record { target = present e; results = r₂ }) l b o₁ k.owned in
          then_use k (λ o₂. inlining e r₂ (omega arith) (omega arith) loose rest (arrange (0 ∷ 1 ∷ []) o₂))

      -- and after the last expression
      by₁ : (t : OptionalExpr) (r₁ : Stmts) → records_expr (value_or_void_0 t) ≡ records_optional t
          → AtMost (budget_worked (next_work t r₁ (λ e₁ r₂. merge_leading_assignments_to_declaration false e₁ r₂)))
          (plus (exprs_only (records_expr d)) (budget_stmts r))
          → Moved h h₁ p₁ (stmt_at at ∷ loose) ((expr_at target₁, optional_row t end) ∷ (stmt_at results₁, stmts_row r₁)
          ∷ (stmt_at cases, cases_row cs) ∷ rest)
          → Moved h h₃ p₃ loose
          ((
            stmt_at res,
            stmts_row
                (inline_switch_case q (value_or_void_0 (next_work t r₁ (λ e₁ r₂. merge_leading_assignments_to_declaration false e₁ r₂)).target) (one_case? cs)
                (next_work t r₁ (λ e₁ r₂. merge_leading_assignments_to_declaration false e₁ r₂)).results),
          ) ∷ rest)
      by₁ absent r₁ v b k = absurd (omega arith)
      by₁ (present e) r₁ v b k =
          by₂ (merge_leading_assignments_to_declaration false e r₁).target (merge_leading_assignments_to_declaration false e r₁).results
          (merge_leading_value e r₁) b
          (then_move k (λ o₂. leads e r₁ (stmt_at at ∷ loose) ((stmt_at cases, cases_row cs) ∷ rest) o₂))
