-- A return's argument that the rules have worked on, with the results before it.
use Rattle.std.proofs.Common.{◌≡◌, ℕ, ◌≤◌, Bool, true, false, cond, List, [], ◌∷◌, length, refl, subst, arith}
use Rattle.pool.specs.Chain.{nowhere}
use Rattle.script.specs.Sound.{plus, records_expr}
use Rattle.script.specs.Tree.{Expr, OptionalExpr, Stmts, absent, present, return_of}
use Rattle.records.specs.declared.record.Pools.{Pools}
use Rattle.records.specs.Embedding.{expr_row, stmts_row}
use Rattle.records.specs.Heap.{Heap, Place, expr_at, stmt_at}
use Rattle.records.specs.Owned.{Owns, Root}
use Rattle.records.specs.Rows.{At, end}
use Rattle.records.proofs.Moves.{end_in}
use Rattle.records.proofs.Tallies.{lengths, records_optional_row, records_stmts_row}
use Rattle.hosts.specs.Meaning.{Meaning}
use Rattle.rules.specs.Budget.{AtMost, budget_stmt, budget_stmts}
use Rattle.rules.specs.Holder.{Holder}
use Rattle.rules.specs.Merging.{Worked, merge_last_expression_into_sequence, merge_leading_assignments_to_declaration, push_new_expression_stmt_to_result}
use Rattle.rules.specs.Returns.{drop_undefined_argument, drop_undefined_as, handle_return_statement, merge_leading_into_declaration, merge_returns}
use Rattle.rules.proofs.BudgetStatements.{drop_undefined_argument_budget, merge_leading_into_declaration_budget}
use Rattle.moves.specs.Moved.{Moved, Turns}
use Rattle.moves.proofs.Frames.{kept_both, kept_others, stays}
use Rattle.moves.proofs.Rows.{expr_fits}
use Rattle.moves.proofs.Spared.{spared}
use Rattle.joining.specs.Needs.{EnoughFor}
use Rattle.jumping.specs.Going.{merged, returns}
use Rattle.jumping.proofs.Optional.{somewhere}
use Rattle.jumping.proofs.WorkedThrow.{worked_roots}

-- an argument in hand
abbrev pub unworked : OptionalExpr → Stmts → Worked
unworked v r = record { target = v; results = r }

module _ {h : Heap} {p : Pools} {loose : List Place} {rest : List Root} {value results : ℕ} (v : OptionalExpr) (r : Stmts) (n : value ≡ nowhere)
    (o : Owns h p loose (worked_roots value results (unworked v r) rest)) where
  -- nothing is done without an argument
  pub leading_none : Moved h h p loose (worked_roots value results (merge_leading_into_declaration v r) rest)
  leading_none = by v o
    where
      by : (u : OptionalExpr) → Owns h p loose (worked_roots value results (unworked u r) rest)
          → Moved h h p loose (worked_roots value results (merge_leading_into_declaration u r) rest)
      by absent o₁ = stays o₁
      by (present e) o₁ = absurd (somewhere e o₁.short o₁.held.0 n)

  pub dropping_none : (q : Bool) (m : Meaning) → Moved h h p loose (worked_roots value results (drop_undefined_argument q m v r) rest)
  dropping_none q m = by v o
    where
      by : (u : OptionalExpr) → Owns h p loose (worked_roots value results (unworked u r) rest)
          → Moved h h p loose (worked_roots value results (drop_undefined_argument q m u r) rest)
      by absent o₁ = stays o₁
      by (present e) o₁ = absurd (somewhere e o₁.short o₁.held.0 n)

module _ {h h' : Heap} {p p' : Pools} {loose : List Place} {rest : List Root} {value results value' results' : ℕ} where
  pub leading_some : (v : OptionalExpr) (r : Stmts) → (value ≡ nowhere → ⊥)
      → ((e : Expr) → Turns h p h' p' [] (worked_roots value results (unworked (present e) r) [])
      (worked_roots value' results' (merge_leading_assignments_to_declaration false e r) []))
      → Owns h p loose (worked_roots value results (unworked v r) rest)
      → Moved h h' p' loose (worked_roots value' results' (merge_leading_into_declaration v r) rest)
  leading_some absent r n f o = absurd (n o.held.0)
  leading_some (present e) r n f o = f e loose rest o

  -- the argument is not undefined
  pub dropping_not : (q : Bool) (m : Meaning) (v : OptionalExpr) (r : Stmts) → (value ≡ nowhere → ⊥)
      → ((e : Expr) → At h (expr_at value) (expr_row e end) → records_expr e ≤ length h.exprs → false ≡ m.undefined e)
      → ((e : Expr) → Turns h p h' p' [] (worked_roots value results (unworked (present e) r) [])
      (worked_roots value' results' (merge_last_expression_into_sequence q e r) []))
      → Owns h p loose (worked_roots value results (unworked v r) rest)
      → Moved h h' p' loose (worked_roots value' results' (drop_undefined_argument q m v r) rest)
  dropping_not q m absent r n told f o = absurd (n o.held.0)
  dropping_not q m (present e) r n told f o =
      subst (λ (b : Bool). Moved h h' p' loose (worked_roots value' results' (drop_undefined_as q b (m.harmless e) e r) rest))
      (told e o.held.0 (expr_fits e end o)) (f e loose rest o)

  -- within the budget there is still enough
  pub still_enough : (w w' : Worked) → lengths h ≡ lengths h'
      → AtMost (plus (budget_stmt (return_of w'.target)) (budget_stmts w'.results)) (plus (budget_stmt (return_of w.target)) (budget_stmts w.results))
      → EnoughFor (return_of w.target) w.results p → Owns h p loose (worked_roots value results w rest)
      → Owns h' p' loose (worked_roots value' results' w' rest) → EnoughFor (return_of w'.target) w'.results p'
  still_enough w w' k b g o o' =
      let s = spared loose rest [] (worked_roots value results w []) (worked_roots value' results' w' []) k o o' in
      let a = records_optional_row w.target end in
      let a' = records_optional_row w'.target end in
      let c = records_stmts_row w.results in
      let c' = records_stmts_row w'.results in
      record { exprs = omega arith; stmts = omega arith; decls = omega arith }

module _ {h h' : Heap} {p p' : Pools} {loose : List Place} {rest : List Root} {value results results' : ℕ} where
  -- it is undefined
  pub dropping_some : (q : Bool) (m : Meaning) (v : OptionalExpr) (r : Stmts) → (value ≡ nowhere → ⊥)
      → ((e : Expr) → At h (expr_at value) (expr_row e end) → records_expr e ≤ length h.exprs → true ≡ m.undefined e)
      → ((e : Expr) → Turns h p h' p' [] (worked_roots value results (unworked (present e) r) [])
      ((stmt_at results', stmts_row (cond (m.harmless e) r (push_new_expression_stmt_to_result q e r))) ∷ []))
      → Owns h p loose (worked_roots value results (unworked v r) rest)
      → Moved h h' p' loose (worked_roots nowhere results' (drop_undefined_argument q m v r) rest)
  dropping_some q m absent r n told f o = absurd (n o.held.0)
  dropping_some q m (present e) r n told f o =
      subst (λ (b : Bool). Moved h h' p' loose (worked_roots nowhere results' (drop_undefined_as q b (m.harmless e) e r) rest))
      (told e o.held.0 (expr_fits e end o)) (by (m.harmless e) (f e loose rest o))
    where
      by : (b : Bool) → Moved h h' p' loose ((stmt_at results', stmts_row (cond b r (push_new_expression_stmt_to_result q e r))) ∷ rest)
          → Moved h h' p' loose (worked_roots nowhere results' (drop_undefined_as q true b e r) rest)
      by true m₁ = record { owned = end_in (expr_at nowhere) refl m₁.owned; kept = m₁.kept }
      by false m₁ = record { owned = end_in (expr_at nowhere) refl m₁.owned; kept = m₁.kept }

module _ {h h' : Heap} {p p' : Pools} {loose : List Place} {rest : List Root} {value results : ℕ} where
  -- one that is harmless is gone, another is a statement
  pub left_harmless : (q : Bool) (m : Meaning) (e : Expr) (r : Stmts) → true ≡ m.harmless e → Turns h p h' p' [] ((expr_at value, expr_row e end) ∷ []) []
      → Owns h p loose (worked_roots value results (unworked (present e) r) rest)
      → Moved h h' p' loose ((stmt_at results, stmts_row (cond (m.harmless e) r (push_new_expression_stmt_to_result q e r))) ∷ rest)
  left_harmless q m e r n f o =
      subst (λ (b : Bool). Moved h h' p' loose ((stmt_at results, stmts_row (cond b r (push_new_expression_stmt_to_result q e r))) ∷ rest)) n
      (f loose ((stmt_at results, stmts_row r) ∷ rest) o)

module _ {h h' : Heap} {p' : Pools} {loose : List Place} {rest : List Root} {results' : ℕ} where
  pub left_pushed : (q : Bool) (m : Meaning) (e : Expr) (r : Stmts) → false ≡ m.harmless e
      → Moved h h' p' loose ((stmt_at results', stmts_row (push_new_expression_stmt_to_result q e r)) ∷ rest)
      → Moved h h' p' loose ((stmt_at results', stmts_row (cond (m.harmless e) r (push_new_expression_stmt_to_result q e r))) ∷ rest)
  left_pushed q m e r n m₁ =
      subst (λ (b : Bool). Moved h h' p' loose ((stmt_at results', stmts_row (cond b r (push_new_expression_stmt_to_result q e r))) ∷ rest)) n m₁

merged_returns : (q : Bool) (holder : Holder) (v : OptionalExpr) (r : Stmts) → merged (returns holder) q v r ≡ merge_returns q holder v r
merged_returns true holder v r = refl
merged_returns false holder v r = refl

module _ {h h₁ h₂ h₃ : Heap} {p p₁ p₂ p₃ : Pools} {loose : List Place} {rest : List Root} {at value results value₁ results₁ value₂ results₂ res : ℕ} where
  -- the three parts of the rule one after another
  pub return_handled : (q : Bool) (m : Meaning) (holder : Holder) (v : OptionalExpr) (r : Stmts) → lengths h ≡ lengths h₁ → lengths h₁ ≡ lengths h₂
      → Turns h p h₁ p₁ [] (worked_roots value results (unworked v r) []) (worked_roots value₁ results₁ (merge_leading_into_declaration v r) [])
      → ((u : OptionalExpr) (x : Stmts) → 1 ≤ p₁.exprs.count → 1 ≤ p₁.stmts.count
      → Turns h₁ p₁ h₂ p₂ [] (worked_roots value₁ results₁ (unworked u x) []) (worked_roots value₂ results₂ (drop_undefined_argument q m u x) []))
      → ((u : OptionalExpr) (x : Stmts) → EnoughFor (return_of u) x p₂
      → Turns h₂ p₂ h₃ p₃ (stmt_at at ∷ []) (worked_roots value₂ results₂ (unworked u x) []) ((stmt_at res, stmts_row (merged (returns holder) q u x)) ∷ []))
      → EnoughFor (return_of v) r p → Owns h p (stmt_at at ∷ loose) (worked_roots value results (unworked v r) rest)
      → Moved h h₃ p₃ loose ((stmt_at res, stmts_row (handle_return_statement q m holder v r)) ∷ rest)
  return_handled q m holder v r k₁ k₂ first second third g o =
      let l : List Place = stmt_at at ∷ loose in
      let x : Worked = merge_leading_into_declaration v r in
      let y : Worked = drop_undefined_argument q m x.target x.results in
      let m₁ = first l rest o in
      let g₁ = still_enough (unworked v r) x k₁ (merge_leading_into_declaration_budget v r) g o m₁.owned in
      let e₁ = g₁.exprs in
      let s₁ = g₁.stmts in
      let m₂ = second x.target x.results (omega arith) (omega arith) l rest m₁.owned in
      let g₂ = still_enough x y k₂ (drop_undefined_argument_budget q m x.target x.results) g₁ m₁.owned m₂.owned in
      let m₃ = third y.target y.results g₂ loose rest m₂.owned in
      record {
        owned = subst (λ (u : Stmts). Owns h₃ p₃ loose ((stmt_at res, stmts_row u) ∷ rest)) (merged_returns q holder y.target y.results) m₃.owned;
        kept = kept_both (kept_others (kept_both m₁.kept m₂.kept)) m₃.kept;
      }
