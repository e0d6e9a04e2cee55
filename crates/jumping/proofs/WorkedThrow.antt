-- An argument that the rules have worked on, with the results before it.
use Rattle.std.proofs.Common.{◌≡◌, ℕ, ◌≤◌, Bool, true, false, List, [], ◌∷◌, sym, refl, ap, ◌∙◌, subst, arith}
use Rattle.script.specs.Sound.{records_expr, records_optional}
use Rattle.script.specs.Tree.{Expr, OptionalExpr, Stmts, absent, present, throw}
use Rattle.records.specs.declared.record.Pools.{Pools}
use Rattle.records.specs.Embedding.{optional_row, stmts_row}
use Rattle.records.specs.Heap.{Heap, Place, expr_at, stmt_at}
use Rattle.records.specs.Owned.{Owns, Root}
use Rattle.records.specs.Rows.{end}
use Rattle.records.proofs.Tallies.{lengths, records_expr_row, records_optional_row, records_stmts_row}
use Rattle.rules.specs.Merging.{Worked, merge_last_expression_into_sequence, merge_leading_assignments_to_declaration, next_work}
use Rattle.rules.specs.Merging.{LastExpression?, last_expression, last_expression?, merge_last_expression_as, no_last_expression}
use Rattle.rules.specs.Returns.{value_or_void_0}
use Rattle.rules.specs.Throws.{handle_throw_statement, merge_throws, worked_throw_argument}
use Rattle.rules.proofs.BudgetMerging.{merged_budget, merged_value}
use Rattle.moves.specs.Moved.{Moved, Turns}
use Rattle.moves.proofs.Frames.{kept_both, kept_others}
use Rattle.moves.proofs.Spared.{spared}
use Rattle.joining.specs.Needs.{EnoughFor}
use Rattle.jumping.specs.Going.{in_hand, merged, throws}

-- the roots of an argument and results that may be those of a rule's `Worked`
abbrev pub worked_roots : ℕ → ℕ → Worked → List Root → List Root
worked_roots value results w rest = (expr_at value, optional_row w.target end) ∷ (stmt_at results, stmts_row w.results) ∷ rest

there_value : (v : OptionalExpr) → records_expr (value_or_void_0 v) ≡ records_optional v → (e : Expr) × (v ≡ present e)
there_value absent z = absurd (omega arith)
there_value (present e) z = (e, refl)

last_value : (q : Bool) (e : Expr) (r : Stmts) → (e₁ : Expr) × ((merge_last_expression_into_sequence q e r).target ≡ present e₁)
last_value q e r = by (last_expression? q r)
  where
    by : {r₁ : Stmts} (v : LastExpression? r₁) → (e₁ : Expr) × ((merge_last_expression_as v e).target ≡ present e₁)
    by (last_expression a r₁) = (_, refl)
    by no_last_expression = (e, refl)

-- a throw's argument after both mergers: it is there, and there is enough to go on
pub record ThrowsWorked (q : Bool) (e : Expr) (r : Stmts) (h h' : Heap) (p' : Pools) (loose : List Place) (rest : List Root) (value results : ℕ) : Type 0 where
  pub argument : Expr
  pub same : (worked_throw_argument q e r).target ≡ present argument
  pub enough : EnoughFor (throw argument) (worked_throw_argument q e r).results p'
  pub moved : Moved h h' p' loose (in_hand throws value results argument (worked_throw_argument q e r).results rest)

module _ {h h₁ h₂ : Heap} {p p₁ p₂ : Pools} {loose : List Place} {rest : List Root} {value results value₁ results₁ value₂ results₂ : ℕ} where
  pub throw_worked : (q : Bool) (e : Expr) (r : Stmts) → lengths h ≡ lengths h₂
      → (1 ≤ p.exprs.count
      → Turns h p h₁ p₁ [] (in_hand throws value results e r []) (worked_roots value₁ results₁ (merge_last_expression_into_sequence q e r) []))
      → ((e₁ : Expr) (r₁ : Stmts)
      → Turns h₁ p₁ h₂ p₂ [] (in_hand throws value₁ results₁ e₁ r₁ [])
      (worked_roots value₂ results₂ (merge_leading_assignments_to_declaration false e₁ r₁) []))
      → EnoughFor (throw e) r p → Owns h p loose (in_hand throws value results e r rest)
      → ThrowsWorked q e r h h₂ p₂ loose rest value₂ results₂
  throw_worked q e r k first second g o =
      let x : Worked = merge_last_expression_into_sequence q e r in
      let y : Worked = worked_throw_argument q e r in
      let f = g.exprs in
      let m₁ = first (omega arith) loose rest o in
      let v = last_value q e r in
      let o₁ : Owns h₁ p₁ loose (in_hand throws value₁ results₁ v.0 x.results rest) =
      subst (λ (u : OptionalExpr). Owns h₁ p₁ loose ((expr_at value₁, optional_row u end) ∷ (stmt_at results₁, stmts_row x.results) ∷ rest)) v.1 m₁.owned in
      let m₂ = second v.0 x.results loose rest o₁ in
      let z : merge_leading_assignments_to_declaration false v.0 x.results ≡ y =
      sym (ap (λ (u : OptionalExpr). next_work u x.results (λ e₁ r₁. merge_leading_assignments_to_declaration false e₁ r₁)) v.1) in
      let o₂ : Owns h₂ p₂ loose (worked_roots value₂ results₂ y rest) =
      subst (λ (u : Worked). Owns h₂ p₂ loose (worked_roots value₂ results₂ u rest)) z m₂.owned in
      let there = there_value y.target (merged_value q e r) in
      let b = spared loose rest [] (in_hand throws value results e r []) (worked_roots value₂ results₂ y []) k o o₂ in
      let c = merged_budget q false e r in
      let d = records_expr_row e end in
      let i = records_stmts_row r in
      let j = records_optional_row y.target end in
      let l = records_stmts_row y.results in
      record {
        argument = there.0;
        same = there.1;
        enough = record { exprs = omega arith; stmts = omega arith; decls = omega arith };
        moved = record {
          owned = subst (λ (u : OptionalExpr). Owns h₂ p₂ loose ((expr_at value₂, optional_row u end) ∷ (stmt_at results₂, stmts_row y.results) ∷ rest))
              there.1 o₂;
          kept = kept_both m₁.kept m₂.kept;
        };
      }

merged_throws : (q : Bool) (e : Expr) (r : Stmts) → merged throws q e r ≡ merge_throws q e r
merged_throws true e r = refl
merged_throws false e r = refl

-- the worked argument and results, merged
module _ {h h₂ h₃ : Heap} {p₂ p₃ : Pools} {loose : List Place} {rest : List Root} {at value results res : ℕ} where
  pub throw_handled : (q : Bool) (e : Expr) (r : Stmts) → ThrowsWorked q e r h h₂ p₂ (stmt_at at ∷ loose) rest value results
      → ((e₁ : Expr) (r₁ : Stmts) → EnoughFor (throw e₁) r₁ p₂
      → Turns h₂ p₂ h₃ p₃ (stmt_at at ∷ []) (in_hand throws value results e₁ r₁ []) ((stmt_at res, stmts_row (merged throws q e₁ r₁)) ∷ []))
      → Moved h h₃ p₃ loose ((stmt_at res, stmts_row (handle_throw_statement q e r)) ∷ rest)
  throw_handled q e r w merge =
      let m = merge w.argument (worked_throw_argument q e r).results w.enough loose rest w.moved.owned in
      record {
        owned = subst (λ (u : Stmts). Owns h₃ p₃ loose ((stmt_at res, stmts_row u) ∷ rest))
            (merged_throws q w.argument (worked_throw_argument q e r).results
            ∙ ap (λ (u : OptionalExpr). merge_throws q (value_or_void_0 u) (worked_throw_argument q e r).results) (sym w.same)) m.owned;
        kept = kept_both (kept_others w.moved.kept) m.kept;
      }
