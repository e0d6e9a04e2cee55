-- An argument that may be missing: its place leads nowhere then.
use Rattle.std.proofs.Common.{◌≡◌, ℕ, ◌+◌, ◌≤◌, Bool, true, false, not, List, [], ◌∷◌, refl, arith}
use Rattle.pool.specs.Chain.{nowhere}
use Rattle.script.specs.Sound.{records_expr, records_optional}
use Rattle.script.specs.Tree.{Expr, OptionalExpr, absent, number, present, void}
use Rattle.records.specs.declared.record.Pools.{Pools}
use Rattle.records.specs.Embedding.{expr_row, optional_row}
use Rattle.records.specs.Heap.{Heap, Place, expr_at, stmt_at}
use Rattle.records.specs.Owned.{Owns, Root, Short}
use Rattle.records.specs.Rows.{At, end}
use Rattle.records.proofs.Moves.{end_out, pick}
use Rattle.records.proofs.Tallies.{lengths, records_expr_row, records_optional_row}
use Rattle.rules.specs.Expressions.{minimize_conditional}
use Rattle.rules.specs.Returns.{may_merge_return, value_or_void_0}
use Rattle.moves.specs.Moved.{Moved, Turns}
use Rattle.moves.proofs.Frames.{arrange, kept_both, kept_others}
use Rattle.moves.proofs.Rows.{expr_within}
use Rattle.moves.proofs.Spared.{spared}
use Rattle.predicates.specs.declared.held.Holder.TheVariants.{Body, LoopBlock, OnceBlock, Other}
use Rattle.jumping.specs.declared.jump.Jump.{Jump}
use Rattle.jumping.specs.declared.jump.Jump.TheVariants.{Return, Throw}
use Rattle.jumping.specs.Meet.{held_by}

-- what is there leads somewhere
pub somewhere : {h : Heap} {i : ℕ} (e : Expr) → Short h → At h (expr_at i) (expr_row e end) → i ≡ nowhere → ⊥
somewhere {h} {i} e s a n = let w = expr_within h i e end a in let l = s.exprs in omega arith

-- and what is not does not
pub absent_there : {h : Heap} {i : ℕ} (v : OptionalExpr) → Short h → At h (expr_at i) (optional_row v end) → i ≡ nowhere → v ≡ absent
absent_there absent s a n = refl
absent_there (present e) s a n = absurd (somewhere e s a n)

pub nowhere_there : (h : Heap) {i : ℕ} (v : OptionalExpr) → At h (expr_at i) (optional_row v end) → v ≡ absent → i ≡ nowhere
nowhere_there h absent a n = a
nowhere_there h (present e) a n = cc

module _ {h h' : Heap} {p p' : Pools} {loose : List Place} {rest : List Root} {i r : ℕ} where
  pub voided : (v : OptionalExpr) → i ≡ nowhere → Turns h p h' p' [] [] ((expr_at r, expr_row (void (number 0)) end) ∷ [])
      → Owns h p loose ((expr_at i, optional_row v end) ∷ rest) → Moved h h' p' loose ((expr_at r, expr_row (value_or_void_0 v) end) ∷ rest)
  voided absent n f o = f loose rest (end_out o)
  voided (present e) n f o = absurd (somewhere e o.short o.held.0 n)

-- at most two records more
pub void_records : (v : OptionalExpr) → records_expr (value_or_void_0 v) ≤ 2 + records_optional v
void_records absent = omega arith
void_records (present e) = omega arith

module _ {h h₁ h₂ h₃ : Heap} {p p₁ p₂ p₃ : Pools} {loose : List Place} {rest : List Root} {at inner test a b x y : ℕ} where
  -- both arguments made sure of, then joined
  pub values_joined : (t : Expr) (v u : OptionalExpr) → 5 ≤ p.exprs.count → lengths h ≡ lengths h₁ → lengths h₁ ≡ lengths h₂
      → (2 ≤ p.exprs.count → Turns h p h₁ p₁ [] ((expr_at a, optional_row v end) ∷ []) ((expr_at x, expr_row (value_or_void_0 v) end) ∷ []))
      → (2 ≤ p₁.exprs.count → Turns h₁ p₁ h₂ p₂ [] ((expr_at b, optional_row u end) ∷ []) ((expr_at y, expr_row (value_or_void_0 u) end) ∷ []))
      → ((e₁ e₂ : Expr) → 1 ≤ p₂.exprs.count
      → Turns h₂ p₂ h₃ p₃ (stmt_at inner ∷ stmt_at at ∷ []) ((expr_at test, expr_row t end) ∷ (expr_at x, expr_row e₁ end) ∷ (expr_at y, expr_row e₂ end) ∷ [])
      ((expr_at test, expr_row (minimize_conditional t e₁ e₂) end) ∷ []))
      → Owns h p (stmt_at inner ∷ stmt_at at ∷ loose)
      ((expr_at test, expr_row t end) ∷ (expr_at a, optional_row v end) ∷ (expr_at b, optional_row u end) ∷ rest)
      → Moved h h₃ p₃ loose ((expr_at test, expr_row (minimize_conditional t (value_or_void_0 v) (value_or_void_0 u)) end) ∷ rest)
  values_joined t v u n k₁ k₂ first second third o =
      let l : List Place = stmt_at inner ∷ stmt_at at ∷ loose in
      let others : List Root = (expr_at test, expr_row t end) ∷ (expr_at b, optional_row u end) ∷ rest in
      let o₁ : Owns h p l ((expr_at a, optional_row v end) ∷ others) = pick 1 o in
      let m₁ = first (omega arith) l others o₁ in
      let s₁ = spared l others [] ((expr_at a, optional_row v end) ∷ []) ((expr_at x, expr_row (value_or_void_0 v) end) ∷ []) k₁ o₁ m₁.owned in
      let r₁ = records_optional_row v end in
      let q₁ = records_expr_row (value_or_void_0 v) end in
      let d₁ = void_records v in
      let n₁ : 3 ≤ p₁.exprs.count = omega arith in
      let others₂ : List Root = (expr_at x, expr_row (value_or_void_0 v) end) ∷ (expr_at test, expr_row t end) ∷ rest in
      let o₂ : Owns h₁ p₁ l ((expr_at b, optional_row u end) ∷ others₂) = pick 2 m₁.owned in
      let m₂ = second (omega arith) l others₂ o₂ in
      let s₂ = spared l others₂ [] ((expr_at b, optional_row u end) ∷ []) ((expr_at y, expr_row (value_or_void_0 u) end) ∷ []) k₂ o₂ m₂.owned in
      let r₂ = records_optional_row u end in
      let q₂ = records_expr_row (value_or_void_0 u) end in
      let d₂ = void_records u in
      let n₂ : 1 ≤ p₂.exprs.count = omega arith in
      let m₃ = third (value_or_void_0 v) (value_or_void_0 u) n₂ loose rest (arrange (2 ∷ 1 ∷ 0 ∷ []) m₂.owned) in
      record { owned = m₃.owned; kept = kept_both (kept_others (kept_others (kept_both m₁.kept m₂.kept))) m₃.kept }

-- may a bare jump take in the one before it
pub bare_body : (j : Jump) (b : Bool) → j ≡ Return Body → b ≡ true → not b ≡ may_merge_return (held_by j) absent
bare_body j b e f = rw (e, f) refl

pub bare_other : (j : Jump) (b : Bool) → (j ≡ Return Body → ⊥) → b ≡ false → not b ≡ may_merge_return (held_by j) absent
bare_other Throw b n f = rw f refl
bare_other (Return Body) b n f = absurd (n refl)
bare_other (Return Other) b n f = rw f refl
bare_other (Return LoopBlock) b n f = rw f refl
bare_other (Return OnceBlock) b n f = rw f refl
