-- One step of merging leading assignments.
use Rattle.std.proofs.Common.{◌≡◌, ℕ, Bool, true, false, not, ◌||◌, List, [], ◌∷◌, Option, None, Some, get_or}
use Rattle.std.proofs.Common.{sym, refl, ap, ◌∙◌, subst, arith, eq-eqb, ne_eqb}
use Rattle.std.specs.Option.{is_some, unwrap_or}
use Rattle.pool.specs.Chain.{nowhere}
use Rattle.std.proofs.lemmas.List.{get_or_past}
use Rattle.script.specs.declared.DeclarationKind.{DeclarationKind}
use Rattle.script.specs.declared.ExpressionKind.{ExpressionKind}
use Rattle.script.specs.declared.ExpressionKind.TheVariants as expression
use Rattle.script.specs.Tree.{Declarators, Expr, Exprs, assignment, call, conditional, expr_then, logical, name, no_exprs, not as negation}
use Rattle.script.specs.Tree.{number, sequence, strict_equality, void, word}
use Rattle.records.specs.declared.record.ExprRecord.{ExprRecord}
use Rattle.records.specs.declared.record.Pools.{Pools}
use Rattle.records.specs.Embedding.{declarators_row, expr_row, exprs_row}
use Rattle.records.specs.Heap.{Heap, Place, blank_expr, decl_at, expr_at}
use Rattle.records.specs.Owned.{Owns, Root, Short}
use Rattle.records.specs.Rows.{At, Row, end}
use Rattle.rules.specs.Expressions.{Assignment?, assignment?, no_assignment}
use Rattle.rules.specs.Merging.{Merge, blocked, clear, has_items, merge_assignment_to_declaration, merged}
use Rattle.moves.specs.First.{expr_kind}
use Rattle.moves.specs.Moved.{Moved}
use Rattle.records.proofs.Moves.{pick}
use Rattle.moves.proofs.ByKind.{expr_of_kind}
use Rattle.moves.proofs.Frames.{arrange, kept_both, kept_others, regroup, stays}
use Rattle.moves.proofs.Lenses.{inside_expr}
use Rattle.moves.proofs.Open.{kind_of_expr, open_expr}
use Rattle.moves.proofs.Rows.{expr_behind, expr_within}
use Rattle.merging.specs.Leading.{Step, declarators_after, has_taken, items_after, leading_step, rests, step_item, step_merged}
use Rattle.merging.specs.Searched.{is_merged, leads, merged_roots}

-- what a step did
abbrev pub Stepped : Heap → Heap → Pools → List Place → List Root → ℕ → ℕ → Option ℕ → Declarators → Exprs → Step → Type 0
Stepped h h' p' loose rest names items behind ds xs s =
    (is_some behind ≡ has_taken s)
    × Moved h h' p' loose
    ((decl_at names, declarators_row (declarators_after s ds)) ∷ (expr_at (unwrap_or behind items), exprs_row (items_after s xs)) ∷ rest)

-- a link leads to items where there are some
items_lead : (h : Heap) (i : ℕ) (xs : Exprs) → Short h → At h (expr_at i) (exprs_row xs) → leads i ≡ has_items xs
items_lead h i no_exprs s a = ap not (eq-eqb i nowhere a)
items_lead h i (expr_then x xs) s a =
    let w = expr_within h i x (exprs_row xs) a in
    ap not (ne_eqb i nowhere (λ z. let l = s.exprs in omega arith))

-- what is read where there is none is no assignment
abbrev first_kind : Exprs → ExpressionKind
first_kind no_exprs = expression.Number 0
first_kind (expr_then x xs) = expr_kind x

kind_of_first : {h : Heap} {p : Pools} {loose : List Place} {rest : List Root} {i : ℕ} (xs : Exprs)
    → Owns h p loose ((expr_at i, exprs_row xs) ∷ rest) → (get_or h.exprs i blank_expr).kind ≡ first_kind xs
kind_of_first {h} {i = i} no_exprs o =
    ap (λ (x : ExprRecord). x.kind) (get_or_past h.exprs i blank_expr (let s = o.short.exprs in let e = o.held.0 in omega arith))
kind_of_first (expr_then x xs) o = kind_of_expr x (exprs_row xs) o

no_assignment_here : (x : Expr) → ((n : ℕ) → expr_kind x ≡ expression.Assignment n → ⊥) → assignment? x ≡ no_assignment
no_assignment_here (number b) n = refl
no_assignment_here (word w) n = refl
no_assignment_here (name m) n = refl
no_assignment_here (assignment m e) n = absurd (n m refl)
no_assignment_here (call m es) n = refl
no_assignment_here (sequence e es) n = refl
no_assignment_here (conditional t a b) n = refl
no_assignment_here (logical o a b) n = refl
no_assignment_here (negation e) n = refl
no_assignment_here (void e) n = refl
no_assignment_here (strict_equality a b) n = refl

assignment_first : (xs : Exprs) (n : ℕ) → expression.Assignment n ≡ first_kind xs → (e : Expr) × (xs' : Exprs) × (xs ≡ expr_then (assignment n e) xs')
assignment_first no_exprs n k = cc
assignment_first (expr_then x xs) n k = let q = expr_of_kind x k in (q.0, xs, ap (λ (v : Expr). expr_then v xs) q.1)

-- the last item stays
wanted_rests : (h : Heap) (i : ℕ) (d : Bool) (xs : Exprs) (k : DeclarationKind) (ds : Declarators) → Short h → At h (expr_at i) (exprs_row xs)
    → (d || leads (get_or h.exprs i blank_expr).next) ≡ false → leading_step d xs k ds ≡ rests
wanted_rests h i d no_exprs k ds s a z = refl
wanted_rests h i d (expr_then x xs) k ds s a z =
    let e = items_lead h (get_or h.exprs i blank_expr).next xs s (expr_behind h i x (exprs_row xs) a) in
    ap (λ (b : Bool). step_item b (assignment? x) xs k ds) (ap (λ (b : Bool). d || b) (sym e) ∙ z)

-- what is no assignment stays
other_rests : (d : Bool) (xs : Exprs) (k : DeclarationKind) (ds : Declarators) → ((n : ℕ) → first_kind xs ≡ expression.Assignment n → ⊥)
    → leading_step d xs k ds ≡ rests
other_rests d no_exprs k ds n = refl
other_rests d (expr_then x xs) k ds n =
    ap (λ (v : Assignment? x). step_item (d || has_items xs) v xs k ds) (no_assignment_here x n) ∙ by (d || has_items xs)
  where
    by : (b : Bool) → step_item b (no_assignment {e = x}) xs k ds ≡ rests
    by true = refl
    by false = refl

-- an assignment that may go
assignment_step : (h : Heap) (i : ℕ) (d : Bool) (n : ℕ) (e : Expr) (xs : Exprs) (k : DeclarationKind) (ds : Declarators) → Short h
    → At h (expr_at i) (exprs_row (expr_then (assignment n e) xs)) → (d || leads (get_or h.exprs i blank_expr).next) ≡ true
    → leading_step d (expr_then (assignment n e) xs) k ds ≡ step_merged (merge_assignment_to_declaration k ds n e) xs
assignment_step h i d n e xs k ds s a z =
    let q = items_lead h (get_or h.exprs i blank_expr).next xs s (expr_behind h i (assignment n e) (exprs_row xs) a) in
    ap (λ (b : Bool). step_item b (assignment? (assignment n e)) xs k ds) (ap (λ (b : Bool). d || b) (sym q) ∙ z)

rested : {h h' : Heap} {p' : Pools} {loose : List Place} {rest : List Root} {names left : ℕ} (ds : Declarators) (xs : Exprs) (s : Step) → s ≡ rests
    → Moved h h' p' loose ((decl_at names, declarators_row ds) ∷ (expr_at left, exprs_row xs) ∷ rest)
    → Stepped h h' p' loose rest names left None ds xs s
rested {h} {h'} {p'} {loose} {rest} {names} {left} ds xs s e m =
    subst (λ (v : Step). Stepped h h' p' loose rest names left None ds xs v) (sym e) (refl, m)

module _ {h : Heap} {p : Pools} {loose : List Place} {rest : List Root} {names items : ℕ} (d : Bool) (k : DeclarationKind) (xs : Exprs) (ds : Declarators)
    (o : Owns h p loose ((decl_at names, declarators_row ds) ∷ (expr_at items, exprs_row xs) ∷ rest)) where
  pub step_wanted : (d || leads (get_or h.exprs items blank_expr).next) ≡ false
      → Stepped h h p loose rest names items None ds xs (leading_step d xs k ds)
  step_wanted z = rested ds xs (leading_step d xs k ds) (wanted_rests h items d xs k ds o.short o.held.1.0 z) (stays o)

  pub step_other : ((n : ℕ) → (get_or h.exprs items blank_expr).kind ≡ expression.Assignment n → ⊥)
      → Stepped h h p loose rest names items None ds xs (leading_step d xs k ds)
  step_other n =
      rested ds xs (leading_step d xs k ds) (other_rests d xs k ds (λ m z. n m (kind_of_first xs (pick 1 o) ∙ z))) (stays o)

-- what merging an assigned value promises, here to whoever owns the record of the assignment too
abbrev pub Merges : Heap → Heap → Pools → Bool → DeclarationKind → ℕ → ℕ → ℕ → Type 0
Merges h h' p b k n names value =
    (ds : Declarators) (e : Expr) (loose : List Place) (rest : List Root)
    → Owns h p loose ((decl_at names, declarators_row ds) ∷ (expr_at value, expr_row e end) ∷ rest)
    → (b ≡ is_merged (merge_assignment_to_declaration k ds n e))
    × Moved h h' p loose (merged_roots names ds value e (merge_assignment_to_declaration k ds n e) rest)

-- the assignment's record, its value and what is behind it
open_assignment : {h : Heap} {p : Pools} {loose : List Place} {rest : List Root} {names items : ℕ} (ds : Declarators) (n : ℕ) (e : Expr) (w : Row)
    → Owns h p loose ((decl_at names, declarators_row ds) ∷ (expr_at items, expr_row (assignment n e) w) ∷ rest)
    → Owns h p (expr_at items ∷ loose)
    ((decl_at names, declarators_row ds) ∷ (expr_at (get_or h.exprs items blank_expr).first, expr_row e end)
    ∷ (expr_at (get_or h.exprs items blank_expr).next, w) ∷ rest)
open_assignment ds n e w o = arrange (2 ∷ 0 ∷ []) (open_expr (assignment n e) w (pick 1 o))

module _ {h h₁ : Heap} {p : Pools} {loose : List Place} {rest : List Root} {names items : ℕ}
    (d : Bool) (k : DeclarationKind) (n : ℕ) (xs : Exprs) (ds : Declarators)
    (is : expression.Assignment n ≡ (get_or h.exprs items blank_expr).kind)
    (may : (d || leads (get_or h.exprs items blank_expr).next) ≡ true)
    (o : Owns h p loose ((decl_at names, declarators_row ds) ∷ (expr_at items, exprs_row xs) ∷ rest)) where
  -- no declarator takes it
  pub step_refused : Merges h h₁ p false k n names (get_or h.exprs items blank_expr).first
      → Stepped h h₁ p loose rest names items None ds xs (leading_step d xs k ds)
  step_refused merges =
      let q = assignment_first xs n (is ∙ kind_of_first xs (pick 1 o)) in
      subst (λ (v : Exprs). Owns h p loose ((decl_at names, declarators_row ds) ∷ (expr_at items, exprs_row v) ∷ rest)
      → Stepped h h₁ p loose rest names items None ds v (leading_step d v k ds))
      (sym q.2) (by q.0 q.1) o
    where
      none : (g : Merge) (e : Expr) (w : Row) (loose' : List Place) → false ≡ is_merged g
          → Moved h h₁ p loose'
          (merged_roots names ds (get_or h.exprs items blank_expr).first e g ((expr_at (get_or h.exprs items blank_expr).next, w) ∷ rest))
          → Moved h h₁ p loose' ((expr_at (get_or h.exprs items blank_expr).first, expr_row e end) ∷ (expr_at (get_or h.exprs items blank_expr).next, w)
          ∷ (decl_at names, declarators_row ds) ∷ rest)
      none (merged ds') e w loose' z m = cc
      none blocked e w loose' z m = regroup m (λ o₁. arrange (1 ∷ 1 ∷ []) o₁)
      none clear e w loose' z m = regroup m (λ o₁. arrange (1 ∷ 1 ∷ []) o₁)

      rests_so : (g : Merge) (ys : Exprs) → false ≡ is_merged g → step_merged g ys ≡ rests
      rests_so (merged ds') ys z = cc
      rests_so blocked ys z = refl
      rests_so clear ys z = refl

      by : (e : Expr) (xs' : Exprs)
          → Owns h p loose ((decl_at names, declarators_row ds) ∷ (expr_at items, exprs_row (expr_then (assignment n e) xs')) ∷ rest)
          → Stepped h h₁ p loose rest names items None ds (expr_then (assignment n e) xs') (leading_step d (expr_then (assignment n e) xs') k ds)
      by e xs' o₀ =
          let g = merge_assignment_to_declaration k ds n e in
          let c = merges ds e (expr_at items ∷ loose) ((expr_at (get_or h.exprs items blank_expr).next, exprs_row xs') ∷ rest)
          (open_assignment ds n e (exprs_row xs') o₀) in
          let m = inside_expr (assignment n e) (assignment n e) (exprs_row xs') (exprs_row xs') refl (pick 1 o₀)
          (λ o₁. none g e (exprs_row xs') (expr_at items ∷ loose) c.0 c.1) in
          rested ds (expr_then (assignment n e) xs') (leading_step d (expr_then (assignment n e) xs') k ds)
          (assignment_step h items d n e xs' k ds o₀.short o₀.held.1.0 may ∙ rests_so g xs' c.0)
          (regroup m (λ o₂. pick 1 o₂))

  -- one took it, and the assignment's record was given back
  pub step_taken : {h₂ : Heap} {p₂ : Pools} → Merges h h₁ p true k n names (get_or h.exprs items blank_expr).first
      → ((roots : List Root) → Owns h₁ p (expr_at items ∷ loose) roots → Moved h₁ h₂ p₂ loose roots)
      → Stepped h h₂ p₂ loose rest names items (Some (get_or h.exprs items blank_expr).next) ds xs (leading_step d xs k ds)
  step_taken {h₂} {p₂} merges gives =
      let q = assignment_first xs n (is ∙ kind_of_first xs (pick 1 o)) in
      subst (λ (v : Exprs). Owns h p loose ((decl_at names, declarators_row ds) ∷ (expr_at items, exprs_row v) ∷ rest)
      → Stepped h h₂ p₂ loose rest names items (Some (get_or h.exprs items blank_expr).next) ds v (leading_step d v k ds))
      (sym q.2) (by q.0 q.1) o
    where
      takes_so : (g : Merge) (e : Expr) (xs' : Exprs) (ys : Exprs) → true ≡ is_merged g
          → Moved h h₁ p (expr_at items ∷ loose)
          (merged_roots names ds (get_or h.exprs items blank_expr).first e g ((expr_at (get_or h.exprs items blank_expr).next, exprs_row xs') ∷ rest))
          → Stepped h h₂ p₂ loose rest names items (Some (get_or h.exprs items blank_expr).next) ds ys (step_merged g xs')
      takes_so (merged ds') e xs' ys z m =
          let w = gives _ m.owned in (refl, record { owned = w.owned; kept = kept_both (kept_others m.kept) w.kept })
      takes_so blocked e xs' ys z m = cc
      takes_so clear e xs' ys z m = cc

      by : (e : Expr) (xs' : Exprs)
          → Owns h p loose ((decl_at names, declarators_row ds) ∷ (expr_at items, exprs_row (expr_then (assignment n e) xs')) ∷ rest)
          → Stepped h h₂ p₂ loose rest names items (Some (get_or h.exprs items blank_expr).next) ds (expr_then (assignment n e) xs')
          (leading_step d (expr_then (assignment n e) xs') k ds)
      by e xs' o₀ =
          let g = merge_assignment_to_declaration k ds n e in
          let c = merges ds e (expr_at items ∷ loose) ((expr_at (get_or h.exprs items blank_expr).next, exprs_row xs') ∷ rest)
          (open_assignment ds n e (exprs_row xs') o₀) in
          subst (λ (s : Step). Stepped h h₂ p₂ loose rest names items (Some (get_or h.exprs items blank_expr).next) ds (expr_then (assignment n e) xs') s)
          (sym (assignment_step h items d n e xs' k ds o₀.short o₀.held.1.0 may)) (takes_so g e xs' (expr_then (assignment n e) xs') c.0 c.1)
