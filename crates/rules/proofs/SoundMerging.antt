-- The rules that merge with the newest results break no rule of feeding.
use Rattle.std.proofs.Common.{◌≡◌, ℕ, suc, ◌≤◌, Bool, true, false, cond, ◌||◌, T, eqb, sym, refl, ap, subst, arith}
use Rattle.script.specs.declared.DeclarationKind.{DeclarationKind}
use Rattle.script.specs.declared.DeclarationKind.TheVariants.{Var, Let, Const}
use Rattle.script.specs.Sound.{SoundStmts, SoundOptional, SoundExpr, count_declarators, SoundDeclarators, SoundExprs, SoundDeclaration}
use Rattle.script.specs.Stacks.{all_valued, sound_declaration}
use Rattle.script.specs.Tree.{Stmts, Expr, Declarators, declarator_then, absent, present, OptionalExpr, no_declarators, Exprs, expr_then}
use Rattle.script.specs.Tree.{assignment, no_exprs}
use Rattle.rules.specs.Equal.{same_kind, same_kind_is}
use Rattle.rules.specs.Literals.{is_literal_value}
use Rattle.rules.specs.Expressions.{Assignment?, is_assignment, no_assignment, assignment?, Sequence?, is_sequence, no_sequence, sequence?}
use Rattle.rules.specs.Merging.{Worked, LastExpression?, push_expression_as, last_expression, no_last_expression}
use Rattle.rules.specs.Merging.{push_new_expression_stmt_to_result, last_expression?, merge_last_expression_as, Merge, merged, blocked, clear}
use Rattle.rules.specs.Merging.{merge_in_declarator, mergeable, merge_in_later_or, merge_into_declarators, Leading, merge_leading_after}
use Rattle.rules.specs.Merging.{merge_leading_item, merge_assignment_to_declaration, merge_leading, has_items, sequence_of_items, items_of}
use Rattle.rules.specs.Merging.{LastDeclaration?, merge_leading_assignments_as, last_declaration, no_last_declaration}
use Rattle.rules.specs.Merging.{merge_leading_assignments_to_declaration, last_declaration?, next_work, merge_last_expression_into_sequence}
use Rattle.rules.specs.Merging.{push_optional_expression, handle_expression_statement}
use Rattle.rules.specs.Returns.{value_or_void_0}
use Rattle.rules.specs.Declarations.{append_declarators, join_declarations_as, join_declarations, handle_variable_declaration}
use Rattle.rules.proofs.SoundExpressions.{join_sequence_sound, value_or_void_0_sound}

pub either_sound : (b : Bool) (xs ys : Stmts) → SoundStmts xs → SoundStmts ys → SoundStmts (cond b xs ys)
either_sound true xs ys p q = p
either_sound false xs ys p q = q

abbrev pub SoundWorked : Worked → Type 0
SoundWorked w = SoundOptional w.target × SoundStmts w.results

push_expression_as_sound : {r : Stmts} (v : LastExpression? r) (e : Expr) → SoundExpr e → SoundStmts r
    → SoundStmts (push_expression_as v e)
push_expression_as_sound (last_expression a r) e p q = (join_sequence_sound a e q.0 p, q.1)
push_expression_as_sound no_last_expression e p q = (p, q)

pub push_new_expression_sound : (s : Bool) (e : Expr) (r : Stmts) → SoundExpr e → SoundStmts r
    → SoundStmts (push_new_expression_stmt_to_result s e r)
push_new_expression_sound s e r p q = push_expression_as_sound (last_expression? s r) e p q

pub merge_last_sound : {r : Stmts} (v : LastExpression? r) (e : Expr) → SoundExpr e → SoundStmts r
    → SoundWorked (merge_last_expression_as v e)
merge_last_sound (last_expression a r) e p q = (join_sequence_sound a e q.0 p, q.1)
merge_last_sound no_last_expression e p q = (p, q)

-- an assignment merged into declarators

abbrev MergeSound : Declarators → Merge → Type 0
MergeSound ds (merged ds') =
    (count_declarators ds' ≡ count_declarators ds) × (all_valued ds ≡ true → all_valued ds' ≡ true) × SoundDeclarators ds'
MergeSound ds blocked = Unit {0}
MergeSound ds clear = Unit {0}

merged_sound : (b : Bool) (m : ℕ) (e : Expr) (ds : Declarators) → SoundExpr e → SoundDeclarators ds
    → MergeSound (declarator_then m absent ds) (cond b (merged (declarator_then m (present e) ds)) blocked)
merged_sound true m e ds p q = (refl, (λ h. absurd (subst T (sym h) tt)), (p, q))
merged_sound false m e ds p q = tt

merge_in_declarator_sound : (k : DeclarationKind) (l : Bool) (n : ℕ) (e : Expr) (b : Bool) (m : ℕ) (v : OptionalExpr) (ds : Declarators)
    → SoundExpr e → SoundDeclarators ds → MergeSound (declarator_then m v ds) (merge_in_declarator k l n e b m v ds)
merge_in_declarator_sound k l n e b m (present x) ds p q = tt
merge_in_declarator_sound k l n e true m absent ds p q = merged_sound (mergeable k l) m e ds p q
merge_in_declarator_sound Var l n e false m absent ds p q = tt
merge_in_declarator_sound Let l n e false m absent ds p q = tt
merge_in_declarator_sound Const l n e false m absent ds p q = tt

valued_later : (m : ℕ) (v : OptionalExpr) (ds ds' : Declarators) → (all_valued ds ≡ true → all_valued ds' ≡ true)
    → all_valued (declarator_then m v ds) ≡ true → all_valued (declarator_then m v ds') ≡ true
valued_later m absent ds ds' f h = h
valued_later m (present e) ds ds' f h = f h

merge_in_later_or_sound : (m : ℕ) (v : OptionalExpr) (ds : Declarators) (later here : Merge) → SoundOptional v
    → MergeSound ds later → MergeSound (declarator_then m v ds) here
    → MergeSound (declarator_then m v ds) (merge_in_later_or later m v here)
merge_in_later_or_sound m v ds (merged ds') here p h g = (ap suc h.0, valued_later m v ds ds' h.1, (p, h.2))
merge_in_later_or_sound m v ds blocked here p h g = tt
merge_in_later_or_sound m v ds clear here p h g = g

merge_into_declarators_sound : (k : DeclarationKind) (l : Bool) (n : ℕ) (e : Expr) (ds : Declarators) → SoundExpr e → SoundDeclarators ds
    → MergeSound ds (merge_into_declarators k l n e ds)
merge_into_declarators_sound k l n e no_declarators p q = tt
merge_into_declarators_sound k l n e (declarator_then m v ds) p q =
    merge_in_later_or_sound m v ds (merge_into_declarators k l n e ds) (merge_in_declarator k l n e (eqb m n) m v ds) q.0
    (merge_into_declarators_sound k l n e ds p q.1) (merge_in_declarator_sound k l n e (eqb m n) m v ds p q.1)

valued_kind : (k : DeclarationKind) (ds ds' : Declarators) → (all_valued ds ≡ true → all_valued ds' ≡ true)
    → sound_declaration k ds ≡ true → sound_declaration k ds' ≡ true
valued_kind Var ds ds' f h = refl
valued_kind Let ds ds' f h = refl
valued_kind Const ds ds' f h = f h

abbrev LeadingSound : DeclarationKind → Leading → Type 0
LeadingSound k l = SoundExprs l.items × SoundDeclaration k l.declarators

merge_leading_after_sound : (k : DeclarationKind) (m : Merge) (xs ys : Exprs) (ds : Declarators) (f : Declarators → Leading)
    → MergeSound ds m → SoundExprs xs → SoundDeclaration k ds
    → ((ds' : Declarators) → SoundDeclaration k ds' → LeadingSound k (f ds')) → LeadingSound k (merge_leading_after m xs ds f)
merge_leading_after_sound k (merged ds') xs ys ds f h p q g =
    g ds' (subst (λ (n : ℕ). 1 ≤ n) (sym h.0) q.0, valued_kind k ds ds' h.1 q.1, h.2)
merge_leading_after_sound k blocked xs ys ds f h p q g = (p, q)
merge_leading_after_sound k clear xs ys ds f h p q g = (p, q)

merge_leading_item_sound : (c : Bool) {x : Expr} (a : Assignment? x) (xs : Exprs) (k : DeclarationKind) (ds : Declarators)
    (f : Declarators → Leading)
    → SoundExpr x → SoundExprs xs → SoundDeclaration k ds
    → ((ds' : Declarators) → SoundDeclaration k ds' → LeadingSound k (f ds')) → LeadingSound k (merge_leading_item c a xs k ds f)
merge_leading_item_sound false a xs k ds f p q r g = ((p, q), r)
merge_leading_item_sound true (is_assignment n e) xs k ds f p q r g =
    merge_leading_after_sound k (merge_assignment_to_declaration k ds n e) (expr_then (assignment n e) xs) xs ds f
    (merge_into_declarators_sound k (is_literal_value e) n e ds p r.2) (p, q) r g
merge_leading_item_sound true no_assignment xs k ds f p q r g = ((p, q), r)

merge_leading_sound : (d : Bool) (xs : Exprs) (k : DeclarationKind) (ds : Declarators) → SoundExprs xs → SoundDeclaration k ds
    → LeadingSound k (merge_leading d xs k ds)
merge_leading_sound d no_exprs k ds p q = (tt, q)
merge_leading_sound d (expr_then x xs) k ds p q =
    merge_leading_item_sound (d || has_items xs) (assignment? x) xs k ds (λ ds'. merge_leading d xs k ds') p.0 p.1 q
    (λ ds' r. merge_leading_sound d xs k ds' p.1 r)

sequence_of_items_sound : (xs : Exprs) → SoundExprs xs → SoundOptional (sequence_of_items xs)
sequence_of_items_sound no_exprs p = tt
sequence_of_items_sound (expr_then e no_exprs) p = p.0
sequence_of_items_sound (expr_then e (expr_then x xs)) p = (omega arith, p.0, p.1)

items_of_sound : {e : Expr} (v : Sequence? e) → SoundExpr e → SoundExprs (items_of v)
items_of_sound (is_sequence e es) p = (p.1, p.2)
items_of_sound no_sequence p = (p, tt)

merge_leading_as_sound : {r : Stmts} (v : LastDeclaration? r) (d : Bool) (e : Expr) → SoundExpr e → SoundStmts r
    → SoundWorked (merge_leading_assignments_as v d e)
merge_leading_as_sound (last_declaration k ds r) d e p q =
    let l : Leading = merge_leading d (items_of (sequence? e)) k ds in
    let h : LeadingSound k l = merge_leading_sound d (items_of (sequence? e)) k ds (items_of_sound (sequence? e) p) q.0 in
    (sequence_of_items_sound l.items h.0, (h.1, q.1))
merge_leading_as_sound no_last_declaration d e p q = (p, q)

pub merge_leading_assignments_sound : (d : Bool) (e : Expr) (r : Stmts) → SoundExpr e → SoundStmts r
    → SoundWorked (merge_leading_assignments_to_declaration d e r)
merge_leading_assignments_sound d e r p q = merge_leading_as_sound (last_declaration? r) d e p q

pub next_work_sound : (p : OptionalExpr) (r : Stmts) (f : Expr → Stmts → Worked)
    → ((e : Expr) (r₁ : Stmts) → SoundExpr e → SoundStmts r₁ → SoundWorked (f e r₁))
    → SoundOptional p → SoundStmts r → SoundWorked (next_work p r f)
next_work_sound absent r f h p q = (tt, q)
next_work_sound (present e) r f h p q = h e r p q

-- first the last expression, then the leading assignments
pub merged_worked_sound : (s d : Bool) (e : Expr) (r : Stmts) → SoundExpr e → SoundStmts r
    → SoundWorked (next_work (merge_last_expression_into_sequence s e r).target (merge_last_expression_into_sequence s e r).results
    (λ e₁ r₁. merge_leading_assignments_to_declaration d e₁ r₁))
merged_worked_sound s d e r p q =
    let m : Worked = merge_last_expression_into_sequence s e r in
    let h : SoundWorked m = merge_last_sound (last_expression? s r) e p q in
    next_work_sound m.target m.results (λ e₁ r₁. merge_leading_assignments_to_declaration d e₁ r₁) (merge_leading_assignments_sound d)
    h.0 h.1

push_optional_expression_sound : (p : OptionalExpr) (r : Stmts) → SoundOptional p → SoundStmts r
    → SoundStmts (push_optional_expression p r)
push_optional_expression_sound absent r p q = q
push_optional_expression_sound (present e) r p q = (p, q)

pub handle_expression_statement_sound : (s : Bool) (e : Expr) (r : Stmts) → SoundExpr e → SoundStmts r
    → SoundStmts (handle_expression_statement s e r)
handle_expression_statement_sound s e r p q =
    let m : Worked = merge_last_expression_into_sequence s e r in
    let w : Worked = next_work m.target m.results (λ e₁ r₁. merge_leading_assignments_to_declaration true e₁ r₁) in
    let h : SoundWorked w = merged_worked_sound s true e r p q in
    push_optional_expression_sound w.target w.results h.0 h.1

-- declarations

append_declarators_some : (ds₁ ds₂ : Declarators) → 1 ≤ count_declarators ds₁ → 1 ≤ count_declarators (append_declarators ds₁ ds₂)
append_declarators_some no_declarators ds₂ n = absurd (omega arith)
append_declarators_some (declarator_then m v ds₁) ds₂ n = omega arith

append_declarators_sound : (ds₁ ds₂ : Declarators) → SoundDeclarators ds₁ → SoundDeclarators ds₂
    → SoundDeclarators (append_declarators ds₁ ds₂)
append_declarators_sound no_declarators ds₂ p q = q
append_declarators_sound (declarator_then n v ds₁) ds₂ p q = (p.0, append_declarators_sound ds₁ ds₂ p.1 q)

append_declarators_valued : (ds₁ ds₂ : Declarators) → all_valued ds₁ ≡ true → all_valued ds₂ ≡ true
    → all_valued (append_declarators ds₁ ds₂) ≡ true
append_declarators_valued no_declarators ds₂ p q = q
append_declarators_valued (declarator_then n absent ds₁) ds₂ p q = p
append_declarators_valued (declarator_then n (present e) ds₁) ds₂ p q = append_declarators_valued ds₁ ds₂ p q

append_declarators_kind : (k : DeclarationKind) (ds₁ ds₂ : Declarators) → sound_declaration k ds₁ ≡ true → sound_declaration k ds₂ ≡ true
    → sound_declaration k (append_declarators ds₁ ds₂) ≡ true
append_declarators_kind Var ds₁ ds₂ p q = refl
append_declarators_kind Let ds₁ ds₂ p q = refl
append_declarators_kind Const ds₁ ds₂ p q = append_declarators_valued ds₁ ds₂ p q

pub append_declaration_sound : (k : DeclarationKind) (ds₁ ds₂ : Declarators) → SoundDeclaration k ds₁ → SoundDeclaration k ds₂
    → SoundDeclaration k (append_declarators ds₁ ds₂)
append_declaration_sound k ds₁ ds₂ p q = (
  append_declarators_some ds₁ ds₂ p.0,
  append_declarators_kind k ds₁ ds₂ p.1 q.1,
  append_declarators_sound ds₁ ds₂ p.2
      q.2,
)

join_declarations_as_sound : (b : Bool) (k₀ : DeclarationKind) (ds₀ : Declarators) (k : DeclarationKind) (ds : Declarators) (r : Stmts)
    → (T b → k₀ ≡ k) → SoundDeclaration k₀ ds₀ → SoundDeclaration k ds → SoundStmts r
    → SoundStmts (join_declarations_as b k₀ ds₀ k ds r)
join_declarations_as_sound true k₀ ds₀ k ds r e p q s =
    (append_declaration_sound k₀ ds₀ ds p (subst (λ (x : DeclarationKind). SoundDeclaration x ds) (sym (e tt)) q), s)
join_declarations_as_sound false k₀ ds₀ k ds r e p q s = (q, (p, s))

join_declarations_sound : (j : Bool) (k : DeclarationKind) (ds : Declarators) {r : Stmts} (v : LastDeclaration? r)
    → SoundDeclaration k ds → SoundStmts r → SoundStmts (join_declarations j k ds v)
join_declarations_sound true k ds (last_declaration k₀ ds₀ r) p q =
    join_declarations_as_sound (same_kind k₀ k) k₀ ds₀ k ds r (same_kind_is k₀ k) q.0 p q.1
join_declarations_sound true k ds no_last_declaration p q = (p, q)
join_declarations_sound false k ds v p q = (p, q)

valued_again : (k : DeclarationKind) (n : ℕ) (e e' : Expr) (ds : Declarators)
    → sound_declaration k (declarator_then n (present e) ds) ≡ true
    → sound_declaration k (declarator_then n (present e') ds) ≡ true
valued_again Var n e e' ds h = refl
valued_again Let n e e' ds h = refl
valued_again Const n e e' ds h = h

pub handle_variable_declaration_sound : (j : Bool) (k : DeclarationKind) (ds : Declarators) (r : Stmts) → SoundDeclaration k ds
    → SoundStmts r
    → SoundStmts (handle_variable_declaration j k ds r)
handle_variable_declaration_sound j k no_declarators r p q = join_declarations_sound j k no_declarators (last_declaration? r) p q
handle_variable_declaration_sound j k (declarator_then n absent ds) r p q =
    join_declarations_sound j k (declarator_then n absent ds) (last_declaration? r) p q
handle_variable_declaration_sound j k (declarator_then n (present e) ds) r p q =
    let w : Worked = merge_leading_assignments_to_declaration false e r in
    let h : SoundWorked w = merge_leading_assignments_sound false e r p.2.0 q in
    join_declarations_sound j k (declarator_then n (present (value_or_void_0 w.target)) ds) (last_declaration? w.results)
    (p.0, valued_again k n e (value_or_void_0 w.target) ds p.1, (value_or_void_0_sound w.target h.0, p.2.1)) h.1
