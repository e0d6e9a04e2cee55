-- The rules that merge with the newest results leave them as they are or make them lighter.
use Rattle.std.proofs.Common.{◌≡◌, ℕ, ◌+◌, ◌<◌, ◌≤◌, Bool, true, false, cond, ◌||◌, T, eqb, ◌⊎◌, sym, refl, ap, subst, inl, inr, arith}
use Rattle.script.specs.declared.DeclarationKind.{DeclarationKind}
use Rattle.script.specs.declared.DeclarationKind.TheVariants.{Var, Let, Const}
use Rattle.script.specs.Sound.{records_expr, records_optional}
use Rattle.script.specs.Tree.{Stmts, Expr, Declarators, declarator_then, absent, present, OptionalExpr, no_declarators, Exprs, expr_then}
use Rattle.script.specs.Tree.{assignment, no_exprs, stmt_then, expression, declaration}
use Rattle.rules.specs.Equal.{same_kind}
use Rattle.rules.specs.Literals.{is_literal_value}
use Rattle.rules.specs.Expressions.{Assignment?, is_assignment, no_assignment, assignment?, Sequence?, is_sequence, no_sequence, sequence?}
use Rattle.rules.specs.Expressions.{join_sequence}
use Rattle.rules.specs.Merging.{Worked, LastExpression?, push_expression_as, last_expression, no_last_expression}
use Rattle.rules.specs.Merging.{push_new_expression_stmt_to_result, last_expression?, merge_last_expression_as, Merge, merged, blocked, clear}
use Rattle.rules.specs.Merging.{merge_in_declarator, mergeable, merge_in_later_or, merge_into_declarators, Leading, merge_leading_after}
use Rattle.rules.specs.Merging.{merge_leading_item, merge_assignment_to_declaration, merge_leading, has_items, sequence_of_items, items_of}
use Rattle.rules.specs.Merging.{LastDeclaration?, merge_leading_assignments_as, last_declaration, no_last_declaration, put_leading_back}
use Rattle.rules.specs.Merging.{merge_leading_assignments_to_declaration, last_declaration?, next_work, merge_last_expression_into_sequence}
use Rattle.rules.specs.Merging.{push_optional_expression, push_worked, handle_expression_statement}
use Rattle.rules.specs.Returns.{value_or_void_0}
use Rattle.rules.specs.Declarations.{append_declarators, join_declarations_as, join_declarations, handle_variable_declaration}
use Rattle.rules.specs.Weight.{weight, weight_of_declarators}
use Rattle.rules.proofs.WeightExpressions.{join_sequence_records}

-- the same list, or one of less weight
abbrev pub Sinks : Stmts → Stmts → Type 0
Sinks a b = (a ≡ b) ⊎ (weight a < weight b)

pub sinks_below : (a b : Stmts) → Sinks a b → weight a ≤ weight b
sinks_below a b (inl e) = let h : weight a ≡ weight b = ap weight e in omega arith
sinks_below a b (inr l) = omega arith

pub sinks_then : (a b c : Stmts) → Sinks a b → Sinks b c → Sinks a c
sinks_then a b c (inl e) q = subst (λ (x : Stmts). Sinks x c) (sym e) q
sinks_then a b c (inr l) q = let h = sinks_below b c q in inr (omega arith)

pub either_sinks : (b : Bool) (xs ys zs : Stmts) → Sinks xs zs → Sinks ys zs → Sinks (cond b xs ys) zs
either_sinks true xs ys zs p q = p
either_sinks false xs ys zs p q = q

-- what a target comes to: if it may be absent then all of it is gone, else a value stands for it
abbrev pub target_records : Bool → OptionalExpr → ℕ
target_records true p = records_optional p
target_records false p = records_expr (value_or_void_0 p)

abbrev pub worked_as : Expr → Stmts → Worked
worked_as e r = record { target = present e; results = r }

abbrev pub WorkedSinks : Bool → Worked → Expr → Stmts → Type 0
WorkedSinks d w e r = (w ≡ worked_as e r) ⊎ (target_records d w.target + weight w.results < records_expr e + weight r)

push_expression_as_sinks : {r : Stmts} (v : LastExpression? r) (e : Expr) → Sinks (push_expression_as v e) (stmt_then (expression e) r)
push_expression_as_sinks (last_expression a r) e = let h = join_sequence_records a e in inr (omega arith)
push_expression_as_sinks no_last_expression e = inl refl

pub push_new_expression_sinks : (q : Bool) (e : Expr) (r : Stmts)
    → Sinks (push_new_expression_stmt_to_result q e r) (stmt_then (expression e) r)
push_new_expression_sinks q e r = push_expression_as_sinks (last_expression? q r) e

present_records : (d : Bool) (e : Expr) → target_records d (present e) ≡ records_expr e
present_records true e = refl
present_records false e = refl

pub merge_last_sinks : (d : Bool) {r : Stmts} (v : LastExpression? r) (e : Expr) → WorkedSinks d (merge_last_expression_as v e) e r
merge_last_sinks d (last_expression a r) e =
    let h = join_sequence_records a e in let k = present_records d (join_sequence a e) in inr (omega arith)
merge_last_sinks d no_last_expression e = inl refl

-- an assignment merged into declarators

abbrev MergeAdds : ℕ → Declarators → Merge → Type 0
MergeAdds n ds (merged ds') = weight_of_declarators ds' ≡ weight_of_declarators ds + n
MergeAdds n ds blocked = Unit {0}
MergeAdds n ds clear = Unit {0}

merged_adds : (b : Bool) (m : ℕ) (e : Expr) (ds : Declarators)
    → MergeAdds (records_expr e) (declarator_then m absent ds) (cond b (merged (declarator_then m (present e) ds)) blocked)
merged_adds true m e ds = omega arith
merged_adds false m e ds = tt

merge_in_declarator_adds : (k : DeclarationKind) (l : Bool) (n : ℕ) (e : Expr) (b : Bool) (m : ℕ) (v : OptionalExpr) (ds : Declarators)
    → MergeAdds (records_expr e) (declarator_then m v ds) (merge_in_declarator k l n e b m v ds)
merge_in_declarator_adds k l n e b m (present x) ds = tt
merge_in_declarator_adds k l n e true m absent ds = merged_adds (mergeable k l) m e ds
merge_in_declarator_adds Var l n e false m absent ds = tt
merge_in_declarator_adds Let l n e false m absent ds = tt
merge_in_declarator_adds Const l n e false m absent ds = tt

merge_in_later_or_adds : (i m : ℕ) (v : OptionalExpr) (ds : Declarators) (later here : Merge) → MergeAdds i ds later
    → MergeAdds i (declarator_then m v ds) here
    → MergeAdds i (declarator_then m v ds) (merge_in_later_or later m v here)
merge_in_later_or_adds i m v ds (merged ds') here h g = omega arith
merge_in_later_or_adds i m v ds blocked here h g = tt
merge_in_later_or_adds i m v ds clear here h g = g

merge_into_declarators_adds : (k : DeclarationKind) (l : Bool) (n : ℕ) (e : Expr) (ds : Declarators)
    → MergeAdds (records_expr e) ds (merge_into_declarators k l n e ds)
merge_into_declarators_adds k l n e no_declarators = tt
merge_into_declarators_adds k l n e (declarator_then m v ds) =
    merge_in_later_or_adds (records_expr e) m v ds (merge_into_declarators k l n e ds) (merge_in_declarator k l n e (eqb m n) m v ds)
    (merge_into_declarators_adds k l n e ds) (merge_in_declarator_adds k l n e (eqb m n) m v ds)

-- the leading assignments

abbrev items_records : Bool → Exprs → ℕ
items_records d xs = target_records d (sequence_of_items xs)

abbrev LeadingSinks : Bool → Leading → Exprs → Declarators → Type 0
LeadingSinks d l xs ds =
    (l ≡ record { items = xs; declarators = ds })
    ⊎ (items_records d l.items + weight_of_declarators l.declarators < items_records d xs + weight_of_declarators ds)

leading_below : (d : Bool) (l : Leading) (xs : Exprs) (ds : Declarators) → LeadingSinks d l xs ds
    → items_records d l.items + weight_of_declarators l.declarators ≤ items_records d xs + weight_of_declarators ds
leading_below d l xs ds (inl e) =
    let h : items_records d l.items + weight_of_declarators l.declarators ≡ items_records d xs + weight_of_declarators ds =
    ap (λ (k : Leading). items_records d k.items + weight_of_declarators k.declarators) e in
    omega arith
leading_below d l xs ds (inr h) = omega arith

-- an item that is taken counts one more than its value
taken_item_lighter : (d : Bool) (n : ℕ) (e : Expr) (xs : Exprs) → T (d || has_items xs)
    → items_records d xs + records_expr e < items_records d (expr_then (assignment n e) xs)
taken_item_lighter true n e no_exprs t = omega arith
taken_item_lighter true n e (expr_then x no_exprs) t = omega arith
taken_item_lighter true n e (expr_then x (expr_then y ys)) t = omega arith
taken_item_lighter false n e no_exprs t = absurd t
taken_item_lighter false n e (expr_then x no_exprs) t = omega arith
taken_item_lighter false n e (expr_then x (expr_then y ys)) t = omega arith

merge_leading_after_sinks : (d : Bool) (n : ℕ) (e : Expr) (m : Merge) (xs : Exprs) (ds : Declarators) (f : Declarators → Leading)
    → T (d || has_items xs)
    → MergeAdds (records_expr e) ds m
    → ((ds' : Declarators) → LeadingSinks d (f ds') xs ds')
    → LeadingSinks d (merge_leading_after m (expr_then (assignment n e) xs) ds f) (expr_then (assignment n e) xs) ds
merge_leading_after_sinks d n e (merged ds') xs ds f t h g =
    let i = taken_item_lighter d n e xs t in let j = leading_below d (f ds') xs ds' (g ds') in inr (omega arith)
merge_leading_after_sinks d n e blocked xs ds f t h g = inl refl
merge_leading_after_sinks d n e clear xs ds f t h g = inl refl

merge_leading_item_sinks : (d c : Bool) {x : Expr} (a : Assignment? x) (xs : Exprs) (k : DeclarationKind) (ds : Declarators)
    (f : Declarators → Leading)
    → (T c → T (d || has_items xs))
    → ((ds' : Declarators) → LeadingSinks d (f ds') xs ds') → LeadingSinks d (merge_leading_item c a xs k ds f) (expr_then x xs) ds
merge_leading_item_sinks d false a xs k ds f t g = inl refl
merge_leading_item_sinks d true (is_assignment n e) xs k ds f t g =
    merge_leading_after_sinks d n e (merge_assignment_to_declaration k ds n e) xs ds f (t tt)
    (merge_into_declarators_adds k (is_literal_value e) n e ds) g
merge_leading_item_sinks d true no_assignment xs k ds f t g = inl refl

merge_leading_sinks : (d : Bool) (xs : Exprs) (k : DeclarationKind) (ds : Declarators) → LeadingSinks d (merge_leading d xs k ds) xs ds
merge_leading_sinks d no_exprs k ds = inl refl
merge_leading_sinks d (expr_then x xs) k ds =
    merge_leading_item_sinks d (d || has_items xs) (assignment? x) xs k ds (λ ds'. merge_leading d xs k ds') (λ t. t)
    (λ ds'. merge_leading_sinks d xs k ds')

-- items put back as they are make the same expression, or a shorter one where a sequence had one item
items_back : (d : Bool) {e : Expr} (v : Sequence? e)
    → (sequence_of_items (items_of v) ≡ present e) ⊎ (items_records d (items_of v) < records_expr e)
items_back true (is_sequence e no_exprs) = inr (omega arith)
items_back false (is_sequence e no_exprs) = inr (omega arith)
items_back d (is_sequence e (expr_then x xs)) = inl refl
items_back d no_sequence = inl refl

put_leading_back_sinks : (d : Bool) (l : Leading) (xs : Exprs) (e : Expr) (k : DeclarationKind) (ds : Declarators) (r : Stmts)
    → LeadingSinks d l xs ds → (sequence_of_items xs ≡ present e) ⊎ (items_records d xs < records_expr e)
    → WorkedSinks d (put_leading_back l k r) e (stmt_then (declaration k ds) r)
put_leading_back_sinks d l xs e k ds r p (inr h) = let j = leading_below d l xs ds p in inr (omega arith)
put_leading_back_sinks d l xs e k ds r (inl p) (inl h) = inl (cc)
put_leading_back_sinks d l xs e k ds r (inr p) (inl h) =
    let j : items_records d xs ≡ target_records d (present e) = ap (λ (t : OptionalExpr). target_records d t) h in
    let i = present_records d e in inr (omega arith)

merge_leading_as_sinks : {r : Stmts} (v : LastDeclaration? r) (d : Bool) (e : Expr)
    → WorkedSinks d (merge_leading_assignments_as v d e) e r
merge_leading_as_sinks (last_declaration k ds r) d e =
    put_leading_back_sinks d (merge_leading d (items_of (sequence? e)) k ds) (items_of (sequence? e)) e k ds r
    (merge_leading_sinks d (items_of (sequence? e)) k ds) (items_back d (sequence? e))
merge_leading_as_sinks no_last_declaration d e = inl refl

pub merge_leading_assignments_sinks : (d : Bool) (e : Expr) (r : Stmts)
    → WorkedSinks d (merge_leading_assignments_to_declaration d e r) e r
merge_leading_assignments_sinks d e r = merge_leading_as_sinks (last_declaration? r) d e

-- one rule after another

worked_below : (d : Bool) (w : Worked) (e : Expr) (r : Stmts) → WorkedSinks d w e r
    → target_records d w.target + weight w.results ≤ records_expr e + weight r
worked_below d w e r (inl p) =
    let h : target_records d w.target + weight w.results ≡ target_records d (present e) + weight r =
    ap (λ (x : Worked). target_records d x.target + weight x.results) p in
    let i = present_records d e in omega arith
worked_below d w e r (inr l) = omega arith

worked_then : (d : Bool) (w : Worked) (e e₁ : Expr) (r r₁ : Stmts) → WorkedSinks d w e₁ r₁ → WorkedSinks d (worked_as e₁ r₁) e r
    → WorkedSinks d w e r
worked_then d w e e₁ r r₁ (inl p) q = subst (λ (x : Worked). WorkedSinks d x e r) (sym p) q
worked_then d w e e₁ r r₁ (inr l) q =
    let h = worked_below d (worked_as e₁ r₁) e r q in let i = present_records d e₁ in inr (omega arith)

next_work_as_sinks : (d : Bool) (p : OptionalExpr) (r₁ : Stmts) (e : Expr) (r : Stmts) (f : Expr → Stmts → Worked)
    → WorkedSinks d (record { target = p; results = r₁ }) e r → ((e₁ : Expr) (r₂ : Stmts) → WorkedSinks d (f e₁ r₂) e₁ r₂)
    → WorkedSinks d (next_work p r₁ f) e r
next_work_as_sinks d absent r₁ e r f h g = h
next_work_as_sinks d (present e₁) r₁ e r f h g = worked_then d (f e₁ r₁) e e₁ r r₁ (g e₁ r₁) h

pub next_work_sinks : (d : Bool) (w : Worked) (e : Expr) (r : Stmts) (f : Expr → Stmts → Worked)
    → WorkedSinks d w e r → ((e₁ : Expr) (r₁ : Stmts) → WorkedSinks d (f e₁ r₁) e₁ r₁)
    → WorkedSinks d (next_work w.target w.results f) e r
next_work_sinks d w e r f h g = next_work_as_sinks d w.target w.results e r f h g

pub merged_worked_sinks : (q d : Bool) (e : Expr) (r : Stmts)
    → WorkedSinks d
    (next_work (merge_last_expression_into_sequence q e r).target (merge_last_expression_into_sequence q e r).results
    (λ e₁ r₁. merge_leading_assignments_to_declaration d e₁ r₁)) e r
merged_worked_sinks q d e r =
    next_work_sinks d (merge_last_expression_into_sequence q e r) e r (λ e₁ r₁. merge_leading_assignments_to_declaration d e₁ r₁)
    (merge_last_sinks d (last_expression? q r) e) (λ e₁ r₁. merge_leading_assignments_sinks d e₁ r₁)

-- a statement around the value that was worked on
pub around_worked : (f : Expr → Stmts → Stmts) (n : ℕ) → ((e : Expr) (r : Stmts) → weight (f e r) ≡ n + (records_expr e + weight r))
    → (w : Worked) (e : Expr) (r : Stmts) → WorkedSinks false w e r → Sinks (f (value_or_void_0 w.target) w.results) (f e r)
around_worked f n h w e r (inl p) = inl (ap (λ (x : Worked). f (value_or_void_0 x.target) x.results) p)
around_worked f n h w e r (inr l) =
    let i = h (value_or_void_0 w.target) w.results in let j = h e r in inr (omega arith)

-- expression statements

push_optional_weight : (p : OptionalExpr) (r : Stmts) → weight (push_optional_expression p r) ≤ 3 + (records_optional p + weight r)
push_optional_weight absent r = omega arith
push_optional_weight (present e) r = omega arith

push_worked_sinks : (w : Worked) (e : Expr) (r : Stmts) → WorkedSinks true w e r → Sinks (push_worked w) (stmt_then (expression e) r)
push_worked_sinks w e r (inl p) = inl (ap push_worked p)
push_worked_sinks w e r (inr l) = let h = push_optional_weight w.target w.results in inr (omega arith)

pub handle_expression_statement_sinks : (q : Bool) (e : Expr) (r : Stmts)
    → Sinks (handle_expression_statement q e r) (stmt_then (expression e) r)
handle_expression_statement_sinks q e r = push_worked_sinks _ e r (merged_worked_sinks q true e r)

-- declarations

pub append_declarators_weight : (a b : Declarators)
    → weight_of_declarators (append_declarators a b) ≡ weight_of_declarators a + weight_of_declarators b
append_declarators_weight no_declarators b = omega arith
append_declarators_weight (declarator_then n v ds) b = let h = append_declarators_weight ds b in omega arith

join_declarations_as_sinks : (b : Bool) (k₀ : DeclarationKind) (ds₀ : Declarators) (k : DeclarationKind) (ds : Declarators) (r : Stmts)
    → Sinks (join_declarations_as b k₀ ds₀ k ds r) (stmt_then (declaration k ds) (stmt_then (declaration k₀ ds₀) r))
join_declarations_as_sinks true k₀ ds₀ k ds r = let h = append_declarators_weight ds₀ ds in inr (omega arith)
join_declarations_as_sinks false k₀ ds₀ k ds r = inl refl

join_declarations_sinks : (j : Bool) (k : DeclarationKind) (ds : Declarators) {r : Stmts} (v : LastDeclaration? r)
    → Sinks (join_declarations j k ds v) (stmt_then (declaration k ds) r)
join_declarations_sinks true k ds (last_declaration k₀ ds₀ r) = join_declarations_as_sinks (same_kind k₀ k) k₀ ds₀ k ds r
join_declarations_sinks true k ds no_last_declaration = inl refl
join_declarations_sinks false k ds v = inl refl

pub handle_variable_declaration_sinks : (j : Bool) (k : DeclarationKind) (ds : Declarators) (r : Stmts)
    → Sinks (handle_variable_declaration j k ds r) (stmt_then (declaration k ds) r)
handle_variable_declaration_sinks j k no_declarators r = join_declarations_sinks j k no_declarators (last_declaration? r)
handle_variable_declaration_sinks j k (declarator_then n absent ds) r =
    join_declarations_sinks j k (declarator_then n absent ds) (last_declaration? r)
handle_variable_declaration_sinks j k (declarator_then n (present e) ds) r =
    let w : Worked = merge_leading_assignments_to_declaration false e r in
    let d : Declarators = declarator_then n (present (value_or_void_0 w.target)) ds in
    sinks_then (join_declarations j k d (last_declaration? w.results)) (stmt_then (declaration k d) w.results)
    (stmt_then (declaration k (declarator_then n (present e) ds)) r) (join_declarations_sinks j k d (last_declaration? w.results))
    (around_worked (λ e₁ r₁. stmt_then (declaration k (declarator_then n (present e₁) ds)) r₁) (2 + weight_of_declarators ds)
    (λ e₁ r₁. omega arith) w e r (merge_leading_assignments_sinks false e r))
