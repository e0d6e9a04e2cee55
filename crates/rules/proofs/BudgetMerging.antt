-- The rules that merge with the newest results keep within the budget.
use Rattle.std.proofs.Common.{◌≡◌, ℕ, suc, ◌+◌, ◌≤◌, Bool, true, false, cond, ◌||◌, T, eqb, sym, refl, subst, arith}
use Rattle.script.specs.declared.DeclarationKind.{DeclarationKind}
use Rattle.script.specs.declared.DeclarationKind.TheVariants.{Var, Let, Const}
use Rattle.script.specs.Judge.{Spares}
use Rattle.script.specs.Sound.{plus, exprs_only, records_expr, records_declarators, records_exprs, records_optional, with_stmt}
use Rattle.script.specs.Tree.{Stmts, expression, Expr, Declarators, declarator_then, absent, present, OptionalExpr, no_declarators}
use Rattle.script.specs.Tree.{assignment, declaration, Exprs, expr_then, no_exprs, stmt_then}
use Rattle.rules.specs.Equal.{same_kind}
use Rattle.rules.specs.Literals.{is_literal_value}
use Rattle.rules.specs.Expressions.{Assignment?, is_assignment, no_assignment, assignment?, Sequence?, is_sequence, no_sequence, sequence?}
use Rattle.rules.specs.Merging.{push_expression_as, LastExpression?, last_expression, no_last_expression}
use Rattle.rules.specs.Merging.{push_new_expression_stmt_to_result, last_expression?, merge_last_expression_as}
use Rattle.rules.specs.Merging.{merge_last_expression_into_sequence, Merge, merged, blocked, clear, merge_in_declarator, mergeable}
use Rattle.rules.specs.Merging.{merge_in_later_or, merge_into_declarators, merge_assignment_to_declaration, Leading, merge_leading_after}
use Rattle.rules.specs.Merging.{merge_leading, merge_leading_item, has_items, sequence_of_items, items_of, LastDeclaration?}
use Rattle.rules.specs.Merging.{merge_leading_assignments_as, last_declaration, no_last_declaration}
use Rattle.rules.specs.Merging.{merge_leading_assignments_to_declaration, last_declaration?, Worked, next_work, push_optional_expression}
use Rattle.rules.specs.Merging.{handle_expression_statement}
use Rattle.rules.specs.Returns.{value_or_void_0}
use Rattle.rules.specs.Declarations.{append_declarators, join_declarations_as, join_declarations, handle_variable_declaration}
use Rattle.rules.specs.Budget.{AtMost, budget_stmts, budget_stmt, sequence_records, budget_worked, SameNumber}
use Rattle.rules.proofs.BudgetExpressions.{join_sequence_records}

pub either_budget : (b : Bool) (xs ys : Stmts) (n : Spares) → AtMost (budget_stmts xs) n → AtMost (budget_stmts ys) n
    → AtMost (budget_stmts (cond b xs ys)) n
either_budget true xs ys n p q = p
either_budget false xs ys n p q = q

pub push_expression_as_budget : {r : Stmts} (v : LastExpression? r) (e : Expr)
    → AtMost (budget_stmts (push_expression_as v e)) (plus (budget_stmt (expression e)) (budget_stmts r))
push_expression_as_budget (last_expression a r) e =
    let h = join_sequence_records a e in search arith
push_expression_as_budget no_last_expression e = search arith

pub push_new_expression_budget : (q : Bool) (e : Expr) (r : Stmts)
    → AtMost (budget_stmts (push_new_expression_stmt_to_result q e r)) (plus (budget_stmt (expression e)) (budget_stmts r))
push_new_expression_budget q e r = push_expression_as_budget (last_expression? q r) e

pub merge_last_as_budget : {r : Stmts} (v : LastExpression? r) (e : Expr)
    → AtMost (budget_worked (merge_last_expression_as v e)) (plus (exprs_only (records_expr e)) (budget_stmts r))
merge_last_as_budget (last_expression a r) e =
    let h = join_sequence_records a e in search arith
merge_last_as_budget no_last_expression e = search arith

pub merge_last_budget : (q : Bool) (e : Expr) (r : Stmts)
    → AtMost (budget_worked (merge_last_expression_into_sequence q e r)) (plus (exprs_only (records_expr e)) (budget_stmts r))
merge_last_budget q e r = merge_last_as_budget (last_expression? q r) e

-- an assignment merged into declarators

abbrev pub MergeSame : Expr → Declarators → Merge → Type 0
MergeSame e ds (merged ds') = SameNumber (records_declarators ds') (plus (exprs_only (records_expr e)) (records_declarators ds))
MergeSame e ds blocked = Unit {0}
MergeSame e ds clear = Unit {0}

pub merged_same : (b : Bool) (m : ℕ) (e : Expr) (ds : Declarators)
    → MergeSame e (declarator_then m absent ds) (cond b (merged (declarator_then m (present e) ds)) blocked)
merged_same true m e ds = search arith
merged_same false m e ds = tt

pub merge_in_declarator_same : (k : DeclarationKind) (l : Bool) (n : ℕ) (e : Expr) (b : Bool) (m : ℕ) (v : OptionalExpr) (ds : Declarators)
    → MergeSame e (declarator_then m v ds) (merge_in_declarator k l n e b m v ds)
merge_in_declarator_same k l n e b m (present x) ds = tt
merge_in_declarator_same k l n e true m absent ds = merged_same (mergeable k l) m e ds
merge_in_declarator_same Var l n e false m absent ds = tt
merge_in_declarator_same Let l n e false m absent ds = tt
merge_in_declarator_same Const l n e false m absent ds = tt

pub merge_in_later_or_same : (e : Expr) (m : ℕ) (v : OptionalExpr) (ds : Declarators) (later here : Merge)
    → MergeSame e ds later → MergeSame e (declarator_then m v ds) here
    → MergeSame e (declarator_then m v ds) (merge_in_later_or later m v here)
merge_in_later_or_same e m v ds (merged ds') here h g = search arith
merge_in_later_or_same e m v ds blocked here h g = tt
merge_in_later_or_same e m v ds clear here h g = g

pub merge_into_declarators_same : (k : DeclarationKind) (l : Bool) (n : ℕ) (e : Expr) (ds : Declarators)
    → MergeSame e ds (merge_into_declarators k l n e ds)
merge_into_declarators_same k l n e no_declarators = tt
merge_into_declarators_same k l n e (declarator_then m v ds) =
    merge_in_later_or_same e m v ds (merge_into_declarators k l n e ds) (merge_in_declarator k l n e (eqb m n) m v ds)
    (merge_into_declarators_same k l n e ds) (merge_in_declarator_same k l n e (eqb m n) m v ds)

-- the declarator that takes the value, and nothing else, has more
pub merge_assignment_records : (k : DeclarationKind) (ds : Declarators) (n : ℕ) (e : Expr)
    → MergeSame e ds (merge_assignment_to_declaration k ds n e)
merge_assignment_records k ds n e = merge_into_declarators_same k (is_literal_value e) n e ds

-- leading assignments

pub record LeadingWithin (l : Leading) (xs : Exprs) (ds : Declarators) : Type 0 where
  pub records : AtMost (plus (exprs_only (records_exprs l.items)) (records_declarators l.declarators))
      (plus (exprs_only (records_exprs xs)) (records_declarators ds))
  pub sequence : sequence_records l.items ≤ sequence_records xs

pub merge_leading_after_within : (m : Merge) (n : ℕ) (e : Expr) (xs : Exprs) (ds : Declarators) (f : Declarators → Leading)
    → MergeSame e ds m → ((ds' : Declarators) → LeadingWithin (f ds') xs ds')
    → LeadingWithin (merge_leading_after m (expr_then (assignment n e) xs) ds f) (expr_then (assignment n e) xs) ds
merge_leading_after_within (merged ds') n e xs ds f h g = let w = g ds' in record { records = search arith; sequence = fewer xs w.sequence }
  where
    fewer : {j : ℕ} (ys : Exprs) → j ≤ sequence_records ys → j ≤ sequence_records (expr_then (assignment n e) ys)
    fewer no_exprs p = p
    fewer (expr_then y no_exprs) p = omega arith
    fewer (expr_then y (expr_then z zs)) p = p
merge_leading_after_within blocked n e xs ds f h g = record { records = search arith; sequence = omega arith }
merge_leading_after_within clear n e xs ds f h g = record { records = search arith; sequence = omega arith }

pub merge_leading_item_within : (c : Bool) {x : Expr} (a : Assignment? x) (xs : Exprs) (k : DeclarationKind) (ds : Declarators)
    (f : Declarators → Leading)
    → ((ds' : Declarators) → LeadingWithin (f ds') xs ds') → LeadingWithin (merge_leading_item c a xs k ds f) (expr_then x xs) ds
merge_leading_item_within false a xs k ds f g = record { records = search arith; sequence = omega arith }
merge_leading_item_within true (is_assignment n e) xs k ds f g =
    merge_leading_after_within (merge_assignment_to_declaration k ds n e) n e xs ds f (merge_assignment_records k ds n e) g
merge_leading_item_within true no_assignment xs k ds f g = record { records = search arith; sequence = omega arith }

pub merge_leading_within : (d : Bool) (xs : Exprs) (k : DeclarationKind) (ds : Declarators) → LeadingWithin (merge_leading d xs k ds) xs ds
merge_leading_within d no_exprs k ds = record { records = search arith; sequence = omega arith }
merge_leading_within d (expr_then x xs) k ds =
    merge_leading_item_within (d || has_items xs) (assignment? x) xs k ds (λ ds'. merge_leading d xs k ds')
    (λ ds'. merge_leading_within d xs k ds')

pub sequence_of_items_records : (xs : Exprs) → records_optional (sequence_of_items xs) ≡ sequence_records xs + records_exprs xs
sequence_of_items_records no_exprs = refl
sequence_of_items_records (expr_then e no_exprs) = omega arith
sequence_of_items_records (expr_then e (expr_then x xs)) = omega arith

pub items_of_records : {e : Expr} (v : Sequence? e) → sequence_records (items_of v) + records_exprs (items_of v) ≤ records_expr e
items_of_records (is_sequence e no_exprs) = omega arith
items_of_records (is_sequence e (expr_then x xs)) = omega arith
items_of_records no_sequence = omega arith

pub merge_leading_as_budget : {r : Stmts} (v : LastDeclaration? r) (d : Bool) (e : Expr)
    → AtMost (budget_worked (merge_leading_assignments_as v d e)) (plus (exprs_only (records_expr e)) (budget_stmts r))
merge_leading_as_budget (last_declaration k ds r) d e =
    let l : Leading = merge_leading d (items_of (sequence? e)) k ds in
    let w : LeadingWithin l (items_of (sequence? e)) ds = merge_leading_within d (items_of (sequence? e)) k ds in
    let a = sequence_of_items_records l.items in
    let b = items_of_records (sequence? e) in
    search arith
merge_leading_as_budget no_last_declaration d e = search arith

pub merge_leading_budget : (d : Bool) (e : Expr) (r : Stmts)
    → AtMost (budget_worked (merge_leading_assignments_to_declaration d e r)) (plus (exprs_only (records_expr e)) (budget_stmts r))
merge_leading_budget d e r = merge_leading_as_budget (last_declaration? r) d e

-- the last item stays if its value is wanted

pub merge_leading_after_keeps : (m : Merge) (x : Expr) (xs : Exprs) (ds : Declarators) (f : Declarators → Leading)
    → ((ds' : Declarators) → has_items (f ds').items ≡ true) → has_items (merge_leading_after m (expr_then x xs) ds f).items ≡ true
merge_leading_after_keeps (merged ds') x xs ds f g = g ds'
merge_leading_after_keeps blocked x xs ds f g = refl
merge_leading_after_keeps clear x xs ds f g = refl

pub merge_leading_item_keeps : (c : Bool) {x : Expr} (a : Assignment? x) (xs : Exprs) (k : DeclarationKind) (ds : Declarators)
    (f : Declarators → Leading)
    → (c ≡ true → (ds' : Declarators) → has_items (f ds').items ≡ true) → has_items (merge_leading_item c a xs k ds f).items ≡ true
merge_leading_item_keeps false a xs k ds f g = refl
merge_leading_item_keeps true (is_assignment n e) xs k ds f g =
    merge_leading_after_keeps (merge_assignment_to_declaration k ds n e) (assignment n e) xs ds f (g refl)
merge_leading_item_keeps true no_assignment xs k ds f g = refl

pub merge_leading_keeps : (xs : Exprs) (k : DeclarationKind) (ds : Declarators) → has_items xs ≡ true
    → has_items (merge_leading false xs k ds).items ≡ true
merge_leading_keeps no_exprs k ds h = h
merge_leading_keeps (expr_then x xs) k ds h =
    merge_leading_item_keeps (has_items xs) (assignment? x) xs k ds (λ ds'. merge_leading false xs k ds')
    (λ g ds'. merge_leading_keeps xs k ds' g)

value_of_items : (xs : Exprs) → has_items xs ≡ true
    → records_expr (value_or_void_0 (sequence_of_items xs)) ≡ records_optional (sequence_of_items xs)
value_of_items no_exprs h = absurd (subst T (sym h) tt)
value_of_items (expr_then e no_exprs) h = refl
value_of_items (expr_then e (expr_then x xs)) h = refl

some_items_of : {e : Expr} (v : Sequence? e) → has_items (items_of v) ≡ true
some_items_of (is_sequence e es) = refl
some_items_of no_sequence = refl

-- a worked expression whose value is wanted is there
abbrev pub ValueThere : Worked → Type 0
ValueThere w = records_expr (value_or_void_0 w.target) ≡ records_optional w.target

pub merge_leading_as_value : {r : Stmts} (v : LastDeclaration? r) (e : Expr) → ValueThere (merge_leading_assignments_as v false e)
merge_leading_as_value (last_declaration k ds r) e =
    value_of_items (merge_leading false (items_of (sequence? e)) k ds).items
    (merge_leading_keeps (items_of (sequence? e)) k ds (some_items_of (sequence? e)))
merge_leading_as_value no_last_declaration e = refl

pub merge_leading_value : (e : Expr) (r : Stmts) → ValueThere (merge_leading_assignments_to_declaration false e r)
merge_leading_value e r = merge_leading_as_value (last_declaration? r) e

pub merge_last_value : {r : Stmts} (v : LastExpression? r) (e : Expr) → ValueThere (merge_last_expression_as v e)
merge_last_value (last_expression a r) e = refl
merge_last_value no_last_expression e = refl

pub next_work_budget : (p : OptionalExpr) (r : Stmts) (f : Expr → Stmts → Worked)
    → ((e : Expr) (r₁ : Stmts) → AtMost (budget_worked (f e r₁)) (plus (exprs_only (records_expr e)) (budget_stmts r₁)))
    → AtMost (budget_worked (next_work p r f)) (plus (exprs_only (records_optional p)) (budget_stmts r))
next_work_budget absent r f h = search arith
next_work_budget (present e) r f h = h e r

pub next_work_value : (p : OptionalExpr) (r : Stmts) (f : Expr → Stmts → Worked) → records_expr (value_or_void_0 p) ≡ records_optional p
    → ((e : Expr) (r₁ : Stmts) → ValueThere (f e r₁)) → ValueThere (next_work p r f)
next_work_value absent r f h g = h
next_work_value (present e) r f h g = g e r

-- first the last expression, then the leading assignments
pub merged_budget : (q d : Bool) (e : Expr) (r : Stmts)
    → AtMost (budget_worked (next_work (merge_last_expression_into_sequence q e r).target
    (merge_last_expression_into_sequence q e r).results (λ e₁ r₁. merge_leading_assignments_to_declaration d e₁ r₁)))
    (plus (exprs_only (records_expr e)) (budget_stmts r))
merged_budget q d e r =
    let m : Worked = merge_last_expression_into_sequence q e r in
    let a = next_work_budget m.target m.results (λ e₁ r₁. merge_leading_assignments_to_declaration d e₁ r₁) (merge_leading_budget d) in
    let b = merge_last_budget q e r in
    search arith

pub merged_value : (q : Bool) (e : Expr) (r : Stmts)
    → ValueThere (next_work (merge_last_expression_into_sequence q e r).target (merge_last_expression_into_sequence q e r).results
    (λ e₁ r₁. merge_leading_assignments_to_declaration false e₁ r₁))
merged_value q e r =
    let m : Worked = merge_last_expression_into_sequence q e r in
    next_work_value m.target m.results (λ e₁ r₁. merge_leading_assignments_to_declaration false e₁ r₁)
    (merge_last_value (last_expression? q r) e) merge_leading_value

pub push_optional_expression_budget : (p : OptionalExpr) (r : Stmts)
    → AtMost (budget_stmts (push_optional_expression p r)) (plus (with_stmt (exprs_only (suc (records_optional p)))) (budget_stmts r))
push_optional_expression_budget absent r = search arith
push_optional_expression_budget (present e) r = search arith

pub handle_expression_statement_budget : (q : Bool) (e : Expr) (r : Stmts)
    → AtMost (budget_stmts (handle_expression_statement q e r)) (plus (budget_stmt (expression e)) (budget_stmts r))
handle_expression_statement_budget q e r =
    let m : Worked = merge_last_expression_into_sequence q e r in
    let w : Worked = next_work m.target m.results (λ e₁ r₁. merge_leading_assignments_to_declaration true e₁ r₁) in
    let a = push_optional_expression_budget w.target w.results in
    let b = merged_budget q true e r in
    search arith

-- declarations

pub append_declarators_records : (ds es : Declarators)
    → SameNumber (records_declarators (append_declarators ds es)) (plus (records_declarators ds) (records_declarators es))
append_declarators_records no_declarators es = search arith
append_declarators_records (declarator_then n p ds) es = let h = append_declarators_records ds es in search arith

pub join_declarations_as_budget : (b : Bool) (k₀ : DeclarationKind) (ds₀ : Declarators) (k : DeclarationKind) (ds : Declarators) (r : Stmts)
    → AtMost (budget_stmts (join_declarations_as b k₀ ds₀ k ds r))
    (plus (budget_stmt (declaration k ds)) (budget_stmts (stmt_then (declaration k₀ ds₀) r)))
join_declarations_as_budget true k₀ ds₀ k ds r = let h = append_declarators_records ds₀ ds in search arith
join_declarations_as_budget false k₀ ds₀ k ds r = search arith

pub join_declarations_budget : (j : Bool) (k : DeclarationKind) (ds : Declarators) {r : Stmts} (v : LastDeclaration? r)
    → AtMost (budget_stmts (join_declarations j k ds v)) (plus (budget_stmt (declaration k ds)) (budget_stmts r))
join_declarations_budget true k ds (last_declaration k₀ ds₀ r) = join_declarations_as_budget (same_kind k₀ k) k₀ ds₀ k ds r
join_declarations_budget true k ds no_last_declaration = search arith
join_declarations_budget false k ds v = search arith

pub handle_variable_declaration_budget : (j : Bool) (k : DeclarationKind) (ds : Declarators) (r : Stmts)
    → AtMost (budget_stmts (handle_variable_declaration j k ds r)) (plus (budget_stmt (declaration k ds)) (budget_stmts r))
handle_variable_declaration_budget j k no_declarators r = join_declarations_budget j k no_declarators (last_declaration? r)
handle_variable_declaration_budget j k (declarator_then n absent ds) r =
    join_declarations_budget j k (declarator_then n absent ds) (last_declaration? r)
handle_variable_declaration_budget j k (declarator_then n (present e) ds) r =
    let w : Worked = merge_leading_assignments_to_declaration false e r in
    let a = join_declarations_budget j k (declarator_then n (present (value_or_void_0 w.target)) ds) (last_declaration? w.results) in
    let b = merge_leading_budget false e r in
    let c = merge_leading_value e r in
    search arith
