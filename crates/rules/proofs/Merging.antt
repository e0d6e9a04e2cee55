-- What the rules that merge with the newest results execute.
use Rattle.std.proofs.Common.{◌≡◌, ℕ, Bool, true, false, cond, ◌||◌, T, eqb, List, [], ◌∷◌, sym, refl, ap, ◌∙◌, subst, eqb→eq}
use mathlib.Core.Path.{fun_ext}
use lib.Dec.{eqb_refl}
use Rattle.script.specs.declared.DeclarationKind.{DeclarationKind}
use Rattle.script.specs.declared.DeclarationKind.TheVariants.{Var, Let, Const}
use Rattle.script.specs.Tree.{Stmts, Expr, stmt_then, expression, OptionalExpr, present, Declarators, assignment, declarator_then, absent}
use Rattle.script.specs.Tree.{no_declarators, Exprs, no_exprs, expr_then}
use Rattle.run.specs.Values.{Value, undefined}
use Rattle.run.specs.Environment.{Binding, EnvironmentRecord, with_binding, Mutability, or_outer, initialised, lookup, initialise, unbound}
use Rattle.run.specs.Environment.{set_here_or, set_innermost, mutable}
use Rattle.run.specs.Completion.{State, Completion, and_then, with_environment, normal}
use Rattle.run.specs.Evaluate.{evaluate_optional, put_value, put_value_in, evaluate_others, evaluate}
use Rattle.run.specs.Execute.{Step, declare, execute, declare_name}
use Rattle.rules.specs.Literals.{is_literal_value}
use Rattle.rules.specs.Expressions.{Assignment?, is_assignment, no_assignment, assignment?, Sequence?, is_sequence, no_sequence, sequence?}
use Rattle.rules.specs.Merging.{LastExpression?, push_expression_as, last_expression, no_last_expression, push_new_expression_stmt_to_result}
use Rattle.rules.specs.Merging.{last_expression?, Worked, merge_last_expression_as, Merge, merged, blocked, clear, merge_in_declarator}
use Rattle.rules.specs.Merging.{merge_in_later_or, merge_assignment_to_declaration, has_items, Leading, merge_leading_after}
use Rattle.rules.specs.Merging.{merge_leading_item, merge_leading, sequence_of_items, items_of, LastDeclaration?}
use Rattle.rules.specs.Merging.{merge_leading_assignments_as, last_declaration, no_last_declaration, merge_leading_assignments_to_declaration}
use Rattle.rules.specs.Merging.{last_declaration?, push_optional_expression, next_work, push_worked, handle_expression_statement}
use Rattle.rules.specs.Results.{results_then}
use Rattle.rules.proofs.Completions.{and_then_assoc, and_then_cong, and_then_normal}
use Rattle.rules.proofs.Expressions.{join_sequence_evaluates}
use Rattle.rules.proofs.Statements.{results_then_cong}
use Rattle.rules.proofs.Literals.{literal_evaluates}

-- push_new_expression_stmt

push_expression_as_same : {r : Stmts} (v : LastExpression? r) (e : Expr) (f : Step)
    → results_then (push_expression_as v e) f ≡ results_then (stmt_then (expression e) r) f
push_expression_as_same (last_expression a r) e f = results_then_cong r (λ s. simp (join_sequence_evaluates, and_then_assoc))
push_expression_as_same no_last_expression e f = refl

pub push_new_expression_same : (q : Bool) (e : Expr) (r : Stmts) (f : Step)
    → results_then (push_new_expression_stmt_to_result q e r) f ≡ results_then (stmt_then (expression e) r) f
push_new_expression_same q e r f = push_expression_as_same (last_expression? q r) e f

-- an expression e after the results r, worked on to w: whatever is done with its value. Where d, the value is not looked at

abbrev pub Continuation : Type 0
Continuation = Value → State → Completion (Unit {0})

abbrev pub IgnoresValue : Continuation → Type 0
IgnoresValue k = (u v : Value) (s : State) → k u s ≡ k v s

abbrev pub evaluate_then : OptionalExpr → Continuation → Step
evaluate_then p k s = and_then (evaluate_optional undefined p s) k

abbrev pub SameTarget : Bool → Worked → OptionalExpr → Stmts → Type 0
SameTarget d w p r =
    (k : Continuation) → (T d → IgnoresValue k)
    → results_then w.results (evaluate_then w.target k) ≡ results_then r (evaluate_then p k)

pub merge_last_same : {r : Stmts} (v : LastExpression? r) (e : Expr) → SameTarget false (merge_last_expression_as v e) (present e) r
merge_last_same (last_expression a r) e k b = results_then_cong r (λ s. simp (join_sequence_evaluates, and_then_assoc))
merge_last_same no_last_expression e k b = refl

-- merging an assignment into a declaration

eqb_self : (n : ℕ) → eqb n n ≡ true
eqb_self n = go_true (eqb n n) (eqb_refl n)
  where
    go_true : (b : Bool) → T b → b ≡ true
    go_true true t = refl
    go_true false t = absurd t

with_binding_twice : (n : ℕ) (t u : Binding) (r : EnvironmentRecord) → with_binding n u (with_binding n t r) ≡ with_binding n u r
with_binding_twice n t u r = fun_ext (λ m. at m (eqb m n))
  where
    at : (m : ℕ) (b : Bool) → cond b u (cond b t (r m)) ≡ cond b u (r m)
    at m true = refl
    at m false = refl

lookup_with_binding : (n : ℕ) (c : Mutability) (u : Value) (r : EnvironmentRecord) (x : Binding)
    → or_outer (with_binding n (initialised c u) r n) x ≡ initialised c u
lookup_with_binding n c u r x = ap (λ b. or_outer (cond b (initialised c u) (r n)) x) (eqb_self n)

lookup_initialised : (n : ℕ) (c : Mutability) (u : Value) (rs : List EnvironmentRecord)
    → lookup (initialise n (initialised c u) rs) n ≡ initialised c u
lookup_initialised n c u [] = lookup_with_binding n c u (λ _. unbound) unbound
lookup_initialised n c u (r ∷ rs) = lookup_with_binding n c u r (lookup rs n)

set_with_binding : (n : ℕ) (c : Mutability) (u : Value) (t : Binding) (r : EnvironmentRecord) (rs rs' : List EnvironmentRecord)
    → set_here_or (with_binding n (initialised c u) r n) n t (with_binding n (initialised c u) r) rs rs' ≡ with_binding n t r ∷ rs
set_with_binding n c u t r rs rs' =
    ap (λ b. set_here_or (cond b (initialised c u) (r n)) n t (with_binding n (initialised c u) r) rs rs') (eqb_self n)
    ∙ ap (λ x. x ∷ rs) (with_binding_twice n (initialised c u) t r)

set_initialised : (n : ℕ) (c : Mutability) (u : Value) (t : Binding) (rs : List EnvironmentRecord)
    → set_innermost n t (initialise n (initialised c u) rs) ≡ initialise n t rs
set_initialised n c u t [] = set_with_binding n c u t (λ _. unbound) [] []
set_initialised n c u t (r ∷ rs) = set_with_binding n c u t r rs (set_innermost n t rs)

put_value_initialised : (n : ℕ) (u v : Value) (s : State)
    → put_value n v (with_environment (initialise n (initialised mutable u) s.environment) s)
    ≡ normal v (with_environment (initialise n (initialised mutable v) s.environment) s)
put_value_initialised n u v s =
    ap (λ x. put_value_in x n v (with_environment (initialise n (initialised mutable u) s.environment) s))
    (lookup_initialised n mutable u s.environment)
    ∙ ap (λ c. normal v (with_environment c s)) (set_initialised n mutable u (initialised mutable v) s.environment)

abbrev MergeSame : DeclarationKind → ℕ → Expr → Declarators → Merge → Type 0
MergeSame k n e ds (merged ds') =
    (s : State) → declare k ds' s ≡ and_then (declare k ds s) (λ _ s₁. execute (expression (assignment n e)) s₁)
MergeSame k n e ds blocked = Unit {0}
MergeSame k n e ds clear = (s : State) → declare k ds s ≡ normal tt s

merge_var : (n : ℕ) (e : Expr) (ds : Declarators) → ((s : State) → declare Var ds s ≡ normal tt s)
    → (s : State)
    → declare Var (declarator_then n (present e) ds) s
    ≡ and_then (declare Var (declarator_then n absent ds) s) (λ _ s₁. execute (expression (assignment n e)) s₁)
merge_var n e ds c s = simp (c, and_then_assoc)

merge_let : (n : ℕ) (e : Expr) (ds : Declarators) → T (is_literal_value e) → ((s : State) → declare Let ds s ≡ normal tt s)
    → (s : State)
    → declare Let (declarator_then n (present e) ds) s
    ≡ and_then (declare Let (declarator_then n absent ds) s) (λ _ s₁. execute (expression (assignment n e)) s₁)
merge_let n e ds t c s =
    let h = literal_evaluates e t in
    let q = h.1 in
    simp (c, q, put_value_initialised)

same_name : (m n : ℕ) → eqb m n ≡ true → m ≡ n
same_name m n h = eqb→eq m n (subst T (sym h) tt)

assignment_renamed : (k : DeclarationKind) (m n : ℕ) (e : Expr) (ds ds' : Declarators) → eqb m n ≡ true → MergeSame k m e ds (merged ds')
    → MergeSame k n e ds (merged ds')
assignment_renamed k m n e ds ds' h p = subst (λ (x : ℕ). MergeSame k x e ds (merged ds')) (same_name m n h) p

merge_let_if : (l : Bool) (m n : ℕ) (e : Expr) (ds : Declarators) → is_literal_value e ≡ l → eqb m n ≡ true
    → ((s : State) → declare Let ds s ≡ normal tt s)
    → MergeSame Let n e (declarator_then m absent ds) (cond l (merged (declarator_then m (present e) ds)) blocked)
merge_let_if true m n e ds l h c =
    assignment_renamed Let m n e (declarator_then m absent ds) (declarator_then m (present e) ds) h
    (merge_let m e ds (subst T (sym l) tt) c)
merge_let_if false m n e ds l h c = tt

merge_in_declarator_same : (k : DeclarationKind) (n : ℕ) (e : Expr) (b : Bool) (m : ℕ) (p : OptionalExpr) (ds : Declarators) → eqb m n ≡ b
    → ((s : State) → declare k ds s ≡ normal tt s)
    → MergeSame k n e (declarator_then m p ds) (merge_in_declarator k (is_literal_value e) n e b m p ds)
merge_in_declarator_same k n e b m (present x) ds h c = tt
merge_in_declarator_same Var n e true m absent ds h c =
    assignment_renamed Var m n e (declarator_then m absent ds) (declarator_then m (present e) ds) h (merge_var m e ds c)
merge_in_declarator_same Let n e true m absent ds h c = merge_let_if (is_literal_value e) m n e ds refl h c
merge_in_declarator_same Const n e true m absent ds h c = tt
merge_in_declarator_same Var n e false m absent ds h c = c
merge_in_declarator_same Let n e false m absent ds h c = tt
merge_in_declarator_same Const n e false m absent ds h c = tt

merge_in_later_or_same : (k : DeclarationKind) (n : ℕ) (e : Expr) (m : ℕ) (p : OptionalExpr) (ds : Declarators) (before_it here : Merge)
    → MergeSame k n e ds before_it
    → (((s : State) → declare k ds s ≡ normal tt s) → MergeSame k n e (declarator_then m p ds) here)
    → MergeSame k n e (declarator_then m p ds) (merge_in_later_or before_it m p here)
merge_in_later_or_same k n e m p ds (merged ds') here h g =
    λ s. and_then_cong (declare_name k m p s) (λ _ s₁. h s₁) ∙ sym (and_then_assoc (declare_name k m p s) _ _)
merge_in_later_or_same k n e m p ds blocked here h g = tt
merge_in_later_or_same k n e m p ds clear here h g = g h

pub merge_assignment_same : (k : DeclarationKind) (n : ℕ) (e : Expr) (ds : Declarators)
    → MergeSame k n e ds (merge_assignment_to_declaration k ds n e)
merge_assignment_same k n e no_declarators = λ s. refl
merge_assignment_same k n e (declarator_then m p ds) =
    merge_in_later_or_same k n e m p ds (merge_assignment_to_declaration k ds n e)
    (merge_in_declarator k (is_literal_value e) n e (eqb m n) m p ds)
    (merge_assignment_same k n e ds) (λ c. merge_in_declarator_same k n e (eqb m n) m p ds refl c)

-- leading assignments

evaluate_others_any : (xs : Exprs) (d : Bool) → T (d || has_items xs) → (k : Continuation) → (T d → IgnoresValue k)
    → (u v : Value) (s : State)
    → and_then (evaluate_others xs u s) k ≡ and_then (evaluate_others xs v s) k
evaluate_others_any no_exprs true t k b u v s = b tt u v s
evaluate_others_any no_exprs false t k b u v s = absurd t
evaluate_others_any (expr_then x xs) d t k b u v s = refl

-- what is left of the items, behind what the declaration has become
abbrev LeadingSame : Bool → DeclarationKind → Exprs → Declarators → Leading → Type 0
LeadingSame d k xs ds l = (f : Continuation) → (T d → IgnoresValue f) → (u : Value) (s : State)
    → and_then (declare k l.declarators s) (λ _ s₁. and_then (evaluate_others l.items u s₁) f)
    ≡ and_then (declare k ds s) (λ _ s₁. and_then (evaluate_others xs u s₁) f)

merge_leading_after_same : (d : Bool) (k : DeclarationKind) (n : ℕ) (e : Expr) (xs : Exprs) (ds : Declarators) → T (d || has_items xs)
    → (m : Merge) → MergeSame k n e ds m
    → (g : Declarators → Leading) → ((ds' : Declarators) → LeadingSame d k xs ds' (g ds'))
    → LeadingSame d k (expr_then (assignment n e) xs) ds (merge_leading_after m (expr_then (assignment n e) xs) ds g)
merge_leading_after_same d k n e xs ds t (merged ds') h g w f b u s =
    w ds' f b u s
    ∙ ap (λ r. and_then r (λ _ s₁. and_then (evaluate_others xs u s₁) f)) (h s)
    ∙ and_then_assoc (declare k ds s) _ _
    ∙ and_then_cong (declare k ds s) (λ _ s₁.
    and_then_assoc (evaluate (assignment n e) s₁) _ _
    ∙ and_then_cong (evaluate (assignment n e) s₁) (λ v s₂. evaluate_others_any xs d t f b u v s₂)
    ∙ sym (and_then_assoc (evaluate (assignment n e) s₁) _ _))
merge_leading_after_same d k n e xs ds t blocked h g w f b u s = refl
merge_leading_after_same d k n e xs ds t clear h g w f b u s = refl

merge_leading_item_same : (d c : Bool) (k : DeclarationKind) {x : Expr} (a : Assignment? x) (xs : Exprs) (ds : Declarators)
    → (T c → T (d || has_items xs))
    → (g : Declarators → Leading) → ((ds' : Declarators) → LeadingSame d k xs ds' (g ds'))
    → LeadingSame d k (expr_then x xs) ds (merge_leading_item c a xs k ds g)
merge_leading_item_same d false k a xs ds t g w f b u s = refl
merge_leading_item_same d true k (is_assignment n e) xs ds t g w f b u s =
    merge_leading_after_same d k n e xs ds (t tt) (merge_assignment_to_declaration k ds n e) (merge_assignment_same k n e ds) g w f b u s
merge_leading_item_same d true k no_assignment xs ds t g w f b u s = refl

merge_leading_same : (d : Bool) (xs : Exprs) (k : DeclarationKind) (ds : Declarators) → LeadingSame d k xs ds (merge_leading d xs k ds)
merge_leading_same d no_exprs k ds f b u s = refl
merge_leading_same d (expr_then x xs) k ds f b u s =
    merge_leading_item_same d (d || has_items xs) k (assignment? x) xs ds (λ t. t) (λ ds'. merge_leading d xs k ds')
    (merge_leading_same d xs k) f b u s

sequence_of_items_evaluates : (xs : Exprs) (s : State)
    → evaluate_optional undefined (sequence_of_items xs) s ≡ evaluate_others xs undefined s
sequence_of_items_evaluates no_exprs s = refl
sequence_of_items_evaluates (expr_then e no_exprs) s = sym (and_then_normal (evaluate e s))
sequence_of_items_evaluates (expr_then e (expr_then x xs)) s = refl

items_of_evaluates : {e : Expr} (v : Sequence? e) (s : State) → evaluate_others (items_of v) undefined s ≡ evaluate e s
items_of_evaluates (is_sequence e es) s = refl
items_of_evaluates {e} no_sequence s = and_then_normal (evaluate e s)

merge_leading_assignments_as_same : {r : Stmts} (v : LastDeclaration? r) (d : Bool) (e : Expr)
    → SameTarget d (merge_leading_assignments_as v d e) (present e) r
merge_leading_assignments_as_same (last_declaration k ds r) d e f b = results_then_cong r (λ s.
    let l : Leading = merge_leading d (items_of (sequence? e)) k ds in
    and_then_cong (declare k l.declarators s) (λ _ s₁. ap (λ x. and_then x f) (sequence_of_items_evaluates l.items s₁))
    ∙ merge_leading_same d (items_of (sequence? e)) k ds f b undefined s
    ∙ and_then_cong (declare k ds s) (λ _ s₁. ap (λ x. and_then x f) (items_of_evaluates (sequence? e) s₁)))
merge_leading_assignments_as_same no_last_declaration d e f b = refl

pub merge_leading_assignments_same : (d : Bool) (e : Expr) (r : Stmts)
    → SameTarget d (merge_leading_assignments_to_declaration d e r) (present e) r
merge_leading_assignments_same d e r = merge_leading_assignments_as_same (last_declaration? r) d e

-- expression statements

push_optional_expression_same : (p : OptionalExpr) (r : Stmts) (f : Step)
    → results_then (push_optional_expression p r) f ≡ results_then r (evaluate_then p (λ _ s₁. f s₁))
push_optional_expression_same absent r f = refl
push_optional_expression_same (present e) r f = results_then_cong r (λ s. and_then_assoc (evaluate e s) _ _)

pub next_work_same : (d : Bool) (p : OptionalExpr) (r : Stmts) (g : Expr → Stmts → Worked)
    → ((e : Expr) (r₁ : Stmts) → SameTarget d (g e r₁) (present e) r₁)
    → SameTarget d (next_work p r g) p r
next_work_same d absent r g h k b = refl
next_work_same d (present e) r g h k b = h e r k b

handle_expression_statement_as : {r : Stmts} (v : LastExpression? r) (e : Expr) (f : Step)
    → results_then
    (push_worked (next_work (merge_last_expression_as v e).target (merge_last_expression_as v e).results
    (λ e₁ r₁. merge_leading_assignments_to_declaration true e₁ r₁))) f
    ≡ results_then (stmt_then (expression e) r) f
handle_expression_statement_as {r} v e f =
    let m : Worked = merge_last_expression_as v e in
    let w : Worked = next_work m.target m.results (λ e₁ r₁. merge_leading_assignments_to_declaration true e₁ r₁) in
    push_optional_expression_same w.target w.results f
    ∙ next_work_same true m.target m.results (λ e₁ r₁. merge_leading_assignments_to_declaration true e₁ r₁)
    (merge_leading_assignments_same true)
    (λ _ s₁. f s₁) (λ _ _ _ s₁. refl)
    ∙ merge_last_same v e (λ _ s₁. f s₁) (λ t. absurd t)
    ∙ sym (push_optional_expression_same (present e) r f)

pub handle_expression_statement_same : (q : Bool) (e : Expr) (r : Stmts) (f : Step)
    → results_then (handle_expression_statement q e r) f ≡ results_then (stmt_then (expression e) r) f
handle_expression_statement_same q e r f = handle_expression_statement_as (last_expression? q r) e f
