-- A statement in which no nested break is found does not complete with one.
use Rattle.std.proofs.Common.{◌≡◌, ℕ, zero, suc, Bool, true, false, T, List, [], ◌∷◌, refl, subst}
use Rattle.script.specs.declared.DeclarationKind.{DeclarationKind}
use Rattle.script.specs.declared.DeclarationKind.TheVariants.{Var, Let, Const}
use Rattle.script.specs.Tree.{Expr, number, word, name, assignment, call, sequence, conditional, logical, not, void, strict_equality, Exprs}
use Rattle.script.specs.Tree.{no_exprs, expr_then, OptionalExpr, absent, present, Declarators, no_declarators, declarator_then, Init}
use Rattle.script.specs.Tree.{no_init, init_expression, init_declaration, Stmt, empty, expression, declaration, return_of, throw, if_then}
use Rattle.script.specs.Tree.{block, while, do_while, for, switch, break, continue, Alternate, no_alternate, alternate, Stmts, no_stmts}
use Rattle.script.specs.Tree.{stmt_then}
use Rattle.run.specs.Values.{Value, to_boolean, undefined, boolean}
use Rattle.run.specs.Environment.{Binding, unbound, uninitialised, initialised, immutable, mutable, lookup, new_record}
use Rattle.run.specs.World.{Reply, gives, throws}
use Rattle.run.specs.Completion.{Abrupt, returned, thrown, broke, continued, cut, Completion, normal, abrupt, State, and_then, branch}
use Rattle.run.specs.Completion.{with_environment}
use Rattle.run.specs.Evaluate.{get_value, put_value_in, reply_completion, evaluate, evaluate_arguments, call_world, goes_right}
use Rattle.run.specs.Evaluate.{evaluate_others, evaluate_optional, put_value}
use Rattle.run.specs.Names.{lexically_declared_list, lexically_declared_init, lexically_declared_cases}
use Rattle.run.specs.Execute.{declare_name, declare, start_loop, leave_record, Step, in_scope_of, after_abrupt_body, after_body, spend_turn}
use Rattle.run.specs.Execute.{repeat, test_then_repeat, take_abrupt_break, take_break, execute, select_case, default_place, execute_cases}
use Rattle.run.specs.Execute.{execute_alternate, execute_list}
use Rattle.rules.specs.Switches.{has_nested_break, has_nested_break_in_alternate, has_nested_break_in_list}
use Rattle.rules.proofs.Booleans.{or_left, or_right}

-- results that are no break

abbrev not_broke_abrupt : Abrupt → Bool
not_broke_abrupt (returned v) = true
not_broke_abrupt (thrown v) = true
not_broke_abrupt broke = false
not_broke_abrupt continued = true
not_broke_abrupt cut = true

abbrev not_broke : {A : Type 0} → Completion A → Bool
not_broke (normal a s) = true
not_broke (abrupt j s) = not_broke_abrupt j

not_broke_and_then : {A B : Type 0} (r : Completion A) (k : A → State → Completion B) → T (not_broke r)
    → ((a : A) (s : State) → T (not_broke (k a s))) → T (not_broke (and_then r k))
not_broke_and_then (normal a s) k t h = h a s
not_broke_and_then (abrupt j s) k t h = t

not_broke_branch : {A : Type 0} (b : Bool) (f g : State → Completion A) (s : State) → ((s₁ : State) → T (not_broke (f s₁)))
    → ((s₁ : State) → T (not_broke (g s₁))) → T (not_broke (branch b f g s))
not_broke_branch true f g s p q = p s
not_broke_branch false f g s p q = q s

not_broke_get_value : (t : Binding) (s : State) → T (not_broke (get_value t s))
not_broke_get_value unbound s = tt
not_broke_get_value uninitialised s = tt
not_broke_get_value (initialised c v) s = tt

not_broke_put_value : (t : Binding) (n : ℕ) (v : Value) (s : State) → T (not_broke (put_value_in t n v s))
not_broke_put_value unbound n v s = tt
not_broke_put_value uninitialised n v s = tt
not_broke_put_value (initialised immutable u) n v s = tt
not_broke_put_value (initialised mutable u) n v s = tt

not_broke_reply : (p : Reply) (s : State) → T (not_broke (reply_completion p s))
not_broke_reply (gives v) s = tt
not_broke_reply (throws v) s = tt

mutual
  not_broke_evaluate : (e : Expr) (s : State) → T (not_broke (evaluate e s))
  not_broke_evaluate (number bits) s = tt
  not_broke_evaluate (word w) s = tt
  not_broke_evaluate (name n) s = not_broke_get_value (lookup s.environment n) s
  not_broke_evaluate (assignment n e) s =
      not_broke_and_then (evaluate e s) _ (not_broke_evaluate e s) (λ v s₁. not_broke_put_value (lookup s₁.environment n) n v s₁)
  not_broke_evaluate (call n es) s =
      not_broke_and_then (evaluate_arguments es s) (λ vs s₁. call_world n vs s₁) (not_broke_arguments es s) (λ vs s₁. not_broke_reply _ _)
  not_broke_evaluate (sequence e es) s = not_broke_and_then (evaluate e s) _ (not_broke_evaluate e s) (λ v s₁. not_broke_others es v s₁)
  not_broke_evaluate (conditional t a b) s =
      not_broke_and_then (evaluate t s) _ (not_broke_evaluate t s)
      (λ v s₁. not_broke_branch (to_boolean v) _ _ s₁ (not_broke_evaluate a) (not_broke_evaluate b))
  not_broke_evaluate (logical o a b) s =
      not_broke_and_then (evaluate a s) _ (not_broke_evaluate a s)
      (λ v s₁. not_broke_branch (goes_right o v) _ (λ s₂. normal v s₂) s₁ (not_broke_evaluate b) (λ _. tt))
  not_broke_evaluate (not e) s = not_broke_and_then (evaluate e s) _ (not_broke_evaluate e s) (λ _ _. tt)
  not_broke_evaluate (void e) s = not_broke_and_then (evaluate e s) _ (not_broke_evaluate e s) (λ _ _. tt)
  not_broke_evaluate (strict_equality a b) s =
      not_broke_and_then (evaluate a s) _ (not_broke_evaluate a s)
      (λ u s₁. not_broke_and_then (evaluate b s₁) _ (not_broke_evaluate b s₁) (λ _ _. tt))

  not_broke_arguments : (es : Exprs) (s : State) → T (not_broke (evaluate_arguments es s))
  not_broke_arguments no_exprs s = tt
  not_broke_arguments (expr_then e es) s =
      not_broke_and_then (evaluate e s) _ (not_broke_evaluate e s)
      (λ v s₁. not_broke_and_then (evaluate_arguments es s₁) _ (not_broke_arguments es s₁) (λ _ _. tt))

  not_broke_others : (es : Exprs) (v : Value) (s : State) → T (not_broke (evaluate_others es v s))
  not_broke_others no_exprs v s = tt
  not_broke_others (expr_then e es) v s = not_broke_and_then (evaluate e s) _ (not_broke_evaluate e s) (λ u s₁. not_broke_others es u s₁)

not_broke_optional : (d : Value) (p : OptionalExpr) (s : State) → T (not_broke (evaluate_optional d p s))
not_broke_optional d absent s = tt
not_broke_optional d (present e) s = not_broke_evaluate e s

not_broke_declare_name : (k : DeclarationKind) (n : ℕ) (p : OptionalExpr) (s : State) → T (not_broke (declare_name k n p s))
not_broke_declare_name Var n absent s = tt
not_broke_declare_name Var n (present e) s =
    not_broke_and_then (evaluate e s) _ (not_broke_evaluate e s)
    (λ v s₁. not_broke_and_then (put_value n v s₁) _ (not_broke_put_value (lookup s₁.environment n) n v s₁) (λ _ _. tt))
not_broke_declare_name Let n p s = not_broke_and_then (evaluate_optional undefined p s) _ (not_broke_optional undefined p s) (λ _ _. tt)
not_broke_declare_name Const n p s = not_broke_and_then (evaluate_optional undefined p s) _ (not_broke_optional undefined p s) (λ _ _. tt)

not_broke_declare : (k : DeclarationKind) (ds : Declarators) (s : State) → T (not_broke (declare k ds s))
not_broke_declare k no_declarators s = tt
not_broke_declare k (declarator_then n p ds) s =
    not_broke_and_then (declare_name k n p s) _ (not_broke_declare_name k n p s) (λ _ s₁. not_broke_declare k ds s₁)

not_broke_start : (i : Init) (s : State) → T (not_broke (start_loop i s))
not_broke_start no_init s = tt
not_broke_start (init_expression e) s = not_broke_and_then (evaluate e s) _ (not_broke_evaluate e s) (λ _ _. tt)
not_broke_start (init_declaration k ds) s = not_broke_declare k ds s

not_broke_leave : (r : Completion (Unit {0})) → T (not_broke r) → T (not_broke (leave_record r))
not_broke_leave (normal a s) t = t
not_broke_leave (abrupt j s) t = t

not_broke_in_scope : (ns : List ℕ) (f : Step) (s : State) → ((s₁ : State) → T (not_broke (f s₁))) → T (not_broke (in_scope_of ns f s))
not_broke_in_scope [] f s h = h s
not_broke_in_scope (n ∷ ns) f s h =
    not_broke_leave (f (with_environment (new_record uninitialised (n ∷ ns) ∷ s.environment) s))
    (h (with_environment (new_record uninitialised (n ∷ ns) ∷ s.environment) s))

not_broke_after_abrupt : (j : Abrupt) (s : State) (k : Step) → ((s₁ : State) → T (not_broke (k s₁)))
    → T (not_broke (after_abrupt_body j s k))
not_broke_after_abrupt (returned v) s k h = tt
not_broke_after_abrupt (thrown v) s k h = tt
not_broke_after_abrupt broke s k h = tt
not_broke_after_abrupt continued s k h = h s
not_broke_after_abrupt cut s k h = tt

not_broke_after_body : (r : Completion (Unit {0})) (k : Step) → ((s₁ : State) → T (not_broke (k s₁))) → T (not_broke (after_body r k))
not_broke_after_body (normal a s) k h = h s
not_broke_after_body (abrupt j s) k h = not_broke_after_abrupt j s k h

not_broke_spend_turn : (n : ℕ) (f : Step) (s : State) → ((s₁ : State) → T (not_broke (f s₁))) → T (not_broke (spend_turn n f s))
not_broke_spend_turn zero f s h = tt
not_broke_spend_turn (suc n) f s h = h _

not_broke_repeat : (n : ℕ) (t : State → Completion Value) (b u : Step) → ((s : State) → T (not_broke (t s)))
    → ((s : State) → T (not_broke (u s))) → (s : State) → T (not_broke (repeat n t b u s))
not_broke_repeat zero t b u p q s = tt
not_broke_repeat (suc n) t b u p q s =
    not_broke_spend_turn s.turns _ s (λ s₁. not_broke_after_body (b s₁) _ (λ s₂. not_broke_and_then (u s₂) _ (q s₂) (λ _ s₃.
    not_broke_and_then (t s₃) _ (p s₃)
    (λ v s₄. not_broke_branch (to_boolean v) _ (λ s₅. normal tt s₅) s₄ (not_broke_repeat n t b u p q) (λ _. tt)))))

not_broke_test_then_repeat : (t : State → Completion Value) (b u : Step) → ((s : State) → T (not_broke (t s)))
    → ((s : State) → T (not_broke (u s))) → (s : State) → T (not_broke (test_then_repeat t b u s))
not_broke_test_then_repeat t b u p q s = not_broke_and_then (t s) _ (p s) (λ v s₁.
    not_broke_branch (to_boolean v) _ (λ s₂. normal tt s₂) s₁ (λ s₂. not_broke_repeat s₂.turns t b u p q s₂) (λ _. tt))

not_broke_take_abrupt_break : (j : Abrupt) (s : State) → T (not_broke (take_abrupt_break j s))
not_broke_take_abrupt_break (returned v) s = tt
not_broke_take_abrupt_break (thrown v) s = tt
not_broke_take_abrupt_break broke s = tt
not_broke_take_abrupt_break continued s = tt
not_broke_take_abrupt_break cut s = tt

not_broke_take_break : (r : Completion (Unit {0})) → T (not_broke (take_break r))
not_broke_take_break (normal a s) = tt
not_broke_take_break (abrupt j s) = not_broke_take_abrupt_break j s

mutual
  pub not_broke_execute : (x : Stmt) → has_nested_break x ≡ false → (s : State) → T (not_broke (execute x s))
  not_broke_execute empty e s = tt
  not_broke_execute (expression x) e s = not_broke_and_then (evaluate x s) _ (not_broke_evaluate x s) (λ _ _. tt)
  not_broke_execute (declaration k ds) e s = not_broke_declare k ds s
  not_broke_execute (return_of p) e s =
      not_broke_and_then (evaluate_optional undefined p s) _ (not_broke_optional undefined p s) (λ _ _. tt)
  not_broke_execute (throw x) e s = not_broke_and_then (evaluate x s) _ (not_broke_evaluate x s) (λ _ _. tt)
  not_broke_execute (if_then t c a) e s =
      not_broke_and_then (evaluate t s) _ (not_broke_evaluate t s) (λ v s₁. not_broke_branch (to_boolean v) _ _ s₁
      (not_broke_execute c (or_left (has_nested_break c) _ e)) (not_broke_alternate a (or_right (has_nested_break c) _ e)))
  not_broke_execute (block ss) e s = not_broke_in_scope (lexically_declared_list ss) _ s (not_broke_list ss e)
  not_broke_execute (while t b) e s =
      not_broke_test_then_repeat (λ s₁. evaluate t s₁) (λ s₁. execute b s₁) (λ s₁. normal tt s₁) (not_broke_evaluate t) (λ _. tt) s
  not_broke_execute (do_while b t) e s =
      not_broke_repeat s.turns (λ s₁. evaluate t s₁) (λ s₁. execute b s₁) (λ s₁. normal tt s₁) (not_broke_evaluate t) (λ _. tt) s
  not_broke_execute (for i t u b) e s =
      not_broke_in_scope (lexically_declared_init i) _ s (λ s₁. not_broke_and_then (start_loop i s₁) _ (not_broke_start i s₁) (λ _ s₂.
      not_broke_test_then_repeat (λ s₃. evaluate_optional (boolean true) t s₃) (λ s₃. execute b s₃)
      (λ s₃. and_then (evaluate_optional undefined u s₃) (λ _ s₄. normal tt s₄)) (not_broke_optional (boolean true) t)
      (λ s₃. not_broke_and_then (evaluate_optional undefined u s₃) (λ _ s₄. normal tt s₄) (not_broke_optional undefined u s₃)
      (λ _ _. tt)) s₂))
  not_broke_execute (switch d cs) e s = not_broke_and_then (evaluate d s) _ (not_broke_evaluate d s) (λ v s₁.
      not_broke_take_break
      (in_scope_of (lexically_declared_cases cs)
      (λ s₂. and_then (select_case cs v 0 (default_place cs) s₂) (λ k s₃. execute_cases cs k s₃)) s₁))
  not_broke_execute break e s = subst T e tt
  not_broke_execute continue e s = tt

  not_broke_alternate : (a : Alternate) → has_nested_break_in_alternate a ≡ false → (s : State) → T (not_broke (execute_alternate a s))
  not_broke_alternate no_alternate e s = tt
  not_broke_alternate (alternate x) e s = not_broke_execute x e s

  not_broke_list : (ss : Stmts) → has_nested_break_in_list ss ≡ false → (s : State) → T (not_broke (execute_list ss s))
  not_broke_list no_stmts e s = tt
  not_broke_list (stmt_then x xs) e s =
      not_broke_and_then (execute x s) _ (not_broke_execute x (or_left (has_nested_break x) _ e) s)
      (λ _ s₁. not_broke_list xs (or_right (has_nested_break x) _ e) s₁)

take_abrupt_break_not_broke : (j : Abrupt) (s : State) → T (not_broke_abrupt j) → take_abrupt_break j s ≡ abrupt j s
take_abrupt_break_not_broke (returned v) s t = refl
take_abrupt_break_not_broke (thrown v) s t = refl
take_abrupt_break_not_broke broke s t = absurd t
take_abrupt_break_not_broke continued s t = refl
take_abrupt_break_not_broke cut s t = refl

pub take_break_not_broke : (r : Completion (Unit {0})) → T (not_broke r) → take_break r ≡ r
take_break_not_broke (normal a s) t = refl
take_break_not_broke (abrupt j s) t = take_abrupt_break_not_broke j s t
