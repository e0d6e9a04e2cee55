-- A relation between states that every single step keeps is kept by whole expressions and statements.
use mathlib.Core.Path.{◌≡◌, refl}
use mathlib.Core.Bool.{Bool, true, false}
use mathlib.Core.List.{List, [], ◌∷◌}
use Prim.Native.Nat.{ℕ, zero, suc}
use Rattle.script.specs.declared.DeclarationKind.{DeclarationKind}
use Rattle.script.specs.declared.DeclarationKind.TheVariants.{Var, Let, Const}
use Rattle.script.specs.Tree.{Expr, number, word, name, assignment, call, sequence, conditional, logical, not, void, strict_equality}
use Rattle.script.specs.Tree.{Exprs, no_exprs, expr_then, OptionalExpr, absent, present, Declarators, no_declarators, declarator_then}
use Rattle.script.specs.Tree.{Init, no_init, init_expression, init_declaration, Alternate, no_alternate, alternate}
use Rattle.script.specs.Tree.{Stmt, empty, expression, declaration, return_of, throw, if_then, block, while, do_while, for, switch, break, continue}
use Rattle.script.specs.Tree.{Stmts, no_stmts, stmt_then, Cases, no_cases, case_then}
use Rattle.run.specs.Values.{Value, undefined, boolean, to_boolean, is_strictly_equal}
use Rattle.run.specs.Environment.{mutable, immutable, Binding, unbound, uninitialised, initialised, Environment, lookup}
use Rattle.run.specs.World.{Event, Reply, gives, throws}
use Rattle.run.specs.Completion.{State, with_environment, with_turns, Abrupt, returned, thrown, broke, continued, cut}
use Rattle.run.specs.Completion.{Completion, normal, abrupt, and_then, branch}
use Rattle.run.specs.Evaluate.{get_value, put_value_in, put_value, event_at, reply_completion, call_world, goes_right, evaluate, evaluate_arguments, evaluate_others, evaluate_optional}
use Rattle.run.specs.Names.{lexically_declared_list, lexically_declared_cases, lexically_declared_init}
use Rattle.run.specs.Execute.{Step, discard_value, declare_name, declare, leave_record, enter_record, in_scope_of, spend_turn, after_abrupt_body, after_body}
use Rattle.run.specs.Execute.{repeat, test_then_repeat, start_loop, take_abrupt_break, take_break, default_place, select_case}
use Rattle.run.specs.Execute.{execute, execute_alternate, execute_list, execute_cases}

-- the state of s with one event more, and with any environment
abbrev pub after_event : Event → Environment → State → State
after_event event e s = record { world = s.world; events = event ∷ s.events; environment = e; turns = s.turns }

pub record Kept (R : State → State → Type 0) : Type 0 where
  pub stays : (s : State) → R s s
  pub joins : (s t u : State) → R s t → R t u → R s u
  pub binds : (e : Environment) (s : State) → R s (with_environment e s)
  pub calls : (event : Event) (e : Environment) (s : State) → R s (after_event event e s)
  pub spends : (left : ℕ) (s : State) → s.turns ≡ suc left → R s (with_turns left s)

-- a completion reached from a state
abbrev pub Reaches : {A : Type 0} → (State → State → Type 0) → State → Completion A → Type 0
Reaches R s (normal a t) = R s t
Reaches R s (abrupt j t) = R s t

module _ (R : State → State → Type 0) (kept : Kept R) where
  abbrev pub Every : (State → Completion (Unit {0})) → Type 0
  Every step = (s : State) → Reaches R s (step s)

  pub further : {A : Type 0} (s t : State) (r : Completion A) → R s t → Reaches R t r → Reaches R s r
  further s t (normal a u) h k = kept.joins s t u h k
  further s t (abrupt j u) h k = kept.joins s t u h k

  pub then_reaches : {A B : Type 0} (s : State) (r : Completion A) (next : A → State → Completion B)
      → Reaches R s r → ((a : A) (t : State) → Reaches R t (next a t)) → Reaches R s (and_then r next)
  then_reaches s (normal a t) next h k = further s t (next a t) h (k a t)
  then_reaches s (abrupt j t) next h k = h

  branch_reaches : {A : Type 0} (b : Bool) (f g : State → Completion A) (s : State)
      → ((t : State) → Reaches R t (f t)) → ((t : State) → Reaches R t (g t)) → Reaches R s (branch b f g s)
  branch_reaches true f g s h k = h s
  branch_reaches false f g s h k = k s

  -- expressions

  get_reaches : (b : Binding) (s : State) → Reaches R s (get_value b s)
  get_reaches unbound s = kept.stays s
  get_reaches uninitialised s = kept.stays s
  get_reaches (initialised m v) s = kept.stays s

  put_reaches : (b : Binding) (n : ℕ) (v : Value) (s : State) → Reaches R s (put_value_in b n v s)
  put_reaches unbound n v s = kept.stays s
  put_reaches uninitialised n v s = kept.stays s
  put_reaches (initialised immutable u) n v s = kept.stays s
  put_reaches (initialised mutable u) n v s = kept.binds _ s

  reply_reaches : (r : Reply) (s t : State) → R s t → Reaches R s (reply_completion r t)
  reply_reaches (gives v) s t h = h
  reply_reaches (throws v) s t h = h

  call_reaches : (n : ℕ) (vs : List Value) (s : State) → Reaches R s (call_world n vs s)
  call_reaches n vs s = reply_reaches (s.world (event_at n vs s ∷ s.events)).reply s _ (kept.calls (event_at n vs s) _ s)

  mutual
    pub evaluate_reaches : (e : Expr) (s : State) → Reaches R s (evaluate e s)
    evaluate_reaches (number bits) s = kept.stays s
    evaluate_reaches (word w) s = kept.stays s
    evaluate_reaches (name n) s = get_reaches (lookup s.environment n) s
    evaluate_reaches (assignment n e) s =
        then_reaches s (evaluate e s) _ (evaluate_reaches e s) (λ v t. put_reaches (lookup t.environment n) n v t)
    evaluate_reaches (call n es) s = then_reaches s (evaluate_arguments es s) _ (arguments_reach es s) (λ vs t. call_reaches n vs t)
    evaluate_reaches (sequence e es) s = then_reaches s (evaluate e s) _ (evaluate_reaches e s) (λ v t. others_reach es v t)
    evaluate_reaches (conditional c a b) s =
        then_reaches s (evaluate c s) _ (evaluate_reaches c s)
        (λ v t. branch_reaches (to_boolean v) _ _ t (evaluate_reaches a) (evaluate_reaches b))
    evaluate_reaches (logical o a b) s =
        then_reaches s (evaluate a s) _ (evaluate_reaches a s)
        (λ v t. branch_reaches (goes_right o v) _ _ t (evaluate_reaches b) (λ u. kept.stays u))
    evaluate_reaches (not e) s = then_reaches s (evaluate e s) _ (evaluate_reaches e s) (λ v t. kept.stays t)
    evaluate_reaches (void e) s = then_reaches s (evaluate e s) _ (evaluate_reaches e s) (λ v t. kept.stays t)
    evaluate_reaches (strict_equality a b) s =
        then_reaches s (evaluate a s) _ (evaluate_reaches a s)
        (λ u t. then_reaches t (evaluate b t) _ (evaluate_reaches b t) (λ v w. kept.stays w))

    arguments_reach : (es : Exprs) (s : State) → Reaches R s (evaluate_arguments es s)
    arguments_reach no_exprs s = kept.stays s
    arguments_reach (expr_then e es) s =
        then_reaches s (evaluate e s) _ (evaluate_reaches e s)
        (λ v t. then_reaches t (evaluate_arguments es t) _ (arguments_reach es t) (λ vs u. kept.stays u))

    others_reach : (es : Exprs) (v : Value) (s : State) → Reaches R s (evaluate_others es v s)
    others_reach no_exprs v s = kept.stays s
    others_reach (expr_then e es) v s = then_reaches s (evaluate e s) _ (evaluate_reaches e s) (λ u t. others_reach es u t)

  pub optional_reaches : (v : Value) (e : OptionalExpr) (s : State) → Reaches R s (evaluate_optional v e s)
  optional_reaches v absent s = kept.stays s
  optional_reaches v (present e) s = evaluate_reaches e s

  -- declarations and scopes

  pub discard_reaches : (s : State) (r : Completion Value) → Reaches R s r → Reaches R s (discard_value r)
  discard_reaches s r h = then_reaches s r _ h (λ v t. kept.stays t)

  declare_name_reaches : (k : DeclarationKind) (n : ℕ) (e : OptionalExpr) → Every (declare_name k n e)
  declare_name_reaches Var n absent s = kept.stays s
  declare_name_reaches Var n (present e) s =
      then_reaches s (evaluate e s) _ (evaluate_reaches e s)
      (λ v t. discard_reaches t (put_value n v t) (put_reaches (lookup t.environment n) n v t))
  declare_name_reaches Let n e s = then_reaches s (evaluate_optional undefined e s) _ (optional_reaches undefined e s) (λ v t. kept.binds _ t)
  declare_name_reaches Const n e s = then_reaches s (evaluate_optional undefined e s) _ (optional_reaches undefined e s) (λ v t. kept.binds _ t)

  declare_reaches : (k : DeclarationKind) (ds : Declarators) → Every (declare k ds)
  declare_reaches k no_declarators s = kept.stays s
  declare_reaches k (declarator_then n e ds) s =
      then_reaches s (declare_name k n e s) _ (declare_name_reaches k n e s) (λ _ t. declare_reaches k ds t)

  leave_reaches : (s : State) (r : Completion (Unit {0})) → Reaches R s r → Reaches R s (leave_record r)
  leave_reaches s (normal a t) h = kept.joins s t _ h (kept.binds _ t)
  leave_reaches s (abrupt j t) h = kept.joins s t _ h (kept.binds _ t)

  scope_reaches : (names : List ℕ) (step : Step) → Every step → Every (in_scope_of names step)
  scope_reaches [] step h s = h s
  scope_reaches (n ∷ names) step h s =
      let inner : State = enter_record (n ∷ names) s in
      leave_reaches s (step inner) (further s inner (step inner) (kept.binds _ s) (h inner))

  -- loops

  spend_reaches : (turns : ℕ) (step : Step) (s : State) → s.turns ≡ turns → Every step → Reaches R s (spend_turn turns step s)
  spend_reaches zero step s e h = kept.stays s
  spend_reaches (suc left) step s e h = further s (with_turns left s) (step (with_turns left s)) (kept.spends left s e) (h _)

  after_abrupt_reaches : (j : Abrupt) (s t : State) (next : Step) → R s t → Every next → Reaches R s (after_abrupt_body j t next)
  after_abrupt_reaches (returned v) s t next h k = h
  after_abrupt_reaches (thrown v) s t next h k = h
  after_abrupt_reaches broke s t next h k = h
  after_abrupt_reaches continued s t next h k = further s t (next t) h (k t)
  after_abrupt_reaches cut s t next h k = h

  after_body_reaches : (s : State) (r : Completion (Unit {0})) (next : Step) → Reaches R s r → Every next → Reaches R s (after_body r next)
  after_body_reaches s (normal a t) next h k = further s t (next t) h (k t)
  after_body_reaches s (abrupt j t) next h k = after_abrupt_reaches j s t next h k

  module _ (test : State → Completion Value) (body update : Step)
      (test_reaches : (s : State) → Reaches R s (test s)) (body_reaches : Every body) (update_reaches : Every update) where
    pub repeat_reaches : (bound : ℕ) → Every (repeat bound test body update)
    repeat_reaches zero s = kept.stays s
    repeat_reaches (suc bound) s =
        spend_reaches s.turns _ s refl (λ t. after_body_reaches t (body t) _ (body_reaches t)
        (λ u. then_reaches u (update u) _ (update_reaches u) (λ _ v. then_reaches v (test v) _ (test_reaches v)
        (λ value w. branch_reaches (to_boolean value) _ _ w (λ x. repeat_reaches bound x) (λ x. kept.stays x)))))

    test_then_reaches : Every (test_then_repeat test body update)
    test_then_reaches s =
        then_reaches s (test s) _ (test_reaches s)
        (λ v t. branch_reaches (to_boolean v) _ _ t (λ u. repeat_reaches u.turns u) (λ u. kept.stays u))

  start_reaches : (i : Init) → Every (start_loop i)
  start_reaches no_init s = kept.stays s
  start_reaches (init_expression e) s = discard_reaches s (evaluate e s) (evaluate_reaches e s)
  start_reaches (init_declaration k ds) s = declare_reaches k ds s

  -- switches

  take_abrupt_reaches : (j : Abrupt) (s t : State) → R s t → Reaches R s (take_abrupt_break j t)
  take_abrupt_reaches (returned v) s t h = h
  take_abrupt_reaches (thrown v) s t h = h
  take_abrupt_reaches broke s t h = h
  take_abrupt_reaches continued s t h = h
  take_abrupt_reaches cut s t h = h

  take_break_reaches : (s : State) (r : Completion (Unit {0})) → Reaches R s r → Reaches R s (take_break r)
  take_break_reaches s (normal a t) h = h
  take_break_reaches s (abrupt j t) h = take_abrupt_reaches j s t h

  select_reaches : (cs : Cases) (v : Value) (here default : ℕ) (s : State) → Reaches R s (select_case cs v here default s)
  select_reaches no_cases v here default s = kept.stays s
  select_reaches (case_then absent xs cs) v here default s = select_reaches cs v (suc here) default s
  select_reaches (case_then (present e) xs cs) v here default s =
      then_reaches s (evaluate e s) _ (evaluate_reaches e s)
      (λ u t. branch_reaches (is_strictly_equal v u) _ _ t (λ w. kept.stays w) (λ w. select_reaches cs v (suc here) default w))

  -- statements

  mutual
    pub execute_reaches : (x : Stmt) → Every (execute x)
    execute_reaches empty s = kept.stays s
    execute_reaches (expression e) s = discard_reaches s (evaluate e s) (evaluate_reaches e s)
    execute_reaches (declaration k ds) s = declare_reaches k ds s
    execute_reaches (return_of e) s = then_reaches s (evaluate_optional undefined e s) _ (optional_reaches undefined e s) (λ v t. kept.stays t)
    execute_reaches (throw e) s = then_reaches s (evaluate e s) _ (evaluate_reaches e s) (λ v t. kept.stays t)
    execute_reaches (if_then c x a) s =
        then_reaches s (evaluate c s) _ (evaluate_reaches c s)
        (λ v t. branch_reaches (to_boolean v) _ _ t (λ u. execute_reaches x u) (λ u. alternate_reaches a u))
    execute_reaches (block xs) s = scope_reaches (lexically_declared_list xs) _ (λ t. list_reaches xs t) s
    execute_reaches (while c b) s =
        test_then_reaches _ _ _ (λ t. evaluate_reaches c t) (λ t. execute_reaches b t) (λ t. kept.stays t) s
    execute_reaches (do_while b c) s =
        repeat_reaches _ _ _ (λ t. evaluate_reaches c t) (λ t. execute_reaches b t) (λ t. kept.stays t) s.turns s
    execute_reaches (for i c u b) s =
        scope_reaches (lexically_declared_init i) _ (λ t. then_reaches t (start_loop i t) _ (start_reaches i t)
        (λ _ v. test_then_reaches _ _ _ (λ w. optional_reaches (boolean true) c w) (λ w. execute_reaches b w)
        (λ w. discard_reaches w (evaluate_optional undefined u w) (optional_reaches undefined u w)) v)) s
    execute_reaches (switch d cs) s =
        then_reaches s (evaluate d s) _ (evaluate_reaches d s)
        (λ v t. take_break_reaches t _ (scope_reaches (lexically_declared_cases cs) _
        (λ u. then_reaches u (select_case cs v 0 (default_place cs) u) _ (select_reaches cs v 0 (default_place cs) u)
        (λ place w. cases_reach cs place w)) t))
    execute_reaches break s = kept.stays s
    execute_reaches continue s = kept.stays s

    alternate_reaches : (a : Alternate) → Every (execute_alternate a)
    alternate_reaches no_alternate s = kept.stays s
    alternate_reaches (alternate x) s = execute_reaches x s

    pub list_reaches : (xs : Stmts) → Every (execute_list xs)
    list_reaches no_stmts s = kept.stays s
    list_reaches (stmt_then x xs) s = then_reaches s (execute x s) _ (execute_reaches x s) (λ _ t. list_reaches xs t)

    cases_reach : (cs : Cases) (place : ℕ) → Every (execute_cases cs place)
    cases_reach no_cases place s = kept.stays s
    cases_reach (case_then t xs cs) zero s = then_reaches s (execute_list xs s) _ (list_reaches xs s) (λ _ u. cases_reach cs zero u)
    cases_reach (case_then t xs cs) (suc place) s = cases_reach cs place s
