-- Two runs side by side: where each single step from a changed state leads to the same change of the state it leads to, so do whole statements.
-- The change depends on how many records were entered since. A run that was cut may be excused from being followed.
use mathlib.Core.Path.{◌≡◌, refl, sym, ap, subst}
use mathlib.Core.Bool.{Bool, true, false}
use mathlib.Core.List.{List, [], ◌∷◌}
use mathlib.Core.Logic.{◌⊎◌, inl, inr}
use Prim.Native.Nat.{ℕ, zero, suc, ◌≤◌}
use native.Mathlib.Omega.{arith}
use Rattle.script.specs.declared.DeclarationKind.{DeclarationKind}
use Rattle.script.specs.declared.DeclarationKind.TheVariants.{Var, Let, Const}
use Rattle.script.specs.Tree.{Expr, number, word, name, assignment, call, sequence, conditional, logical, not, void, strict_equality}
use Rattle.script.specs.Tree.{Exprs, no_exprs, expr_then, OptionalExpr, absent, present, Declarators, no_declarators, declarator_then}
use Rattle.script.specs.Tree.{Init, no_init, init_expression, init_declaration, Alternate, no_alternate, alternate}
use Rattle.script.specs.Tree.{Stmt, empty, expression, declaration, return_of, throw, if_then, block, while, do_while, for, switch, break, continue}
use Rattle.script.specs.Tree.{Stmts, no_stmts, stmt_then, Cases, no_cases, case_then}
use Rattle.run.specs.Values.{Value, undefined, boolean, to_boolean, is_strictly_equal}
use Rattle.run.specs.Environment.{mutable, immutable, Binding, unbound, uninitialised, initialised, lookup, set_innermost, initialise}
use Rattle.run.specs.Completion.{State, with_environment, with_turns, Abrupt, returned, thrown, broke, continued, cut}
use Rattle.run.specs.Completion.{Completion, normal, abrupt, and_then, branch}
use Rattle.run.specs.Evaluate.{get_value, put_value_in, put_value, call_world, goes_right, evaluate, evaluate_arguments, evaluate_others, evaluate_optional}
use Rattle.run.specs.Names.{lexical_names, lexically_declared_list, lexically_declared_cases, lexically_declared_init}
use Rattle.run.specs.Execute.{Step, done, discard_value, declare_name, declare, outer_environment, leave_record, enter_record, in_scope_of, spend_turn, after_abrupt_body, after_body}
use Rattle.run.specs.Execute.{repeat, test_then_repeat, start_loop, take_abrupt_break, take_break, default_place, select_case}
use Rattle.run.specs.Execute.{execute, execute_alternate, execute_list, execute_cases}
use Rattle.run.proofs.Reaching.{Reaches, Every, evaluate_reaches, optional_reaches, discard_reaches, execute_reaches}
use Rattle.run.proofs.Turns.{Fewer, fewer_kept}
use Rattle.run.proofs.LoopBound.{bounds_agree}

pub data Follows (Excused : Type 0) (change : State → State) (A : Type 0) : Completion A → Completion A → Type 0 where
  normally : (a : A) (s : State) → Follows Excused change A (normal a s) (normal a (change s))
  abruptly : (j : Abrupt) (s : State) → Follows Excused change A (abrupt j s) (abrupt j (change s))
  was_cut : Excused → (s : State) (r : Completion A) → Follows Excused change A (abrupt cut s) r

-- what is asked of single steps
pub record Carried (Excused : Type 0) (change : ℕ → State → State) : Type 0 where
  pub looks : (k : ℕ) (s : State) (n : ℕ) → lookup (change k s).environment n ≡ lookup s.environment n
  pub sets : (k n : ℕ) (b : Binding) (s : State) →
      with_environment (set_innermost n b (change k s).environment) (change k s) ≡ change k (with_environment (set_innermost n b s.environment) s)
  pub calls : (k n : ℕ) (vs : List Value) (s : State) → Follows Excused (change k) Value (call_world n vs s) (call_world n vs (change k s))
  -- behind an entered record
  pub initialises : (k n : ℕ) (b : Binding) (s : State) →
      with_environment (initialise n b (change (suc k) s).environment) (change (suc k) s)
      ≡ change (suc k) (with_environment (initialise n b s.environment) s)
  pub enters : (k : ℕ) (names : List ℕ) (s : State) → enter_record names (change k s) ≡ change (suc k) (enter_record names s)
  pub leaves : (k : ℕ) (s : State) →
      with_environment (outer_environment (change (suc k) s).environment) (change (suc k) s)
      ≡ change k (with_environment (outer_environment s.environment) s)
  pub covers : (k : ℕ) (s : State) → s.turns ≤ (change k s).turns
  pub spends : (k left : ℕ) (s : State) → s.turns ≡ suc left → (step : Step) →
      spend_turn (change k s).turns step (change k s) ≡ step (change k (with_turns left s))
  pub cuts : (k : ℕ) (s : State) → s.turns ≡ zero → Excused ⊎ ((change k s).turns ≡ zero)

-- a condition on what happens before any record is entered
abbrev pub AtZero : ℕ → Type 0 → Type 0
AtZero zero P = P
AtZero (suc k) P = Unit {0}

at_zero : {P Q : Type 0} (k : ℕ) → (P → Q) → AtZero k P → AtZero k Q
at_zero zero f h = f h
at_zero (suc k) f h = tt

start_at_zero : {P : Type 0} (k : ℕ) → P → AtZero k P
start_at_zero zero p = p
start_at_zero (suc k) p = tt

-- where no record is entered, no let or const is met
abbrev mutual
  pub NoLexical : Stmt → Type 0
  NoLexical empty = Unit {0}
  NoLexical (expression e) = Unit {0}
  NoLexical (declaration k ds) = lexical_names k ds ≡ []
  NoLexical (return_of e) = Unit {0}
  NoLexical (throw e) = Unit {0}
  NoLexical (if_then t x a) = NoLexical x × NoLexicalAlternate a
  NoLexical (block xs) = lexically_declared_list xs ≡ [] → NoLexicalList xs
  NoLexical (while t b) = NoLexical b
  NoLexical (do_while b t) = NoLexical b
  NoLexical (for i t u b) = lexically_declared_init i ≡ [] → NoLexical b
  NoLexical (switch d cs) = lexically_declared_cases cs ≡ [] → NoLexicalCases cs
  NoLexical break = Unit {0}
  NoLexical continue = Unit {0}

  pub NoLexicalAlternate : Alternate → Type 0
  NoLexicalAlternate no_alternate = Unit {0}
  NoLexicalAlternate (alternate x) = NoLexical x

  pub NoLexicalList : Stmts → Type 0
  NoLexicalList no_stmts = Unit {0}
  NoLexicalList (stmt_then x xs) = NoLexical x × NoLexicalList xs

  pub NoLexicalCases : Cases → Type 0
  NoLexicalCases no_cases = Unit {0}
  NoLexicalCases (case_then t xs cs) = NoLexicalList xs × NoLexicalCases cs

-- one side in another form
pub moved : {X : Type 0} {change : State → State} {A : Type 0} {r r' r'' : Completion A} → r' ≡ r'' → Follows X change A r r' → Follows X change A r r''
moved {X = X} {change = change} {A = A} {r = r} e h = subst (λ x. Follows X change A r x) e h

moved_left : {X : Type 0} {change : State → State} {A : Type 0} {q r r' : Completion A} → q ≡ r → Follows X change A q r' → Follows X change A r r'
moved_left {X = X} {change = change} {A = A} {r' = r'} e h = subst (λ x. Follows X change A x r') e h

module _ (X : Type 0) (change : ℕ → State → State) (carried : Carried X change) where
  -- a step from the changed state follows the step from the state
  abbrev pub Followed : (k : ℕ) (A : Type 0) → (State → Completion A) → Type 0
  Followed k A f = (s : State) → Follows X (change k) A (f s) (f (change k s))

  then_follows : {k : ℕ} {A B : Type 0} {r r' : Completion A} (next : A → State → Completion B)
      → Follows X (change k) A r r' → ((a : A) → Followed k B (next a)) → Follows X (change k) B (and_then r next) (and_then r' next)
  then_follows next (normally a s) h = h a s
  then_follows next (abruptly j s) h = abruptly j s
  then_follows next (was_cut x s r) h = was_cut x s _

  branch_follows : {k : ℕ} {A : Type 0} (b : Bool) (f g : State → Completion A) → Followed k A f → Followed k A g → Followed k A (branch b f g)
  branch_follows true f g h i = h
  branch_follows false f g h i = i

  -- expressions

  get_follows : (k : ℕ) (b : Binding) → Followed k Value (get_value b)
  get_follows k unbound s = abruptly _ s
  get_follows k uninitialised s = abruptly _ s
  get_follows k (initialised m v) s = normally v s

  name_follows : (k n : ℕ) → Followed k Value (evaluate (name n))
  name_follows k n s =
      moved (ap (λ b. get_value b (change k s)) (sym (carried.looks k s n))) (get_follows k (lookup s.environment n) s)

  put_in_follows : (k : ℕ) (b : Binding) (n : ℕ) (v : Value) → Followed k Value (put_value_in b n v)
  put_in_follows k unbound n v s = abruptly _ s
  put_in_follows k uninitialised n v s = abruptly _ s
  put_in_follows k (initialised immutable u) n v s = abruptly _ s
  put_in_follows k (initialised mutable u) n v s = moved (ap (λ t. normal v t) (sym (carried.sets k n _ s))) (normally v _)

  put_follows : (k n : ℕ) (v : Value) → Followed k Value (put_value n v)
  put_follows k n v s =
      moved (ap (λ b. put_value_in b n v (change k s)) (sym (carried.looks k s n))) (put_in_follows k (lookup s.environment n) n v s)

  mutual
    pub evaluate_follows : (e : Expr) (k : ℕ) → Followed k Value (evaluate e)
    evaluate_follows (number bits) k s = normally _ s
    evaluate_follows (word w) k s = normally _ s
    evaluate_follows (name n) k s = name_follows k n s
    evaluate_follows (assignment n e) k s = then_follows _ (evaluate_follows e k s) (λ v t. put_follows k n v t)
    evaluate_follows (call n es) k s = then_follows _ (arguments_follow es k s) (λ vs t. carried.calls k n vs t)
    evaluate_follows (sequence e es) k s = then_follows _ (evaluate_follows e k s) (λ v t. others_follow es k v t)
    evaluate_follows (conditional c a b) k s =
        then_follows _ (evaluate_follows c k s) (λ v t. branch_follows (to_boolean v) _ _ (evaluate_follows a k) (evaluate_follows b k) t)
    evaluate_follows (logical o a b) k s =
        then_follows _ (evaluate_follows a k s) (λ v t. branch_follows (goes_right o v) _ _ (evaluate_follows b k) (λ u. normally v u) t)
    evaluate_follows (not e) k s = then_follows _ (evaluate_follows e k s) (λ v t. normally _ t)
    evaluate_follows (void e) k s = then_follows _ (evaluate_follows e k s) (λ v t. normally _ t)
    evaluate_follows (strict_equality a b) k s =
        then_follows _ (evaluate_follows a k s) (λ u t. then_follows _ (evaluate_follows b k t) (λ v w. normally _ w))

    arguments_follow : (es : Exprs) (k : ℕ) → Followed k (List Value) (evaluate_arguments es)
    arguments_follow no_exprs k s = normally [] s
    arguments_follow (expr_then e es) k s =
        then_follows _ (evaluate_follows e k s) (λ v t. then_follows _ (arguments_follow es k t) (λ vs u. normally _ u))

    others_follow : (es : Exprs) (k : ℕ) (v : Value) → Followed k Value (evaluate_others es v)
    others_follow no_exprs k v s = normally v s
    others_follow (expr_then e es) k v s = then_follows _ (evaluate_follows e k s) (λ u t. others_follow es k u t)

  optional_follows : (v : Value) (e : OptionalExpr) (k : ℕ) → Followed k Value (evaluate_optional v e)
  optional_follows v absent k s = normally v s
  optional_follows v (present e) k s = evaluate_follows e k s

  -- declarations and scopes

  discard_follows : {k : ℕ} {r r' : Completion Value} → Follows X (change k) Value r r' → Follows X (change k) (Unit {0}) (discard_value r) (discard_value r')
  discard_follows h = then_follows _ h (λ v t. normally tt t)

  initialise_follows : (k n : ℕ) (b : Binding) (s : State)
      → Follows X (change (suc k)) (Unit {0}) (done (with_environment (initialise n b s.environment) s))
      (done (with_environment (initialise n b (change (suc k) s).environment) (change (suc k) s)))
  initialise_follows k n b s = moved (ap done (sym (carried.initialises k n b s))) (normally tt _)

  declare_name_follows : (kind : DeclarationKind) (n : ℕ) (e : OptionalExpr) (k : ℕ)
      → AtZero k (lexical_names kind (declarator_then n e no_declarators) ≡ []) → Followed k (Unit {0}) (declare_name kind n e)
  declare_name_follows Var n absent k h s = normally tt s
  declare_name_follows Var n (present e) k h s = then_follows _ (evaluate_follows e k s) (λ v t. discard_follows (put_follows k n v t))
  declare_name_follows Let n e zero h s = let z : ◌≡◌ {A = ℕ} 0 1 = cc in absurd (omega arith)
  declare_name_follows Let n e (suc k) h s =
      then_follows _ (optional_follows undefined e (suc k) s) (λ v t. initialise_follows k n (initialised mutable v) t)
  declare_name_follows Const n e zero h s = let z : ◌≡◌ {A = ℕ} 0 1 = cc in absurd (omega arith)
  declare_name_follows Const n e (suc k) h s =
      then_follows _ (optional_follows undefined e (suc k) s) (λ v t. initialise_follows k n (initialised immutable v) t)

  first_name : (kind : DeclarationKind) (n : ℕ) (e : OptionalExpr) (ds : Declarators)
      → lexical_names kind (declarator_then n e ds) ≡ [] → lexical_names kind (declarator_then n e no_declarators) ≡ []
  first_name Var n e ds h = refl
  first_name Let n e ds h = let z : ◌≡◌ {A = ℕ} 0 1 = cc in absurd (omega arith)
  first_name Const n e ds h = let z : ◌≡◌ {A = ℕ} 0 1 = cc in absurd (omega arith)

  other_names : (kind : DeclarationKind) (n : ℕ) (e : OptionalExpr) (ds : Declarators)
      → lexical_names kind (declarator_then n e ds) ≡ [] → lexical_names kind ds ≡ []
  other_names Var n e ds h = refl
  other_names Let n e ds h = let z : ◌≡◌ {A = ℕ} 0 1 = cc in absurd (omega arith)
  other_names Const n e ds h = let z : ◌≡◌ {A = ℕ} 0 1 = cc in absurd (omega arith)

  declare_follows : (kind : DeclarationKind) (ds : Declarators) (k : ℕ) → AtZero k (lexical_names kind ds ≡ []) → Followed k (Unit {0}) (declare kind ds)
  declare_follows kind no_declarators k h s = normally tt s
  declare_follows kind (declarator_then n e ds) k h s =
      then_follows _ (declare_name_follows kind n e k (at_zero k (first_name kind n e ds) h) s)
      (λ _ t. declare_follows kind ds k (at_zero k (other_names kind n e ds) h) t)

  leave_follows : (k : ℕ) {r r' : Completion (Unit {0})} → Follows X (change (suc k)) (Unit {0}) r r'
      → Follows X (change k) (Unit {0}) (leave_record r) (leave_record r')
  leave_follows k (normally a s) = moved (ap (λ t. normal a t) (sym (carried.leaves k s))) (normally a _)
  leave_follows k (abruptly j s) = moved (ap (λ t. abrupt j t) (sym (carried.leaves k s))) (abruptly j _)
  leave_follows k (was_cut x s r) = was_cut x _ _

  scope_follows : (names : List ℕ) (step : Step) (k : ℕ) → (names ≡ [] → Followed k (Unit {0}) step) → Followed (suc k) (Unit {0}) step
      → Followed k (Unit {0}) (in_scope_of names step)
  scope_follows [] step k h i s = h refl s
  scope_follows (n ∷ names) step k h i s =
      leave_follows k (moved (ap step (sym (carried.enters k (n ∷ names) s))) (i (enter_record (n ∷ names) s)))

  -- loops

  spend_follows : (k turns : ℕ) (step : Step) (s : State) → s.turns ≡ turns → Followed k (Unit {0}) step
      → Follows X (change k) (Unit {0}) (spend_turn turns step s) (spend_turn (change k s).turns step (change k s))
  spend_follows k zero step s e h = by (carried.cuts k s e)
    where
      by : X ⊎ ((change k s).turns ≡ zero) → Follows X (change k) (Unit {0}) (abrupt cut s) (spend_turn (change k s).turns step (change k s))
      by (inl x) = was_cut x s _
      by (inr none_left) = moved (ap (λ n. spend_turn n step (change k s)) (sym none_left)) (abruptly cut s)
  spend_follows k (suc left) step s e h = moved (sym (carried.spends k left s e step)) (h (with_turns left s))

  after_abrupt_follows : (k : ℕ) (j : Abrupt) (next : Step) → Followed k (Unit {0}) next → Followed k (Unit {0}) (λ s. after_abrupt_body j s next)
  after_abrupt_follows k (returned v) next h s = abruptly _ s
  after_abrupt_follows k (thrown v) next h s = abruptly _ s
  after_abrupt_follows k broke next h s = normally tt s
  after_abrupt_follows k continued next h s = h s
  after_abrupt_follows k cut next h s = abruptly cut s

  after_body_follows : (k : ℕ) {r r' : Completion (Unit {0})} (next : Step) → Follows X (change k) (Unit {0}) r r' → Followed k (Unit {0}) next
      → Follows X (change k) (Unit {0}) (after_body r next) (after_body r' next)
  after_body_follows k next (normally a s) h = h s
  after_body_follows k next (abruptly j s) h = after_abrupt_follows k j next h s
  after_body_follows k next (was_cut x s r) h = was_cut x s _

  module _ (k : ℕ) (test : State → Completion Value) (body update : Step)
      (test_reaches : (s : State) → Reaches Fewer s (test s)) (body_reaches : Every Fewer fewer_kept body) (update_reaches : Every Fewer fewer_kept update)
      (test_followed : Followed k Value test) (body_followed : Followed k (Unit {0}) body) (update_followed : Followed k (Unit {0}) update) where
    within_follows : (bound : ℕ) → Followed k (Unit {0}) (repeat bound test body update)
    within_follows zero s = abruptly cut s
    within_follows (suc bound) s =
        spend_follows k s.turns _ s refl (λ t. after_body_follows k _ (body_followed t)
        (λ u. then_follows _ (update_followed u) (λ _ v. then_follows _ (test_followed v)
        (λ value w. branch_follows (to_boolean value) _ _ (λ x. within_follows bound x) (λ x. normally tt x) w))))

    repeat_follows : Followed k (Unit {0}) (λ s. repeat s.turns test body update s)
    repeat_follows s =
        moved_left (bounds_agree test body update test_reaches body_reaches update_reaches (change k s).turns s.turns s (carried.covers k s) (omega arith))
        (within_follows (change k s).turns s)

    test_then_follows : Followed k (Unit {0}) (test_then_repeat test body update)
    test_then_follows s =
        then_follows _ (test_followed s) (λ v t. branch_follows (to_boolean v) _ _ (λ u. repeat_follows u) (λ u. normally tt u) t)

  start_follows : (i : Init) (k : ℕ) → AtZero k (lexically_declared_init i ≡ []) → Followed k (Unit {0}) (start_loop i)
  start_follows no_init k h s = normally tt s
  start_follows (init_expression e) k h s = discard_follows (evaluate_follows e k s)
  start_follows (init_declaration kind ds) k h s = declare_follows kind ds k h s

  -- switches

  take_abrupt_follows : (k : ℕ) (j : Abrupt) → Followed k (Unit {0}) (take_abrupt_break j)
  take_abrupt_follows k (returned v) s = abruptly _ s
  take_abrupt_follows k (thrown v) s = abruptly _ s
  take_abrupt_follows k broke s = normally tt s
  take_abrupt_follows k continued s = abruptly _ s
  take_abrupt_follows k cut s = abruptly _ s

  take_break_follows : (k : ℕ) {r r' : Completion (Unit {0})} → Follows X (change k) (Unit {0}) r r'
      → Follows X (change k) (Unit {0}) (take_break r) (take_break r')
  take_break_follows k (normally a s) = normally a s
  take_break_follows k (abruptly j s) = take_abrupt_follows k j s
  take_break_follows k (was_cut x s r) = was_cut x s _

  select_follows : (cs : Cases) (v : Value) (here default k : ℕ) → Followed k ℕ (select_case cs v here default)
  select_follows no_cases v here default k s = normally default s
  select_follows (case_then absent xs cs) v here default k s = select_follows cs v (suc here) default k s
  select_follows (case_then (present e) xs cs) v here default k s =
      then_follows _ (evaluate_follows e k s) (λ u t. branch_follows (is_strictly_equal v u) _ _ (λ w. normally here w)
      (λ w. select_follows cs v (suc here) default k w) t)

  -- the inside of a for and of a switch

  abbrev pub for_inside : Init → OptionalExpr → OptionalExpr → Stmt → Step
  for_inside i c u b s =
      and_then (start_loop i s) (λ _ s₁.
      test_then_repeat (λ s₂. evaluate_optional (boolean true) c s₂) (λ s₂. execute b s₂)
      (λ s₂. discard_value (evaluate_optional undefined u s₂)) s₁)

  pub for_follows : (i : Init) (c u : OptionalExpr) (b : Stmt) (k : ℕ) → AtZero k (lexically_declared_init i ≡ [])
      → Followed k (Unit {0}) (execute b) → Followed k (Unit {0}) (for_inside i c u b)
  for_follows i c u b k h body_followed s =
      then_follows _ (start_follows i k h s) (λ _ t.
      test_then_follows k _ _ _ (λ w. optional_reaches Fewer fewer_kept (boolean true) c w) (λ w. execute_reaches Fewer fewer_kept b w)
      (λ w. discard_reaches Fewer fewer_kept w (evaluate_optional undefined u w) (optional_reaches Fewer fewer_kept undefined u w))
      (optional_follows (boolean true) c k) body_followed (λ w. discard_follows (optional_follows undefined u k w)) t)

  abbrev pub switch_inside : Cases → Value → Step
  switch_inside cs v s = and_then (select_case cs v 0 (default_place cs) s) (λ place s₁. execute_cases cs place s₁)

  pub switch_follows : (cs : Cases) (v : Value) (k : ℕ) → ((place : ℕ) → Followed k (Unit {0}) (execute_cases cs place))
      → Followed k (Unit {0}) (switch_inside cs v)
  switch_follows cs v k h s = then_follows _ (select_follows cs v 0 (default_place cs) k s) (λ place t. h place t)

  -- statements

  mutual
    pub execute_follows : (x : Stmt) (k : ℕ) → AtZero k (NoLexical x) → Followed k (Unit {0}) (execute x)
    execute_follows empty k h s = normally tt s
    execute_follows (expression e) k h s = discard_follows (evaluate_follows e k s)
    execute_follows (declaration kind ds) k h s = declare_follows kind ds k h s
    execute_follows (return_of e) k h s = then_follows _ (optional_follows undefined e k s) (λ v t. abruptly _ t)
    execute_follows (throw e) k h s = then_follows _ (evaluate_follows e k s) (λ v t. abruptly _ t)
    execute_follows (if_then c x a) k h s =
        then_follows _ (evaluate_follows c k s) (λ v t. branch_follows (to_boolean v) _ _
        (execute_follows x k (at_zero k (λ p. p.0) h)) (alternate_follows a k (at_zero k (λ p. p.1) h)) t)
    execute_follows (block xs) k h s =
        scope_follows (lexically_declared_list xs) _ k (λ e. list_follows xs k (at_zero k (λ p. p e) h)) (list_follows xs (suc k) tt) s
    execute_follows (while c b) k h s =
        test_then_follows k _ _ _ (λ t. evaluate_reaches Fewer fewer_kept c t) (λ t. execute_reaches Fewer fewer_kept b t) (λ t. fewer_kept.stays t)
        (evaluate_follows c k) (execute_follows b k h) (λ t. normally tt t) s
    execute_follows (do_while b c) k h s =
        repeat_follows k _ _ _ (λ t. evaluate_reaches Fewer fewer_kept c t) (λ t. execute_reaches Fewer fewer_kept b t) (λ t. fewer_kept.stays t)
        (evaluate_follows c k) (execute_follows b k h) (λ t. normally tt t) s
    execute_follows (for i c u b) k h s =
        scope_follows (lexically_declared_init i) _ k
        (λ e. for_follows i c u b k (start_at_zero k e) (execute_follows b k (at_zero k (λ p. p e) h)))
        (for_follows i c u b (suc k) tt (execute_follows b (suc k) tt)) s
    execute_follows (switch d cs) k h s =
        then_follows _ (evaluate_follows d k s) (λ v t. take_break_follows k (scope_follows (lexically_declared_cases cs) _ k
        (λ e. switch_follows cs v k (λ place u. cases_follow cs place k (at_zero k (λ p. p e) h) u))
        (switch_follows cs v (suc k) (λ place u. cases_follow cs place (suc k) tt u)) t))
    execute_follows break k h s = abruptly _ s
    execute_follows continue k h s = abruptly _ s

    alternate_follows : (a : Alternate) (k : ℕ) → AtZero k (NoLexicalAlternate a) → Followed k (Unit {0}) (execute_alternate a)
    alternate_follows no_alternate k h s = normally tt s
    alternate_follows (alternate x) k h s = execute_follows x k h s

    pub list_follows : (xs : Stmts) (k : ℕ) → AtZero k (NoLexicalList xs) → Followed k (Unit {0}) (execute_list xs)
    list_follows no_stmts k h s = normally tt s
    list_follows (stmt_then x xs) k h s =
        then_follows _ (execute_follows x k (at_zero k (λ p. p.0) h) s) (λ _ t. list_follows xs k (at_zero k (λ p. p.1) h) t)

    pub cases_follow : (cs : Cases) (place k : ℕ) → AtZero k (NoLexicalCases cs) → Followed k (Unit {0}) (execute_cases cs place)
    cases_follow no_cases place k h s = normally tt s
    cases_follow (case_then t xs cs) zero k h s =
        then_follows _ (list_follows xs k (at_zero k (λ p. p.0) h) s) (λ _ u. cases_follow cs zero k (at_zero k (λ p. p.1) h) u)
    cases_follow (case_then t xs cs) (suc place) k h s = cases_follow cs place k (at_zero k (λ p. p.1) h) s
