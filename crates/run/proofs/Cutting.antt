-- A run is cut only where no turn is left.
use mathlib.Core.Path.{◌≡◌, refl}
use mathlib.Core.Bool.{Bool, true, false}
use mathlib.Core.List.{List, [], ◌∷◌}
use Prim.Native.Nat.{ℕ, zero, suc, ◌≤◌}
use native.Mathlib.Omega.{arith}
use Rattle.script.specs.declared.DeclarationKind.{DeclarationKind}
use Rattle.script.specs.declared.DeclarationKind.TheVariants.{Var, Let, Const}
use Rattle.script.specs.Tree.{Expr, number, word, name, assignment, call, sequence, conditional, logical, not, void, strict_equality}
use Rattle.script.specs.Tree.{Exprs, no_exprs, expr_then, OptionalExpr, absent, present, Declarators, no_declarators, declarator_then}
use Rattle.script.specs.Tree.{Init, no_init, init_expression, init_declaration, Alternate, no_alternate, alternate}
use Rattle.script.specs.Tree.{Stmt, empty, expression, declaration, return_of, throw, if_then, block, while, do_while, for, switch, break, continue}
use Rattle.script.specs.Tree.{Stmts, no_stmts, stmt_then, Cases, no_cases, case_then}
use Rattle.run.specs.Values.{Value, undefined, boolean, to_boolean, is_strictly_equal}
use Rattle.run.specs.Environment.{mutable, immutable, Binding, unbound, uninitialised, initialised, lookup}
use Rattle.run.specs.World.{Reply, gives, throws}
use Rattle.run.specs.Completion.{State, with_turns, Abrupt, returned, thrown, broke, continued, cut}
use Rattle.run.specs.Completion.{Completion, normal, abrupt, and_then, branch}
use Rattle.run.specs.Evaluate.{get_value, put_value_in, put_value, event_at, reply_completion, call_world, goes_right, evaluate, evaluate_arguments, evaluate_others, evaluate_optional}
use Rattle.run.specs.Names.{lexically_declared_list, lexically_declared_cases, lexically_declared_init}
use Rattle.run.specs.Execute.{Step, discard_value, declare_name, declare, leave_record, enter_record, in_scope_of, spend_turn, after_abrupt_body, after_body}
use Rattle.run.specs.Execute.{repeat, test_then_repeat, start_loop, take_abrupt_break, take_break, default_place, select_case}
use Rattle.run.specs.Execute.{execute, execute_alternate, execute_list, execute_cases}
use Rattle.run.specs.Laws.{CutWhenSpent, CutOnlyWhenSpent}
use Rattle.run.proofs.Reaching.{Reaches, Every, evaluate_reaches, optional_reaches, discard_reaches, execute_reaches}
use Rattle.run.proofs.Turns.{Fewer, fewer_kept}

abbrev SpentAfter : (State → Completion (Unit {0})) → Type 0
SpentAfter step = (s : State) → CutWhenSpent (step s)

threw : (v : Value) (s : State) → thrown v ≡ cut → s.turns ≡ 0
threw v s e = let z : ◌≡◌ {A = ℕ} 0 1 = cc in absurd (omega arith)

then_spent : {A B : Type 0} (r : Completion A) (next : A → State → Completion B) → CutWhenSpent r
    → ((a : A) (s : State) → CutWhenSpent (next a s)) → CutWhenSpent (and_then r next)
then_spent (normal a s) next h k = k a s
then_spent (abrupt j s) next h k = h

branch_spent : {A : Type 0} (b : Bool) (f g : State → Completion A) (s : State) → CutWhenSpent (f s) → CutWhenSpent (g s)
    → CutWhenSpent (branch b f g s)
branch_spent true f g s h k = h
branch_spent false f g s h k = k

-- expressions are never cut

get_spent : (b : Binding) (s : State) → CutWhenSpent (get_value b s)
get_spent unbound s = threw _ s
get_spent uninitialised s = threw _ s
get_spent (initialised m v) s = tt

put_spent : (b : Binding) (n : ℕ) (v : Value) (s : State) → CutWhenSpent (put_value_in b n v s)
put_spent unbound n v s = threw _ s
put_spent uninitialised n v s = threw _ s
put_spent (initialised immutable u) n v s = threw _ s
put_spent (initialised mutable u) n v s = tt

reply_spent : (r : Reply) (s : State) → CutWhenSpent (reply_completion r s)
reply_spent (gives v) s = tt
reply_spent (throws v) s = threw v s

call_spent : (n : ℕ) (vs : List Value) (s : State) → CutWhenSpent (call_world n vs s)
call_spent n vs s = reply_spent (s.world (event_at n vs s ∷ s.events)).reply _

mutual
  evaluate_spent : (e : Expr) (s : State) → CutWhenSpent (evaluate e s)
  evaluate_spent (number bits) s = tt
  evaluate_spent (word w) s = tt
  evaluate_spent (name n) s = get_spent (lookup s.environment n) s
  evaluate_spent (assignment n e) s = then_spent (evaluate e s) _ (evaluate_spent e s) (λ v t. put_spent (lookup t.environment n) n v t)
  evaluate_spent (call n es) s = then_spent (evaluate_arguments es s) _ (arguments_spent es s) (λ vs t. call_spent n vs t)
  evaluate_spent (sequence e es) s = then_spent (evaluate e s) _ (evaluate_spent e s) (λ v t. others_spent es v t)
  evaluate_spent (conditional c a b) s =
      then_spent (evaluate c s) _ (evaluate_spent c s) (λ v t. branch_spent (to_boolean v) _ _ t (evaluate_spent a t) (evaluate_spent b t))
  evaluate_spent (logical o a b) s =
      then_spent (evaluate a s) _ (evaluate_spent a s) (λ v t. branch_spent (goes_right o v) _ _ t (evaluate_spent b t) tt)
  evaluate_spent (not e) s = then_spent (evaluate e s) _ (evaluate_spent e s) (λ v t. tt)
  evaluate_spent (void e) s = then_spent (evaluate e s) _ (evaluate_spent e s) (λ v t. tt)
  evaluate_spent (strict_equality a b) s =
      then_spent (evaluate a s) _ (evaluate_spent a s) (λ u t. then_spent (evaluate b t) _ (evaluate_spent b t) (λ v w. tt))

  arguments_spent : (es : Exprs) (s : State) → CutWhenSpent (evaluate_arguments es s)
  arguments_spent no_exprs s = tt
  arguments_spent (expr_then e es) s =
      then_spent (evaluate e s) _ (evaluate_spent e s) (λ v t. then_spent (evaluate_arguments es t) _ (arguments_spent es t) (λ vs u. tt))

  others_spent : (es : Exprs) (v : Value) (s : State) → CutWhenSpent (evaluate_others es v s)
  others_spent no_exprs v s = tt
  others_spent (expr_then e es) v s = then_spent (evaluate e s) _ (evaluate_spent e s) (λ u t. others_spent es u t)

optional_spent : (v : Value) (e : OptionalExpr) (s : State) → CutWhenSpent (evaluate_optional v e s)
optional_spent v absent s = tt
optional_spent v (present e) s = evaluate_spent e s

-- declarations and scopes

discard_spent : (r : Completion Value) → CutWhenSpent r → CutWhenSpent (discard_value r)
discard_spent r h = then_spent r _ h (λ v t. tt)

declare_name_spent : (kind : DeclarationKind) (n : ℕ) (e : OptionalExpr) → SpentAfter (declare_name kind n e)
declare_name_spent Var n absent s = tt
declare_name_spent Var n (present e) s =
    then_spent (evaluate e s) _ (evaluate_spent e s) (λ v t. discard_spent (put_value n v t) (put_spent (lookup t.environment n) n v t))
declare_name_spent Let n e s = then_spent (evaluate_optional undefined e s) _ (optional_spent undefined e s) (λ v t. tt)
declare_name_spent Const n e s = then_spent (evaluate_optional undefined e s) _ (optional_spent undefined e s) (λ v t. tt)

declare_spent : (kind : DeclarationKind) (ds : Declarators) → SpentAfter (declare kind ds)
declare_spent kind no_declarators s = tt
declare_spent kind (declarator_then n e ds) s =
    then_spent (declare_name kind n e s) _ (declare_name_spent kind n e s) (λ _ t. declare_spent kind ds t)

leave_spent : (r : Completion (Unit {0})) → CutWhenSpent r → CutWhenSpent (leave_record r)
leave_spent (normal a s) h = tt
leave_spent (abrupt j s) h = h

scope_spent : (names : List ℕ) (step : Step) → SpentAfter step → SpentAfter (in_scope_of names step)
scope_spent [] step h s = h s
scope_spent (n ∷ names) step h s = leave_spent (step (enter_record (n ∷ names) s)) (h _)

-- loops: the bound covers the turns that are left

abbrev SpentWithin : ℕ → Step → Type 0
SpentWithin n step = (s : State) → s.turns ≤ n → CutWhenSpent (step s)

then_within : {A : Type 0} (n : ℕ) (s : State) (r : Completion A) (next : A → Step) → s.turns ≤ n → Reaches Fewer s r → CutWhenSpent r
    → ((a : A) → SpentWithin n (next a)) → CutWhenSpent (and_then r next)
then_within n s (normal a t) next l h c k = k a t (omega arith)
then_within n s (abrupt j t) next l h c k = c

after_abrupt_within : (n : ℕ) (j : Abrupt) (s : State) (next : Step) → s.turns ≤ n → (j ≡ cut → s.turns ≡ 0) → SpentWithin n next
    → CutWhenSpent (after_abrupt_body j s next)
after_abrupt_within n (returned v) s next l h k = h
after_abrupt_within n (thrown v) s next l h k = h
after_abrupt_within n broke s next l h k = tt
after_abrupt_within n continued s next l h k = k s l
after_abrupt_within n cut s next l h k = h

after_body_within : (n : ℕ) (s : State) (r : Completion (Unit {0})) (next : Step) → s.turns ≤ n → Reaches Fewer s r → CutWhenSpent r
    → SpentWithin n next → CutWhenSpent (after_body r next)
after_body_within n s (normal a t) next l h c k = k t (omega arith)
after_body_within n s (abrupt j t) next l h c k = after_abrupt_within n j t next (omega arith) c k

spend_spent : (turns : ℕ) (s : State) (step : Step) → s.turns ≡ turns
    → ((left : ℕ) → turns ≡ suc left → CutWhenSpent (step (with_turns left s))) → CutWhenSpent (spend_turn turns step s)
spend_spent zero s step e k = λ _. e
spend_spent (suc left) s step e k = k left refl

module _ (test : State → Completion Value) (body update : Step)
    (test_reaches : (s : State) → Reaches Fewer s (test s)) (body_reaches : Every Fewer fewer_kept body) (update_reaches : Every Fewer fewer_kept update)
    (test_spent : (s : State) → CutWhenSpent (test s)) (body_spent : SpentAfter body) (update_spent : SpentAfter update) where
  repeat_spent : (bound : ℕ) → SpentWithin bound (repeat bound test body update)
  repeat_spent zero s l = λ _. omega arith
  repeat_spent (suc bound) s l =
      spend_spent s.turns s _ refl (λ left e.
      let t : State = with_turns left s in
      after_body_within left t (body t) _ (omega arith) (body_reaches t) (body_spent t) (λ u m.
      then_within left u (update u) _ m (update_reaches u) (update_spent u) (λ _ v n.
      then_within left v (test v) _ n (test_reaches v) (test_spent v) (λ value w o.
      branch_spent (to_boolean value) _ _ w (repeat_spent bound w (omega arith)) tt))))

  test_then_spent : SpentAfter (test_then_repeat test body update)
  test_then_spent s =
      then_spent (test s) _ (test_spent s) (λ v t. branch_spent (to_boolean v) _ _ t (repeat_spent t.turns t (omega arith)) tt)

start_spent : (i : Init) → SpentAfter (start_loop i)
start_spent no_init s = tt
start_spent (init_expression e) s = discard_spent (evaluate e s) (evaluate_spent e s)
start_spent (init_declaration kind ds) s = declare_spent kind ds s

-- switches

take_abrupt_spent : (j : Abrupt) (s : State) → (j ≡ cut → s.turns ≡ 0) → CutWhenSpent (take_abrupt_break j s)
take_abrupt_spent (returned v) s h = h
take_abrupt_spent (thrown v) s h = h
take_abrupt_spent broke s h = tt
take_abrupt_spent continued s h = h
take_abrupt_spent cut s h = h

take_break_spent : (r : Completion (Unit {0})) → CutWhenSpent r → CutWhenSpent (take_break r)
take_break_spent (normal a s) h = tt
take_break_spent (abrupt j s) h = take_abrupt_spent j s h

select_spent : (cs : Cases) (v : Value) (here default : ℕ) (s : State) → CutWhenSpent (select_case cs v here default s)
select_spent no_cases v here default s = tt
select_spent (case_then absent xs cs) v here default s = select_spent cs v (suc here) default s
select_spent (case_then (present e) xs cs) v here default s =
    then_spent (evaluate e s) _ (evaluate_spent e s)
    (λ u t. branch_spent (is_strictly_equal v u) _ _ t tt (select_spent cs v (suc here) default t))

-- statements

mutual
  execute_spent : (x : Stmt) → SpentAfter (execute x)
  execute_spent empty s = tt
  execute_spent (expression e) s = discard_spent (evaluate e s) (evaluate_spent e s)
  execute_spent (declaration kind ds) s = declare_spent kind ds s
  execute_spent (return_of e) s =
      then_spent (evaluate_optional undefined e s) _ (optional_spent undefined e s)
      (λ v t e. let z : ◌≡◌ {A = ℕ} 0 1 = cc in absurd (omega arith))
  execute_spent (throw e) s = then_spent (evaluate e s) _ (evaluate_spent e s) (λ v t. threw v t)
  execute_spent (if_then c x a) s =
      then_spent (evaluate c s) _ (evaluate_spent c s) (λ v t. branch_spent (to_boolean v) _ _ t (execute_spent x t) (alternate_spent a t))
  execute_spent (block xs) s = scope_spent (lexically_declared_list xs) _ (λ t. list_spent xs t) s
  execute_spent (while c b) s =
      test_then_spent _ _ _ (λ t. evaluate_reaches Fewer fewer_kept c t) (λ t. execute_reaches Fewer fewer_kept b t) (λ t. fewer_kept.stays t)
      (λ t. evaluate_spent c t) (λ t. execute_spent b t) (λ t. tt) s
  execute_spent (do_while b c) s =
      repeat_spent _ _ _ (λ t. evaluate_reaches Fewer fewer_kept c t) (λ t. execute_reaches Fewer fewer_kept b t) (λ t. fewer_kept.stays t)
      (λ t. evaluate_spent c t) (λ t. execute_spent b t) (λ t. tt) s.turns s (omega arith)
  execute_spent (for i c u b) s =
      scope_spent (lexically_declared_init i) _ (λ t. then_spent (start_loop i t) _ (start_spent i t)
      (λ _ v. test_then_spent _ _ _ (λ w. optional_reaches Fewer fewer_kept (boolean true) c w) (λ w. execute_reaches Fewer fewer_kept b w)
      (λ w. discard_reaches Fewer fewer_kept w (evaluate_optional undefined u w) (optional_reaches Fewer fewer_kept undefined u w))
      (λ w. optional_spent (boolean true) c w) (λ w. execute_spent b w)
      (λ w. discard_spent (evaluate_optional undefined u w) (optional_spent undefined u w)) v)) s
  execute_spent (switch d cs) s =
      then_spent (evaluate d s) _ (evaluate_spent d s)
      (λ v t. take_break_spent _ (scope_spent (lexically_declared_cases cs) _
      (λ u. then_spent (select_case cs v 0 (default_place cs) u) _ (select_spent cs v 0 (default_place cs) u)
      (λ place w. cases_spent cs place w)) t))
  execute_spent break s = λ e. let z : ◌≡◌ {A = ℕ} 0 1 = cc in absurd (omega arith)
  execute_spent continue s = λ e. let z : ◌≡◌ {A = ℕ} 0 1 = cc in absurd (omega arith)

  alternate_spent : (a : Alternate) → SpentAfter (execute_alternate a)
  alternate_spent no_alternate s = tt
  alternate_spent (alternate x) s = execute_spent x s

  list_spent : (xs : Stmts) → SpentAfter (execute_list xs)
  list_spent no_stmts s = tt
  list_spent (stmt_then x xs) s = then_spent (execute x s) _ (execute_spent x s) (λ _ t. list_spent xs t)

  cases_spent : (cs : Cases) (place : ℕ) → SpentAfter (execute_cases cs place)
  cases_spent no_cases place s = tt
  cases_spent (case_then t xs cs) zero s = then_spent (execute_list xs s) _ (list_spent xs s) (λ _ u. cases_spent cs zero u)
  cases_spent (case_then t xs cs) (suc place) s = cases_spent cs place s

pub cut_only_when_spent : CutOnlyWhenSpent
cut_only_when_spent = execute_spent
