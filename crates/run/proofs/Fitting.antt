-- A body that fits, in a world that fits, meets what fits.
use mathlib.Core.Path.{ap}
use mathlib.Core.Bool.{Bool, true, false}
use mathlib.Core.List.{List, [], ◌∷◌, reverse_aux}
use Prim.Native.Nat.{ℕ, zero, suc, ◌<◌}
use lib.Dec.{lit<}
use Rattle.script.specs.declared.Word.{Word}
use Rattle.script.specs.declared.Word.TheVariants.{False, True, Null}
use Rattle.script.specs.declared.DeclarationKind.{DeclarationKind}
use Rattle.script.specs.declared.DeclarationKind.TheVariants.{Var, Let, Const}
use Rattle.script.specs.Tree.{Expr, number, word, name, assignment, call, sequence, conditional, logical, not, void, strict_equality}
use Rattle.script.specs.Tree.{Exprs, no_exprs, expr_then, OptionalExpr, absent, present, Declarators, no_declarators, declarator_then}
use Rattle.script.specs.Tree.{Init, no_init, init_expression, init_declaration, Alternate, no_alternate, alternate}
use Rattle.script.specs.Tree.{Stmt, empty, expression, declaration, return_of, throw, if_then, block, while, do_while, for, switch, break, continue}
use Rattle.script.specs.Tree.{Stmts, no_stmts, stmt_then, Cases, no_cases, case_then}
use Rattle.run.specs.Values.{Value, undefined, boolean, to_boolean, is_strictly_equal}
use Rattle.run.specs.Environment.{mutable, immutable, Binding, unbound, uninitialised, initialised, Environment, lookup}
use Rattle.run.specs.World.{Event, sight_of, Reply, gives, throws, World}
use Rattle.run.specs.Completion.{State, with_environment, with_turns, Abrupt, returned, thrown, broke, continued, cut}
use Rattle.run.specs.Completion.{Completion, normal, abrupt, and_then, branch}
use Rattle.run.specs.Evaluate.{get_value, put_value_in, put_value, event_at, reply_completion, call_world, word_value, goes_right, evaluate, evaluate_arguments, evaluate_others, evaluate_optional}
use Rattle.run.specs.Names.{lexically_declared_list, lexically_declared_cases, lexically_declared_init, var_declared_list}
use Rattle.run.specs.Execute.{Step, discard_value, declare_name, declare, leave_record, enter_record, in_scope_of, spend_turn, after_abrupt_body, after_body}
use Rattle.run.specs.Execute.{repeat, test_then_repeat, start_loop, take_abrupt_break, take_break, default_place, select_case}
use Rattle.run.specs.Execute.{execute, execute_alternate, execute_list, execute_cases}
use Rattle.run.specs.Run.{ended, at_start}
use Rattle.run.specs.Fits.{FitsValue, FitsValues, FitsEvent, FitsEvents, FitsReply, FitsWorld, FitsAbrupt}
use Rattle.run.specs.Fits.{FitsExpr, FitsExprs, FitsOptional, FitsDeclarators, FitsInit, FitsStmt, FitsAlternate, FitsStmts, FitsCases}
use Rattle.run.specs.Laws.{ValuesFit}
use Rattle.run.proofs.FittingNames.{FitsNames, declared_list_fit, declared_cases_fit, declared_init_fit, vars_list_fit}
use Rattle.run.proofs.FittingEnvironment.{FitsBinding, FitsEnvironment, lookup_fits, sight_fits, set_fits, initialise_fits, outer_fits, new_record_fits, apply_fits}

pub record FitsState (s : State) : Type 0 where
  pub world : FitsWorld s.world
  pub events : FitsEvents s.events
  pub environment : FitsEnvironment s.environment

-- a completion that fits, where P tells which values fit
abbrev Fits : {A : Type 0} → (A → Type 0) → Completion A → Type 0
Fits P (normal a s) = P a × FitsState s
Fits P (abrupt j s) = FitsAbrupt j × FitsState s

abbrev Anything : {A : Type 0} → A → Type 0
Anything a = Unit {0}

abbrev StepFits : Step → Type 0
StepFits step = (s : State) → FitsState s → Fits Anything (step s)

then_fits : {A B : Type 0} (P : A → Type 0) (Q : B → Type 0) (r : Completion A) (next : A → State → Completion B) → Fits P r
    → ((a : A) (s : State) → P a → FitsState s → Fits Q (next a s)) → Fits Q (and_then r next)
then_fits P Q (normal a s) next h k = k a s h.0 h.1
then_fits P Q (abrupt j s) next h k = h

branch_fits : {A : Type 0} (P : A → Type 0) (b : Bool) (f g : State → Completion A) (s : State) → Fits P (f s) → Fits P (g s) → Fits P (branch b f g s)
branch_fits P true f g s h k = h
branch_fits P false f g s h k = k

bound : {e : Environment} {s : State} → FitsState s → FitsEnvironment e → FitsState (with_environment e s)
bound h k = record { world = h.world; events = h.events; environment = k }

fewer : {s : State} (n : ℕ) → FitsState s → FitsState (with_turns n s)
fewer n h = record { world = h.world; events = h.events; environment = h.environment }

-- expressions

get_fits : (b : Binding) (s : State) → FitsBinding b → FitsState s → Fits FitsValue (get_value b s)
get_fits unbound s k h = (lit< tt, h)
get_fits uninitialised s k h = (lit< tt, h)
get_fits (initialised m v) s k h = (k, h)

put_in_fits : (b : Binding) (n : ℕ) (v : Value) (s : State) → n < 256 → FitsValue v → FitsState s → Fits FitsValue (put_value_in b n v s)
put_in_fits unbound n v s l k h = (lit< tt, h)
put_in_fits uninitialised n v s l k h = (lit< tt, h)
put_in_fits (initialised immutable u) n v s l k h = (lit< tt, h)
put_in_fits (initialised mutable u) n v s l k h = (k, bound h (set_fits n (initialised mutable v) s.environment l k h.environment))

put_fits : (n : ℕ) (v : Value) (s : State) → n < 256 → FitsValue v → FitsState s → Fits FitsValue (put_value n v s)
put_fits n v s l k h = put_in_fits (lookup s.environment n) n v s l k h

event_fits : (n : ℕ) (vs : List Value) (s : State) → n < 256 → FitsValues vs → FitsState s → FitsEvent (event_at n vs s)
event_fits n vs s l k h = record {
  number = l;
  arguments = k;
  sight = λ m. sight_fits (lookup s.environment m) (lookup_fits s.environment m h.environment).value;
  names = λ m far. ap sight_of ((lookup_fits s.environment m h.environment).bounded far);
}

reply_fits : (r : Reply) (s : State) → FitsReply r → FitsState s → Fits FitsValue (reply_completion r s)
reply_fits (gives v) s k h = (k, h)
reply_fits (throws v) s k h = (k, h)

call_fits : (n : ℕ) (vs : List Value) (s : State) → n < 256 → FitsValues vs → FitsState s → Fits FitsValue (call_world n vs s)
call_fits n vs s l k h =
    let events : FitsEvents (event_at n vs s ∷ s.events) = (event_fits n vs s l k h, h.events) in
    let answer = h.world (event_at n vs s ∷ s.events) events in
    reply_fits _ _ answer.reply
    (record { world = h.world; events = events; environment = apply_fits _ s.environment answer.settings h.environment })

word_fits : (w : Word) → FitsValue (word_value w)
word_fits False = tt
word_fits True = tt
word_fits Null = tt

mutual
  evaluate_fits : (e : Expr) (s : State) → FitsExpr e → FitsState s → Fits FitsValue (evaluate e s)
  evaluate_fits (number bits) s ok h = (ok, h)
  evaluate_fits (word w) s ok h = (word_fits w, h)
  evaluate_fits (name n) s ok h = get_fits (lookup s.environment n) s (lookup_fits s.environment n h.environment).value h
  evaluate_fits (assignment n e) s ok h =
      then_fits FitsValue FitsValue (evaluate e s) _ (evaluate_fits e s ok.1 h) (λ v t k i. put_fits n v t ok.0 k i)
  evaluate_fits (call n es) s ok h =
      then_fits FitsValues FitsValue (evaluate_arguments es s) _ (arguments_fit es s ok.1 h) (λ vs t k i. call_fits n vs t ok.0 k i)
  evaluate_fits (sequence e es) s ok h =
      then_fits FitsValue FitsValue (evaluate e s) _ (evaluate_fits e s ok.0 h) (λ v t k i. others_fit es v t ok.1 k i)
  evaluate_fits (conditional c a b) s ok h =
      then_fits FitsValue FitsValue (evaluate c s) _ (evaluate_fits c s ok.0 h)
      (λ v t k i. branch_fits FitsValue (to_boolean v) _ _ t (evaluate_fits a t ok.1 i) (evaluate_fits b t ok.2 i))
  evaluate_fits (logical o a b) s ok h =
      then_fits FitsValue FitsValue (evaluate a s) _ (evaluate_fits a s ok.0 h)
      (λ v t k i. branch_fits FitsValue (goes_right o v) _ _ t (evaluate_fits b t ok.1 i) (k, i))
  evaluate_fits (not e) s ok h = then_fits FitsValue FitsValue (evaluate e s) _ (evaluate_fits e s ok h) (λ v t k i. (tt, i))
  evaluate_fits (void e) s ok h = then_fits FitsValue FitsValue (evaluate e s) _ (evaluate_fits e s ok h) (λ v t k i. (tt, i))
  evaluate_fits (strict_equality a b) s ok h =
      then_fits FitsValue FitsValue (evaluate a s) _ (evaluate_fits a s ok.0 h)
      (λ u t k i. then_fits FitsValue FitsValue (evaluate b t) _ (evaluate_fits b t ok.1 i) (λ v w l j. (tt, j)))

  arguments_fit : (es : Exprs) (s : State) → FitsExprs es → FitsState s → Fits FitsValues (evaluate_arguments es s)
  arguments_fit no_exprs s ok h = (tt, h)
  arguments_fit (expr_then e es) s ok h =
      then_fits FitsValue FitsValues (evaluate e s) _ (evaluate_fits e s ok.0 h)
      (λ v t k i. then_fits FitsValues FitsValues (evaluate_arguments es t) _ (arguments_fit es t ok.1 i) (λ vs u l j. ((k, l), j)))

  others_fit : (es : Exprs) (v : Value) (s : State) → FitsExprs es → FitsValue v → FitsState s → Fits FitsValue (evaluate_others es v s)
  others_fit no_exprs v s ok k h = (k, h)
  others_fit (expr_then e es) v s ok k h =
      then_fits FitsValue FitsValue (evaluate e s) _ (evaluate_fits e s ok.0 h) (λ u t l i. others_fit es u t ok.1 l i)

optional_fits : (v : Value) (e : OptionalExpr) (s : State) → FitsValue v → FitsOptional e → FitsState s → Fits FitsValue (evaluate_optional v e s)
optional_fits v absent s k ok h = (k, h)
optional_fits v (present e) s k ok h = evaluate_fits e s ok h

-- declarations and scopes

discard_fits : (r : Completion Value) → Fits FitsValue r → Fits Anything (discard_value r)
discard_fits r h = then_fits FitsValue Anything r _ h (λ v t k i. (tt, i))

declare_name_fits : (kind : DeclarationKind) (n : ℕ) (e : OptionalExpr) → n < 256 → FitsOptional e → StepFits (declare_name kind n e)
declare_name_fits Var n absent l ok s h = (tt, h)
declare_name_fits Var n (present e) l ok s h =
    then_fits FitsValue Anything (evaluate e s) _ (evaluate_fits e s ok h) (λ v t k i. discard_fits (put_value n v t) (put_fits n v t l k i))
declare_name_fits Let n e l ok s h =
    then_fits FitsValue Anything (evaluate_optional undefined e s) _ (optional_fits undefined e s tt ok h)
    (λ v t k i. (tt, bound i (initialise_fits n (initialised mutable v) t.environment l k i.environment)))
declare_name_fits Const n e l ok s h =
    then_fits FitsValue Anything (evaluate_optional undefined e s) _ (optional_fits undefined e s tt ok h)
    (λ v t k i. (tt, bound i (initialise_fits n (initialised immutable v) t.environment l k i.environment)))

declare_fits : (kind : DeclarationKind) (ds : Declarators) → FitsDeclarators ds → StepFits (declare kind ds)
declare_fits kind no_declarators ok s h = (tt, h)
declare_fits kind (declarator_then n e ds) ok s h =
    then_fits Anything Anything (declare_name kind n e s) _ (declare_name_fits kind n e ok.0 ok.1 s h) (λ _ t k i. declare_fits kind ds ok.2 t i)

leave_fits : (r : Completion (Unit {0})) → Fits Anything r → Fits Anything (leave_record r)
leave_fits (normal a s) h = (tt, bound h.1 (outer_fits s.environment h.1.environment))
leave_fits (abrupt j s) h = (h.0, bound h.1 (outer_fits s.environment h.1.environment))

scope_fits : (names : List ℕ) (step : Step) → FitsNames names → StepFits step → StepFits (in_scope_of names step)
scope_fits [] step ok k s h = k s h
scope_fits (n ∷ names) step ok k s h =
    leave_fits (step (enter_record (n ∷ names) s)) (k _ (bound h (new_record_fits uninitialised (n ∷ names) tt ok, h.environment)))

-- loops

spend_fits : (turns : ℕ) (step : Step) (s : State) → FitsState s → StepFits step → Fits Anything (spend_turn turns step s)
spend_fits zero step s h k = (tt, h)
spend_fits (suc left) step s h k = k _ (fewer left h)

after_abrupt_fits : (j : Abrupt) (s : State) (next : Step) → FitsAbrupt j → FitsState s → StepFits next → Fits Anything (after_abrupt_body j s next)
after_abrupt_fits (returned v) s next k h n = (k, h)
after_abrupt_fits (thrown v) s next k h n = (k, h)
after_abrupt_fits broke s next k h n = (tt, h)
after_abrupt_fits continued s next k h n = n s h
after_abrupt_fits cut s next k h n = (tt, h)

after_body_fits : (r : Completion (Unit {0})) (next : Step) → Fits Anything r → StepFits next → Fits Anything (after_body r next)
after_body_fits (normal a s) next h n = n s h.1
after_body_fits (abrupt j s) next h n = after_abrupt_fits j s next h.0 h.1 n

module _ (test : State → Completion Value) (body update : Step)
    (test_fits : (s : State) → FitsState s → Fits FitsValue (test s)) (body_fits : StepFits body) (update_fits : StepFits update) where
  repeat_fits : (limit : ℕ) → StepFits (repeat limit test body update)
  repeat_fits zero s h = (tt, h)
  repeat_fits (suc limit) s h =
      spend_fits s.turns _ s h (λ t i. after_body_fits (body t) _ (body_fits t i)
      (λ u j. then_fits Anything Anything (update u) _ (update_fits u j) (λ _ v k l. then_fits FitsValue Anything (test v) _ (test_fits v l)
      (λ value w m o. branch_fits Anything (to_boolean value) _ _ w (repeat_fits limit w o) (tt, o)))))

  test_then_fits : StepFits (test_then_repeat test body update)
  test_then_fits s h =
      then_fits FitsValue Anything (test s) _ (test_fits s h)
      (λ v t k i. branch_fits Anything (to_boolean v) _ _ t (repeat_fits t.turns t i) (tt, i))

start_fits : (i : Init) → FitsInit i → StepFits (start_loop i)
start_fits no_init ok s h = (tt, h)
start_fits (init_expression e) ok s h = discard_fits (evaluate e s) (evaluate_fits e s ok h)
start_fits (init_declaration kind ds) ok s h = declare_fits kind ds ok s h

-- switches

take_abrupt_fits : (j : Abrupt) (s : State) → FitsAbrupt j → FitsState s → Fits Anything (take_abrupt_break j s)
take_abrupt_fits (returned v) s k h = (k, h)
take_abrupt_fits (thrown v) s k h = (k, h)
take_abrupt_fits broke s k h = (tt, h)
take_abrupt_fits continued s k h = (tt, h)
take_abrupt_fits cut s k h = (tt, h)

take_break_fits : (r : Completion (Unit {0})) → Fits Anything r → Fits Anything (take_break r)
take_break_fits (normal a s) h = h
take_break_fits (abrupt j s) h = take_abrupt_fits j s h.0 h.1

select_fits : (cs : Cases) (v : Value) (here default : ℕ) (s : State) → FitsCases cs → FitsState s → Fits Anything (select_case cs v here default s)
select_fits no_cases v here default s ok h = (tt, h)
select_fits (case_then absent xs cs) v here default s ok h = select_fits cs v (suc here) default s ok.2 h
select_fits (case_then (present e) xs cs) v here default s ok h =
    then_fits FitsValue Anything (evaluate e s) _ (evaluate_fits e s ok.0 h)
    (λ u t k i. branch_fits Anything (is_strictly_equal v u) _ _ t (tt, i) (select_fits cs v (suc here) default t ok.2 i))

-- statements

mutual
  execute_fits : (x : Stmt) → FitsStmt x → StepFits (execute x)
  execute_fits empty ok s h = (tt, h)
  execute_fits (expression e) ok s h = discard_fits (evaluate e s) (evaluate_fits e s ok h)
  execute_fits (declaration kind ds) ok s h = declare_fits kind ds ok s h
  execute_fits (return_of e) ok s h =
      then_fits FitsValue Anything (evaluate_optional undefined e s) _ (optional_fits undefined e s tt ok h) (λ v t k i. (k, i))
  execute_fits (throw e) ok s h = then_fits FitsValue Anything (evaluate e s) _ (evaluate_fits e s ok h) (λ v t k i. (k, i))
  execute_fits (if_then c x a) ok s h =
      then_fits FitsValue Anything (evaluate c s) _ (evaluate_fits c s ok.0 h)
      (λ v t k i. branch_fits Anything (to_boolean v) _ _ t (execute_fits x ok.1 t i) (alternate_fits a ok.2 t i))
  execute_fits (block xs) ok s h = scope_fits (lexically_declared_list xs) _ (declared_list_fit xs ok) (λ t i. list_fits xs ok t i) s h
  execute_fits (while c b) ok s h =
      test_then_fits _ _ _ (λ t i. evaluate_fits c t ok.0 i) (λ t i. execute_fits b ok.1 t i) (λ t i. (tt, i)) s h
  execute_fits (do_while b c) ok s h =
      repeat_fits _ _ _ (λ t i. evaluate_fits c t ok.1 i) (λ t i. execute_fits b ok.0 t i) (λ t i. (tt, i)) s.turns s h
  execute_fits (for i c u b) ok s h =
      scope_fits (lexically_declared_init i) _ (declared_init_fit i ok.0) (λ t j. then_fits Anything Anything (start_loop i t) _ (start_fits i ok.0 t j)
      (λ _ v k l. test_then_fits _ _ _ (λ w m. optional_fits (boolean true) c w tt ok.1 m) (λ w m. execute_fits b ok.3 w m)
      (λ w m. discard_fits (evaluate_optional undefined u w) (optional_fits undefined u w tt ok.2 m)) v l)) s h
  execute_fits (switch d cs) ok s h =
      then_fits FitsValue Anything (evaluate d s) _ (evaluate_fits d s ok.0 h)
      (λ v t k i. take_break_fits _ (scope_fits (lexically_declared_cases cs) _ (declared_cases_fit cs ok.1)
      (λ u j. then_fits Anything Anything (select_case cs v 0 (default_place cs) u) _ (select_fits cs v 0 (default_place cs) u ok.1 j)
      (λ place w l m. cases_fit cs place ok.1 w m)) t i))
  execute_fits break ok s h = (tt, h)
  execute_fits continue ok s h = (tt, h)

  alternate_fits : (a : Alternate) → FitsAlternate a → StepFits (execute_alternate a)
  alternate_fits no_alternate ok s h = (tt, h)
  alternate_fits (alternate x) ok s h = execute_fits x ok s h

  list_fits : (xs : Stmts) → FitsStmts xs → StepFits (execute_list xs)
  list_fits no_stmts ok s h = (tt, h)
  list_fits (stmt_then x xs) ok s h =
      then_fits Anything Anything (execute x s) _ (execute_fits x ok.0 s h) (λ _ t k i. list_fits xs ok.1 t i)

  cases_fit : (cs : Cases) (place : ℕ) → FitsCases cs → StepFits (execute_cases cs place)
  cases_fit no_cases place ok s h = (tt, h)
  cases_fit (case_then t xs cs) zero ok s h =
      then_fits Anything Anything (execute_list xs s) _ (list_fits xs ok.1 s h) (λ _ u k i. cases_fit cs zero ok.2 u i)
  cases_fit (case_then t xs cs) (suc place) ok s h = cases_fit cs place ok.2 s h

-- runs

reversed_fit : (es later : List Event) → FitsEvents es → FitsEvents later → FitsEvents (reverse_aux es later)
reversed_fit [] later h k = k
reversed_fit (e ∷ es) later h k = reversed_fit es (e ∷ later) h.1 (h.0, k)

events_fit : (r : Completion (Unit {0})) → Fits Anything r → FitsEvents (ended r).events
events_fit (normal a s) h = reversed_fit s.events [] h.1.events tt
events_fit (abrupt j s) h = reversed_fit s.events [] h.1.events tt

completion_fits : (r : Completion (Unit {0})) → Fits Anything r → FitsAbrupt (ended r).completion
completion_fits (normal a s) h = tt
completion_fits (abrupt j s) h = h.0

start_state_fits : (world : World) (turns : ℕ) (body : Stmts) → FitsWorld world → FitsStmts body → FitsState (at_start world turns body)
start_state_fits world turns body w ok =
    record { world = w; events = tt; environment = (new_record_fits (initialised mutable undefined) (var_declared_list body) tt (vars_list_fit body ok), tt) }

run_fits : (world : World) (turns : ℕ) (body : Stmts) → FitsWorld world → FitsStmts body
    → Fits Anything (execute (block body) (at_start world turns body))
run_fits world turns body w ok = execute_fits (block body) ok (at_start world turns body) (start_state_fits world turns body w ok)

pub values_fit : ValuesFit
values_fit = record {
  events = λ world turns body w ok. events_fit _ (run_fits world turns body w ok);
  completion = λ world turns body w ok. completion_fits _ (run_fits world turns body w ok);
}
