-- What a statement does.
use Rattle.std.specs.Prelude.{true, List, [], ◌∷◌, ℕ, zero, suc}
use Rattle.script.specs.declared.DeclarationKind.{DeclarationKind}
use Rattle.script.specs.declared.DeclarationKind.TheVariants.{Var, Let, Const}
use Rattle.script.specs.Tree.{OptionalExpr, absent, present, Declarators, no_declarators, declarator_then, Init, no_init, init_expression, init_declaration}
use Rattle.script.specs.Tree.{Stmt, empty, expression, declaration, return_of, throw, if_then, block, while, do_while, for, switch, break, continue}
use Rattle.script.specs.Tree.{Alternate, no_alternate, alternate, Stmts, no_stmts, stmt_then, Cases, no_cases, case_then}
use Rattle.run.specs.Values.{Value, undefined, boolean, to_boolean, is_strictly_equal}
use Rattle.run.specs.Environment.{mutable, immutable, uninitialised, initialised, Environment, initialise, new_record}
use Rattle.run.specs.Completion.{State, with_environment, with_turns, Abrupt, returned, thrown, broke, continued, cut}
use Rattle.run.specs.Completion.{Completion, normal, abrupt, and_then, branch}
use Rattle.run.specs.Evaluate.{put_value, evaluate, evaluate_optional}
use Rattle.run.specs.Names.{lexically_declared_list, lexically_declared_cases, lexically_declared_init}

-- a step without a value, and the end of one whose value is not wanted
abbrev pub Step : Type 0
Step = State → Completion (Unit {0})

abbrev pub done : Step
done s = normal tt s

abbrev pub discard_value : Completion Value → Completion (Unit {0})
discard_value r = and_then r (λ _ s. done s)

-- declarations

-- "Variable Statement": a var with a value assigns it to the innermost binding of its name, one without does nothing.
-- "Let and Const Declarations": InitializeReferencedBinding, with undefined where no value is given;
-- a name that the list declares twice takes the kind of the declaration that initialises it last.
abbrev pub declare_name : DeclarationKind → ℕ → OptionalExpr → Step
declare_name Var n absent s = done s
declare_name Var n (present e) s = and_then (evaluate e s) (λ v s₁. discard_value (put_value n v s₁))
declare_name Let n e s =
    and_then (evaluate_optional undefined e s) (λ v s₁. done (with_environment (initialise n (initialised mutable v) s₁.environment) s₁))
declare_name Const n e s =
    and_then (evaluate_optional undefined e s) (λ v s₁. done (with_environment (initialise n (initialised immutable v) s₁.environment) s₁))

abbrev pub declare : DeclarationKind → Declarators → Step
declare k no_declarators s = done s
declare k (declarator_then n e ds) s = and_then (declare_name k n e s) (λ _ s₁. declare k ds s₁)

-- scopes

abbrev pub outer_environment : Environment → Environment
outer_environment [] = []
outer_environment (r ∷ outer) = outer

-- however a list completes, the environment outside it is the running one again
abbrev pub leave_record : {A : Type 0} → Completion A → Completion A
leave_record (normal a s) = normal a (with_environment (outer_environment s.environment) s)
leave_record (abrupt j s) = abrupt j (with_environment (outer_environment s.environment) s)

abbrev pub enter_record : List ℕ → State → State
enter_record names s = with_environment (new_record uninitialised names ∷ s.environment) s

-- "BlockDeclarationInstantiation" in a new environment, its names uninitialised.
-- A list that declares no name gets no record, which changes nothing (Laws, EmptyRecordChangesNothing).
abbrev pub in_scope_of : List ℕ → Step → Step
in_scope_of [] step s = step s
in_scope_of (n ∷ names) step s = leave_record (step (enter_record (n ∷ names) s))

-- loops

-- each start of a loop's body spends a turn, and with none left the run is cut
abbrev pub spend_turn : ℕ → Step → Step
spend_turn zero step s = abrupt cut s
spend_turn (suc left) step s = step (with_turns left s)

-- "LoopContinues" for an abrupt completion of the body; a break ends the loop normally ("LabelledEvaluation")
abbrev pub after_abrupt_body : Abrupt → State → Step → Completion (Unit {0})
after_abrupt_body (returned v) s next = abrupt (returned v) s
after_abrupt_body (thrown v) s next = abrupt (thrown v) s
after_abrupt_body broke s next = done s
after_abrupt_body continued s next = next s
after_abrupt_body cut s next = abrupt cut s

abbrev pub after_body : Completion (Unit {0}) → Step → Completion (Unit {0})
after_body (normal a s) next = next s
after_body (abrupt j s) next = after_abrupt_body j s next

-- "DoWhileLoopEvaluation", and the loop of "ForBodyEvaluation" from a body's start on: body, update, test, and again.
-- The first number is a bound for the recursion: each turn of the loop spends a turn of the run,
-- so the turns that are left are enough, and more of them change nothing (Laws, LoopBoundIsTheTurns).
abbrev pub repeat : ℕ → (State → Completion Value) → Step → Step → Step
repeat zero test body update s = abrupt cut s
repeat (suc bound) test body update s =
    spend_turn s.turns
    (λ s₁. after_body (body s₁) (λ s₂. and_then (update s₂) (λ _ s₃. and_then (test s₃) (λ v s₄.
    branch (to_boolean v) (λ s₅. repeat bound test body update s₅) (λ s₅. done s₅) s₄))))
    s

-- "WhileLoopEvaluation", "ForBodyEvaluation": the test comes first.
-- A for's copies of its let names for each turn (CreatePerIterationEnvironment) are the names themselves here: nothing holds on to an older copy.
abbrev pub test_then_repeat : (State → Completion Value) → Step → Step → Step
test_then_repeat test body update s =
    and_then (test s) (λ v s₁. branch (to_boolean v) (λ s₂. repeat s₂.turns test body update s₂) (λ s₂. done s₂) s₁)

abbrev pub start_loop : Init → Step
start_loop no_init s = done s
start_loop (init_expression e) s = discard_value (evaluate e s)
start_loop (init_declaration k ds) s = declare k ds s

-- switches

-- a break ends a switch normally, a continue goes on to the loop around it
abbrev pub take_abrupt_break : Abrupt → Step
take_abrupt_break (returned v) s = abrupt (returned v) s
take_abrupt_break (thrown v) s = abrupt (thrown v) s
take_abrupt_break broke s = done s
take_abrupt_break continued s = abrupt continued s
take_abrupt_break cut s = abrupt cut s

abbrev pub take_break : Completion (Unit {0}) → Completion (Unit {0})
take_break (normal a s) = normal a s
take_break (abrupt j s) = take_abrupt_break j s

-- the place of the default among the cases, from 0; behind them all where there is none
abbrev pub default_place : Cases → ℕ
default_place no_cases = 0
default_place (case_then absent xs cs) = 0
default_place (case_then (present e) xs cs) = suc (default_place cs)

-- "CaseBlockEvaluation", "CaseClauseIsSelected": the tests are tried in order, those behind the default too;
-- the place of the first that equals the value, or the default's
abbrev pub select_case : Cases → Value → ℕ → ℕ → State → Completion ℕ
select_case no_cases v here default s = normal default s
select_case (case_then absent xs cs) v here default s = select_case cs v (suc here) default s
select_case (case_then (present e) xs cs) v here default s =
    and_then (evaluate e s) (λ u s₁.
    branch (is_strictly_equal v u) (λ s₂. normal here s₂) (λ s₂. select_case cs v (suc here) default s₂) s₁)

abbrev mutual
  -- "Evaluation" of each statement
  pub execute : Stmt → Step
  execute empty s = done s
  execute (expression e) s = discard_value (evaluate e s)
  execute (declaration k ds) s = declare k ds s
  execute (return_of e) s = and_then (evaluate_optional undefined e s) (λ v s₁. abrupt (returned v) s₁)
  execute (throw e) s = and_then (evaluate e s) (λ v s₁. abrupt (thrown v) s₁)
  execute (if_then t c a) s =
      and_then (evaluate t s) (λ v s₁. branch (to_boolean v) (λ s₂. execute c s₂) (λ s₂. execute_alternate a s₂) s₁)
  execute (block xs) s = in_scope_of (lexically_declared_list xs) (λ s₁. execute_list xs s₁) s
  execute (while t b) s = test_then_repeat (λ s₁. evaluate t s₁) (λ s₁. execute b s₁) (λ s₁. done s₁) s
  execute (do_while b t) s = repeat s.turns (λ s₁. evaluate t s₁) (λ s₁. execute b s₁) (λ s₁. done s₁) s
  execute (for i t u b) s =
      in_scope_of (lexically_declared_init i)
      (λ s₁. and_then (start_loop i s₁) (λ _ s₂.
      test_then_repeat (λ s₃. evaluate_optional (boolean true) t s₃) (λ s₃. execute b s₃)
      (λ s₃. discard_value (evaluate_optional undefined u s₃)) s₂))
      s
  execute (switch d cs) s =
      and_then (evaluate d s) (λ v s₁. take_break (in_scope_of (lexically_declared_cases cs)
      (λ s₂. and_then (select_case cs v 0 (default_place cs) s₂) (λ place s₃. execute_cases cs place s₃)) s₁))
  execute break s = abrupt broke s
  execute continue s = abrupt continued s

  pub execute_alternate : Alternate → Step
  execute_alternate no_alternate s = done s
  execute_alternate (alternate x) s = execute x s

  pub execute_list : Stmts → Step
  execute_list no_stmts s = done s
  execute_list (stmt_then x xs) s = and_then (execute x s) (λ _ s₁. execute_list xs s₁)

  -- the statements of the cases from a place on, falling through from case to case
  pub execute_cases : Cases → ℕ → Step
  execute_cases no_cases place s = done s
  execute_cases (case_then t xs cs) zero s = and_then (execute_list xs s) (λ _ s₁. execute_cases cs zero s₁)
  execute_cases (case_then t xs cs) (suc place) s = execute_cases cs place s
