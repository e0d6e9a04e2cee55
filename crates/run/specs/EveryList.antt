-- The same as executing, but with a record for every list, cases and loop head, whether or not a name is declared in it.
-- It is here for a law only: both ways do the same.
use Rattle.std.specs.Prelude.{List, true, ℕ, zero, suc}
use Rattle.script.specs.Tree.{Stmt, empty, expression, declaration, return_of, throw, if_then, block, while, do_while, for, switch, break, continue}
use Rattle.script.specs.Tree.{Alternate, no_alternate, alternate, Stmts, no_stmts, stmt_then, Cases, no_cases, case_then}
use Rattle.run.specs.Values.{undefined, boolean, to_boolean}
use Rattle.run.specs.World.{World}
use Rattle.run.specs.Completion.{returned, thrown, broke, continued, abrupt, and_then, branch}
use Rattle.run.specs.Evaluate.{evaluate, evaluate_optional}
use Rattle.run.specs.Names.{lexically_declared_list, lexically_declared_cases, lexically_declared_init}
use Rattle.run.specs.Execute.{Step, done, discard_value, declare, enter_record, leave_record, repeat, test_then_repeat, start_loop, take_break, default_place, select_case}
use Rattle.run.specs.Run.{Run, ended, at_start}

abbrev pub in_record_of : List ℕ → Step → Step
in_record_of names step s = leave_record (step (enter_record names s))

abbrev mutual
  pub execute_entering : Stmt → Step
  execute_entering empty s = done s
  execute_entering (expression e) s = discard_value (evaluate e s)
  execute_entering (declaration k ds) s = declare k ds s
  execute_entering (return_of e) s = and_then (evaluate_optional undefined e s) (λ v s₁. abrupt (returned v) s₁)
  execute_entering (throw e) s = and_then (evaluate e s) (λ v s₁. abrupt (thrown v) s₁)
  execute_entering (if_then t c a) s =
      and_then (evaluate t s) (λ v s₁. branch (to_boolean v) (λ s₂. execute_entering c s₂) (λ s₂. execute_entering_alternate a s₂) s₁)
  execute_entering (block xs) s = in_record_of (lexically_declared_list xs) (λ s₁. execute_entering_list xs s₁) s
  execute_entering (while t b) s = test_then_repeat (λ s₁. evaluate t s₁) (λ s₁. execute_entering b s₁) (λ s₁. done s₁) s
  execute_entering (do_while b t) s = repeat s.turns (λ s₁. evaluate t s₁) (λ s₁. execute_entering b s₁) (λ s₁. done s₁) s
  execute_entering (for i t u b) s =
      in_record_of (lexically_declared_init i)
      (λ s₁. and_then (start_loop i s₁) (λ _ s₂.
      test_then_repeat (λ s₃. evaluate_optional (boolean true) t s₃) (λ s₃. execute_entering b s₃)
      (λ s₃. discard_value (evaluate_optional undefined u s₃)) s₂))
      s
  execute_entering (switch d cs) s =
      and_then (evaluate d s) (λ v s₁. take_break (in_record_of (lexically_declared_cases cs)
      (λ s₂. and_then (select_case cs v 0 (default_place cs) s₂) (λ place s₃. execute_entering_cases cs place s₃)) s₁))
  execute_entering break s = abrupt broke s
  execute_entering continue s = abrupt continued s

  pub execute_entering_alternate : Alternate → Step
  execute_entering_alternate no_alternate s = done s
  execute_entering_alternate (alternate x) s = execute_entering x s

  pub execute_entering_list : Stmts → Step
  execute_entering_list no_stmts s = done s
  execute_entering_list (stmt_then x xs) s = and_then (execute_entering x s) (λ _ s₁. execute_entering_list xs s₁)

  pub execute_entering_cases : Cases → ℕ → Step
  execute_entering_cases no_cases place s = done s
  execute_entering_cases (case_then t xs cs) zero s =
      and_then (execute_entering_list xs s) (λ _ s₁. execute_entering_cases cs zero s₁)
  execute_entering_cases (case_then t xs cs) (suc place) s = execute_entering_cases cs place s

abbrev pub run_entering : World → ℕ → Stmts → Run
run_entering world turns body = ended (execute_entering (block body) (at_start world turns body))
