-- What a list of results, the newest first, does before something that follows it.
use Rattle.std.specs.Prelude.{ℕ, List, [], ◌++◌}
use Rattle.script.specs.Tree.{Stmts, no_stmts, stmt_then, Stmt}
use Rattle.run.specs.Completion.{and_then}
use Rattle.run.specs.Execute.{Step, execute}

abbrev pub results_then : Stmts → Step → Step
results_then no_stmts f s = f s
results_then (stmt_then x r) f s = results_then r (λ s₁. and_then (execute x s₁) (λ _ s₂. f s₂)) s

-- the names that g finds in the results, in source order
abbrev pub gather : (Stmt → List ℕ) → Stmts → List ℕ
gather g no_stmts = []
gather g (stmt_then x r) = gather g r ++ g x
