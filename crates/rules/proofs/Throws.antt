-- What the rule on throw executes.
use Rattle.std.proofs.Common.{◌≡◌, ℕ, Bool, true, false, cond, not as negated, List, [], ◌++◌, sym, refl, ap, ◌∙◌, append-nil}
use Rattle.script.specs.Tree.{Expr, throw, if_then, no_alternate, Stmts, stmt_then, Stmt, no_stmts, OptionalExpr, present}
use Rattle.run.specs.Values.{to_boolean, undefined}
use Rattle.run.specs.Completion.{abrupt, thrown, State, and_then, branch, normal}
use Rattle.run.specs.Evaluate.{evaluate, evaluate_optional}
use Rattle.run.specs.Names.{lexically_declared, var_declared}
use Rattle.run.specs.Execute.{Step, execute}
use Rattle.rules.specs.Expressions.{minimize_conditional}
use Rattle.rules.specs.Merging.{Worked, merge_last_expression_as, last_expression?, merge_leading_assignments_to_declaration}
use Rattle.rules.specs.Returns.{conditional_expression_count_exceeded, value_or_void_0}
use Rattle.rules.specs.Throws.{IfThrow?, throw_step, if_throw, no_if_throw, throw_loop, if_throw?, merge_throws, worked_throw_argument}
use Rattle.rules.specs.Throws.{handle_throw_statement}
use Rattle.rules.specs.Results.{results_then, gather}
use Rattle.rules.proofs.Completions.{and_then_assoc, and_then_cong}
use Rattle.rules.proofs.Expressions.{minimize_conditional_evaluates}
use Rattle.rules.proofs.Statements.{results_then_cong}
use Rattle.rules.proofs.Merging.{Continuation, evaluate_then, SameTarget, next_work_same, merge_leading_assignments_same, merge_last_same}
use Rattle.rules.proofs.Returns.{value_or_void_0_evaluates}
use Rattle.rules.proofs.Names.{NamesOfList, next_work_names, merge_leading_assignments_names, merge_last_names, lexical_names_of_list}
use Rattle.rules.proofs.Names.{var_names_of_list}
use Rattle.rules.proofs.Keeping.{Keeps, pushed_keeps}

abbrev throw_value : Continuation
throw_value v s = abrupt (thrown v) s

if_throw_branch : (c : Bool) (e₀ e : Expr) (f : Step) (s : State)
    → and_then (and_then (branch c (λ s₁. evaluate e₀ s₁) (λ s₁. evaluate e s₁) s) throw_value) (λ _ s₂. f s₂)
    ≡ and_then (branch c (λ s₁. execute (throw e₀) s₁) (λ s₁. normal tt s₁) s) (λ _ s₁. and_then (execute (throw e) s₁) (λ _ s₂. f s₂))
if_throw_branch true e₀ e f s = simp and_then_assoc
if_throw_branch false e₀ e f s = refl

if_throw_same : (t e₀ e : Expr) (f : Step) (s : State)
    → and_then (execute (throw (minimize_conditional t e₀ e)) s) (λ _ s₂. f s₂)
    ≡ and_then (execute (if_then t (throw e₀) no_alternate) s) (λ _ s₁. and_then (execute (throw e) s₁) (λ _ s₂. f s₂))
if_throw_same t e₀ e f s =
    ap (λ r. and_then (and_then r throw_value) (λ _ s₂. f s₂)) (minimize_conditional_evaluates t e₀ e s)
    ∙ simp and_then_assoc (and_then_cong (evaluate t s) (λ v s₁. simp and_then_assoc at (if_throw_branch (to_boolean v) e₀ e f s₁)))

merge_throw_if_allowed : (b : Bool) (t e₀ e : Expr) (r : Stmts) (more : Expr → Stmts) → ((e₁ : Expr) → Keeps (throw e₁) r (more e₁))
    → Keeps (throw e) (stmt_then (if_then t (throw e₀) no_alternate) r)
    (cond b (more (minimize_conditional t e₀ e)) (stmt_then (throw e) (stmt_then (if_then t (throw e₀) no_alternate) r)))
merge_throw_if_allowed true t e₀ e r more h =
    let p : Keeps (throw (minimize_conditional t e₀ e)) r (more (minimize_conditional t e₀ e)) = h (minimize_conditional t e₀ e) in
    record {
      same = λ f. p.same f ∙ results_then_cong r (if_throw_same t e₀ e f);
      lexical = p.lexical ∙ simp append-nil;
      var = p.var ∙ simp append-nil;
    }
merge_throw_if_allowed false t e₀ e r more h = pushed_keeps (throw e) (stmt_then (if_then t (throw e₀) no_alternate) r)

throw_step_keeps : {x : Stmt} (v : IfThrow? x) (e : Expr) (r : Stmts) (more : Expr → Stmts) → ((e₁ : Expr) → Keeps (throw e₁) r (more e₁))
    → Keeps (throw e) (stmt_then x r) (throw_step v e r more)
throw_step_keeps (if_throw t e₀) e r more h = merge_throw_if_allowed (negated (conditional_expression_count_exceeded e)) t e₀ e r more h
throw_step_keeps {x} no_if_throw e r more h = pushed_keeps (throw e) (stmt_then x r)

throw_loop_keeps : (r : Stmts) (e : Expr) → Keeps (throw e) r (throw_loop r e)
throw_loop_keeps no_stmts e = pushed_keeps (throw e) no_stmts
throw_loop_keeps (stmt_then x r) e = throw_step_keeps (if_throw? x) e r (λ e₁. throw_loop r e₁) (throw_loop_keeps r)

merge_throws_keeps : (q : Bool) (e : Expr) (r : Stmts) → Keeps (throw e) r (merge_throws q e r)
merge_throws_keeps true e r = throw_loop_keeps r e
merge_throws_keeps false e r = pushed_keeps (throw e) r

throw_then : (p : OptionalExpr) (r : Stmts) (f : Step)
    → results_then (stmt_then (throw (value_or_void_0 p)) r) f ≡ results_then r (evaluate_then p throw_value)
throw_then p r f =
    results_then_cong r
    (λ s. ap (λ x. and_then (and_then x throw_value) (λ _ s₁. f s₁)) (value_or_void_0_evaluates p s)
    ∙ and_then_assoc (evaluate_optional undefined p s) _ _)

worked_throw_argument_same : (q : Bool) (e : Expr) (r : Stmts) → SameTarget false (worked_throw_argument q e r) (present e) r
worked_throw_argument_same q e r k z =
    let m : Worked = merge_last_expression_as (last_expression? q r) e in
    next_work_same false m.target m.results (λ e₁ r₁. merge_leading_assignments_to_declaration false e₁ r₁)
    (merge_leading_assignments_same false) k z
    ∙ merge_last_same (last_expression? q r) e k z

worked_throw_argument_names : (g : Stmt → List ℕ) → NamesOfList g → (q : Bool) (e : Expr) (r : Stmts)
    → gather g (worked_throw_argument q e r).results ≡ gather g r
worked_throw_argument_names g N q e r =
    let m : Worked = merge_last_expression_as (last_expression? q r) e in
    next_work_names g N m.target m.results (λ e₁ r₁. merge_leading_assignments_to_declaration false e₁ r₁)
    (merge_leading_assignments_names g N false)
    ∙ merge_last_names g N (last_expression? q r) e

pub handle_throw_statement_keeps : (q : Bool) (e : Expr) (r : Stmts) → Keeps (throw e) r (handle_throw_statement q e r)
handle_throw_statement_keeps q e r =
    let w : Worked = worked_throw_argument q e r in
    let p : Keeps (throw (value_or_void_0 w.target)) w.results (merge_throws q (value_or_void_0 w.target) w.results) =
    merge_throws_keeps q (value_or_void_0 w.target) w.results in
    record {
      same = λ f. p.same f ∙ throw_then w.target w.results f ∙ worked_throw_argument_same q e r throw_value (λ x. absurd x)
          ∙ sym (throw_then (present e) r f);
      lexical = p.lexical ∙ ap (λ l. l ++ []) (worked_throw_argument_names lexically_declared lexical_names_of_list q e r);
      var = p.var ∙ ap (λ l. l ++ []) (worked_throw_argument_names var_declared var_names_of_list q e r);
    }
