-- What the rule on return executes.
use Rattle.std.proofs.Common.{◌≡◌, Bool, true, false, cond, sym, refl, ap, ◌∙◌}
use Rattle.script.specs.Tree.{OptionalExpr, absent, present, return_of, Expr, if_then, no_alternate, expression, Stmts, stmt_then, Stmt}
use Rattle.script.specs.Tree.{no_stmts}
use Rattle.run.specs.Values.{undefined, to_boolean, Value}
use Rattle.run.specs.Completion.{State, Completion, and_then, abrupt, returned, branch, normal}
use Rattle.run.specs.Evaluate.{evaluate, evaluate_optional}
use Rattle.run.specs.Execute.{execute, Step}
use Rattle.hosts.specs.Meaning.{Meaning, Lawful}
use Rattle.rules.specs.Holder.{Holder}
use Rattle.rules.specs.Expressions.{minimize_conditional}
use Rattle.rules.specs.Merging.{last_expression?, Worked}
use Rattle.rules.specs.Returns.{value_or_void_0, merge_return, may_merge_return, IfReturn?, return_step, if_return, no_if_return, return_loop}
use Rattle.rules.specs.Returns.{if_return?, merge_returns, drop_undefined_as, drop_undefined_argument, merge_leading_into_declaration}
use Rattle.rules.specs.Returns.{handle_return_statement}
use Rattle.rules.specs.Results.{results_then}
use Rattle.rules.proofs.Completions.{and_then_assoc, and_then_cong}
use Rattle.rules.proofs.Expressions.{minimize_conditional_evaluates}
use Rattle.rules.proofs.Statements.{results_then_cong}
use Rattle.rules.proofs.Merging.{Continuation, push_new_expression_same, SameTarget, merge_last_same, merge_leading_assignments_same}
use Rattle.rules.proofs.Merging.{evaluate_then}

pub value_or_void_0_evaluates : (p : OptionalExpr) (s : State) → evaluate (value_or_void_0 p) s ≡ evaluate_optional undefined p s
value_or_void_0_evaluates absent s = refl
value_or_void_0_evaluates (present e) s = refl

-- what follows a return does not count
return_any : (p : OptionalExpr) (k l : Unit {0} → State → Completion (Unit {0})) (s : State)
    → and_then (execute (return_of p) s) k ≡ and_then (execute (return_of p) s) l
return_any p k l s = simp and_then_assoc

abbrev return_value : Continuation
return_value v s = abrupt (returned v) s

if_return_branch : (b : Bool) (p p' : OptionalExpr) (f : Step) (s : State)
    → and_then (and_then (branch b (λ s₁. evaluate (value_or_void_0 p') s₁) (λ s₁. evaluate (value_or_void_0 p) s₁) s) return_value)
    (λ _ s₂. f s₂)
    ≡ and_then (branch b (λ s₁. execute (return_of p') s₁) (λ s₁. normal tt s₁) s)
    (λ _ s₁. and_then (execute (return_of p) s₁) (λ _ s₂. f s₂))
if_return_branch true p p' f s = rw value_or_void_0_evaluates (simp and_then_assoc)
if_return_branch false p p' f s = rw value_or_void_0_evaluates refl

-- `if (t) return p'; return p` is `return t ? p' : p`
if_return_same : (t : Expr) (p p' : OptionalExpr) (f : Step) (s : State)
    → and_then (execute (return_of (present (minimize_conditional t (value_or_void_0 p') (value_or_void_0 p)))) s) (λ _ s₂. f s₂)
    ≡ and_then (execute (if_then t (return_of p') no_alternate) s) (λ _ s₁. and_then (execute (return_of p) s₁) (λ _ s₂. f s₂))
if_return_same t p p' f s =
    ap (λ r. and_then (and_then r return_value) (λ _ s₂. f s₂))
    (minimize_conditional_evaluates t (value_or_void_0 p') (value_or_void_0 p) s)
    ∙ simp and_then_assoc (and_then_cong (evaluate t s) (λ v s₁. simp and_then_assoc at (if_return_branch (to_boolean v) p p' f s₁)))

-- `if (t) return; return` is `t; return`
if_bare_return_branch : (b : Bool) (f : Step) (s : State)
    → abrupt (returned undefined) s
    ≡ and_then (branch b (λ s₁. execute (return_of absent) s₁) (λ s₁. normal tt s₁) s)
    (λ _ s₁. and_then (execute (return_of absent) s₁) (λ _ s₂. f s₂))
if_bare_return_branch true f s = refl
if_bare_return_branch false f s = refl

if_bare_return_same : (t : Expr) (f : Step) (s : State)
    → and_then (execute (expression t) s) (λ _ s₁. and_then (execute (return_of absent) s₁) (λ _ s₂. f s₂))
    ≡ and_then (execute (if_then t (return_of absent) no_alternate) s) (λ _ s₁. and_then (execute (return_of absent) s₁) (λ _ s₂. f s₂))
if_bare_return_same t f s = simp and_then_assoc (and_then_cong (evaluate t s) (λ v s₁. if_bare_return_branch (to_boolean v) f s₁))

-- the loop: more stands for its next turn
abbrev More : Stmts → (OptionalExpr → Stmts) → Type 0
More r more = (p : OptionalExpr) (f : Step) → results_then (more p) f ≡ results_then (stmt_then (return_of p) r) f

merge_if_allowed : (b : Bool) (t : Expr) (p p' : OptionalExpr) (r : Stmts) (more : OptionalExpr → Stmts) → More r more → (f : Step)
    → results_then
    (cond b (more (present (minimize_conditional t (value_or_void_0 p') (value_or_void_0 p))))
    (stmt_then (return_of p) (stmt_then (if_then t (return_of p') no_alternate) r))) f
    ≡ results_then (stmt_then (return_of p) (stmt_then (if_then t (return_of p') no_alternate) r)) f
merge_if_allowed true t p p' r more h f = h _ f ∙ results_then_cong r (if_return_same t p p' f)
merge_if_allowed false t p p' r more h f = refl

merge_return_same : (h : Holder) (t : Expr) (p' p : OptionalExpr) (r : Stmts) (more : OptionalExpr → Stmts) → More r more → (f : Step)
    → results_then (merge_return h t p' p r more) f
    ≡ results_then (stmt_then (return_of p) (stmt_then (if_then t (return_of p') no_alternate) r)) f
merge_return_same h t absent absent r more m f = push_new_expression_same true t r _ ∙ results_then_cong r (if_bare_return_same t f)
merge_return_same h t absent (present e) r more m f = merge_if_allowed (may_merge_return h (present e)) t (present e) absent r more m f
merge_return_same h t (present x) absent r more m f = merge_if_allowed (may_merge_return h absent) t absent (present x) r more m f
merge_return_same h t (present x) (present e) r more m f =
    merge_if_allowed (may_merge_return h (present e)) t (present e) (present x) r more m f

return_step_same : (h : Holder) {x : Stmt} (v : IfReturn? x) (p : OptionalExpr) (r : Stmts) (more : OptionalExpr → Stmts) → More r more
    → (f : Step)
    → results_then (return_step h v p r more) f ≡ results_then (stmt_then (return_of p) (stmt_then x r)) f
return_step_same h (if_return t p') p r more m f = merge_return_same h t p' p r more m f
return_step_same h no_if_return p r more m f = refl

return_loop_same : (h : Holder) (r : Stmts) → More r (λ p. return_loop h r p)
return_loop_same h no_stmts p f = refl
return_loop_same h (stmt_then x r) p f = return_step_same h (if_return? x) p r (λ p₁. return_loop h r p₁) (return_loop_same h r) f

merge_returns_same : (q : Bool) (h : Holder) (p : OptionalExpr) (r : Stmts) (f : Step)
    → results_then (merge_returns q h p r) f ≡ results_then (stmt_then (return_of p) r) f
merge_returns_same true h p r f = return_loop_same h r p f
merge_returns_same false h p r f = refl

-- an argument that is undefined

undefined_value : (r : Completion Value) (k : Continuation) → ((s : State) (v : Value) → r ≡ normal v s → v ≡ undefined)
    → and_then r (λ _ s. k undefined s) ≡ and_then r k
undefined_value (normal v s) k h = ap (λ x. k x s) (sym (h s v refl))
undefined_value (abrupt j s) k h = refl

harmless_value : (r : Completion Value) (s : State) (v : Value) (k : Continuation) → r ≡ normal v s
    → ((s₁ : State) (u : Value) → r ≡ normal u s₁ → u ≡ undefined) → k undefined s ≡ and_then r k
harmless_value r s v k e h = ap (λ x. k x s) (sym (h s v e)) ∙ ap (λ x. and_then x k) (sym e)

module _ (host : Meaning) (law : Lawful host) where
  drop_undefined_as_same : (q a b : Bool) (e : Expr) (r : Stmts) → host.undefined e ≡ a → host.harmless e ≡ b
      → SameTarget false (drop_undefined_as q a b e r) (present e) r
  drop_undefined_as_same q true true e r u w k _ =
      results_then_cong r (λ s. let h = law.harmless_law e w s in
      harmless_value (evaluate e s) s h.0 k h.1 (law.undefined_law e u s))
  drop_undefined_as_same q true false e r u w k _ =
      push_new_expression_same q e r (λ s. k undefined s)
      ∙ results_then_cong r
      (λ s. and_then_assoc (evaluate e s) _ _ ∙ undefined_value (evaluate e s) k (law.undefined_law e u s))
  drop_undefined_as_same q false b e r u w k z = merge_last_same (last_expression? q r) e k z

  drop_undefined_argument_same : (q : Bool) (p : OptionalExpr) (r : Stmts) → SameTarget false (drop_undefined_argument q host p r) p r
  drop_undefined_argument_same q absent r k z = refl
  drop_undefined_argument_same q (present e) r k z = drop_undefined_as_same q (host.undefined e) (host.harmless e) e r refl refl k z

  merge_leading_into_declaration_same : (p : OptionalExpr) (r : Stmts) → SameTarget false (merge_leading_into_declaration p r) p r
  merge_leading_into_declaration_same absent r k z = refl
  merge_leading_into_declaration_same (present e) r k z = merge_leading_assignments_same false e r k z

  return_then : (p : OptionalExpr) (f : Step) (r : Stmts)
      → results_then (stmt_then (return_of p) r) f ≡ results_then r (evaluate_then p return_value)
  return_then p f r = results_then_cong r (λ s. and_then_assoc (evaluate_optional undefined p s) _ _)

  pub handle_return_statement_same : (q : Bool) (h : Holder) (p : OptionalExpr) (r : Stmts) (f : Step)
      → results_then (handle_return_statement q host h p r) f ≡ results_then (stmt_then (return_of p) r) f
  handle_return_statement_same q h p r f =
      let m : Worked = merge_leading_into_declaration p r in
      let a : Worked = drop_undefined_argument q host m.target m.results in
      merge_returns_same q h a.target a.results f
      ∙ return_then a.target f a.results
      ∙ drop_undefined_argument_same q m.target m.results return_value (λ t. absurd t)
      ∙ merge_leading_into_declaration_same p r return_value (λ t. absurd t)
      ∙ sym (return_then p f r)
