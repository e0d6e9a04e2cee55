-- What the rules on `if` execute.
use Rattle.std.proofs.Common.{◌≡◌, Bool, true, false, cond, not as negated, sym, refl, ap, ◌∙◌}
use Rattle.script.specs.declared.LogicalOperator.TheVariants.{And, Or}
use Rattle.script.specs.Tree.{Expr, not, expression, Stmt, if_then, alternate, Alternate, no_alternate, empty}
use Rattle.run.specs.Values.{to_boolean, Value}
use Rattle.run.specs.Completion.{and_then, branch, State, normal}
use Rattle.run.specs.Evaluate.{evaluate}
use Rattle.run.specs.Execute.{Step, done, execute, execute_alternate}
use Rattle.hosts.specs.Meaning.{Meaning, Lawful}
use Rattle.rules.specs.Expressions.{minimize_not, join_with_left_associative_op, Not?, is_not, no_not, minimize_conditional, not?}
use Rattle.rules.specs.Ifs.{if_to_logical, has_negated_result, else_to_logical, Branch?, wrap_to_avoid_ambiguous_else, is_expression}
use Rattle.rules.specs.Ifs.{is_lone_if, is_full_if, no_branch, branch?, swap_branches, minimize_if_else, minimize_if_alone}
use Rattle.rules.specs.Ifs.{minimize_full_if, minimize_empty_else, minimize_empty_if, Empty?, try_minimize_if_as, is_empty, is_empty_block}
use Rattle.rules.specs.Ifs.{no_empty, try_minimize_if, empty?}
use Rattle.rules.proofs.Completions.{and_then_assoc, and_then_cong, and_then_normal}
use Rattle.rules.proofs.Expressions.{truth_of, untruth_of, minimize_not_evaluates, join_with_left_associative_op_evaluates}
use Rattle.rules.proofs.Expressions.{minimize_conditional_evaluates}

-- a test, then one of two acts
abbrev pub test_then : Expr → Step → Step → Step
test_then t f g s = and_then (evaluate t s) (λ v s₁. branch (to_boolean v) f g s₁)

pub test_then_truth : (t : Expr) (f g : Step) (s : State)
    → and_then (and_then (evaluate t s) truth_of) (λ b s₁. branch b f g s₁) ≡ test_then t f g s
test_then_truth t f g s = and_then_assoc (evaluate t s) _ _

test_then_untruth : (t : Expr) (f g : Step) (s : State)
    → and_then (and_then (evaluate t s) untruth_of) (λ b s₁. branch b f g s₁) ≡ test_then t g f s
test_then_untruth t f g s = and_then_assoc (evaluate t s) _ _ ∙ and_then_cong (evaluate t s) (λ v s₁. turned (to_boolean v) s₁)
  where
    turned : (b : Bool) (s₁ : State) → branch (negated b) f g s₁ ≡ branch b g f s₁
    turned true s₁ = refl
    turned false s₁ = refl

pub test_minimize_not : (t : Expr) (f g : Step) (s : State) → test_then (minimize_not t) f g s ≡ test_then t g f s
test_minimize_not t f g s =
    sym (test_then_truth (minimize_not t) f g s)
    ∙ ap (λ r. and_then r (λ b s₁. branch b f g s₁)) (minimize_not_evaluates t s)
    ∙ test_then_untruth t f g s

test_then_not : (t : Expr) (f g : Step) (s : State) → test_then (not t) f g s ≡ test_then t g f s
test_then_not t f g s =
    and_then_assoc (evaluate t s) _ _ ∙ untwist
  where
    turned : (b : Bool) (s₁ : State) → branch (negated b) f g s₁ ≡ branch b g f s₁
    turned true s₁ = refl
    turned false s₁ = refl

    untwist : and_then (evaluate t s) (λ v s₁. branch (negated (to_boolean v)) f g s₁) ≡ test_then t g f s
    untwist = and_then_cong (evaluate t s) (λ v s₁. turned (to_boolean v) s₁)

pub test_then_cong : (t : Expr) {f f' g g' : Step} → ((s : State) → f s ≡ f' s) → ((s : State) → g s ≡ g' s) → (s : State)
    → test_then t f g s ≡ test_then t f' g' s
test_then_cong t p q s = λ i. test_then t (λ s₁. p s₁ i) (λ s₁. q s₁ i) s

-- `a && b;` is `if (a) b;`, and `a || b;` is `if (a); else b;`
and_branch : (b : Bool) (e : Expr) (v : Value) (s : State)
    → and_then (branch b (λ s₁. evaluate e s₁) (λ s₁. normal v s₁) s) (λ _ s₁. done s₁) ≡ branch b (execute (expression e)) done s
and_branch true e v s = refl
and_branch false e v s = refl

join_and_executes : (t e : Expr) (s : State)
    → execute (expression (join_with_left_associative_op And t e)) s ≡ test_then t (execute (expression e)) done s
join_and_executes t e s =
    ap (λ r. and_then r (λ _ s₁. done s₁)) (join_with_left_associative_op_evaluates And t e s)
    ∙ and_then_assoc (evaluate t s) _ _ ∙ and_then_cong (evaluate t s) (λ v s₁. and_branch (to_boolean v) e v s₁)

or_branch : (b : Bool) (e : Expr) (v : Value) (s : State)
    → and_then (branch (negated b) (λ s₁. evaluate e s₁) (λ s₁. normal v s₁) s) (λ _ s₁. done s₁) ≡ branch b done (execute (expression e)) s
or_branch true e v s = refl
or_branch false e v s = refl

join_or_executes : (t e : Expr) (s : State)
    → execute (expression (join_with_left_associative_op Or t e)) s ≡ test_then t done (execute (expression e)) s
join_or_executes t e s =
    ap (λ r. and_then r (λ _ s₁. done s₁)) (join_with_left_associative_op_evaluates Or t e s)
    ∙ and_then_assoc (evaluate t s) _ _ ∙ and_then_cong (evaluate t s) (λ v s₁. or_branch (to_boolean v) e v s₁)

if_to_logical_executes : (t e : Expr) (s : State) → execute (expression (if_to_logical t e)) s ≡ test_then t (execute (expression e)) done s
if_to_logical_executes t e s = by (has_negated_result t)
  where
    by : (b : Bool)
        → execute (expression (cond b (join_with_left_associative_op Or (minimize_not t) e) (join_with_left_associative_op And t e))) s
        ≡ test_then t (execute (expression e)) done s
    by true = join_or_executes (minimize_not t) e s ∙ test_minimize_not t done (execute (expression e)) s
    by false = join_and_executes t e s

else_to_logical_executes : (t e : Expr) (s : State)
    → execute (expression (else_to_logical t e)) s ≡ test_then t done (execute (expression e)) s
else_to_logical_executes t e s = by (has_negated_result t)
  where
    by : (b : Bool)
        → execute (expression (cond b (join_with_left_associative_op And (minimize_not t) e) (join_with_left_associative_op Or t e))) s
        ≡ test_then t done (execute (expression e)) s
    by true = join_and_executes (minimize_not t) e s ∙ test_minimize_not t (execute (expression e)) done s
    by false = join_or_executes t e s

wrap_executes : {c : Stmt} (v : Branch? c) (s : State) → execute (wrap_to_avoid_ambiguous_else v) s ≡ execute c s
wrap_executes (is_expression e) s = refl
wrap_executes (is_lone_if t c) s = refl
wrap_executes (is_full_if t c x) s = and_then_normal (execute (if_then t c (alternate x)) s)
wrap_executes no_branch s = refl

wrap_if : (t : Expr) (c : Stmt) (a : Alternate) (s : State)
    → execute (if_then t (wrap_to_avoid_ambiguous_else (branch? c)) a) s ≡ execute (if_then t c a) s
wrap_if t c a s = test_then_cong t (wrap_executes (branch? c)) (λ s₁. refl) s

swap_branches_executes : {t : Expr} (n : Not? t) (c : Stmt) {x : Stmt} (v : Branch? x) (s : State)
    → execute (swap_branches n c v) s ≡ execute (if_then t c (alternate x)) s
swap_branches_executes (is_not t) c (is_expression e) s = sym (test_then_not t (execute c) (execute (expression e)) s)
swap_branches_executes (is_not t) c (is_lone_if u d) s = wrap_if (not t) c (alternate (if_then u d no_alternate)) s
swap_branches_executes (is_not t) c (is_full_if u d y) s = wrap_if (not t) c (alternate (if_then u d (alternate y))) s
swap_branches_executes (is_not t) c {x} no_branch s = sym (test_then_not t (execute c) (execute x) s)
swap_branches_executes {t} no_not c {x} v s = wrap_if t c (alternate x) s

-- `if (a) b; else c;` is `a ? b : c;`
conditional_branch : (b : Bool) (x y : Expr) (s : State)
    → and_then (branch b (λ s₁. evaluate x s₁) (λ s₁. evaluate y s₁) s) (λ _ s₁. done s₁)
    ≡ branch b (execute (expression x)) (execute (expression y)) s
conditional_branch true x y s = refl
conditional_branch false x y s = refl

conditional_executes : (t x y : Expr) (s : State)
    → execute (expression (minimize_conditional t x y)) s ≡ execute (if_then t (expression x) (alternate (expression y))) s
conditional_executes t x y s =
    ap (λ r. and_then r (λ _ s₁. done s₁)) (minimize_conditional_evaluates t x y s)
    ∙ and_then_assoc (evaluate t s) _ _ ∙ and_then_cong (evaluate t s) (λ v s₁. conditional_branch (to_boolean v) x y s₁)

minimize_if_else_executes : (t : Expr) {c x : Stmt} (v : Branch? c) (w : Branch? x) (s : State)
    → execute (minimize_if_else t v w) s ≡ execute (if_then t c (alternate x)) s
minimize_if_else_executes t (is_expression b) (is_expression d) s = conditional_executes t b d s
minimize_if_else_executes t (is_expression b) (is_lone_if u d) s = refl
minimize_if_else_executes t (is_expression b) (is_full_if u d y) s = refl
minimize_if_else_executes t (is_expression b) no_branch s = refl
minimize_if_else_executes t (is_lone_if u d) w s = swap_branches_executes (not? t) (if_then u d no_alternate) w s
minimize_if_else_executes t (is_full_if u d y) w s = swap_branches_executes (not? t) (if_then u d (alternate y)) w s
minimize_if_else_executes t {c} no_branch w s = swap_branches_executes (not? t) c w s

-- `if (a) if (b) c` is `if (a && b) c`
join_and_test_branch : (b : Bool) (v : Value) → to_boolean v ≡ b → (u : Expr) (f : Step) (s : State)
    → and_then (branch b (λ s₁. evaluate u s₁) (λ s₁. normal v s₁) s) (λ w s₁. branch (to_boolean w) f done s₁)
    ≡ branch b (test_then u f done) done s
join_and_test_branch true v h u f s = refl
join_and_test_branch false v h u f s = ap (λ b. branch b f done s) h

join_and_test : (t u : Expr) (f : Step) (s : State)
    → test_then (join_with_left_associative_op And t u) f done s ≡ test_then t (test_then u f done) done s
join_and_test t u f s =
    ap (λ r. and_then r (λ w s₁. branch (to_boolean w) f done s₁)) (join_with_left_associative_op_evaluates And t u s)
    ∙ and_then_assoc (evaluate t s) _ _ ∙ and_then_cong (evaluate t s) (λ v s₁. join_and_test_branch (to_boolean v) v refl u f s₁)

minimize_if_alone_executes : (t : Expr) {c : Stmt} (v : Branch? c) (s : State)
    → execute (minimize_if_alone t v) s ≡ execute (if_then t c no_alternate) s
minimize_if_alone_executes t (is_expression b) s = if_to_logical_executes t b s
minimize_if_alone_executes t (is_lone_if u d) s =
    wrap_if (join_with_left_associative_op And t u) d no_alternate s ∙ join_and_test t u (execute d) s
minimize_if_alone_executes t (is_full_if u d y) s =
    test_then_cong t (λ s₁. and_then_normal (execute (if_then u d (alternate y)) s₁)) (λ s₁. refl) s
minimize_if_alone_executes t no_branch s = refl

minimize_full_if_executes : (t : Expr) (c : Stmt) (a : Alternate) (s : State)
    → execute (minimize_full_if t c a) s ≡ execute (if_then t c a) s
minimize_full_if_executes t c no_alternate s = minimize_if_alone_executes t (branch? c) s
minimize_full_if_executes t c (alternate x) s = minimize_if_else_executes t (branch? c) (branch? x) s

minimize_empty_else_executes : (t : Expr) {x : Stmt} (v : Branch? x) (s : State)
    → execute (minimize_empty_else t v) s ≡ test_then t done (execute x) s
minimize_empty_else_executes t (is_expression e) s = else_to_logical_executes t e s
minimize_empty_else_executes t (is_lone_if u d) s =
    minimize_if_alone_executes (minimize_not t) (is_lone_if u d) s ∙ test_minimize_not t _ done s
minimize_empty_else_executes t (is_full_if u d y) s =
    minimize_if_alone_executes (minimize_not t) (is_full_if u d y) s ∙ test_minimize_not t _ done s
minimize_empty_else_executes t {x} no_branch s = test_minimize_not t (execute x) done s

same_branch : (b : Bool) (f : Step) (s : State) → f s ≡ branch b f f s
same_branch true f s = refl
same_branch false f s = refl

module _ (host : Meaning) (law : Lawful host) where
  minimize_empty_alone_executes : (t : Expr) (b : Bool) → host.harmless t ≡ b → (s : State)
      → execute (cond b empty (expression t)) s ≡ test_then t done done s
  minimize_empty_alone_executes t true e s =
      let h = law.harmless_law t e s in
      same_branch (to_boolean h.0) done s ∙ ap (λ r. and_then r (λ v s₁. branch (to_boolean v) done done s₁)) (sym h.1)
  minimize_empty_alone_executes t false e s = and_then_cong (evaluate t s) (λ v s₁. same_branch (to_boolean v) done s₁)

  minimize_empty_if_executes : (t : Expr) (a : Alternate) (s : State)
      → execute (minimize_empty_if host t a) s ≡ test_then t done (execute_alternate a) s
  minimize_empty_if_executes t no_alternate s = minimize_empty_alone_executes t (host.harmless t) refl s
  minimize_empty_if_executes t (alternate x) s = minimize_empty_else_executes t (branch? x) s

  try_minimize_if_as_executes : (t : Expr) {c : Stmt} (v : Empty? c) (a : Alternate) (s : State)
      → execute (try_minimize_if_as host t v a) s ≡ execute (if_then t c a) s
  try_minimize_if_as_executes t is_empty a s = minimize_empty_if_executes t a s
  try_minimize_if_as_executes t is_empty_block a s = minimize_empty_if_executes t a s
  try_minimize_if_as_executes t {c} no_empty a s = minimize_full_if_executes t c a s

  pub try_minimize_if_executes : (t : Expr) (c : Stmt) (a : Alternate) (s : State)
      → execute (try_minimize_if host t c a) s ≡ execute (if_then t c a) s
  try_minimize_if_executes t c a s = try_minimize_if_as_executes t (empty? c) a s
