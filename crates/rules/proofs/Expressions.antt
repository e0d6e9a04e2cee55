-- What the rules on expressions evaluate to.
use Rattle.std.proofs.Common.{◌≡◌, Bool, true, false, cond, not as negated, T, sym, refl, ap, ◌∙◌}
use Rattle.script.specs.declared.LogicalOperator.{LogicalOperator}
use Rattle.script.specs.Tree.{Exprs, Expr, no_exprs, expr_then, sequence, number, word, name, assignment, call, conditional, logical, not}
use Rattle.script.specs.Tree.{void, strict_equality}
use Rattle.run.specs.Values.{Value, to_boolean}
use Rattle.run.specs.Completion.{State, and_then, Completion, branch, normal}
use Rattle.run.specs.Evaluate.{evaluate_others, evaluate, goes_right}
use Rattle.rules.specs.Equal.{same_operator, same_operator_is}
use Rattle.rules.specs.Expressions.{append_expr, Sequence?, join_sequence_as, is_sequence, no_sequence, join_sequence, sequence?, with_last_item}
use Rattle.rules.specs.Expressions.{with_last_of_items, at_last_item, at_last_of_items, minimize_conditional, Not?, negate_as, is_not, no_not}
use Rattle.rules.specs.Expressions.{minimize_not, negate, not?, join_onto, join_with_left_associative_op}
use Rattle.rules.proofs.Completions.{and_then_normal, and_then_cong, and_then_assoc}

-- join_sequence

pub evaluate_others_append : (es : Exprs) (b : Expr) (v : Value) (s : State)
    → evaluate_others (append_expr es b) v s ≡ and_then (evaluate_others es v s) (λ _ s₁. evaluate b s₁)
evaluate_others_append no_exprs b v s = and_then_normal (evaluate b s)
evaluate_others_append (expr_then e es) b v s =
    and_then_cong (evaluate e s) (λ u s₁. evaluate_others_append es b u s₁) ∙ sym (and_then_assoc (evaluate e s) _ _)

join_sequence_as_evaluates : {a b : Expr} (v : Sequence? a) (w : Sequence? b) (s : State)
    → evaluate (join_sequence_as v w) s ≡ and_then (evaluate a s) (λ _ s₁. evaluate b s₁)
join_sequence_as_evaluates {b = b} (is_sequence e es) w s =
    and_then_cong (evaluate e s) (λ u s₁. evaluate_others_append es b u s₁) ∙ sym (and_then_assoc (evaluate e s) _ _)
join_sequence_as_evaluates no_sequence (is_sequence e es) s = refl
join_sequence_as_evaluates {a = a} {b = b} no_sequence no_sequence s =
    and_then_cong (evaluate a s) (λ u s₁. and_then_normal (evaluate b s₁))

pub join_sequence_evaluates : (a b : Expr) (s : State) → evaluate (join_sequence a b) s ≡ and_then (evaluate a s) (λ _ s₁. evaluate b s₁)
join_sequence_evaluates a b s = join_sequence_as_evaluates (sequence? a) (sequence? b) s

-- f at the last item: where f does to the value of each expression what k does, so does at-last f

abbrev Filled : Exprs → Type 0
Filled no_exprs = ⊥
Filled (expr_then e es) = Unit {0}

module _ {B : Type 0} (f : Expr → Expr) (o k : Value → State → Completion B)
    (h : (e : Expr) (s : State) → and_then (evaluate (f e) s) o ≡ and_then (evaluate e s) k) where
  with_last_item_evaluates : (es es' : Exprs) (e e' : Expr) → ((s : State) → and_then (evaluate e' s) o ≡ and_then (evaluate e s) k)
      → (Filled es → (v : Value) (s : State) → and_then (evaluate_others es' v s) o ≡ and_then (evaluate_others es v s) k)
      → (s : State) → and_then (evaluate (with_last_item es e' e es') s) o ≡ and_then (evaluate (sequence e es) s) k
  with_last_item_evaluates no_exprs es' e e' p q s = simp and_then_normal (p s)
  with_last_item_evaluates (expr_then x xs) es' e e' p q s =
      and_then_assoc (evaluate e s) _ o ∙ and_then_cong (evaluate e s) (q tt) ∙ sym (and_then_assoc (evaluate e s) _ k)

  with_last_of_items_evaluates : (es es' : Exprs) (e e' : Expr) → ((s : State) → and_then (evaluate e' s) o ≡ and_then (evaluate e s) k)
      → (Filled es → (v : Value) (s : State) → and_then (evaluate_others es' v s) o ≡ and_then (evaluate_others es v s) k)
      → (v : Value) (s : State)
      → and_then (evaluate_others (with_last_of_items es e' e es') v s) o ≡ and_then (evaluate_others (expr_then e es) v s) k
  with_last_of_items_evaluates no_exprs es' e e' p q v s = simp and_then_normal (p s)
  with_last_of_items_evaluates (expr_then x xs) es' e e' p q v s =
      and_then_assoc (evaluate e s) _ o ∙ and_then_cong (evaluate e s) (q tt) ∙ sym (and_then_assoc (evaluate e s) _ k)

  mutual
    pub at_last_item_evaluates : (e : Expr) (s : State) → and_then (evaluate (at_last_item f e) s) o ≡ and_then (evaluate e s) k
    at_last_item_evaluates (number bits) s = h (number bits) s
    at_last_item_evaluates (word w) s = h (word w) s
    at_last_item_evaluates (name n) s = h (name n) s
    at_last_item_evaluates (assignment n e) s = h (assignment n e) s
    at_last_item_evaluates (call n es) s = h (call n es) s
    at_last_item_evaluates (sequence e es) s =
        with_last_item_evaluates es (at_last_of_items f es) e (at_last_item f e) (at_last_item_evaluates e)
        (at_last_of_items_evaluates es) s
    at_last_item_evaluates (conditional t a b) s = h (conditional t a b) s
    at_last_item_evaluates (logical p a b) s = h (logical p a b) s
    at_last_item_evaluates (not e) s = h (not e) s
    at_last_item_evaluates (void e) s = h (void e) s
    at_last_item_evaluates (strict_equality a b) s = h (strict_equality a b) s

    pub at_last_of_items_evaluates : (es : Exprs) → Filled es → (v : Value) (s : State)
        → and_then (evaluate_others (at_last_of_items f es) v s) o ≡ and_then (evaluate_others es v s) k
    at_last_of_items_evaluates no_exprs t v s = absurd t
    at_last_of_items_evaluates (expr_then e es) t v s =
        with_last_of_items_evaluates es (at_last_of_items f es) e (at_last_item f e) (at_last_item_evaluates e)
        (at_last_of_items_evaluates es) v s

-- minimize_conditional

abbrev pub evaluate_branch : Expr → Expr → Value → State → Completion Value
evaluate_branch a b v s = branch (to_boolean v) (λ s₁. evaluate a s₁) (λ s₁. evaluate b s₁) s

pub minimize_conditional_evaluates : (t a b : Expr) (s : State) → evaluate (minimize_conditional t a b) s ≡ evaluate (conditional t a b) s
minimize_conditional_evaluates t a b s =
    sym (and_then_normal (evaluate (minimize_conditional t a b) s))
    ∙ at_last_item_evaluates (λ t'. conditional t' a b) (λ v s₁. normal v s₁) (evaluate_branch a b)
    (λ e s₁. and_then_normal (evaluate (conditional e a b) s₁)) t s

-- minimize_not: the truth of the value is turned round

abbrev pub truth_of : Value → State → Completion Bool
truth_of v s = normal (to_boolean v) s

abbrev pub untruth_of : Value → State → Completion Bool
untruth_of v s = normal (negated (to_boolean v)) s

negated_negated : (b : Bool) → negated (negated b) ≡ b
negated_negated true = refl
negated_negated false = refl

negate_evaluates : {e : Expr} (v : Not? e) (s : State) → and_then (evaluate (negate_as v) s) truth_of ≡ and_then (evaluate e s) untruth_of
negate_evaluates (is_not e) s = simp (and_then_assoc, negated_negated)
negate_evaluates {e} no_not s = simp and_then_assoc

pub minimize_not_evaluates : (e : Expr) (s : State) → and_then (evaluate (minimize_not e) s) truth_of ≡ and_then (evaluate e s) untruth_of
minimize_not_evaluates e s = at_last_item_evaluates negate truth_of untruth_of (λ e₁ s₁. negate_evaluates (not? e₁) s₁) e s

-- join_with_left_associative_op

regroup_branch : (g : Value → Bool) (b : Bool) (v : Value) → g v ≡ b → (l r : State → Completion Value) (s : State)
    → and_then (branch b l (λ s₁. normal v s₁) s) (λ u s₁. branch (g u) r (λ s₂. normal u s₂) s₁)
    ≡ branch b (λ s₁. and_then (l s₁) (λ u s₂. branch (g u) r (λ s₃. normal u s₃) s₂)) (λ s₁. normal v s₁) s
regroup_branch g true v e l r s = refl
regroup_branch g false v e l r s = ap (λ b. branch b r (λ s₂. normal v s₂) s) e

logical_regroup : (o : LogicalOperator) (a l r : Expr) (s : State)
    → evaluate (logical o (logical o a l) r) s ≡ evaluate (logical o a (logical o l r)) s
logical_regroup o a l r s =
    and_then_assoc (evaluate a s) _ _
    ∙ and_then_cong (evaluate a s)
    (λ v s₁. regroup_branch (goes_right o) (goes_right o v) v refl (λ s₂. evaluate l s₂) (λ s₂. evaluate r s₂) s₁)

logical_left : (o : LogicalOperator) (a a' r : Expr) → ((s : State) → evaluate a s ≡ evaluate a' s) → (s : State)
    → evaluate (logical o a r) s ≡ evaluate (logical o a' r) s
logical_left o a a' r h s = ap (λ x. and_then x (λ v s₁. branch (goes_right o v) (λ s₂. evaluate r s₂) (λ s₂. normal v s₂) s₁)) (h s)

join_onto_logical : (o p : LogicalOperator) (a l r x : Expr) (b : Bool) → (T b → T (same_operator o p))
    → ((s : State) → evaluate x s ≡ evaluate (logical o a (logical o l r)) s)
    → (s : State) → evaluate (cond b x (logical o a (logical p l r))) s ≡ evaluate (logical o a (logical p l r)) s
join_onto_logical o p a l r x true e h s = h s ∙ ap (λ q. evaluate (logical o a (logical q l r)) s) (same_operator_is o p (e tt))
join_onto_logical o p a l r x false e h s = refl

pub join_onto_evaluates : (o : LogicalOperator) (b a : Expr) (s : State) → evaluate (join_onto o b a) s ≡ evaluate (logical o a b) s
join_onto_evaluates o (number bits) a s = refl
join_onto_evaluates o (word w) a s = refl
join_onto_evaluates o (name n) a s = refl
join_onto_evaluates o (assignment n e) a s = refl
join_onto_evaluates o (call n es) a s = refl
join_onto_evaluates o (sequence e es) a s = refl
join_onto_evaluates o (conditional t x y) a s = refl
join_onto_evaluates o (logical p l r) a s =
    join_onto_logical o p a l r (join_onto o r (join_onto o l a)) (same_operator o p) (λ t. t)
    (λ s₁. join_onto_evaluates o r (join_onto o l a) s₁ ∙ logical_left o (join_onto o l a) (logical o a l) r (join_onto_evaluates o l a) s₁
    ∙ logical_regroup o a l r s₁)
    s
join_onto_evaluates o (not e) a s = refl
join_onto_evaluates o (void e) a s = refl
join_onto_evaluates o (strict_equality x y) a s = refl

abbrev pub evaluate_right : LogicalOperator → Expr → Value → State → Completion Value
evaluate_right o b v s = branch (goes_right o v) (λ s₁. evaluate b s₁) (λ s₁. normal v s₁) s

pub join_with_left_associative_op_evaluates : (o : LogicalOperator) (a b : Expr) (s : State)
    → evaluate (join_with_left_associative_op o a b) s ≡ evaluate (logical o a b) s
join_with_left_associative_op_evaluates o a b s =
    sym (and_then_normal (evaluate (join_with_left_associative_op o a b) s))
    ∙ at_last_item_evaluates (join_onto o b) (λ v s₁. normal v s₁) (evaluate_right o b)
    (λ e s₁. and_then_normal (evaluate (join_onto o b e) s₁) ∙ join_onto_evaluates o b e s₁) a s
