-- How many records the rules that join expressions make.
use Rattle.std.proofs.Common.{ℕ, suc, ◌+◌, ◌<◌, ◌≤◌, Bool, true, false, cond, T, arith}
use Rattle.script.specs.declared.LogicalOperator.{LogicalOperator}
use Rattle.script.specs.declared.LogicalOperator.TheVariants.{Or, And}
use Rattle.script.specs.Sound.{records_expr, records_exprs}
use Rattle.script.specs.Tree.{Exprs, Expr, no_exprs, expr_then, number, word, name, assignment, call, sequence, conditional, logical, not}
use Rattle.script.specs.Tree.{void, strict_equality}
use Rattle.rules.specs.Equal.{same_operator}
use Rattle.rules.specs.Expressions.{Sequence?, join_sequence_as, is_sequence, no_sequence, join_sequence, sequence?, with_last_item}
use Rattle.rules.specs.Expressions.{with_last_of_items, at_last_of_items, at_last_item, Not?, negate_as, is_not, no_not, minimize_not, negate}
use Rattle.rules.specs.Expressions.{not?, minimize_conditional, join_onto, join_with_left_associative_op}
use Rattle.rules.specs.Ifs.{has_negated_result, has_negated_results, if_to_logical, else_to_logical}
use Rattle.rules.proofs.BudgetExpressions.{append_expr_records, either_records}

join_sequence_as_records : {a b : Expr} (v : Sequence? a) (w : Sequence? b)
    → records_expr (join_sequence_as v w) ≤ records_expr a + records_expr b + 1
join_sequence_as_records {b = b} (is_sequence e es) w = let h = append_expr_records es b in omega arith
join_sequence_as_records no_sequence (is_sequence e es) = omega arith
join_sequence_as_records no_sequence no_sequence = omega arith

pub join_sequence_records : (a b : Expr) → records_expr (join_sequence a b) ≤ records_expr a + records_expr b + 1
join_sequence_records a b = join_sequence_as_records (sequence? a) (sequence? b)

-- at the last item

with_last_item_records : (k : ℕ) (es es' : Exprs) (e e' : Expr) → records_expr e' ≤ records_expr e + k
    → records_exprs es' ≤ records_exprs es + k
    → records_expr (with_last_item es e' e es') ≤ suc (records_expr e + records_exprs es) + k
with_last_item_records k no_exprs es' e e' p q = omega arith
with_last_item_records k (expr_then x xs) es' e e' p q = omega arith

with_last_of_items_records : (k : ℕ) (es es' : Exprs) (e e' : Expr) → records_expr e' ≤ records_expr e + k
    → records_exprs es' ≤ records_exprs es + k
    → records_exprs (with_last_of_items es e' e es') ≤ records_expr e + records_exprs es + k
with_last_of_items_records k no_exprs es' e e' p q = omega arith
with_last_of_items_records k (expr_then x xs) es' e e' p q = omega arith

module _ (f : Expr → Expr) (k : ℕ) (h : (e : Expr) → records_expr (f e) ≤ records_expr e + k) where
  mutual
    pub at_last_item_records : (e : Expr) → records_expr (at_last_item f e) ≤ records_expr e + k
    at_last_item_records (number bits) = h (number bits)
    at_last_item_records (word w) = h (word w)
    at_last_item_records (name n) = h (name n)
    at_last_item_records (assignment n e) = h (assignment n e)
    at_last_item_records (call n es) = h (call n es)
    at_last_item_records (sequence e es) =
        with_last_item_records k es (at_last_of_items f es) e (at_last_item f e) (at_last_item_records e) (at_last_of_items_records es)
    at_last_item_records (conditional t a b) = h (conditional t a b)
    at_last_item_records (logical o a b) = h (logical o a b)
    at_last_item_records (not e) = h (not e)
    at_last_item_records (void e) = h (void e)
    at_last_item_records (strict_equality a b) = h (strict_equality a b)

    at_last_of_items_records : (es : Exprs) → records_exprs (at_last_of_items f es) ≤ records_exprs es + k
    at_last_of_items_records no_exprs = omega arith
    at_last_of_items_records (expr_then e es) =
        with_last_of_items_records k es (at_last_of_items f es) e (at_last_item f e) (at_last_item_records e) (at_last_of_items_records es)

negate_records : {e : Expr} (v : Not? e) → records_expr (negate_as v) ≤ records_expr e + 1
negate_records (is_not e) = omega arith
negate_records no_not = omega arith

pub minimize_not_records : (e : Expr) → records_expr (minimize_not e) ≤ records_expr e + 1
minimize_not_records e = at_last_item_records negate 1 (λ e₁. negate_records (not? e₁)) e

pub minimize_conditional_records : (t a b : Expr)
    → records_expr (minimize_conditional t a b) ≤ records_expr t + (records_expr a + records_expr b + 1)
minimize_conditional_records t a b =
    at_last_item_records (λ t'. conditional t' a b) (records_expr a + records_expr b + 1) (λ e. omega arith) t

join_onto_records : (o : LogicalOperator) (b a : Expr) → records_expr (join_onto o b a) ≤ records_expr a + (records_expr b + 1)
join_onto_records o (number bits) a = omega arith
join_onto_records o (word w) a = omega arith
join_onto_records o (name n) a = omega arith
join_onto_records o (assignment n e) a = omega arith
join_onto_records o (call n es) a = omega arith
join_onto_records o (sequence e es) a = omega arith
join_onto_records o (conditional t x y) a = omega arith
join_onto_records o (logical p l r) a =
    let g = join_onto_records o l a in
    let h = join_onto_records o r (join_onto o l a) in
    either_records (same_operator o p) (join_onto o r (join_onto o l a)) (logical o a (logical p l r)) _ (omega arith) (omega arith)
join_onto_records o (not e) a = omega arith
join_onto_records o (void e) a = omega arith
join_onto_records o (strict_equality x y) a = omega arith

pub join_with_left_associative_op_records : (o : LogicalOperator) (a b : Expr)
    → records_expr (join_with_left_associative_op o a b) ≤ records_expr a + (records_expr b + 1)
join_with_left_associative_op_records o a b = at_last_item_records (join_onto o b) (records_expr b + 1) (join_onto_records o b) a

-- a `!` that goes

mutual
  negated_records : (e : Expr) → T (has_negated_result e) → records_expr (minimize_not e) < records_expr e
  negated_records (number bits) p = absurd p
  negated_records (word w) p = absurd p
  negated_records (name n) p = absurd p
  negated_records (assignment n e) p = absurd p
  negated_records (call n es) p = absurd p
  negated_records (sequence e no_exprs) p = let h = negated_records e p in omega arith
  negated_records (sequence e (expr_then x xs)) p = let h = negated_items_records (expr_then x xs) p in omega arith
  negated_records (conditional t a b) p = absurd p
  negated_records (logical o a b) p = absurd p
  negated_records (not e) p = omega arith
  negated_records (void e) p = absurd p
  negated_records (strict_equality a b) p = absurd p

  negated_items_records : (es : Exprs) → T (has_negated_results es) → records_exprs (at_last_of_items negate es) < records_exprs es
  negated_items_records no_exprs p = absurd p
  negated_items_records (expr_then e no_exprs) p = let h = negated_records e p in omega arith
  negated_items_records (expr_then e (expr_then x xs)) p = let h = negated_items_records (expr_then x xs) p in omega arith

logical_records : (b : Bool) (o u : LogicalOperator) (t e : Expr) → (T b → T (has_negated_result t))
    → records_expr (cond b (join_with_left_associative_op o (minimize_not t) e) (join_with_left_associative_op u t e))
    ≤ records_expr t + (records_expr e + 1)
logical_records true o u t e p =
    let h = negated_records t (p tt) in let j = join_with_left_associative_op_records o (minimize_not t) e in omega arith
logical_records false o u t e p = join_with_left_associative_op_records u t e

pub if_to_logical_records : (t e : Expr) → records_expr (if_to_logical t e) ≤ records_expr t + (records_expr e + 1)
if_to_logical_records t e = logical_records (has_negated_result t) Or And t e (λ b. b)

pub else_to_logical_records : (t e : Expr) → records_expr (else_to_logical t e) ≤ records_expr t + (records_expr e + 1)
else_to_logical_records t e = logical_records (has_negated_result t) And Or t e (λ b. b)
