-- How many records the rules that join expressions leave.
use Rattle.std.proofs.Common.{◌≡◌, ℕ, suc, ◌+◌, ◌≤◌, Bool, true, false, cond, arith}
use Rattle.script.specs.declared.LogicalOperator.{LogicalOperator}
use Rattle.script.specs.declared.LogicalOperator.TheVariants.{Or, And}
use Rattle.script.specs.Sound.{records_exprs, records_expr}
use Rattle.script.specs.Tree.{Expr, Exprs, no_exprs, expr_then, sequence, number, word, name, assignment, call, conditional, logical, not}
use Rattle.script.specs.Tree.{void, strict_equality}
use Rattle.rules.specs.Equal.{same_operator}
use Rattle.rules.specs.Expressions.{append_expr, join_sequence, join_sequence_as, Sequence?, is_sequence, no_sequence, sequence?}
use Rattle.rules.specs.Expressions.{at_last_of_items, at_last_item, negate, negate_as, Not?, is_not, no_not, minimize_not, not?}
use Rattle.rules.specs.Expressions.{minimize_conditional, join_onto, join_with_left_associative_op}
use Rattle.rules.specs.Ifs.{if_to_logical, has_negated_result, else_to_logical}
use Rattle.rules.specs.ExpressionMoves.{last_of_items, last_item}

pub append_expr_records : (es : Exprs) (b : Expr) → records_exprs (append_expr es b) ≡ records_exprs es + records_expr b
append_expr_records no_exprs b = omega arith
append_expr_records (expr_then e es) b = let h = append_expr_records es b in omega arith

pub join_sequence_as_records : {a b : Expr} (v : Sequence? a) (w : Sequence? b)
    → records_expr (join_sequence_as v w) ≤ suc (records_expr a + records_expr b)
join_sequence_as_records {b = b} (is_sequence e es) w = let h = append_expr_records es b in omega arith
join_sequence_as_records no_sequence (is_sequence e es) = omega arith
join_sequence_as_records no_sequence no_sequence = omega arith

pub join_sequence_records : (a b : Expr) → records_expr (join_sequence a b) ≤ suc (records_expr a + records_expr b)
join_sequence_records a b = join_sequence_as_records (sequence? a) (sequence? b)

-- a rule at the last item changes the number of records as it changes the last item's
module _ (f : Expr → Expr) where
  abbrev pub LastChanges : Exprs → Type 0
  LastChanges no_exprs = Unit {0}
  LastChanges (expr_then x xs) =
      records_exprs (at_last_of_items f (expr_then x xs)) + records_expr (last_of_items xs (last_item x))
      ≡ records_exprs (expr_then x xs) + records_expr (f (last_of_items xs (last_item x)))

  mutual
    pub at_last_item_records : (e : Expr)
        → records_expr (at_last_item f e) + records_expr (last_item e) ≡ records_expr e + records_expr (f (last_item e))
    at_last_item_records (number bits) = omega arith
    at_last_item_records (word w) = omega arith
    at_last_item_records (name n) = omega arith
    at_last_item_records (assignment n e) = omega arith
    at_last_item_records (call n es) = omega arith
    at_last_item_records (sequence e no_exprs) = let h = at_last_item_records e in omega arith
    at_last_item_records (sequence e (expr_then x xs)) = let h = at_last_of_items_records (expr_then x xs) in omega arith
    at_last_item_records (conditional t a b) = omega arith
    at_last_item_records (logical o a b) = omega arith
    at_last_item_records (not e) = omega arith
    at_last_item_records (void e) = omega arith
    at_last_item_records (strict_equality a b) = omega arith

    pub at_last_of_items_records : (es : Exprs) → LastChanges es
    at_last_of_items_records no_exprs = tt
    at_last_of_items_records (expr_then x no_exprs) = let h = at_last_item_records x in omega arith
    at_last_of_items_records (expr_then x (expr_then y ys)) = let h = at_last_of_items_records (expr_then y ys) in omega arith

pub negate_as_records : {e : Expr} (v : Not? e) → records_expr (negate_as v) ≤ suc (records_expr e)
negate_as_records (is_not e) = omega arith
negate_as_records no_not = omega arith

pub minimize_not_records : (e : Expr) → records_expr (minimize_not e) ≤ suc (records_expr e)
minimize_not_records e =
    let h = at_last_item_records negate e in let g = negate_as_records (not? (last_item e)) in omega arith

pub minimize_conditional_records : (t a b : Expr)
    → records_expr (minimize_conditional t a b) ≡ suc (records_expr t + (records_expr a + records_expr b))
minimize_conditional_records t a b = let h = at_last_item_records (λ t'. conditional t' a b) t in omega arith

pub join_onto_records : (o : LogicalOperator) (b a : Expr) → records_expr (join_onto o b a) ≡ suc (records_expr a + records_expr b)
join_onto_records o (number bits) a = omega arith
join_onto_records o (word w) a = omega arith
join_onto_records o (name n) a = omega arith
join_onto_records o (assignment n e) a = omega arith
join_onto_records o (call n es) a = omega arith
join_onto_records o (sequence e es) a = omega arith
join_onto_records o (conditional t x y) a = omega arith
join_onto_records o (logical p l r) a = by (same_operator o p) (join_onto_records o r (join_onto o l a)) (join_onto_records o l a)
  where
    by : (b : Bool)
        → records_expr (join_onto o r (join_onto o l a)) ≡ suc (records_expr (join_onto o l a) + records_expr r)
        → records_expr (join_onto o l a) ≡ suc (records_expr a + records_expr l)
        → records_expr (cond b (join_onto o r (join_onto o l a)) (logical o a (logical p l r)))
        ≡ suc (records_expr a + records_expr (logical p l r))
    by true h g = omega arith
    by false h g = omega arith
join_onto_records o (not e) a = omega arith
join_onto_records o (void e) a = omega arith
join_onto_records o (strict_equality x y) a = omega arith

pub join_with_left_associative_op_records : (o : LogicalOperator) (a b : Expr)
    → records_expr (join_with_left_associative_op o a b) ≡ suc (records_expr a + records_expr b)
join_with_left_associative_op_records o a b =
    let h = at_last_item_records (join_onto o b) a in let g = join_onto_records o b (last_item a) in omega arith

pub either_records : (b : Bool) (x y : Expr) (n : ℕ) → records_expr x ≤ n → records_expr y ≤ n → records_expr (cond b x y) ≤ n
either_records true x y n p q = p
either_records false x y n p q = q

-- an `if` as a logical expression has at most the `!` and the operator more
pub if_to_logical_records : (t e : Expr) → records_expr (if_to_logical t e) ≤ suc (suc (records_expr t + records_expr e))
if_to_logical_records t e =
    either_records (has_negated_result t) (join_with_left_associative_op Or (minimize_not t) e) (join_with_left_associative_op And t e) _
    (let h = join_with_left_associative_op_records Or (minimize_not t) e in let g = minimize_not_records t in omega arith)
    (let h = join_with_left_associative_op_records And t e in omega arith)

pub else_to_logical_records : (t e : Expr) → records_expr (else_to_logical t e) ≤ suc (suc (records_expr t + records_expr e))
else_to_logical_records t e =
    either_records (has_negated_result t) (join_with_left_associative_op And (minimize_not t) e) (join_with_left_associative_op Or t e) _
    (let h = join_with_left_associative_op_records And (minimize_not t) e in let g = minimize_not_records t in omega arith)
    (let h = join_with_left_associative_op_records Or t e in omega arith)
