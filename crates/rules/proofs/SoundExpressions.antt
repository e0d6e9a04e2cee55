-- The rules that join expressions break no rule of feeding.
use Rattle.std.proofs.Common.{◌≤◌, Bool, true, false, cond, arith}
use Rattle.script.specs.declared.LogicalOperator.{LogicalOperator}
use Rattle.script.specs.Sound.{SoundExprs, SoundExpr, count_exprs, SoundOptional}
use Rattle.script.specs.Tree.{Exprs, Expr, no_exprs, expr_then, number, word, name, assignment, call, sequence, conditional, logical, not}
use Rattle.script.specs.Tree.{void, strict_equality, OptionalExpr, absent, present}
use Rattle.rules.specs.Equal.{same_operator}
use Rattle.rules.specs.Expressions.{append_expr, Sequence?, join_sequence_as, is_sequence, no_sequence, join_sequence, sequence?, with_last_item}
use Rattle.rules.specs.Expressions.{with_last_of_items, at_last_of_items, at_last_item, Not?, negate_as, is_not, no_not, minimize_not, negate}
use Rattle.rules.specs.Expressions.{not?, minimize_conditional, join_onto, join_with_left_associative_op}
use Rattle.rules.specs.Returns.{value_or_void_0}

append_expr_sound : (es : Exprs) (b : Expr) → SoundExprs es → SoundExpr b → SoundExprs (append_expr es b)
append_expr_sound no_exprs b p q = (q, tt)
append_expr_sound (expr_then e es) b p q = (p.0, append_expr_sound es b p.1 q)

append_expr_some : (es : Exprs) (b : Expr) → 1 ≤ count_exprs (append_expr es b)
append_expr_some no_exprs b = omega arith
append_expr_some (expr_then e es) b = omega arith

join_sequence_as_sound : {a b : Expr} (v : Sequence? a) (w : Sequence? b) → SoundExpr a → SoundExpr b → SoundExpr (join_sequence_as v w)
join_sequence_as_sound {b = b} (is_sequence e es) w p q = (append_expr_some es b, p.1, append_expr_sound es b p.2 q)
join_sequence_as_sound no_sequence (is_sequence e es) p q = (omega arith, p, (q.1, q.2))
join_sequence_as_sound no_sequence no_sequence p q = (omega arith, p, (q, tt))

pub join_sequence_sound : (a b : Expr) → SoundExpr a → SoundExpr b → SoundExpr (join_sequence a b)
join_sequence_sound a b p q = join_sequence_as_sound (sequence? a) (sequence? b) p q

-- at the last item

with_last_item_sound : (es es' : Exprs) (e e' : Expr) → 1 ≤ count_exprs es → (1 ≤ count_exprs es → 1 ≤ count_exprs es')
    → SoundExpr e → SoundExprs es' → SoundExpr (with_last_item es e' e es')
with_last_item_sound no_exprs es' e e' n m p q = absurd (omega arith)
with_last_item_sound (expr_then x xs) es' e e' n m p q = (m n, p, q)

with_last_of_items_sound : (es es' : Exprs) (e e' : Expr) → SoundExpr e → SoundExpr e' → SoundExprs es'
    → SoundExprs (with_last_of_items es e' e es')
with_last_of_items_sound no_exprs es' e e' p p' q = (p', tt)
with_last_of_items_sound (expr_then x xs) es' e e' p p' q = (p, q)

module _ (f : Expr → Expr) (h : (e : Expr) → SoundExpr e → SoundExpr (f e)) where
  some_items : (es : Exprs) → 1 ≤ count_exprs es → 1 ≤ count_exprs (at_last_of_items f es)
  some_items no_exprs n = n
  some_items (expr_then e no_exprs) n = omega arith
  some_items (expr_then e (expr_then x xs)) n = omega arith

  mutual
    pub at_last_item_sound : (e : Expr) → SoundExpr e → SoundExpr (at_last_item f e)
    at_last_item_sound (number bits) p = h (number bits) p
    at_last_item_sound (word w) p = h (word w) p
    at_last_item_sound (name n) p = h (name n) p
    at_last_item_sound (assignment n e) p = h (assignment n e) p
    at_last_item_sound (call n es) p = h (call n es) p
    at_last_item_sound (sequence e es) p =
        with_last_item_sound es (at_last_of_items f es) e (at_last_item f e) p.0 (some_items es) p.1
        (at_last_of_items_sound es p.2)
    at_last_item_sound (conditional t a b) p = h (conditional t a b) p
    at_last_item_sound (logical o a b) p = h (logical o a b) p
    at_last_item_sound (not e) p = h (not e) p
    at_last_item_sound (void e) p = h (void e) p
    at_last_item_sound (strict_equality a b) p = h (strict_equality a b) p

    at_last_of_items_sound : (es : Exprs) → SoundExprs es → SoundExprs (at_last_of_items f es)
    at_last_of_items_sound no_exprs p = tt
    at_last_of_items_sound (expr_then e es) p =
        with_last_of_items_sound es (at_last_of_items f es) e (at_last_item f e) p.0 (at_last_item_sound e p.0)
        (at_last_of_items_sound es p.1)

negate_sound : {e : Expr} (v : Not? e) → SoundExpr e → SoundExpr (negate_as v)
negate_sound (is_not e) p = p
negate_sound no_not p = p

pub minimize_not_sound : (e : Expr) → SoundExpr e → SoundExpr (minimize_not e)
minimize_not_sound e p = at_last_item_sound negate (λ e₁ q. negate_sound (not? e₁) q) e p

pub minimize_conditional_sound : (t a b : Expr) → SoundExpr t → SoundExpr a → SoundExpr b → SoundExpr (minimize_conditional t a b)
minimize_conditional_sound t a b p q r = at_last_item_sound (λ t'. conditional t' a b) (λ e s. (s, q, r)) t p

pub either_expr : (b : Bool) (x y : Expr) → SoundExpr x → SoundExpr y → SoundExpr (cond b x y)
either_expr true x y p q = p
either_expr false x y p q = q

join_onto_sound : (o : LogicalOperator) (b a : Expr) → SoundExpr b → SoundExpr a → SoundExpr (join_onto o b a)
join_onto_sound o (number bits) a p q = (q, p)
join_onto_sound o (word w) a p q = (q, p)
join_onto_sound o (name n) a p q = (q, p)
join_onto_sound o (assignment n e) a p q = (q, p)
join_onto_sound o (call n es) a p q = (q, p)
join_onto_sound o (sequence e es) a p q = (q, p)
join_onto_sound o (conditional t x y) a p q = (q, p)
join_onto_sound o (logical o₁ l r) a p q =
    either_expr (same_operator o o₁) (join_onto o r (join_onto o l a)) (logical o a (logical o₁ l r))
    (join_onto_sound o r (join_onto o l a) p.1 (join_onto_sound o l a p.0 q)) (q, p)
join_onto_sound o (not e) a p q = (q, p)
join_onto_sound o (void e) a p q = (q, p)
join_onto_sound o (strict_equality x y) a p q = (q, p)

pub join_with_left_associative_op_sound : (o : LogicalOperator) (a b : Expr) → SoundExpr a → SoundExpr b
    → SoundExpr (join_with_left_associative_op o a b)
join_with_left_associative_op_sound o a b p q = at_last_item_sound (join_onto o b) (λ e s. join_onto_sound o b e q s) a p

pub value_or_void_0_sound : (p : OptionalExpr) → SoundOptional p → SoundExpr (value_or_void_0 p)
value_or_void_0_sound absent q = tt
value_or_void_0_sound (present e) q = q
