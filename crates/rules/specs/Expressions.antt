-- The rules that join expressions.
use Rattle.std.specs.Prelude.{ℕ, cond}
use Rattle.script.specs.declared.LogicalOperator.{LogicalOperator}
use Rattle.script.specs.Tree.{Expr, Exprs, sequence, number, word, name, assignment, call, conditional, logical, not, void, strict_equality}
use Rattle.script.specs.Tree.{no_exprs, expr_then}
use Rattle.rules.specs.Equal.{same_operator}

-- views

pub data Sequence? : Expr → Type 0 where
  is_sequence : (e : Expr) (es : Exprs) → Sequence? (sequence e es)
  no_sequence : {e : Expr} → Sequence? e

abbrev pub sequence? : (e : Expr) → Sequence? e
sequence? (number bits) = no_sequence
sequence? (word w) = no_sequence
sequence? (name n) = no_sequence
sequence? (assignment n e) = no_sequence
sequence? (call n es) = no_sequence
sequence? (sequence e es) = is_sequence e es
sequence? (conditional t a b) = no_sequence
sequence? (logical o a b) = no_sequence
sequence? (not e) = no_sequence
sequence? (void e) = no_sequence
sequence? (strict_equality a b) = no_sequence

pub data Not? : Expr → Type 0 where
  is_not : (e : Expr) → Not? (not e)
  no_not : {e : Expr} → Not? e

abbrev pub not? : (e : Expr) → Not? e
not? (number bits) = no_not
not? (word w) = no_not
not? (name n) = no_not
not? (assignment n e) = no_not
not? (call n es) = no_not
not? (sequence e es) = no_not
not? (conditional t a b) = no_not
not? (logical o a b) = no_not
not? (not e) = is_not e
not? (void e) = no_not
not? (strict_equality a b) = no_not

pub data Assignment? : Expr → Type 0 where
  is_assignment : (n : ℕ) (e : Expr) → Assignment? (assignment n e)
  no_assignment : {e : Expr} → Assignment? e

abbrev pub assignment? : (e : Expr) → Assignment? e
assignment? (number bits) = no_assignment
assignment? (word w) = no_assignment
assignment? (name n) = no_assignment
assignment? (assignment n e) = is_assignment n e
assignment? (call n es) = no_assignment
assignment? (sequence e es) = no_assignment
assignment? (conditional t a b) = no_assignment
assignment? (logical o a b) = no_assignment
assignment? (not e) = no_assignment
assignment? (void e) = no_assignment
assignment? (strict_equality a b) = no_assignment

-- sequences

abbrev pub append_expr : Exprs → Expr → Exprs
append_expr no_exprs b = expr_then b no_exprs
append_expr (expr_then e es) b = expr_then e (append_expr es b)

abbrev pub join_sequence_as : {a b : Expr} → Sequence? a → Sequence? b → Expr
join_sequence_as {b = b} (is_sequence e es) w = sequence e (append_expr es b)
join_sequence_as {a = a} no_sequence (is_sequence e es) = sequence a (expr_then e es)
join_sequence_as {a = a} {b = b} no_sequence no_sequence = sequence a (expr_then b no_exprs)

abbrev pub join_sequence : Expr → Expr → Expr
join_sequence a b = join_sequence_as (sequence? a) (sequence? b)

-- f at the last item, through sequences that end in a sequence

abbrev pub with_last_item : Exprs → Expr → Expr → Exprs → Expr
with_last_item no_exprs e' e es' = sequence e' no_exprs
with_last_item (expr_then x xs) e' e es' = sequence e es'

abbrev pub with_last_of_items : Exprs → Expr → Expr → Exprs → Exprs
with_last_of_items no_exprs e' e es' = expr_then e' no_exprs
with_last_of_items (expr_then x xs) e' e es' = expr_then e es'

abbrev mutual
  pub at_last_item : (Expr → Expr) → Expr → Expr
  at_last_item f (number bits) = f (number bits)
  at_last_item f (word w) = f (word w)
  at_last_item f (name n) = f (name n)
  at_last_item f (assignment n e) = f (assignment n e)
  at_last_item f (call n es) = f (call n es)
  at_last_item f (sequence e es) = with_last_item es (at_last_item f e) e (at_last_of_items f es)
  at_last_item f (conditional t a b) = f (conditional t a b)
  at_last_item f (logical o a b) = f (logical o a b)
  at_last_item f (not e) = f (not e)
  at_last_item f (void e) = f (void e)
  at_last_item f (strict_equality a b) = f (strict_equality a b)

  pub at_last_of_items : (Expr → Expr) → Exprs → Exprs
  at_last_of_items f no_exprs = no_exprs
  at_last_of_items f (expr_then e es) = with_last_of_items es (at_last_item f e) e (at_last_of_items f es)

abbrev pub negate_as : {e : Expr} → Not? e → Expr
negate_as (is_not e) = e
negate_as {e} no_not = not e

abbrev pub negate : Expr → Expr
negate e = negate_as (not? e)

abbrev pub minimize_not : Expr → Expr
minimize_not e = at_last_item negate e

abbrev pub minimize_conditional : Expr → Expr → Expr → Expr
minimize_conditional t a b = at_last_item (λ t'. conditional t' a b) t

abbrev pub join_onto : LogicalOperator → Expr → Expr → Expr
join_onto o (number bits) a = logical o a (number bits)
join_onto o (word w) a = logical o a (word w)
join_onto o (name n) a = logical o a (name n)
join_onto o (assignment n e) a = logical o a (assignment n e)
join_onto o (call n es) a = logical o a (call n es)
join_onto o (sequence e es) a = logical o a (sequence e es)
join_onto o (conditional t x y) a = logical o a (conditional t x y)
join_onto o (logical p l r) a = cond (same_operator o p) (join_onto o r (join_onto o l a)) (logical o a (logical p l r))
join_onto o (not e) a = logical o a (not e)
join_onto o (void e) a = logical o a (void e)
join_onto o (strict_equality x y) a = logical o a (strict_equality x y)

-- `a o b`, where the last item of a takes the place of a; if b has the same operator, its operands are joined one by one
abbrev pub join_with_left_associative_op : LogicalOperator → Expr → Expr → Expr
join_with_left_associative_op o a b = at_last_item (join_onto o b) a
