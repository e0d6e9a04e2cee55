-- The moves of the rules that join expressions are performed.
use Rattle.std.proofs.Common.{◌+◌, Bool, true, false, cond, List, ◌++◌, arith}
use Rattle.script.specs.declared.LogicalOperator.{LogicalOperator}
use Rattle.script.specs.declared.LogicalOperator.TheVariants.{Or, And}
use Rattle.script.specs.Judge.{Spares}
use Rattle.script.specs.Sound.{exprs_only, records_expr, records_optional, none_used}
use Rattle.script.specs.Tree.{sequence, Expr, not, void, OptionalExpr, absent, present, number, word, name, assignment, call, conditional}
use Rattle.script.specs.Tree.{logical, strict_equality}
use Rattle.rules.specs.Equal.{same_operator}
use Rattle.rules.specs.Expressions.{join_sequence_as, join_sequence, Sequence?, is_sequence, no_sequence, sequence?, negate, Not?}
use Rattle.rules.specs.Expressions.{negate_as, is_not, no_not, minimize_not, not?, join_with_left_associative_op}
use Rattle.rules.specs.Returns.{value_or_void_0}
use Rattle.rules.specs.Ifs.{if_to_logical, has_negated_result, else_to_logical}
use Rattle.rules.specs.Moves.{one_of, expressions, gives_expression, takes_expression, Move}
use Rattle.rules.specs.ExpressionMoves.{join_sequence_as_moves, join_sequence_moves, negate_moves, minimize_not_moves, last_item}
use Rattle.rules.specs.ExpressionMoves.{void_0_moves, join_onto_moves, if_to_logical_moves, else_to_logical_moves}
use Rattle.rules.proofs.BudgetExpressions.{append_expr_records, at_last_item_records, join_with_left_associative_op_records}
use Rattle.rules.proofs.BudgetExpressions.{minimize_not_records}
use Rattle.rules.proofs.Performing.{Performs, nothing, beside, take, give, in_turn}

pub join_sequence_as_performs : {a b : Expr} (v : Sequence? a) (w : Sequence? b)
    → Performs (one_of expressions) (join_sequence_as_moves v w) (exprs_only (records_expr a + records_expr b))
    (exprs_only (records_expr (join_sequence_as v w)))
join_sequence_as_performs {b = b} (is_sequence e es) w = let h = append_expr_records es b in nothing (search arith)
join_sequence_as_performs no_sequence (is_sequence e es) = nothing (search arith)
join_sequence_as_performs no_sequence no_sequence = beside (take expressions) (search arith) (search arith)

pub join_sequence_performs : (a b : Expr)
    → Performs (one_of expressions) (join_sequence_moves a b) (exprs_only (records_expr a + records_expr b))
    (exprs_only (records_expr (join_sequence a b)))
join_sequence_performs a b = join_sequence_as_performs (sequence? a) (sequence? b)

pub negate_performs : {e : Expr} (v : Not? e)
    → Performs (one_of expressions) (negate_moves v) (exprs_only (records_expr e)) (exprs_only (records_expr (negate_as v)))
negate_performs (is_not e) = beside (give (exprs_only 1)) (search arith) (search arith)
negate_performs no_not = beside (take expressions) (search arith) (search arith)

pub minimize_not_performs : (e : Expr)
    → Performs (one_of expressions) (minimize_not_moves e) (exprs_only (records_expr e)) (exprs_only (records_expr (minimize_not e)))
minimize_not_performs e =
    let h = at_last_item_records negate e in beside (negate_performs (not? (last_item e))) (search arith) (search arith)

pub void_0_performs : (p : OptionalExpr)
    → Performs (exprs_only 2) (void_0_moves p) (exprs_only (records_optional p)) (exprs_only (records_expr (value_or_void_0 p)))
void_0_performs absent = in_turn (take expressions) (take expressions) (search arith) (search arith) (search arith)
void_0_performs (present e) = nothing (search arith)

pub join_onto_performs : (o : LogicalOperator) (b : Expr)
    → Performs (one_of expressions) (join_onto_moves o b) none_used (one_of expressions)
join_onto_performs o (number bits) = take expressions
join_onto_performs o (word w) = take expressions
join_onto_performs o (name n) = take expressions
join_onto_performs o (assignment n e) = take expressions
join_onto_performs o (call n es) = take expressions
join_onto_performs o (sequence e es) = take expressions
join_onto_performs o (conditional t x y) = take expressions
join_onto_performs o (logical p l r) = by (same_operator o p) (join_onto_performs o l) (join_onto_performs o r)
  where
    by : (b : Bool) → Performs (one_of expressions) (join_onto_moves o l) none_used (one_of expressions)
        → Performs (one_of expressions) (join_onto_moves o r) none_used (one_of expressions)
        → Performs (one_of expressions) (cond b (gives_expression ++ (join_onto_moves o l ++ join_onto_moves o r)) takes_expression)
        none_used (one_of expressions)
    by true f g =
        let both : Performs (exprs_only 2) (join_onto_moves o l ++ join_onto_moves o r) none_used (exprs_only 2) =
        in_turn f g (search arith) (search arith) (search arith) in
        in_turn (give (exprs_only 1)) both (search arith) (search arith) (search arith)
    by false f g = take expressions
join_onto_performs o (not e) = take expressions
join_onto_performs o (void e) = take expressions
join_onto_performs o (strict_equality x y) = take expressions

either_logical : (b : Bool) {ms ns : List Move} {n x : Spares} (y z : Expr) → Performs n ms x (exprs_only (records_expr y))
    → Performs n ns x (exprs_only (records_expr z))
    → Performs n (cond b ms ns) x (exprs_only (records_expr (cond b y z)))
either_logical true y z p q = p
either_logical false y z p q = q

-- the test, turned or not, with an operand joined to it
pub joined_performs : (o : LogicalOperator) (t e : Expr)
    → Performs (exprs_only 2) (join_onto_moves o e) (exprs_only (records_expr t + records_expr e))
    (exprs_only (records_expr (join_with_left_associative_op o t e)))
joined_performs o t e = let h = join_with_left_associative_op_records o t e in beside (join_onto_performs o e) (search arith) (search arith)

pub turned_performs : (o : LogicalOperator) (t e : Expr)
    → Performs (exprs_only 2) (minimize_not_moves t ++ join_onto_moves o e) (exprs_only (records_expr t + records_expr e))
    (exprs_only (records_expr (join_with_left_associative_op o (minimize_not t) e)))
turned_performs o t e =
    let h = join_with_left_associative_op_records o (minimize_not t) e in
    let g = minimize_not_records t in
    in_turn (minimize_not_performs t) (join_onto_performs o e) (search arith) (search arith) (search arith)

pub if_to_logical_performs : (t e : Expr)
    → Performs (exprs_only 2) (if_to_logical_moves t e) (exprs_only (records_expr t + records_expr e))
    (exprs_only (records_expr (if_to_logical t e)))
if_to_logical_performs t e =
    either_logical (has_negated_result t) (join_with_left_associative_op Or (minimize_not t) e) (join_with_left_associative_op And t e)
    (turned_performs Or t e) (joined_performs And t e)

pub else_to_logical_performs : (t e : Expr)
    → Performs (exprs_only 2) (else_to_logical_moves t e) (exprs_only (records_expr t + records_expr e))
    (exprs_only (records_expr (else_to_logical t e)))
else_to_logical_performs t e =
    either_logical (has_negated_result t) (join_with_left_associative_op And (minimize_not t) e) (join_with_left_associative_op Or t e)
    (turned_performs And t e) (joined_performs Or t e)
