-- What the rules that join expressions take and give back.
use Rattle.std.specs.Prelude.{cond, List, [], ◌∷◌, ◌++◌}
use Rattle.script.specs.declared.LogicalOperator.{LogicalOperator}
use Rattle.script.specs.declared.LogicalOperator.TheVariants.{Or, And}
use Rattle.script.specs.Tree.{Expr, number, word, name, assignment, call, sequence, conditional, logical, not, void, strict_equality, Exprs}
use Rattle.script.specs.Tree.{no_exprs, expr_then, OptionalExpr, absent, present}
use Rattle.rules.specs.Equal.{same_operator}
use Rattle.rules.specs.Expressions.{Sequence?, is_sequence, no_sequence, sequence?, Not?, is_not, no_not, not?}
use Rattle.rules.specs.Ifs.{has_negated_result}
use Rattle.rules.specs.Moves.{Move, takes, takes_expression, gives_expression, expressions}

-- the expression at which a rule on a last item works
abbrev mutual
  pub last_item : Expr → Expr
  last_item (number bits) = number bits
  last_item (word w) = word w
  last_item (name n) = name n
  last_item (assignment n e) = assignment n e
  last_item (call n es) = call n es
  last_item (sequence e es) = last_of_items es (last_item e)
  last_item (conditional t a b) = conditional t a b
  last_item (logical o a b) = logical o a b
  last_item (not e) = not e
  last_item (void e) = void e
  last_item (strict_equality a b) = strict_equality a b

  -- before is the last item of what stands before
  pub last_of_items : Exprs → Expr → Expr
  last_of_items no_exprs before = before
  last_of_items (expr_then e es) before = last_of_items es (last_item e)

-- a sequence that is there takes in the other expression
abbrev pub join_sequence_as_moves : {a b : Expr} → Sequence? a → Sequence? b → List Move
join_sequence_as_moves (is_sequence e es) w = []
join_sequence_as_moves no_sequence (is_sequence e es) = []
join_sequence_as_moves no_sequence no_sequence = takes_expression

abbrev pub join_sequence_moves : Expr → Expr → List Move
join_sequence_moves a b = join_sequence_as_moves (sequence? a) (sequence? b)

-- a `!` goes, or one is taken
abbrev pub negate_moves : {e : Expr} → Not? e → List Move
negate_moves (is_not e) = gives_expression
negate_moves no_not = takes_expression

abbrev pub minimize_not_moves : Expr → List Move
minimize_not_moves e = negate_moves (not? (last_item e))

abbrev pub void_0_moves : OptionalExpr → List Move
void_0_moves absent = takes expressions ∷ takes expressions ∷ []
void_0_moves (present e) = []

-- the node of the same operator goes before its parts are joined on, the left part first
abbrev pub join_onto_moves : LogicalOperator → Expr → List Move
join_onto_moves o (number bits) = takes_expression
join_onto_moves o (word w) = takes_expression
join_onto_moves o (name n) = takes_expression
join_onto_moves o (assignment n e) = takes_expression
join_onto_moves o (call n es) = takes_expression
join_onto_moves o (sequence e es) = takes_expression
join_onto_moves o (conditional t x y) = takes_expression
join_onto_moves o (logical p l r) =
    cond (same_operator o p) (gives_expression ++ (join_onto_moves o l ++ join_onto_moves o r)) takes_expression
join_onto_moves o (not e) = takes_expression
join_onto_moves o (void e) = takes_expression
join_onto_moves o (strict_equality x y) = takes_expression

abbrev pub if_to_logical_moves : Expr → Expr → List Move
if_to_logical_moves t e = cond (has_negated_result t) (minimize_not_moves t ++ join_onto_moves Or e) (join_onto_moves And e)

abbrev pub else_to_logical_moves : Expr → Expr → List Move
else_to_logical_moves t e = cond (has_negated_result t) (minimize_not_moves t ++ join_onto_moves And e) (join_onto_moves Or e)
