-- One step of joining a row of pending expressions onto another: one with the same operator is taken apart.
use Rattle.std.specs.Prelude.{Bool, cond, false}
use Rattle.script.specs.declared.ExpressionKind.{ExpressionKind}
use Rattle.script.specs.declared.ExpressionKind.TheVariants as expression
use Rattle.script.specs.declared.LogicalOperator.{LogicalOperator}
use Rattle.script.specs.Tree.{Expr, Exprs, assignment, call, conditional, expr_then, logical, name, not, number, sequence, strict_equality, void, word}
use Rattle.rules.specs.Equal.{same_operator}
use Rattle.moves.specs.First.{expr_kind}

-- whether a record is a logical expression with this operator
abbrev pub has_operator : LogicalOperator → ExpressionKind → Bool
has_operator o (expression.Number b) = false
has_operator o (expression.Word c) = false
has_operator o (expression.Name n) = false
has_operator o (expression.Assignment n) = false
has_operator o (expression.Call n) = false
has_operator o expression.Sequence = false
has_operator o expression.Conditional = false
has_operator o (expression.Logical p) = same_operator o p
has_operator o expression.Not = false
has_operator o expression.Void = false
has_operator o expression.StrictEquality = false

-- what the first pending expression makes of the one that it is joined onto
abbrev pub onto_first : LogicalOperator → Expr → Expr → Expr
onto_first o x a = cond (has_operator o (expr_kind x)) a (logical o a x)

-- what is pending then
abbrev pub pending_then : LogicalOperator → Expr → Exprs → Exprs
pending_then o (number b) es = es
pending_then o (word c) es = es
pending_then o (name n) es = es
pending_then o (assignment n e) es = es
pending_then o (call n xs) es = es
pending_then o (sequence e xs) es = es
pending_then o (conditional t x y) es = es
pending_then o (logical p l r) es = cond (same_operator o p) (expr_then l (expr_then r es)) es
pending_then o (not e) es = es
pending_then o (void e) es = es
pending_then o (strict_equality x y) es = es
