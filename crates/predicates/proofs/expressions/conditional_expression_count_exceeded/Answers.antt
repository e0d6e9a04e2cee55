use mathlib.Core.Path.{sym}
use Rattle.predicates.proofs.Reached.{counted_few, counted_next}
use Rattle.predicates.proofs.expressions.conditional_expression_count_exceeded.Goals as goal

pub returns-in_default : goal.returns-in_default
returns-in_default c =
    counted_few c.args.exprs.now c.args.at c.loop.part c.loop.counter c.loop.invariant c.record_at-expr.result c.record_at-expr.ensures
    c.in_default.not-Conditional c.loop-test.true

pub loop-preserved : goal.loop-preserved
loop-preserved c =
    counted_next c.args.exprs.now c.args.at c.loop.part c.loop.counter c.loop.invariant c.record_at-expr.result c.third_of_row-part.result
    c.record_at-expr.ensures (sym c.in-Conditional.is) c.third_of_row-part.ensures
