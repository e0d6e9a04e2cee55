use mathlib.Core.Path.{sym, ◌∙◌}
use mathlib.Core.Bool.{false, true}
use native.Mathlib.Omega.{arith}
use Rattle.rules.specs.Ifs.{has_negated_result}
use Rattle.moves.proofs.Rows.{last_told}
use Rattle.predicates.proofs.Reached.{by_kind, into_last, not_negated_told, others_negated, reached_next, reached_nothing, reached_told}
use Rattle.predicates.proofs.expressions.has_negated_result.Goals as goal

pub returns-in-Not : goal.returns-in-Not
returns-in-Not c =
    reached_told has_negated_result c.args.exprs.now c.args.at c.loop.part c.loop.counter c.loop.invariant
    (by_kind has_negated_result c.args.exprs.now c.loop.part c.record_at-expr.result true c.record_at-expr.ensures
    (λ e k. not_negated_told e (sym c.in-Not.is ∙ k)))

pub returns-in_default : goal.returns-in_default
returns-in_default c =
    reached_told has_negated_result c.args.exprs.now c.args.at c.loop.part c.loop.counter c.loop.invariant
    (by_kind has_negated_result c.args.exprs.now c.loop.part c.record_at-expr.result false c.record_at-expr.ensures
    (λ e k. others_negated e (λ z. c.in_default.not-Not (k ∙ z)) (λ z. c.in_default.not-Sequence (k ∙ z))))

pub loop-preserved : goal.loop-preserved
loop-preserved c =
    reached_next has_negated_result c.args.exprs.now c.args.at c.loop.part c.loop.counter c.loop.invariant
    (into_last c.args.exprs.now c.loop.part c.last_of_row-part.result c.record_at-expr.result c.record_at-expr.ensures (sym c.in-Sequence.is)
    (last_told c.args.exprs.now c.record_at-expr.result.first c.last_of_row-part.result c.last_of_row-part.ensures.chain))

pub returns : goal.returns
returns c =
    reached_nothing has_negated_result c.args.exprs.now c.args.at c.loop.part c.loop.counter c.loop.invariant (omega arith)
