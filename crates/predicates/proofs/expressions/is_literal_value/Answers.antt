use mathlib.Core.Path.{sym, ◌∙◌}
use mathlib.Core.Logic.{⊎_elim}
use mathlib.Core.Bool.{false, true}
use native.Mathlib.Omega.{arith}
use Rattle.rules.specs.Literals.{is_literal_value}
use Rattle.predicates.proofs.Reached.{by_kind, into_not, into_void, not_value, number_value, reached_next, reached_nothing, reached_told, word_value}
use Rattle.predicates.proofs.expressions.is_literal_value.Goals as goal

pub returns-in-Number : goal.returns-in-Number
returns-in-Number c =
    reached_told is_literal_value c.args.exprs.now c.args.at c.loop.part c.loop.counter c.loop.invariant
    (by_kind is_literal_value c.args.exprs.now c.loop.part c.record_at-expr.result true c.record_at-expr.ensures
    (λ e k. ⊎_elim (λ q. number_value e q.0 (sym q.1 ∙ k)) (λ q. word_value e q.0 (sym q.1 ∙ k)) c.in-Number.is))

pub returns-in_default : goal.returns-in_default
returns-in_default c =
    reached_told is_literal_value c.args.exprs.now c.args.at c.loop.part c.loop.counter c.loop.invariant
    (by_kind is_literal_value c.args.exprs.now c.loop.part c.record_at-expr.result false c.record_at-expr.ensures
    (λ e k. not_value e (λ b z. c.in_default.not-Number b (k ∙ z)) (λ b z. c.in_default.not-Word b (k ∙ z))
    (λ z. c.in_default.not-Not (k ∙ z)) (λ z. c.in_default.not-Void (k ∙ z))))

pub loop-preserved : goal.loop-preserved
loop-preserved c =
    reached_next is_literal_value c.args.exprs.now c.args.at c.loop.part c.loop.counter c.loop.invariant
    (⊎_elim (λ q. into_not c.args.exprs.now c.loop.part c.record_at-expr.result c.record_at-expr.ensures (sym q))
    (λ q. into_void c.args.exprs.now c.loop.part c.record_at-expr.result c.record_at-expr.ensures (sym q)) c.in-Not.is)

pub returns : goal.returns
returns c =
    reached_nothing is_literal_value c.args.exprs.now c.args.at c.loop.part c.loop.counter c.loop.invariant (omega arith)
