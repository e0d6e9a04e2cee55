use mathlib.Core.Path.{sym, ◌∙◌}
use Rattle.moves.proofs.Trees.{appended_exprs, detached_expr}
use Rattle.joining.proofs.Pending.{set_aside, taken_apart}
use Rattle.joining.proofs.logical.join_first.Goals as goal

pub returns-then-has_operator : goal.returns-then-has_operator
returns-then-has_operator c ss ds x y xs w n loose rest o =
    let r = c.record_at-expr.ensures in
    rw r
    (taken_apart c.args.operator x y xs w (rw r at (sym c.has_operator.ensures ∙ c.if-has_operator.true))
    (λ e es v. appended_exprs _ _ _ _ (rw r at c.append.ensures.row) ss ds c.args.pools.now e es v) c.give.ensures o)

pub returns : goal.returns
returns c ss ds x y xs w n loose rest o =
    let r = c.record_at-expr.ensures in
    set_aside c.args.operator x y xs w (rw r at (sym c.has_operator.ensures ∙ c.if-has_operator.false))
    (λ e v. detached_expr _ _ _ _ c.detach-behind.ensures ss ds c.args.pools.now e v)
    (λ e u v. c.wrap.ensures ss ds e u v n) o
