use mathlib.Core.Path.{refl, sym}
use Rattle.pool.specs.Chain.{nowhere}
use Rattle.records.specs.Heap.{expr_at}
use Rattle.records.specs.Rows.{end}
use Rattle.records.proofs.Moves.{end_in, pick}
use Rattle.moves.proofs.Open.{kind_of_expr}
use Rattle.joining.proofs.Negated.{moved_up, negated_anew}
use Rattle.joining.proofs.items.negate.Goals as goal

pub returns-in-Not : goal.returns-in-Not
returns-in-Not c ss ds e w n loose rest o =
    let r = c.record_at-expr.ensures in
    rw (c.set.ensures, c.record_at-inner.ensures, r) (moved_up (sym (rw r at c.in-Not.is)) (rw r at c.give.ensures) e w o)

pub returns : goal.returns
returns c ss ds e w n loose rest o =
    rw (negated_anew e (rw (c.record_at-expr.ensures, kind_of_expr e w o) at c.in_default.not-Not))
    (c.wrap.ensures ss ds e w end n loose rest (pick 1 (end_in (expr_at nowhere) refl o)))
