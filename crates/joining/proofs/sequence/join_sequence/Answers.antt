use mathlib.Core.Path.{sym}
use Rattle.moves.proofs.Trees.{appended_exprs, linked_expr}
use Rattle.joining.proofs.Sequences.{in_first, in_new, in_second}
use Rattle.joining.proofs.sequence.join_sequence.Goals as goal

pub returns-in-Sequence : goal.returns-in-Sequence
returns-in-Sequence c ss ds x y n loose rest o =
    let r = c.record_at-first.ensures in
    in_first x y (sym (rw r at c.in-Sequence.is))
    (λ e es w. appended_exprs _ _ _ _ (rw r at c.append.ensures.row) ss ds c.args.pools.now e es w) o

pub returns-in-Sequence-kind : goal.returns-in-Sequence-kind
returns-in-Sequence-kind c ss ds x y n loose rest o =
    let r = c.record_at-second.ensures in
    rw c.set.ensures
    (in_second x y (rw c.record_at-first.ensures at c.in_default.not-Sequence) (sym (rw r at c.in-Sequence-kind.is))
    (λ e w. linked_expr _ _ _ _ (rw r at c.link.ensures.turns) ss ds c.args.pools.now e w) o)

pub returns : goal.returns
returns c ss ds x y n loose rest o =
    in_new x y (rw c.record_at-first.ensures at c.in_default.not-Sequence) (rw c.record_at-second.ensures at c.in_default-kind.not-Sequence)
    (λ e w. linked_expr _ _ _ _ c.link-2.ensures.turns ss ds c.args.pools.now e w)
    (λ v. c.make.ensures ss ds v n) o
