use mathlib.Core.Path.{sym}
use native.Mathlib.Omega.{arith}
use Rattle.moves.proofs.Rows.{last_told}
use Rattle.joining.proofs.WayToLast.{into_last, is_last, no_last}
use Rattle.joining.proofs.items.last_item.Goals as goal

pub returns-in_default : goal.returns-in_default
returns-in_default c =
    is_last _ _ _ _ c.loop.invariant
    (rw c.record_at-item.ensures at c.in_default.not-Sequence)

pub loop-preserved : goal.loop-preserved
loop-preserved c =
    into_last _ _ _ _ c.loop.invariant c.last_of_row-last.result
    (sym (rw c.record_at-item.ensures at c.in-Sequence.is))
    (last_told _ _ _ (rw c.record_at-item.ensures at c.last_of_row-last.ensures.chain))

pub returns : goal.returns
returns c ss ds e w s a l =
    absurd (no_last _ _ _ _ c.loop.invariant ss ds e w s a l (omega arith))
