use Rattle.branching.proofs.Viewing.{block_shown, empty_shown, nothing_not_shown}
use Rattle.branching.proofs.views.is_empty.Goals as goal

pub returns-in-Empty : goal.returns-in-Empty
returns-in-Empty c =
    empty_shown _ _ _ c.record_at-stmt.ensures c.in-Empty.is

pub returns-in-Block : goal.returns-in-Block
returns-in-Block c =
    block_shown _ _ _ c.record_at-stmt.ensures c.in-Block.is

pub returns-in_default : goal.returns-in_default
returns-in_default c =
    nothing_not_shown _ _ _ c.record_at-stmt.ensures
    c.in_default.not-Empty c.in_default.not-Block
