use Rattle.branching.proofs.Viewing.{if_shown, no_if_shown}
use Rattle.branching.proofs.views.is_if.Goals as goal

pub returns-in-If : goal.returns-in-If
returns-in-If c = if_shown _ _ _ c.record_at.ensures c.in-If.is

pub returns-in_default : goal.returns-in_default
returns-in_default c = no_if_shown _ _ _ c.record_at.ensures c.in_default.not-If
