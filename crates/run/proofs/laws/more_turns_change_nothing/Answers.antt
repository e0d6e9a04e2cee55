use Rattle.run.proofs.laws.more_turns_change_nothing.Goals as goal
use Rattle.run.proofs.MoreTurns.{more_turns_change_nothing}

pub returns : goal.returns
returns c = more_turns_change_nothing
