use Rattle.rules.proofs.laws.altered_is_lighter.Goals as goal
use Rattle.rules.proofs.Altered.{altered_is_lighter}

pub returns : goal.returns
returns c = altered_is_lighter
