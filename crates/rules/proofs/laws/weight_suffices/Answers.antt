use Rattle.rules.proofs.laws.weight_suffices.Goals as goal
use Rattle.rules.proofs.FuseMoves.{weight_suffices}

pub returns : goal.returns
returns c = weight_suffices
