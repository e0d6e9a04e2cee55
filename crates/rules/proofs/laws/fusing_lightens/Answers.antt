use Rattle.rules.proofs.laws.fusing_lightens.Goals as goal
use Rattle.rules.proofs.WeightFuse.{fusing_lightens}

pub returns : goal.returns
returns c = fusing_lightens
