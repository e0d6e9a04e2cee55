use Rattle.rules.proofs.laws.opened_depth_is_enough.Goals as goal
use Rattle.rules.proofs.OpenedDepth.{opened_depth_is_enough}

pub returns : goal.returns
returns c = opened_depth_is_enough
