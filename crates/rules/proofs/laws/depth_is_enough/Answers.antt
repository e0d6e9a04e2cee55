use Rattle.rules.proofs.laws.depth_is_enough.Goals as goal
use Rattle.rules.proofs.Depth.{depth_is_enough}

pub returns : goal.returns
returns c = depth_is_enough
