use Rattle.rules.proofs.laws.fusing_keeps_names.Goals as goal
use Rattle.rules.proofs.Fuse.{fusing_keeps_names}

pub returns : goal.returns
returns c = fusing_keeps_names
