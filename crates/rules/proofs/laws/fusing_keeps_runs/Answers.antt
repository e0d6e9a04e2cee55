use Rattle.rules.proofs.laws.fusing_keeps_runs.Goals as goal
use Rattle.rules.proofs.Fuse.{fusing_keeps_runs}

pub returns : goal.returns
returns c = fusing_keeps_runs
