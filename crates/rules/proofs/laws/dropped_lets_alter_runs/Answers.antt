use Rattle.rules.proofs.laws.dropped_lets_alter_runs.Goals as goal
use Rattle.rules.proofs.Wrong.{dropped_lets_alter_runs}

pub returns : goal.returns
returns c = dropped_lets_alter_runs
