use Rattle.rules.proofs.laws.wrong_readings_alter_runs.Goals as goal
use Rattle.rules.proofs.Wrong.{wrong_readings_alter_runs}

pub returns : goal.returns
returns c = wrong_readings_alter_runs
