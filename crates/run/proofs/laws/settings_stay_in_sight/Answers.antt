use Rattle.run.proofs.laws.settings_stay_in_sight.Goals as goal
use Rattle.run.proofs.Settings.{settings_stay_in_sight}

pub returns : goal.returns
returns c = settings_stay_in_sight
