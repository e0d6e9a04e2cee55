use Rattle.run.proofs.laws.values_fit.Goals as goal
use Rattle.run.proofs.Fitting.{values_fit}

pub returns : goal.returns
returns c = values_fit
