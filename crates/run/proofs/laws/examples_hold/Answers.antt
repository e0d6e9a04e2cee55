use Rattle.run.proofs.laws.examples_hold.Goals as goal
use Rattle.run.proofs.Examples.{examples_hold}

pub returns : goal.returns
returns c = examples_hold
