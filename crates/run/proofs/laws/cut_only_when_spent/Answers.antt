use Rattle.run.proofs.laws.cut_only_when_spent.Goals as goal
use Rattle.run.proofs.Cutting.{cut_only_when_spent}

pub returns : goal.returns
returns c = cut_only_when_spent
