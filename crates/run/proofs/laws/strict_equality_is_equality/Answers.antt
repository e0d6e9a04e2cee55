use Rattle.run.proofs.laws.strict_equality_is_equality.Goals as goal
use Rattle.run.proofs.Equality.{strict_equality_is_equality}

pub returns : goal.returns
returns c = strict_equality_is_equality
