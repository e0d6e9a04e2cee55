use Rattle.run.proofs.laws.turns_never_grow.Goals as goal
use Rattle.run.proofs.Turns.{turns_never_grow}

pub returns : goal.returns
returns c = turns_never_grow
