use Rattle.run.proofs.laws.events_only_grow.Goals as goal
use Rattle.run.proofs.Events.{events_only_grow}

pub returns : goal.returns
returns c = events_only_grow
