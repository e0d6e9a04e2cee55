use Rattle.rules.proofs.laws.mergers_stop_at_500.Goals as goal
use Rattle.rules.proofs.Limit.{mergers_stop_at_500}

pub returns : goal.returns
returns c = mergers_stop_at_500
