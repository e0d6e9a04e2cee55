use Rattle.rules.proofs.laws.altered_is_bytes_differ.Goals as goal
use Rattle.rules.proofs.Altered.{altered_is_bytes_differ}

pub returns : goal.returns
returns c = altered_is_bytes_differ
