use Rattle.rules.proofs.laws.records_suffice.Goals as goal
use Rattle.rules.proofs.FuseMoves.{records_suffice}

pub returns : goal.returns
returns c = records_suffice
