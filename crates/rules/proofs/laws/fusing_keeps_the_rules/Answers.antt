use Rattle.rules.proofs.laws.fusing_keeps_the_rules.Goals as goal
use Rattle.rules.proofs.SoundFuse.{fusing_keeps_the_rules}

pub returns : goal.returns
returns c = fusing_keeps_the_rules
