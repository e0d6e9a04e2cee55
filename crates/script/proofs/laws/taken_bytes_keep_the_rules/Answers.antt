use Rattle.script.proofs.laws.taken_bytes_keep_the_rules.Goals as goal
use Rattle.script.proofs.Keeping.{taken_keeps_sound}

pub returns : goal.returns
returns c = taken_keeps_sound
