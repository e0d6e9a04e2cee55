use Rattle.script.proofs.laws.accepted_bytes_spell.Goals as goal
use Rattle.script.proofs.Agreement.{accepted_bytes_spell}

pub returns : goal.returns
returns c = accepted_bytes_spell
