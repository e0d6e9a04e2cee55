use Rattle.script.proofs.Agreement.{accepted_bytes_spell}
use Rattle.script.proofs.Stmts.{written_is_taken}
use Rattle.script.proofs.Spelling.{written_spells}
use Rattle.script.proofs.laws.written_bytes_spell_the_body.Goals as goal

pub returns : goal.returns
returns c = written_spells accepted_bytes_spell written_is_taken
