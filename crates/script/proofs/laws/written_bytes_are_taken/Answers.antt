use Rattle.script.proofs.laws.written_bytes_are_taken.Goals as goal
use Rattle.script.proofs.Stmts.{written_is_taken}

pub returns : goal.returns
returns c = written_is_taken
