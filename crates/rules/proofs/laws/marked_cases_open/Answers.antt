use Rattle.rules.proofs.laws.marked_cases_open.Goals as goal
use Rattle.rules.proofs.Marked.{marked_cases_open}

pub returns : goal.returns
returns c = marked_cases_open
