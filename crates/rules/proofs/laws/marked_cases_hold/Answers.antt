use Rattle.rules.proofs.laws.marked_cases_hold.Goals as goal
use Rattle.rules.proofs.Marked.{marked_cases_hold}

pub returns : goal.returns
returns c = marked_cases_hold
