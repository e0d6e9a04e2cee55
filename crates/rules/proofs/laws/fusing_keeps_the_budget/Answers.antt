use Rattle.rules.proofs.laws.fusing_keeps_the_budget.Goals as goal
use Rattle.rules.proofs.BudgetFuse.{fusing_keeps_the_budget}

pub returns : goal.returns
returns c = fusing_keeps_the_budget
