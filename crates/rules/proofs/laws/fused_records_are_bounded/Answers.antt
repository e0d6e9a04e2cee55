use Rattle.rules.proofs.laws.fused_records_are_bounded.Goals as goal
use Rattle.rules.proofs.BudgetFuse.{fused_records_are_bounded}

pub returns : goal.returns
returns c = fused_records_are_bounded
