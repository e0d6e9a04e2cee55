use Rattle.run.proofs.laws.records_for_all_lists.Goals as goal
use Rattle.run.proofs.EmptyRecord.{records_for_all_lists}

pub returns : goal.returns
returns c = records_for_all_lists
