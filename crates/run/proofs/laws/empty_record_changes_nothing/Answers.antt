use Rattle.run.proofs.laws.empty_record_changes_nothing.Goals as goal
use Rattle.run.proofs.EmptyRecord.{empty_record_changes_nothing}

pub returns : goal.returns
returns c = empty_record_changes_nothing
