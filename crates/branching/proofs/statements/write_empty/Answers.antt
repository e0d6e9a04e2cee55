use Rattle.branching.proofs.Writing.{writes_empty}
use Rattle.branching.proofs.statements.write_empty.Goals as goal

pub returns : goal.returns
returns c es ds p loose rest o = rw c.set.ensures (writes_empty o)
