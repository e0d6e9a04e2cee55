use Rattle.branching.proofs.Writing.{writes_if}
use Rattle.branching.proofs.statements.write_if.Goals as goal

pub returns : goal.returns
returns c es ds p t x a loose rest o = rw c.set.ensures (writes_if t x a o)
