use Rattle.branching.proofs.Writing.{writes_expression}
use Rattle.branching.proofs.statements.write_expression.Goals as goal

pub returns : goal.returns
returns c es ds p e loose rest o = rw c.set.ensures (writes_expression e o)
