use Rattle.rules.proofs.laws.no_neighbours.Goals as goal
use Rattle.rules.proofs.ApartFuse.{no_neighbours}

pub returns : goal.returns
returns c = no_neighbours
