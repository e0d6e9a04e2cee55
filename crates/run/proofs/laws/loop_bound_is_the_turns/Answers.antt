use Rattle.run.proofs.laws.loop_bound_is_the_turns.Goals as goal
use Rattle.run.proofs.LoopBound.{loop_bound_is_the_turns}

pub returns : goal.returns
returns c = loop_bound_is_the_turns
