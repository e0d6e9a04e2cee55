use Rattle.std.proofs.Common.{arith}
use Rattle.hosts.proofs.Steps.{under_end}
use Rattle.hosts.proofs.reader.ReaderHost.truth.Goals as goal

pub returns : goal.returns
returns c = under_end c.args.exprs.now c.args.at c.loop.part c.loop.turn c.loop.counter c.loop.invariant (omega arith)
