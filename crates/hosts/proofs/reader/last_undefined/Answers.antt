use Rattle.std.proofs.Common.{arith}
use Rattle.hosts.proofs.Steps.{to_last_end}
use Rattle.hosts.proofs.reader.last_undefined.Goals as goal

pub returns : goal.returns
returns c = to_last_end c.args.exprs.now c.args.row c.loop.at c.loop.counter c.loop.invariant (omega arith)
