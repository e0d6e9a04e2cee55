use Rattle.moves.proofs.Tabled.{pushing_done, pushing_none, pushing_one, pushing_out}
use Rattle.moves.proofs.links.push_all.Goals as goal

pub loop-i-init : goal.loop-i-init
loop-i-init g c = pushing_none

pub returns-then-from : goal.returns-then-from
returns-then-from g c = pushing_done g.met.R.Record.tabled c.loop-i.invariant c.if-from.true

pub loop-i-preserved : goal.loop-i-preserved
loop-i-preserved g c = pushing_one g.met.R.Record.tabled c.loop-i.invariant c.if-from.false c.relink-behind.ensures.turns

pub returns : goal.returns
returns g c = pushing_out g.met.R.Record.tabled c.loop-i.invariant c.loop-i-test.false
