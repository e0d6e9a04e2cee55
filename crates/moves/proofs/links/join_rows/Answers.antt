use Rattle.moves.proofs.Tabled.{joins_none, joins_some}
use Rattle.moves.proofs.links.join_rows.Goals as goal

pub returns-then-row-eq-NOWHERE : goal.returns-then-row-eq-NOWHERE
returns-then-row-eq-NOWHERE g c = joins_none g.met.R.Record.tabled c.args.table.now c.args.row c.args.more c.if-row-eq-NOWHERE.true

pub returns : goal.returns
returns g c = joins_some g.met.R.Record.tabled c.args.table.now c.append.new.table c.args.row c.args.more c.if-row-eq-NOWHERE.false c.append.ensures.row
