use Rattle.moves.proofs.Tabled.{detaches_table}
use Rattle.moves.proofs.links.detach.Goals as goal

pub returns : goal.returns
returns g c = detaches_table g.met.R.Record.tabled c.args.table.now c.relink.new.table c.args.at c.relink.result c.relink.ensures.turns
