use Rattle.moves.proofs.Tabled.{links_table}
use Rattle.moves.proofs.links.link.Goals as goal

pub returns-clause-place : goal.returns-clause-place
returns-clause-place g c = c.relink.ensures.place

pub returns-clause-turns : goal.returns-clause-turns
returns-clause-turns g c =
    links_table g.met.R.Record.tabled c.args.table.now c.relink.new.table c.args.at c.args.row c.relink.result c.relink.ensures.turns
