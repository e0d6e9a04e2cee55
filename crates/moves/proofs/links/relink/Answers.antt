use Rattle.moves.proofs.Tabled.{relinked_there, relinks_table}
use Rattle.moves.proofs.links.relink.Goals as goal

pub returns-clause-place : goal.returns-clause-place
returns-clause-place g c =
    relinked_there g.R.Record.table_of.blank g.R.Linked.relinked c.args.table.now c.set.new.table c.args.at c.args.row c.record_at-record.result
    c.set_next.new.self c.record_at-record.ensures c.set_next.ensures c.set.ensures

pub returns-clause-turns : goal.returns-clause-turns
returns-clause-turns g c =
    relinks_table g.met.R.Record.tabled c.args.table.now c.set.new.table c.args.at c.args.row c.next-behind.result c.record_at-record.result
    c.set_next.new.self c.record_at-record.ensures c.set_next.ensures c.set.ensures c.next-behind.ensures
