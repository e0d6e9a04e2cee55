use Rattle.merging.proofs.NamesBehind.{joined_names}
use Rattle.merging.proofs.names.append_names.Goals as goal

pub returns : goal.returns
returns c = joined_names c.args.decls.now c.join_rows.new.table c.args.row c.args.more c.join_rows.result c.join_rows.ensures
