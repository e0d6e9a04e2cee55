use Rattle.writing.proofs.Writing.{stmts_countable, body_written}
use Rattle.writing.proofs.bytes.write_whole.Goals as goal

pub count-stmts-requires-clause-countable : goal.count-stmts-requires-clause-countable
count-stmts-requires-clause-countable c = stmts_countable c.requires

pub returns : goal.returns
returns c = body_written c.count-stmts.result c.requires c.write_stmts-end.ensures c.count-stmts.ensures c.put_body.ensures
