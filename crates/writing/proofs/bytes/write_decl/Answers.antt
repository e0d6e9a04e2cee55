use Rattle.writing.proofs.Writing.{opened, exprs_countable, decl_written}
use Rattle.writing.proofs.bytes.write_decl.Goals as goal

pub bounds-tables-at : goal.bounds-tables-at
bounds-tables-at c = (opened c.requires.writable c.requires.some).within

pub write_exprs-end-requires : goal.write_exprs-end-requires
write_exprs-end-requires c = (opened c.requires.writable c.requires.some).exprs

pub count-values-requires-clause-countable : goal.count-values-requires-clause-countable
count-values-requires-clause-countable c = exprs_countable (opened c.requires.writable c.requires.some).exprs

pub returns : goal.returns
returns c = decl_written c.count-values.result c.requires.writable c.requires.some c.write_exprs-end.ensures c.count-values.ensures c.put_decl.ensures
