use Rattle.writing.proofs.Writing.{opened, exprs_countable, stmts_countable, decls_countable, command_written}
use Rattle.writing.proofs.bytes.write_command.Goals as goal

pub bounds-tables-at : goal.bounds-tables-at
bounds-tables-at c = (opened c.requires.writable c.requires.some).within

pub count-exprs-requires-clause-countable : goal.count-exprs-requires-clause-countable
count-exprs-requires-clause-countable c = exprs_countable (opened c.requires.writable c.requires.some).exprs

pub count-stmts-requires-clause-countable : goal.count-stmts-requires-clause-countable
count-stmts-requires-clause-countable c = stmts_countable (opened c.requires.writable c.requires.some).stmts

pub count-decls-requires-clause-countable : goal.count-decls-requires-clause-countable
count-decls-requires-clause-countable c = decls_countable (opened c.requires.writable c.requires.some).decls

pub returns : goal.returns
returns c =
    command_written c.count-exprs.result c.count-stmts.result c.count-decls.result c.requires.writable c.requires.some
    c.count-exprs.ensures c.count-stmts.ensures c.count-decls.ensures c.put_stmt.ensures
