-- The heap that three lent tables are.
use Rattle.records.specs.declared.lent.Lent.{Lent}
use Rattle.records.specs.Heap.{Heap}
use Rattle.records.specs.Readable.{tables}

abbrev pub heap : Lent → Heap
heap t = tables t.exprs.now t.stmts.now t.decls.now
