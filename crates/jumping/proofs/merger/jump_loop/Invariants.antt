use Rattle.std.proofs.Common.{List}
use Rattle.records.specs.declared.record.DeclRecord.{DeclRecord}
use Rattle.records.specs.Readable.{tables}
use Rattle.jumping.specs.Going.{rule}
use Rattle.jumping.proofs.Looping.{Loops}
use Rattle.jumping.proofs.merger.jump_loop.Given as goal

abbrev pub invariant-loop : goal.invariant-loop
invariant-loop l =
    (ds : List DeclRecord)
    → Loops (rule l.jump) (tables l.initial.exprs l.initial.stmts ds) l.initial.pools (tables l.exprs l.stmts ds) l.pools l.at l.value l.results
    l.worked l.counter
