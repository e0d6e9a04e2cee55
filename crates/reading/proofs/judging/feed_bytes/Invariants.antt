use Rattle.script.specs.Judge.{Model}
use Rattle.records.specs.Readable.{tables}
use Rattle.records.specs.Holds.{Holds}
use Rattle.reading.proofs.Folding.{Midway}
use Rattle.reading.proofs.judging.feed_bytes.Given as goal

abbrev pub invariant-loop-i : goal.invariant-loop-i
invariant-loop-i l = ((m : Model) → Holds (tables l.initial.exprs l.initial.stmts l.initial.decls) l.initial.draft m → Midway l.bytes l.i m (tables l.exprs l.stmts l.decls) l.draft)
