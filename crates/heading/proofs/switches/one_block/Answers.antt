use Rattle.std.proofs.Common.{rules}
use Rattle.records.specs.Readable.{tables}
use Rattle.heading.proofs.Told.{block_alone}
use Rattle.heading.proofs.switches.one_block.Goals as goal

pub returns-then-eq : goal.returns-then-eq
returns-then-eq c es ds xs s a f =
    let r = c.record_at-first.ensures in
    rw r
    (block_alone (tables es c.args.stmts.now ds) c.args.list xs c.if-list-eq-NOWHERE.false
    (search rules) s a)
