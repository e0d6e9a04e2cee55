use Rattle.std.proofs.Common.{rules}
use Rattle.records.specs.Readable.{tables}
use Rattle.jumping.specs.Newest.{kind_of}
use Rattle.jumping.proofs.Telling.{tells_around}
use Rattle.jumping.proofs.newest.is_if_jump.Goals as goal

pub returns-then-eq : goal.returns-then-eq
returns-then-eq c es ds r s a n =
    tells_around (tables es c.args.stmts.now ds) c.args.results r s a (kind_of c.args.jump) c.record_at-last.result c.record_at-inner.result
    c.record_at-last.ensures c.record_at-inner.ensures (search rules) (search rules)
