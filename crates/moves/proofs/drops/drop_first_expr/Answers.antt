use Rattle.std.proofs.Common.{[]}
use Rattle.records.specs.Readable.{tables}
use Rattle.moves.proofs.Dropping.{drop_expr}
use Rattle.moves.proofs.drops.drop_first_expr.Goals as goal

pub returns : goal.returns
returns c ss ds l x y z w =
    drop_expr l x y z w c.record_at-expr.ensures (c.join_rows-row.ensures x w (tables [] ss ds) c.args.pools.now) c.give.ensures
