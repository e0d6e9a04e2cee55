use Rattle.std.proofs.Common.{None, ◌∙◌, length}
use Rattle.records.specs.Readable.{tables}
use Rattle.merging.proofs.Searching.{walk_finds}
use Rattle.merging.proofs.declarators.find_declarator.Goals as goal

pub returns : goal.returns
returns c es ss ds s a d =
    (rw c.in-None.ensures.steps.0 at c.loop-at.invariant)
    ∙ walk_finds (tables es ss c.args.decls.now) c.args.kind c.args.literal c.args.name c.args.names (length c.args.decls.now) None ds s a d
