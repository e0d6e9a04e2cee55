use Rattle.std.proofs.Common.{◌∙◌, length}
use Rattle.moves.proofs.Chained.{last_placed, last_walked}
use Rattle.moves.proofs.links.last_of_row.Goals as goal

pub returns-clause-chain : goal.returns-clause-chain
returns-clause-chain g c n b s d =
    (rw c.in-None.ensures.steps.0 at c.loop-at.invariant)
    ∙ last_walked g.R.Record.table_of.blank g.R.Linked.link c.args.table.now s c.args.row c.args.row n (length c.args.table.now) b d

pub returns-clause-row : goal.returns-clause-row
returns-clause-row g c = last_placed g.met.R.Record.tabled _ _ _ (returns-clause-chain g c)
