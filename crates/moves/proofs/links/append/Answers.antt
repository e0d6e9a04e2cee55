use Rattle.std.proofs.Common.{ap, ◌∙◌}
use Rattle.pool.specs.Chain.{modify}
use Rattle.moves.proofs.Tabled.{appends_table}
use Rattle.moves.proofs.links.append.Goals as goal

pub returns-clause-chain : goal.returns-clause-chain
returns-clause-chain g c n l s h =
    c.link.ensures.place
    ∙ ap (λ k. modify (λ x. g.R.Linked.relinked x c.args.more) k c.args.table.now) (c.last_of_row-last.ensures.chain n l s h)

pub returns-clause-row : goal.returns-clause-row
returns-clause-row g c =
    appends_table g.met.R.Record.tabled c.args.table.now c.link.new.table c.args.row c.args.more c.last_of_row-last.result
    c.last_of_row-last.ensures.chain c.link.ensures.turns
