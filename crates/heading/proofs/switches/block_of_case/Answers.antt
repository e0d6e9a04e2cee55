use Rattle.std.proofs.Common.{sym, ◌∙◌}
use Rattle.moves.proofs.Single.{give_stmt_of}
use Rattle.heading.proofs.Pushing.{list_fits}
use Rattle.heading.proofs.Switching.{case_becomes, case_given}
use Rattle.heading.proofs.switches.block_of_case.Goals as goal

pub returns-then-one_block : goal.returns-then-one_block
returns-then-one_block c es ds xs loose rest o =
    case_given xs (sym (c.one_block.ensures es ds xs o.short o.held.0 (list_fits xs o)) ∙ c.if-one_block.true)
    (give_stmt_of c.args.at c.give.new.table c.give.new.pool c.give.ensures o)

pub returns : goal.returns
returns c es ds xs loose rest o =
    rw c.set.ensures
    (case_becomes xs (sym (c.one_block.ensures es ds xs o.short o.held.0 (list_fits xs o)) ∙ c.if-one_block.false) o)
