use Rattle.records.specs.Embedding.{stmts_row}
use Rattle.rules.specs.Literals.{is_literal}
use Rattle.rules.specs.Switches.{case_block, push_discriminant}
use Rattle.moves.proofs.Single.{give_stmt_of}
use Rattle.moves.proofs.Trees.{linked_stmt}
use Rattle.heading.proofs.Switching.{default_done}
use Rattle.heading.proofs.switches.inline_default.Goals as goal

pub returns : goal.returns
returns c ds d xs r n m loose rest o =
    default_done d xs r (push_discriminant c.args.sequences (is_literal d) d r) (c.keep_discriminant-kept.ensures ds d r n m)
    (c.block_of_case-block.ensures c.keep_discriminant-kept.new.exprs ds xs)
    (λ roots o₁. give_stmt_of c.args.at c.give.new.table c.give.new.pool c.give.ensures o₁)
    (linked_stmt c.give.new.table c.link.new.table c.block_of_case-block.result c.keep_discriminant-kept.result c.link.ensures.turns
    c.keep_discriminant-kept.new.exprs ds
    (record { exprs = c.block_of_case-block.new.pools.exprs; stmts = c.give.new.pool; decls = c.block_of_case-block.new.pools.decls })
    (case_block xs) (stmts_row (push_discriminant c.args.sequences (is_literal d) d r))) o
