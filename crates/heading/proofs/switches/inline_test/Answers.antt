use Rattle.std.proofs.Common.{◌∷◌}
use Rattle.script.specs.Tree.{strict_equality}
use Rattle.records.specs.Embedding.{expr_row, stmts_row}
use Rattle.records.specs.Heap.{expr_at, stmt_at}
use Rattle.records.specs.Rows.{end}
use Rattle.records.proofs.Moves.{pick}
use Rattle.rules.specs.Switches.{case_block}
use Rattle.heading.proofs.Switching.{if_closed}
use Rattle.heading.proofs.switches.inline_test.Goals as goal
use Rattle.moves.proofs.Frames.{then_use}

pub returns : goal.returns
returns c ds d e xs w n loose rest o =
    rw c.set.ensures
    (then_use
    (then_use
    (c.strict_equality-equal.ensures c.args.stmts.now ds d e n (stmt_at c.args.case ∷ stmt_at c.args.at ∷ loose)
    ((stmt_at c.args.list, stmts_row xs) ∷ (stmt_at c.args.results, w) ∷ rest) o)
    (λ o₁. c.block_of_case-block.ensures c.strict_equality-equal.new.exprs ds xs (stmt_at c.args.at ∷ loose)
    ((expr_at c.strict_equality-equal.result, expr_row (strict_equality d e) end) ∷ (stmt_at c.args.results, w) ∷ rest) (pick 1 o₁)))
    (λ o₂. if_closed (strict_equality d e) (case_block xs) w o₂))
