use Rattle.std.proofs.Common.{refl}
use Rattle.pool.specs.Chain.{nowhere}
use Rattle.script.specs.Tree.{no_stmts}
use Rattle.records.specs.Heap.{stmt_at}
use Rattle.rules.specs.Jumps.{in_source_order}
use Rattle.records.proofs.Moves.{end_in, pick}
use Rattle.moves.proofs.Trees.{pushed_stmts}
use Rattle.unreachable.proofs.order.in_source_order.Goals as goal

pub returns : goal.returns
returns c es ds p rs loose rest o =
    pushed_stmts c.args.stmts.now c.push_all.new.table c.args.results in_source_order (λ ys. refl) (λ x xs ys. refl) nowhere c.push_all.result
    c.push_all.ensures
    es ds p rs no_stmts loose rest (pick 1 (end_in (stmt_at nowhere) refl o))
