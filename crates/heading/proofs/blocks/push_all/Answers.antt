use Rattle.std.proofs.Common.{refl}
use Rattle.rules.specs.Statements.{push_all}
use Rattle.moves.proofs.Trees.{pushed_stmts}
use Rattle.heading.proofs.blocks.push_all.Goals as goal

pub returns : goal.returns
returns c =
    pushed_stmts c.args.stmts.now c.push_all.new.table c.args.list push_all (λ ys. refl) (λ x xs ys. refl) c.args.results c.push_all.result
    c.push_all.ensures
