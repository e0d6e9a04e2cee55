use Rattle.std.proofs.Common.{refl}
use Rattle.pool.specs.Chain.{nowhere}
use Rattle.jumping.proofs.OneJump.{close_jump}
use Rattle.jumping.proofs.jump.Jump.push.Goals as goal

pub returns : goal.returns
returns c es ds p a r loose rest o =
    rw c.set.ensures
    (close_jump c.args.self a r
    (record { kind = c.kind.result; exprs = c.args.value; stmts = nowhere; decls = nowhere; next = c.args.results }) c.kind.ensures refl refl o)
