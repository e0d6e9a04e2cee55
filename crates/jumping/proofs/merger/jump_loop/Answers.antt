use Rattle.std.proofs.Common.{◌≤◌, length, arith}
use Rattle.jumping.specs.Going.{rule}
use Rattle.jumping.proofs.Looping.{jump_pushed, loop_ends, loop_goes, loop_no_more, loop_starts}
use Rattle.jumping.proofs.merger.jump_loop.Goals as goal

pub loop-init : goal.loop-init
loop-init c ds = loop_starts (rule c.args.jump)

pub loop-preserved : goal.loop-preserved
loop-preserved c ds = loop_goes (rule c.args.jump) c.merge_jump.auto.stmts (c.loop.invariant ds) (c.in-Continue.ensures ds)

pub returns-in-Break : goal.returns-in-Break
returns-in-Break c ds a r g loose rest o =
    jump_pushed (rule c.args.jump) (loop_ends (rule c.args.jump) (c.loop.invariant ds) (c.in-Break.ensures ds) a r g loose rest o)
    (λ b x. c.push.ensures c.merge_jump.new.exprs ds c.merge_jump.new.pools b x)

pub returns : goal.returns
returns c ds a r g loose rest o =
    let all : length c.loop.stmts ≤ c.loop.counter = let k = c.loop.auto.stmts in let l = c.loop-test.false in omega arith in
    absurd (loop_no_more (rule c.args.jump) (c.loop.invariant ds a r g loose rest o) all)
