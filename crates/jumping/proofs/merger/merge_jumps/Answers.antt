use Rattle.jumping.proofs.merger.merge_jumps.Goals as goal

pub returns-then-sequences : goal.returns-then-sequences
returns-then-sequences c ds a r g loose rest o = rw c.if-sequences.true (c.jump_loop.ensures ds a r g loose rest o)

pub returns : goal.returns
returns c ds a r g loose rest o = rw c.if-sequences.false (c.push.ensures c.args.exprs.now ds c.args.pools.now a r loose rest o)
