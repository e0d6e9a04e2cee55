use Rattle.reading.proofs.Folding.{midway_next, midway_refused, midway_end}
use Rattle.reading.proofs.judging.feed_bytes.Goals as goal

pub returns-in-Err : goal.returns-in-Err
returns-in-Err c m holds =
    let mid = c.loop-i.invariant m holds in
    midway_refused c.args.bytes.now c.loop-i.i m _ c.loop-i.draft mid c.loop-i-test.true c.in-Err.fault _ c.feed_byte.new.draft (c.in-Err.ensures mid.model mid.holds)

pub loop-i-preserved : goal.loop-i-preserved
loop-i-preserved c m holds =
    let mid = c.loop-i.invariant m holds in
    midway_next c.args.bytes.now c.loop-i.i m _ c.loop-i.draft mid c.loop-i-test.true _ c.feed_byte.new.draft (c.in_default.ensures mid.model mid.holds)

pub returns : goal.returns
returns c m holds = midway_end c.args.bytes.now c.loop-i.i m _ c.loop-i.draft (c.loop-i.invariant m holds) c.loop-i-test.false
