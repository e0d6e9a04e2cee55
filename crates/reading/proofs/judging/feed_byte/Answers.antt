use Rattle.std.proofs.Common.{Ok, sym, ap, ◌∙◌, arith}
use Rattle.reading.proofs.Stepping.{step_performs}
use Rattle.reading.proofs.judging.feed_byte.Goals as goal

pub returns-in-Perform : goal.returns-in-Perform
returns-in-Perform c m holds =
    step_performs _ c.args.draft.now m holds c.args.byte c.in-Reading.awaiting c.in-Reading.is c.in-Perform.command c.perform.result _ c.perform.new.draft (omega (arith, c.ranges.byte)) (ap Ok (sym c.in-Perform.is) ∙ c.in_ok-next.ensures) (λ reads listed. c.perform.ensures m holds reads listed)
