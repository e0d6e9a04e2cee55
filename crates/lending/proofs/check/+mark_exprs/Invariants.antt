use Rattle.lending.specs.Marked.{unmarked}
use Rattle.lending.proofs.ExprsMarked.{ExprsGoing}
use Rattle.lending.proofs.check.+mark_exprs.Given as goal

abbrev pub decreases-mark_exprs : goal.decreases-mark_exprs
decreases-mark_exprs l = unmarked l.marks.now

abbrev pub invariant-loop-at : goal.invariant-loop-at
invariant-loop-at l = ExprsGoing l.exprs l.initial.marks l.row l.marks l.at l.count

abbrev pub decreases-loop-at : goal.decreases-loop-at
decreases-loop-at l = unmarked l.marks
