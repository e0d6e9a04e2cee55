use Rattle.lending.specs.Marked.{unmarked}
use Rattle.lending.proofs.DeclsMarked.{DeclsGoing}
use Rattle.lending.proofs.check.mark_decls.Given as goal

abbrev pub invariant-loop-at : goal.invariant-loop-at
invariant-loop-at l = DeclsGoing l.exprs l.decls l.initial.marks_exprs l.initial.marks_decls l.row l.marks_exprs l.marks_decls l.at l.survey

abbrev pub decreases-loop-at : goal.decreases-loop-at
decreases-loop-at l = unmarked l.marks_decls
