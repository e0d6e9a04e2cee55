use Rattle.records.specs.Lent.{heap}
use Rattle.lending.specs.Marked.{marks_of, unmarked}
use Rattle.lending.proofs.StmtsMarked.{StmtsGoing}
use Rattle.lending.proofs.check.+mark_stmts.Given as goal

abbrev pub decreases-mark_stmts : goal.decreases-mark_stmts
decreases-mark_stmts l = unmarked l.marks_stmts.now

abbrev pub invariant-loop-at : goal.invariant-loop-at
invariant-loop-at l =
    StmtsGoing (heap l.tables) (marks_of l.initial.marks_exprs l.initial.marks_stmts l.initial.marks_decls) l.initial.marks_stmts l.row l.marks_exprs
    l.marks_stmts l.marks_decls l.at l.survey

abbrev pub decreases-loop-at : goal.decreases-loop-at
decreases-loop-at l = unmarked l.marks_stmts
