use Rattle.std.proofs.Common.{◌≡◌, Bool, true, false, sym, ◌∙◌}
use Rattle.lending.proofs.RootsMarked.{unreached_exprs, unreached_stmts, reached}
use Rattle.lending.proofs.check.all_reached.Goals as goal
use Rattle.lending.proofs.check.all_reached.Goals.{then-all_marked, else-all_marked}

pub returns-then-all_marked-2 : goal.returns-then-all_marked-2
returns-then-all_marked-2 c = λ h sized.
    elim c.if-all_marked.branch [
      | then-all_marked w ↦ reached sized c.all_marked-then-all_marked-2.result w.if-all_marked.true
          (sym w.value-is ∙ c.if-all_marked-2.true) c.all_marked.ensures w.all_marked-then-all_marked.ensures c.all_marked-then-all_marked-2.ensures
      | else-all_marked w ↦ let z : ◌≡◌ {A = Bool} false true = sym w.if-all_marked.false ∙ sym w.value-is ∙ c.if-all_marked-2.true in cc
    ]

pub returns-else-all_marked-2 : goal.returns-else-all_marked-2
returns-else-all_marked-2 c = λ h sized.
    elim c.if-all_marked.branch [
      | then-all_marked w ↦ unreached_stmts sized c.if-all_marked-2.false (sym w.value-is ∙ c.if-all_marked-2.false) w.all_marked-then-all_marked.ensures
      | else-all_marked w ↦ unreached_exprs sized c.if-all_marked-2.false w.if-all_marked.false c.all_marked.ensures
    ]
