use Rattle.std.proofs.Common.{true, false, inl, refl}
use Rattle.predicates.proofs.Some.{some_told}
use Rattle.predicates.proofs.statements.any_of_row.Goals as goal

pub returns-then-is_such : goal.returns-then-is_such
returns-then-is_such g c =
    some_told (goal.F-post g c.args.is_such) c.args.stmts.now c.args.row true
    (c.loop-at.invariant true (rw c.in-Some.ensures.steps (inl (c.if-is_such.ensures, refl))))

pub returns : goal.returns
returns g c =
    some_told (goal.F-post g c.args.is_such) c.args.stmts.now c.args.row false (c.loop-at.invariant false (rw c.in-None.ensures.steps.0 refl))
