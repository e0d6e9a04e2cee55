use Rattle.branching.proofs.Viewing.{expression_shown, full_shown, lone_shown, other_shown}
use Rattle.branching.proofs.views.branch_of.Goals as goal

pub returns-in-Expression : goal.returns-in-Expression
returns-in-Expression c =
    expression_shown _ _ _ c.record_at-stmt.ensures c.in-Expression.is

pub returns-in-If : goal.returns-in-If
returns-in-If c =
    lone_shown _ _ _ c.record_at-stmt.ensures
    _ c.record_at.ensures c.in-If.is c.if-record_at.true

pub returns-in-If-2 : goal.returns-in-If-2
returns-in-If-2 c =
    full_shown _ _ _ c.record_at-stmt.ensures
    _ c.record_at.ensures c.in-If.is c.if-record_at.false

pub returns-in_default : goal.returns-in_default
returns-in_default c =
    other_shown _ _ _ c.record_at-stmt.ensures
    c.in_default.not-Expression c.in_default.not-If
