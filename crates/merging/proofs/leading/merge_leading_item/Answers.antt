use Rattle.std.proofs.Common.{sym, ap, ◌∙◌}
use Rattle.records.specs.declared.record.ExprRecord.{ExprRecord}
use Rattle.moves.proofs.Single.{give_expr_of}
use Rattle.merging.proofs.LeadingStep.{step_other, step_refused, step_taken, step_wanted}
use Rattle.merging.proofs.leading.merge_leading_item.Goals as goal

pub returns-then-not-may_go : goal.returns-then-not-may_go
returns-then-not-may_go c ss xs ds loose rest o =
    step_wanted c.args.discarded c.args.kind xs ds o (rw c.record_at-item.ensures at (sym c.may_go.ensures ∙ c.if-not-may_go.true))

pub returns-in_default : goal.returns-in_default
returns-in_default c ss xs ds loose rest o =
    step_other c.args.discarded c.args.kind xs ds o (λ n z. c.in_default.not-Assignment n (ap (λ (x : ExprRecord). x.kind) c.record_at-item.ensures ∙ z))

pub returns-then-not-merge_assignment_to_declaration : goal.returns-then-not-merge_assignment_to_declaration
returns-then-not-merge_assignment_to_declaration c ss xs ds loose rest o =
    let q = c.record_at-item.ensures in
    step_refused c.args.discarded c.args.kind c.in-Assignment.name xs ds
    (sym c.in-Assignment.is ∙ ap (λ (x : ExprRecord). x.kind) q) (rw q at (sym c.may_go.ensures ∙ c.if-not-may_go.false)) o
    (λ ds₁ e loose₁ rest₁ o₁. rw (sym c.if-not-merge_assignment_to_declaration.true)
    (rw q at (c.merge_assignment_to_declaration.ensures ss c.args.pools.now ds₁ e loose₁ rest₁) o₁))

pub returns : goal.returns
returns c ss xs ds loose rest o =
    let q = c.record_at-item.ensures in
    rw (ap (λ (x : ExprRecord). x.next) q)
    (step_taken c.args.discarded c.args.kind c.in-Assignment.name xs ds
    (sym c.in-Assignment.is ∙ ap (λ (x : ExprRecord). x.kind) q) (rw q at (sym c.may_go.ensures ∙ c.if-not-may_go.false)) o
    (λ ds₁ e loose₁ rest₁ o₁. rw (sym c.if-not-merge_assignment_to_declaration.false)
    (rw q at (c.merge_assignment_to_declaration.ensures ss c.args.pools.now ds₁ e loose₁ rest₁) o₁))
    (λ roots o₁. give_expr_of c.args.items c.give.new.table c.give.new.pool c.give.ensures o₁))
