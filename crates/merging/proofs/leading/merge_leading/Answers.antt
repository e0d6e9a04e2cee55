use Rattle.std.proofs.Common.{sym, ap, ◌∙◌}
use Rattle.records.specs.declared.record.ExprRecord.{ExprRecord}
use Rattle.merging.proofs.LeadingItems.{leading_lone, leading_sequence}
use Rattle.merging.proofs.leading.merge_leading.Goals as goal

pub returns-in_default : goal.returns-in_default
returns-in_default c ss e ds loose rest o =
    leading_lone c.args.discarded c.args.kind e ds
    (λ z. c.in_default.not-Sequence (ap (λ (x : ExprRecord). x.kind) c.record_at-expr.ensures ∙ z))
    (λ xs ds₁. c.merge_leading_items.ensures ss xs ds₁) o

pub returns : goal.returns
returns c ss e ds loose rest o =
    let q = c.record_at-expr.ensures in
    leading_sequence c.args.discarded c.args.kind e ds (sym c.in-Sequence.is ∙ ap (λ (x : ExprRecord). x.kind) q)
    (λ xs ds₁. rw q at (c.merge_leading_items-items.ensures ss xs ds₁))
    (λ xs. c.close_sequence.ensures ss c.merge_leading_items-items.new.decls xs) o
