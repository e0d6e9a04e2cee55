use Rattle.std.proofs.Common.{sym, ap, ◌∙◌}
use Rattle.records.specs.declared.record.ExprRecord.{ExprRecord}
use Rattle.records.specs.Readable.{tables}
use Rattle.moves.proofs.Single.{give_expr_of}
use Rattle.merging.proofs.LeadingItems.{few_left, many_left, no_items, one_item}
use Rattle.merging.proofs.leading.close_sequence.Goals as goal
use Rattle.merging.proofs.leading.close_sequence.Goals.{then-items-eq-NOWHERE-via-then-items-eq-NOWHERE}
use Rattle.merging.proofs.leading.close_sequence.Goals.{then-items-eq-NOWHERE-via-else-items-eq-NOWHERE+then-record_at}

pub returns-then-items-eq-NOWHERE : goal.returns-then-items-eq-NOWHERE
returns-then-items-eq-NOWHERE c ss ds xs loose rest o =
    let h = tables c.args.exprs.now ss ds in
    few_left xs
    (elim c.then-items-eq-NOWHERE.branch [
      | then-items-eq-NOWHERE-via-then-items-eq-NOWHERE w ↦ no_items h c.args.items xs o.short o.held.0 w.if-items-eq-NOWHERE.true
      | then-items-eq-NOWHERE-via-else-items-eq-NOWHERE+then-record_at w ↦
          one_item h c.args.items xs o.short o.held.0 (ap (λ (x : ExprRecord). x.next) (sym w.record_at.ensures) ∙ w.if-record_at.true)
    ])
    o (λ roots o₁. give_expr_of c.args.at c.give.new.table c.give.new.pool c.give.ensures o₁)

pub returns : goal.returns
returns c ss ds xs loose rest o =
    rw c.set.ensures
    (many_left xs c.if-items-eq-NOWHERE.false (λ z. c.if-record_at.false (ap (λ (x : ExprRecord). x.next) c.record_at.ensures ∙ z)) o)
