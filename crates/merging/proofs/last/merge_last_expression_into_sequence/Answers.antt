use Rattle.std.proofs.Common.{sym, ap, ◌∙◌}
use Rattle.records.specs.declared.record.StmtRecord.{StmtRecord}
use Rattle.moves.proofs.Single.{give_stmt_of}
use Rattle.merging.proofs.LastExpression.{last_merged, none_merged}
use Rattle.merging.proofs.last.merge_last_expression_into_sequence.Goals as goal

pub returns-in_default : goal.returns-in_default
returns-in_default c ds e r n loose rest o =
    rw c.if-not-sequences.false
    (none_merged e r (λ z. c.in_default.not-Expression (ap (λ (x : StmtRecord). x.kind) c.record_at-last.ensures ∙ z)) o)

pub returns : goal.returns
returns c ds e r n loose rest o =
    let q = c.record_at-last.ensures in
    rw (c.if-not-sequences.false, ap (λ (x : StmtRecord). x.next) q)
    (last_merged e r (sym c.in-Expression.is ∙ ap (λ (x : StmtRecord). x.kind) q)
    (λ roots o₁. give_stmt_of c.args.results c.give.new.table c.give.new.pool c.give.ensures o₁)
    (λ x y. rw q at (c.join_sequence-target.ensures c.give.new.table ds x y n)) o)
