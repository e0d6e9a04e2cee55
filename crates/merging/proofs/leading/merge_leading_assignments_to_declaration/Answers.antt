use Rattle.std.proofs.Common.{sym, ap, ◌∙◌}
use Rattle.records.specs.declared.record.StmtRecord.{StmtRecord}
use Rattle.merging.proofs.LeadingItems.{in_declaration, in_none}
use Rattle.merging.proofs.leading.merge_leading_assignments_to_declaration.Goals as goal

pub returns-in_default : goal.returns-in_default
returns-in_default c e r loose rest o =
    in_none c.args.discarded e r (λ k z. c.in_default.not-Declaration k (ap (λ (x : StmtRecord). x.kind) c.record_at-last.ensures ∙ z)) o

pub returns : goal.returns
returns c e r loose rest o =
    let q = c.record_at-last.ensures in
    in_declaration c.args.discarded c.in-Declaration.kind e r (sym c.in-Declaration.is ∙ ap (λ (x : StmtRecord). x.kind) q)
    (λ x ds. rw q at (c.merge_leading-target.ensures c.args.stmts.now x ds)) o
