use Rattle.std.proofs.Common.{sym, ap, ◌∙◌}
use Rattle.records.specs.declared.record.DeclRecord.{DeclRecord}
use Rattle.merging.proofs.Declaring.{no_value, value_merged}
use Rattle.merging.proofs.declaration.merge_first_value.Goals as goal

pub returns-then-first : goal.returns-then-first
returns-then-first c ds r loose rest o =
    no_value ds r (ap (λ (x : DeclRecord). x.value) (sym c.record_at-first.ensures) ∙ c.if-first.true) o

pub returns : goal.returns
returns c ds r loose rest o =
    let q = c.record_at-first.ensures in
    rw (c.set.ensures, q)
    (value_merged ds r c.if-names-eq-NOWHERE.false (λ z. c.if-first.false (ap (λ (x : DeclRecord). x.value) q ∙ z))
    (λ e₁ r₁. rw q at (c.merge_leading_assignments_to_declaration-worked.ensures e₁ r₁)) o)
