use Rattle.std.proofs.Common.{◌≡◌, sym, ◌∙◌}
use Rattle.records.specs.Heap.{Heap}
use Rattle.records.specs.Readable.{tables}
use Rattle.records.proofs.Tallies.{lengths}
use Rattle.moves.specs.Lent.{heap}
use Rattle.jumping.proofs.WorkedThrow.{throw_handled, throw_worked}
use Rattle.jumping.proofs.throws.handle_throw_statement.Goals as goal

pub returns-clause-makes : goal.returns-clause-makes
returns-clause-makes c e r g loose rest o =
    let q = c.args.sequences in
    let t = c.args.tables.now in
    let first = c.merge_last_expression_into_sequence-joined in
    let second = c.merge_leading_assignments_to_declaration-worked in
    let h₂ : Heap = tables second.new.exprs first.new.stmts second.new.decls in
    let same : lengths h₂ ≡ lengths (heap t) =
    λ i. record { exprs = (second.auto.exprs ∙ first.auto.exprs) i; stmts = first.auto.stmts i; decls = second.auto.decls i } in
    throw_handled q e r (throw_worked q e r (sym same) (λ n. first.ensures t.decls.now e r n) (λ e₁ r₁. second.ensures e₁ r₁) g o)
    (λ e₁ r₁ n. c.merge_jumps.ensures second.new.decls e₁ r₁ n)
