use Rattle.std.proofs.Common.{◌∷◌, arith}
use Rattle.records.specs.Heap.{stmt_at}
use Rattle.records.specs.Readable.{tables}
use Rattle.moves.specs.Lent.{heap}
use Rattle.merging.proofs.WorkedOn.{handled}
use Rattle.merging.proofs.statement.handle_expression_statement.Goals as goal

pub returns-clause-makes : goal.returns-clause-makes
returns-clause-makes c e r n loose rest o =
    let t = c.args.tables.now in
    let s = n.exprs in
    let a = c.merge_last_expression_into_sequence-merged.new in
    let b = c.merge_leading_assignments_to_declaration-worked.new in
    handled {h = heap t} {h₁ = tables a.exprs a.stmts t.decls.now} {h₂ = tables b.exprs a.stmts b.decls} c.args.sequences e r
    (c.merge_last_expression_into_sequence-merged.ensures t.decls.now e r (omega arith) (stmt_at c.args.at ∷ loose) rest o)
    (λ e₁ r₁. c.merge_leading_assignments_to_declaration-worked.ensures e₁ r₁)
    (λ v r₂. c.push_worked.ensures b.exprs b.decls v r₂)
