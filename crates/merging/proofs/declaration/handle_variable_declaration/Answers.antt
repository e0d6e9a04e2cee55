use Rattle.std.proofs.Common.{◌∷◌}
use Rattle.records.specs.Heap.{stmt_at}
use Rattle.merging.proofs.Declaring.{handled_declaration}
use Rattle.merging.proofs.declaration.handle_variable_declaration.Goals as goal

pub returns-clause-makes : goal.returns-clause-makes
returns-clause-makes c ds r n loose rest o =
    handled_declaration c.args.join_vars c.args.kind ds r
    (c.merge_first_value-before.ensures ds r (stmt_at c.args.at ∷ loose) rest o)
    (λ es r₁. c.join_declarations.ensures c.merge_first_value-before.new.exprs es r₁)
