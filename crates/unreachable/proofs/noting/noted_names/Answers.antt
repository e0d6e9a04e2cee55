use Rattle.std.proofs.Common.{ℕ, List, [], subst}
use Rattle.records.specs.Embedding.{stmts_row}
use Rattle.rules.specs.Unreachable.{note_hoisted_names}
use Rattle.unreachable.specs.Noted.{Notes}
use Rattle.unreachable.proofs.Notes.{none_noted}
use Rattle.unreachable.proofs.VarRows.{declarators_fit, statements_fit, vars_stmts}
use Rattle.unreachable.proofs.noting.noted_names.Goals as goal

pub returns : goal.returns
returns c loose xs rest o =
    subst (λ (ns : List ℕ). Notes c.note_vars.new.noted (note_hoisted_names ns [])) (vars_stmts xs)
    (c.note_vars.ensures c.args.tables.now.exprs.now (stmts_row xs) o.short o.held.0 (statements_fit o) (declarators_fit o) []
    (none_noted c.new.result c.new.ensures))
