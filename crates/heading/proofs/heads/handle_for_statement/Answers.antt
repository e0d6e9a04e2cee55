use Rattle.std.proofs.Common.{◌∷◌, ap, arith}
use Rattle.script.specs.declared.ForHead.{ForHead}
use Rattle.records.specs.Embedding.{optional_row, stmt_row}
use Rattle.records.specs.Heap.{stmt_at}
use Rattle.records.specs.Rows.{end}
use Rattle.rules.specs.For.{for_head}
use Rattle.heading.proofs.Fronting.{for_closed}
use Rattle.heading.proofs.heads.handle_for_statement.Goals as goal

pub returns-clause-makes : goal.returns-clause-makes
returns-clause-makes c i t u b r e n loose rest o =
    let l = n.exprs in
    rw c.set.ensures
    (for_closed c.work_head-worked.result c.args.head (for_head c.args.sequences i r) i t u b e
    (c.work_head-worked.ensures.makes i (optional_row t (optional_row u end)) (stmt_row b end) r (ap (λ (v : ForHead). v.init) e) (omega arith)
    (stmt_at c.args.at ∷ loose) rest o))
