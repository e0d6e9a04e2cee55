use mathlib.Core.Path.{◌∙◌, sym}
use native.Mathlib.Omega.{arith}
use Rattle.records.specs.Embedding.{stmt_row}
use Rattle.records.specs.Rows.{end}
use Rattle.rules.specs.Ifs.{branch?}
use Rattle.branching.proofs.Rules.{else_swaps, of_kind}
use Rattle.branching.proofs.Spares.{fewer}
use Rattle.branching.proofs.minimize.minimize_if_else.Goals as goal

pub returns-in-Expression : goal.returns-in-Expression
returns-in-Expression c ds t x y n loose rest o =
    let b = c.branch_of.ensures c.args.exprs.now ds x (stmt_row y end) o.short o.held.1.0 in
    let s = of_kind (branch? x) (sym c.in-Expression.is ∙ b) in
    rw s.1 (c.minimize_expression_else.ensures ds t s.0 y n.exprs loose rest (rw s.1 at o))

pub returns-in_default : goal.returns-in_default
returns-in_default c ds t x y n loose rest o =
    let b = c.branch_of.ensures c.args.exprs.now ds x (stmt_row y end) o.short o.held.1.0 in
    rw (sym (else_swaps t (branch? x) (branch? y) (λ z. c.in_default.not-Expression (b ∙ z))))
    (c.swap_branches.ensures ds t x y (fewer n 0 1 (omega arith) (omega arith)) loose rest o)
