use mathlib.Core.List.{◌∷◌}
use mathlib.Core.Path.{◌∙◌, sym}
use Rattle.script.specs.Tree.{alternate, expression}
use Rattle.records.specs.Embedding.{stmt_row}
use Rattle.records.specs.Heap.{stmt_at}
use Rattle.records.specs.Rows.{end}
use Rattle.rules.specs.Expressions.{minimize_conditional}
use Rattle.rules.specs.Ifs.{branch?}
use Rattle.branching.proofs.Rules.{else_as_it_is, of_kind}
use Rattle.branching.proofs.Viewing.{behind_read}
use Rattle.branching.proofs.minimize.minimize_expression_else.Goals as goal
use Rattle.moves.proofs.Frames.{then_use}

pub returns-in-Expression : goal.returns-in-Expression
returns-in-Expression c ds t e x n loose rest o =
    let b = c.branch_of.ensures c.args.exprs.now ds x end o.short
    (behind_read _ _ _ c.record_at-stmt.ensures (expression e) (stmt_row x end) o.held.1.0) in
    let s = of_kind (branch? x) (sym c.in-Expression.is ∙ b) in
    rw s.1
    (then_use (c.branches_to_conditional.ensures ds t e s.0 n (stmt_at c.args.parts.at ∷ loose) rest (rw s.1 at o))
    (λ o₁. c.write_expression.ensures c.branches_to_conditional.new.exprs ds c.branches_to_conditional.new.pools
    (minimize_conditional t e s.0) loose rest o₁))

pub returns-in_default : goal.returns-in_default
returns-in_default c ds t e x n loose rest o =
    let b = c.branch_of.ensures c.args.exprs.now ds x end o.short
    (behind_read _ _ _ c.record_at-stmt.ensures (expression e) (stmt_row x end) o.held.1.0) in
    rw (sym (else_as_it_is t e (branch? x) (λ z. c.in_default.not-Expression (b ∙ z))))
    (c.write_if.ensures c.args.exprs.now ds c.args.pools.now t (expression e) (alternate x) loose rest o)
