use mathlib.Core.Path.{◌∙◌, ap, sym}
use mathlib.Core.Bool.{not}
use Rattle.records.specs.Embedding.{stmt_row}
use Rattle.rules.specs.Ifs.{branch?}
use Rattle.moves.proofs.ByKind.{expr_of_kind}
use Rattle.branching.proofs.Rules.{not_swapped, swaps_not}
use Rattle.branching.proofs.Viewing.{behind_read, expr_kind_read}
use Rattle.branching.proofs.branches.can_swap.Goals as goal

pub returns-in-Not : goal.returns-in-Not
returns-in-Not c ds t v x y w s a b =
    let n = expr_of_kind t (sym c.in-Not.is ∙ expr_kind_read _ _ _ c.record_at.ensures t v a) in
    let i = c.is_if.ensures c.args.exprs.now ds y w s
    (behind_read _ _ _ c.record_at-in-Not.ensures x (stmt_row y w) b) in
    rw n.1 (ap not i ∙ swaps_not n.0 (branch? y))

pub returns-in_default : goal.returns-in_default
returns-in_default c ds t v x y w s a b =
    not_swapped t (branch? y)
    (λ z. c.in_default.not-Not (expr_kind_read _ _ _ c.record_at.ensures t v a ∙ z))
