use Rattle.std.proofs.Common.{inl, inr, refl, arith}
use Rattle.hosts.specs.declared.reader.Decided.TheVariants.{Always, ByParts, Never}
use Rattle.hosts.proofs.Walks.{walked_found, walked_broke, walked_outside, each_walked}
use Rattle.hosts.proofs.reader.+walk_walk_row.Goals as goal

pub walk-returns-in_err-left : goal.walk-returns-in_err-left
walk-returns-in_err-left t c = rw c.from_residual.ensures (walked_broke c.args.exprs.now c.args.at c.args.budget c.in_err-left.ensures)

pub walk-returns-in_err-expr : goal.walk-returns-in_err-expr
walk-returns-in_err-expr t c =
    rw c.from_residual-in_err-expr.ensures (walked_outside c.args.exprs.now c.args.at c.args.budget c.in_err-expr.ensures)

pub walk-returns-in-Always : goal.walk-returns-in-Always
walk-returns-in-Always t c =
    walked_found c.args.exprs.now c.args.at c.args.budget c.in_ok-left.left c.in_ok-expr.expr _ Always
    c.in_ok-left.ensures c.in_ok-expr.ensures c.in-Always.ensures refl

pub walk-returns-in-ByParts : goal.walk-returns-in-ByParts
walk-returns-in-ByParts t c =
    walked_found c.args.exprs.now c.args.at c.args.budget c.in_ok-left.left c.in_ok-expr.expr _ ByParts
    c.in_ok-left.ensures c.in_ok-expr.ensures c.in-ByParts.ensures c.walk_row.ensures

pub walk-returns-in-Never : goal.walk-returns-in-Never
walk-returns-in-Never t c =
    walked_found c.args.exprs.now c.args.at c.args.budget c.in_ok-left.left c.in_ok-expr.expr _ Never
    c.in_ok-left.ensures c.in_ok-expr.ensures c.in-Never.ensures refl

pub walk_row-returns-in_err-left : goal.walk_row-returns-in_err-left
walk_row-returns-in_err-left t c =
    rw c.from_residual.ensures
    (each_walked c.args.exprs.now c.args.row c.args.budget _ c.requires tt
    (c.loop-at.invariant.1 _ (rw c.in-Some.ensures.steps (inl (c.in_err-left.ensures, refl)))))

pub walk_row-loop-at-preserved : goal.walk_row-loop-at-preserved
walk_row-loop-at-preserved t c =
    let b = c.loop-at.invariant.0 in
    let f = c.in_ok-left.ensures.falls in
    (omega arith, λ r m. c.loop-at.invariant.1 r (rw c.in-Some.ensures.steps (inr (_, c.in_ok-left.ensures, m))))

pub walk_row-returns : goal.walk_row-returns
walk_row-returns t c =
    let b = c.loop-at.invariant.0 in
    each_walked c.args.exprs.now c.args.row c.args.budget _ c.requires (omega arith)
    (c.loop-at.invariant.1 _ (rw c.in-None.ensures.steps.0 refl))
