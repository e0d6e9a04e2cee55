use Rattle.moves.proofs.Single.{take_expr_of}
use Rattle.joining.proofs.Made.{wrapped}
use Rattle.joining.proofs.items.wrap.Goals as goal

pub returns : goal.returns
returns c ss ds e w v n loose rest o =
    rw (c.set-2.ensures, c.set.ensures, c.record_at-expr.ensures)
    (wrapped c.take-inner.result c.args.kind e w v
    (λ ks roots q. take_expr_of _ _ c.take-inner.ensures n q) o)
