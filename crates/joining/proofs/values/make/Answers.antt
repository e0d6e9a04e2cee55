use Rattle.std.proofs.Common.{refl}
use Rattle.pool.specs.Chain.{nowhere}
use Rattle.records.specs.Heap.{expr_at}
use Rattle.records.proofs.Moves.{end_in, pick}
use Rattle.moves.proofs.Single.{put_expr_of, take_expr_of}
use Rattle.joining.proofs.values.make.Goals as goal

pub returns : goal.returns
returns c ss ds v n loose rest o =
    rw c.set.ensures
    (put_expr_of c.take-at.result (record { kind = c.args.kind; first = c.args.first; next = nowhere })
    (pick 1 (end_in (expr_at nowhere) refl (take_expr_of _ _ c.take-at.ensures n o))))
