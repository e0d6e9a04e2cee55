use mathlib.Core.Path.{refl}
use native.Mathlib.Omega.{arith}
use Rattle.script.specs.Tree.{expr_then, no_exprs}
use Rattle.records.specs.Rows.{end}
use Rattle.records.proofs.Moves.{pick}
use Rattle.moves.proofs.Frames.{stays}
use Rattle.moves.proofs.Rows.{expr_fits}
use Rattle.joining.proofs.Lengths.{as_long}
use Rattle.joining.proofs.Pending.{none_left, one_more, ran_out}
use Rattle.joining.proofs.logical.join_onto.Goals as goal

pub loop-init : goal.loop-init
loop-init c ss ds x y w n loose rest o = record {
  joined = y;
  left = expr_then x no_exprs;
  moved = stays o;
  same = refl;
  spares = omega arith;
  fewer = omega arith;
}

pub returns-then-pending : goal.returns-then-pending
returns-then-pending c ss ds x y w n loose rest o = none_left (c.loop.invariant ss ds x y w n loose rest o) c.if-pending.true

pub loop-preserved : goal.loop-preserved
loop-preserved c ss ds x y w n loose rest o =
    one_more (c.loop.invariant ss ds x y w n loose rest o) c.if-pending.false
    (as_long _ _ _ _ c.join_first-pending.auto.exprs)
    (λ e a es v m. c.join_first-pending.ensures ss ds e a es v m)

pub returns : goal.returns
returns c ss ds x y w n loose rest o =
    let f = expr_fits x end (pick 1 o) in ran_out (c.loop.invariant ss ds x y w n loose rest o) (omega arith)
