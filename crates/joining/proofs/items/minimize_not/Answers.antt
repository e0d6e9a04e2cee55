use mathlib.Core.List.{[]}
use Rattle.rules.specs.Expressions.{negate}
use Rattle.moves.proofs.Rows.{expr_fits}
use Rattle.joining.proofs.LastItem.{at_last}
use Rattle.joining.proofs.items.minimize_not.Goals as goal

pub returns : goal.returns
returns c ss ds e w n loose rest o =
    at_last [] negate (λ y v. c.negate.ensures ss ds y v n) e w (c.last_item-last.ensures ss ds e w o.short o.held.0 (expr_fits e w o)) loose rest o
