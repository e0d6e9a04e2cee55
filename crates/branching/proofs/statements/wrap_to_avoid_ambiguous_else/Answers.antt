use mathlib.Core.Path.{◌∙◌, sym}
use Rattle.rules.specs.Ifs.{branch?}
use Rattle.moves.proofs.Frames.{stays}
use Rattle.branching.proofs.Rules.{not_wrapped, wrapped}
use Rattle.branching.proofs.statements.wrap_to_avoid_ambiguous_else.Goals as goal

pub returns-in-FullIf : goal.returns-in-FullIf
returns-in-FullIf c es ds a d x w n loose rest o =
    let b = c.branch_of.ensures es ds x w o.short o.held.0 in
    rw (sym (wrapped x (sym c.in-FullIf.is ∙ b))) (c.put_in_braces.ensures es ds a d x w n loose rest o)

pub returns-in_default : goal.returns-in_default
returns-in_default c es ds a d x w n loose rest o =
    let b = c.branch_of.ensures es ds x w o.short o.held.0 in
    rw (sym (not_wrapped (branch? x) (λ z. c.in_default.not-FullIf (b ∙ z)))) (stays o)
