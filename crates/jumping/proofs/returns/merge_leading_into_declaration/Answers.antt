use Rattle.jumping.proofs.WorkedReturn.{leading_none, leading_some}
use Rattle.jumping.proofs.returns.merge_leading_into_declaration.Goals as goal

pub returns-then-value-eq-NOWHERE : goal.returns-then-value-eq-NOWHERE
returns-then-value-eq-NOWHERE c v r loose rest o = leading_none v r c.if-value-eq-NOWHERE.true o

pub returns : goal.returns
returns c v r loose rest o =
    leading_some v r c.if-value-eq-NOWHERE.false (λ e. c.merge_leading_assignments_to_declaration.ensures e r) o
