use Rattle.heading.proofs.Fronting.{joined_some}
use Rattle.heading.proofs.heads.join_init.Goals as goal

pub returns : goal.returns
returns c ss ds x v n loose rest o = joined_some x v c.if-init-eq-NOWHERE.false (λ e. c.join_sequence.ensures ss ds x e n) o
