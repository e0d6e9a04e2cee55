use Rattle.jumping.proofs.Optional.{voided}
use Rattle.jumping.proofs.arguments.value_or_void_0.Goals as goal

pub returns-then-value-eq-NOWHERE : goal.returns-then-value-eq-NOWHERE
returns-then-value-eq-NOWHERE c ss ds v n loose rest o = voided v c.if-value-eq-NOWHERE.true (c.void_0.ensures ss ds n) o
