use Rattle.std.proofs.Common.{rules}
use Rattle.jumping.proofs.Optional.{absent_there, bare_body, bare_other}
use Rattle.jumping.proofs.jump.Jump.may_merge.Goals.{in-Return-Body, in_default, in_default-2}
use Rattle.jumping.proofs.jump.Jump.may_merge.Goals as goal

pub returns-then-value-eq-NOWHERE : goal.returns-then-value-eq-NOWHERE
returns-then-value-eq-NOWHERE c ss ds v s a n =
    rw (absent_there v s a c.if-value-eq-NOWHERE.true)
    (elim c.match-matches.branch [
      | in-Return-Body w ↦ bare_body c.args.self c.match-matches.matches (search rules) w.matches-is
      | in_default w ↦ bare_other c.args.self c.match-matches.matches (search rules) w.matches-is
      | in_default-2 w ↦ bare_other c.args.self c.match-matches.matches (search rules) w.matches-is
    ])
