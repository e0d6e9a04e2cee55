use Rattle.std.proofs.Common.{sym, ◌∙◌}
use Rattle.moves.proofs.Single.{give_stmt_of}
use Rattle.predicates.specs.Held.{holder_of}
use Rattle.unreachable.proofs.LastJump.{jump_goes, jump_stays}
use Rattle.unreachable.proofs.Rows.{no_stmt_nowhere, stmt_fits}
use Rattle.unreachable.proofs.jumps.drop_last_jump.Goals as goal
use Rattle.unreachable.proofs.jumps.drop_last_jump.Goals.{then-results-eq-NOWHERE-via-then-results-eq-NOWHERE}
use Rattle.unreachable.proofs.jumps.drop_last_jump.Goals.{then-results-eq-NOWHERE-via-else-results-eq-NOWHERE+then-not-can_remove_termination_statement}

pub returns-then-results-eq-NOWHERE : goal.returns-then-results-eq-NOWHERE
returns-then-results-eq-NOWHERE c es ds rs loose rest o =
    elim c.then-results-eq-NOWHERE.branch [
      | then-results-eq-NOWHERE-via-then-results-eq-NOWHERE w ↦
          jump_stays (holder_of c.args.holder) rs (λ x v q. absurd (no_stmt_nowhere x v w.if-results-eq-NOWHERE.true q)) o
      | then-results-eq-NOWHERE-via-else-results-eq-NOWHERE+then-not-can_remove_termination_statement w ↦
          jump_stays (holder_of c.args.holder) rs
          (λ x v q. sym (w.can_remove_termination_statement.ensures es ds x v q.short q.held.0 (stmt_fits x v q))
          ∙ w.if-not-can_remove_termination_statement.true) o
    ]

pub returns : goal.returns
returns c es ds rs loose rest o =
    rw c.record_at-rest.ensures
    (jump_goes (holder_of c.args.holder) rs c.if-results-eq-NOWHERE.false
    (λ x w q. sym (c.can_remove_termination_statement.ensures es ds x w q.short q.held.0 (stmt_fits x w q))
    ∙ c.if-not-can_remove_termination_statement.false)
    (λ roots q. give_stmt_of c.args.results c.give.new.table c.give.new.pool c.give.ensures q) o)
