use Rattle.moves.proofs.Single.{give_stmt_of}
use Rattle.merging.proofs.WorkedOn.{push_none, push_some}
use Rattle.merging.proofs.statement.push_worked.Goals as goal

pub returns-then-target-eq-NOWHERE : goal.returns-then-target-eq-NOWHERE
returns-then-target-eq-NOWHERE c es ds v r loose rest o =
    push_none v r c.if-target-eq-NOWHERE.true (λ roots o₁. give_stmt_of c.args.at c.give.new.table c.give.new.pool c.give.ensures o₁) o

pub returns : goal.returns
returns c es ds v r loose rest o = rw c.set.ensures (push_some v r c.if-target-eq-NOWHERE.false o)
