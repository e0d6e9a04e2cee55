use Rattle.std.proofs.Common.{sym, ◌∙◌}
use Rattle.moves.proofs.Single.{give_stmt_of}
use Rattle.merging.proofs.Declaring.{declared_alone, declared_joined}
use Rattle.merging.proofs.declaration.join_declarations.Goals as goal

pub returns-then-may_join : goal.returns-then-may_join
returns-then-may_join c es ds r loose rest o =
    let q = c.record_at-newest.ensures in
    declared_joined c.args.join_vars c.args.kind ds r (rw q at (sym c.may_join.ensures ∙ c.if-may_join.true))
    (rw q at (c.append_names-row.ensures es c.args.stmts.now c.args.pools.now))
    (λ roots o₁. give_stmt_of c.args.at c.give.new.table c.give.new.pool (rw (c.set.ensures, q) at c.give.ensures) o₁) o

pub returns : goal.returns
returns c es ds r loose rest o =
    rw c.set-2.ensures
    (declared_alone c.args.join_vars c.args.kind ds r (rw c.record_at-newest.ensures at (sym c.may_join.ensures ∙ c.if-may_join.false)) o)
