use Rattle.std.proofs.Common.{refl, length, arith, rules}
use Rattle.rules.specs.Statements.{any_cares_about_scope, statement_cares_about_scope}
use Rattle.predicates.proofs.statements.any_cares_about_scope.Goals as goal

pub returns : goal.returns
returns c es ds xs s a n =
    c.any_of_row.ensures statement_cares_about_scope any_cares_about_scope (length c.args.stmts.now) (record { none = refl; more = λ x xs. refl })
    (λ at b p. search rules) es ds xs s a n (omega arith)
