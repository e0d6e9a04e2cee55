use Rattle.heading.proofs.Fronting.{declaration_put, vars_joined}
use Rattle.heading.proofs.heads.head_from_declaration.Goals as goal

pub returns-else-can_join_vars : goal.returns-else-can_join_vars
returns-else-can_join_vars c es k xs w y r loose rest o =
    declaration_put c.args.sequences c.can_join_vars.result k xs w y r c.can_join_vars.ensures c.if-can_join_vars.false o

pub returns-then-can_join_vars : goal.returns-then-can_join_vars
returns-then-can_join_vars c es k xs w y r loose rest o =
    vars_joined c.args.sequences c.can_join_vars.result k xs w y r c.can_join_vars.ensures c.if-can_join_vars.true
    (λ zs z. c.join_vars-results.ensures es k zs xs y z) o
