use Rattle.branching.proofs.Opening.{gives_expression}
use Rattle.branching.proofs.branches.open_expression.Goals as goal

pub returns : goal.returns
returns c es ds a d e loose rest o =
    rw c.record_at-stmt.ensures (gives_expression e _ _ c.give.ensures o)
