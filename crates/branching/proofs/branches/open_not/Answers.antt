use Rattle.branching.proofs.Opening.{gives_not}
use Rattle.branching.proofs.branches.open_not.Goals as goal

pub returns : goal.returns
returns c ss ds s d e loose rest o =
    rw c.record_at-expr.ensures (gives_not e _ _ c.give.ensures o)
