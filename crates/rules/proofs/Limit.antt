-- The limit of the mergers, by computation.
use Rattle.std.proofs.Common.{refl}
use Rattle.rules.specs.Limit.{StopsAt500}

pub mergers_stop_at_500 : StopsAt500
mergers_stop_at_500 = (refl, refl, refl, refl)
