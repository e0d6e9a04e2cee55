-- The marked cases, by computation.
use Rattle.std.proofs.Common.{refl}
use Rattle.rules.specs.Laws.{MarkedCasesHold, MarkedCasesOpen}

pub marked_cases_hold : MarkedCasesHold
marked_cases_hold = (refl, (refl, (refl, (refl, (refl, (refl, (refl, (refl, (refl, (refl, (refl, (refl, (refl, tt)))))))))))))

pub marked_cases_open : MarkedCasesOpen
marked_cases_open = ((refl, (refl, (refl, (refl, (refl, (refl, (refl, (refl, (refl, (refl, (refl, (refl, (refl, tt))))))))))))), (refl, tt), (refl, tt))
