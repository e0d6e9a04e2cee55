use Rattle.std.proofs.Common.{◌≡◌, length, ap, rules, tests}
use Rattle.unreachable.proofs.KeptVars.{push_noted}
use Rattle.unreachable.proofs.keeping.push_noted.Goals as goal

pub returns : goal.returns
returns c es l r q d s loose rest o =
    let n = ap length q.names in
    rw c.set.ensures
    (push_noted l r (λ (e : length l ≡ 0). search (rules, tests)) c.bare_row-names.auto.decls s
    (c.bare_row-names.ensures es c.args.stmts.now l q d) c.take-at.ensures o)
