use Rattle.records.specs.Rows.{end}
use Rattle.moves.proofs.Frames.{kept_both, kept_others}
use Rattle.moves.proofs.Single.{give_stmt_of}
use Rattle.jumping.proofs.arguments.join_arguments.Goals as goal

pub returns : goal.returns
returns c ds t x y n loose rest o =
    let g = give_stmt_of c.args.inner c.give.new.table c.give.new.pool c.give.ensures o in
    let g₂ = give_stmt_of c.args.at c.give-2.new.table c.give-2.new.pool c.give-2.ensures g.owned in
    let m = c.minimize_conditional.ensures c.give-2.new.table ds t x y end n loose rest g₂.owned in
    record { owned = m.owned; kept = kept_both (kept_both (kept_others g.kept) g₂.kept) m.kept }
