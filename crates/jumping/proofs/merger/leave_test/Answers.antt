use Rattle.std.proofs.Common.{◌∷◌}
use Rattle.records.specs.Heap.{stmt_at}
use Rattle.moves.proofs.Frames.{kept_both, kept_others}
use Rattle.moves.proofs.Single.{give_stmt_of}
use Rattle.jumping.proofs.merger.leave_test.Goals as goal

pub returns : goal.returns
returns c ds t r n k loose rest o =
    let m = c.push_new_expression_stmt_to_result-left.ensures ds t r n k (stmt_at c.args.inner ∷ stmt_at c.args.at ∷ loose) rest o in
    let g = give_stmt_of c.args.inner c.give.new.table c.give.new.pool c.give.ensures m.owned in
    let g₂ = give_stmt_of c.args.at c.give-2.new.table c.give-2.new.pool c.give-2.ensures g.owned in
    record { owned = g₂.owned; kept = kept_both (kept_others (kept_both (kept_others m.kept) g.kept)) g₂.kept }
