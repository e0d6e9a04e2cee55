use Rattle.std.proofs.Common.{[], ◌∷◌, refl}
use Rattle.records.specs.Embedding.{stmts_row}
use Rattle.records.specs.Heap.{expr_at, stmt_at}
use Rattle.moves.proofs.Frames.{arrange, regroup, then_move}
use Rattle.moves.proofs.Single.{give_stmt_of}
use Rattle.moves.proofs.Trees.{linked_expr}
use Rattle.heading.specs.Fronts.{joined_init}
use Rattle.heading.proofs.Fronting.{expression_opened}
use Rattle.heading.proofs.heads.take_expression.Goals as goal

pub returns : goal.returns
returns c ds v w y a r n loose rest o =
    let e = c.record_at-last.ensures in
    record {
      init = refl;
      moved = regroup
          (then_move
          (then_move (give_stmt_of c.args.front.results c.give.new.table c.give.new.pool c.give.ensures (rw e (expression_opened v w y a r o)))
          (λ o₁. c.join_init-joined.ensures c.give.new.table ds a v n loose
          ((stmt_at c.record_at-last.result.next, stmts_row r) ∷ (expr_at c.args.front.values, w) ∷ (stmt_at c.args.front.inner, y) ∷ rest) o₁))
          (λ o₂. linked_expr c.join_init-joined.new.exprs c.link.new.table c.join_init-joined.result c.args.front.values c.link.ensures.turns c.give.new.table ds
          c.join_init-joined.new.pools (joined_init a v) w loose
          ((stmt_at c.record_at-last.result.next, stmts_row r) ∷ (stmt_at c.args.front.inner, y) ∷ rest) (arrange (0 ∷ 1 ∷ []) o₂)))
          (λ o₃. arrange (0 ∷ 1 ∷ []) o₃);
    }
