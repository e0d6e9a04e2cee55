use mathlib.Core.List.{◌∷◌}
use mathlib.Core.Path.{◌∙◌, sym}
use Rattle.script.specs.Tree.{alternate}
use Rattle.records.specs.declared.record.Pools.{Pools}
use Rattle.records.specs.Embedding.{expr_row, stmt_row}
use Rattle.records.specs.Heap.{expr_at, stmt_at}
use Rattle.records.specs.Rows.{end}
use Rattle.records.proofs.Moves.{pick}
use Rattle.rules.specs.Expressions.{not?}
use Rattle.rules.specs.Ifs.{branch?, wrap_to_avoid_ambiguous_else}
use Rattle.moves.proofs.Frames.{then_move, then_use}
use Rattle.branching.proofs.Rules.{in_order, swapped}
use Rattle.branching.proofs.minimize.swap_branches.Goals as goal

pub returns-then-can_swap : goal.returns-then-can_swap
returns-then-can_swap c ds t x y n loose rest o =
    let p = c.args.pools.now in
    let p₁ : Pools = record { exprs = c.open_not-expr.new.spares; stmts = p.stmts; decls = p.decls } in
    let b = c.can_swap.ensures ds t end x y end o.short o.held.0 o.held.1.0 in
    let s = swapped (not? t) x (branch? y) (sym b ∙ c.if-can_swap.true) in
    rw (sym s.2)
    (then_use
    (then_move
    (c.open_not-expr.ensures c.args.stmts.now ds p.stmts p.decls s.0 (stmt_at c.args.parts.at ∷ loose)
    ((stmt_at c.args.parts.branches, stmt_row x (stmt_row y end)) ∷ rest) (rw s.1 at o))
    (λ o₁. c.exchange-swapped.ensures c.open_not-expr.new.exprs ds p₁ x y (stmt_at c.args.parts.at ∷ loose)
    ((expr_at c.open_not-expr.result, expr_row s.0 end) ∷ rest) (pick 1 o₁)))
    (λ o₂. c.write_if.ensures c.open_not-expr.new.exprs ds p₁ s.0 y (alternate x) loose rest (pick 1 o₂)))

pub returns-else-can_swap : goal.returns-else-can_swap
returns-else-can_swap c ds t x y n loose rest o =
    let p = c.args.pools.now in
    let p₁ : Pools = record { exprs = p.exprs; stmts = c.wrap_to_avoid_ambiguous_else-wrapped.new.spares; decls = p.decls } in
    let b = c.can_swap.ensures ds t end x y end o.short o.held.0 o.held.1.0 in
    rw (sym (in_order (not? t) x (branch? y) (sym b ∙ c.if-can_swap.false)))
    (then_use
    (c.wrap_to_avoid_ambiguous_else-wrapped.ensures c.args.exprs.now ds p.exprs p.decls x (stmt_row y end) n.stmts
    (stmt_at c.args.parts.at ∷ loose) ((expr_at c.args.parts.test, expr_row t end) ∷ rest) (pick 1 o))
    (λ o₁. c.write_if-else-can_swap.ensures c.args.exprs.now ds p₁ t (wrap_to_avoid_ambiguous_else (branch? x)) (alternate y) loose rest (pick 1 o₁)))
