use mathlib.Core.List.{◌∷◌}
use mathlib.Core.Path.{◌∙◌, sym}
use native.Mathlib.Omega.{arith}
use Rattle.script.specs.declared.LogicalOperator.TheVariants.{And}
use Rattle.script.specs.Tree.{block, no_alternate, no_stmts, stmt_then}
use Rattle.records.specs.declared.record.Pools.{Pools}
use Rattle.records.specs.Embedding.{expr_row}
use Rattle.records.specs.Heap.{expr_at, stmt_at}
use Rattle.records.specs.Rows.{end}
use Rattle.records.proofs.Moves.{pick}
use Rattle.rules.specs.Expressions.{join_with_left_associative_op}
use Rattle.rules.specs.Ifs.{branch?, if_to_logical, wrap_to_avoid_ambiguous_else}
use Rattle.moves.proofs.Frames.{then_move, then_use}
use Rattle.branching.proofs.Rules.{alone_in_braces, of_kind}
use Rattle.branching.proofs.Spares.{fewer}
use Rattle.branching.proofs.minimize.minimize_if_alone.Goals as goal

pub returns-in-Expression : goal.returns-in-Expression
returns-in-Expression c ds t x n loose rest o =
    let p = c.args.pools.now in
    let b = c.branch_of.ensures c.args.exprs.now ds x end o.short o.held.1.0 in
    let s = of_kind (branch? x) (sym c.in-Expression.is ∙ b) in
    rw s.1
    (then_use
    (then_move
    (c.open_expression-expr.ensures c.args.exprs.now ds p.exprs p.decls s.0 (stmt_at c.args.parts.at ∷ loose)
    ((expr_at c.args.parts.test, expr_row t end) ∷ rest) (pick 1 (rw s.1 at o)))
    (λ o₁. c.if_to_logical.ensures c.open_expression-expr.new.stmts ds t s.0 n.exprs (stmt_at c.args.parts.at ∷ loose) rest (pick 1 o₁)))
    (λ o₂. c.write_expression.ensures c.if_to_logical.new.exprs ds c.if_to_logical.new.pools (if_to_logical t s.0) loose rest o₂))

pub returns-in-LoneIf : goal.returns-in-LoneIf
returns-in-LoneIf c ds t x n loose rest o =
    let b = c.branch_of.ensures c.args.exprs.now ds x end o.short o.held.1.0 in
    let s = of_kind (branch? x) (sym c.in-LoneIf.is ∙ b) in
    rw s.2
    (then_use
    (c.merge_inner_if-body.ensures ds t s.0 s.1 (fewer n 1 1 (omega arith) (omega arith)) (stmt_at c.args.parts.at ∷ loose) rest
    (rw s.2 at o))
    (λ o₁. c.write_if.ensures c.merge_inner_if-body.new.exprs ds c.merge_inner_if-body.new.pools
    (join_with_left_associative_op And t s.0) (wrap_to_avoid_ambiguous_else (branch? s.1)) no_alternate loose rest o₁))

pub returns-in-FullIf : goal.returns-in-FullIf
returns-in-FullIf c ds t x n loose rest o =
    let p = c.args.pools.now in
    let p₁ : Pools = record { exprs = p.exprs; stmts = c.put_in_braces-braces.new.spares; decls = p.decls } in
    let b = c.branch_of.ensures c.args.exprs.now ds x end o.short o.held.1.0 in
    rw (sym (alone_in_braces t x (sym c.in-FullIf.is ∙ b)))
    (then_use
    (c.put_in_braces-braces.ensures c.args.exprs.now ds p.exprs p.decls x end n.stmts (stmt_at c.args.parts.at ∷ loose)
    ((expr_at c.args.parts.test, expr_row t end) ∷ rest) (pick 1 o))
    (λ o₁. c.write_if-in-FullIf.ensures c.args.exprs.now ds p₁ t (block (stmt_then x no_stmts)) no_alternate loose rest (pick 1 o₁)))

pub returns-in-Other : goal.returns-in-Other
returns-in-Other c ds t x n loose rest o =
    let b = c.branch_of.ensures c.args.exprs.now ds x end o.short o.held.1.0 in
    rw (of_kind (branch? x) (sym c.in-Other.is ∙ b)) (c.write_if-in-Other.ensures c.args.exprs.now ds c.args.pools.now t x no_alternate loose rest o)
