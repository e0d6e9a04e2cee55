-- How many records are spare.
use mathlib.Core.Path.{◌≡◌}
use mathlib.Core.List.{List, [], ◌∷◌}
use Prim.Native.Nat.{ℕ, ◌+◌, ◌≤◌}
use native.Mathlib.Omega.{arith}
use Rattle.script.specs.Judge.{Spares}
use Rattle.script.specs.Tree.{Expr}
use Rattle.records.specs.declared.record.Pools.{Pools}
use Rattle.records.specs.Embedding.{expr_row}
use Rattle.records.specs.Heap.{Heap, Place, expr_at}
use Rattle.records.specs.Owned.{Owns, Root}
use Rattle.records.specs.Rows.{Row}
use Rattle.rules.specs.Budget.{AtMost, to_take}
use Rattle.rules.specs.Expressions.{minimize_not}
use Rattle.records.proofs.Tallies.{lengths, records_expr_row}
use Rattle.rules.proofs.BudgetExpressions.{minimize_not_records}
use Rattle.joining.specs.Needs.{Enough}
use Rattle.moves.proofs.Spared.{spared}

-- enough for fewer
pub fewer : {k : Spares} {e s : ℕ} → AtMost (to_take e s) k → (e' s' : ℕ) → e' ≤ e → s' ≤ s → AtMost (to_take e' s') k
fewer n e' s' i j = let x = n.exprs in let y = n.stmts in record { exprs = omega arith; stmts = omega arith; decls = omega arith }

-- a `!` takes one expression at most
pub spared_by_not : {h h' : Heap} {p p' : Pools} {loose : List Place} {rest : List Root} {i : ℕ} (e : Expr) (w : Row) (n m : ℕ) → lengths h ≡ lengths h'
    → Enough (to_take (n + 1) m) p → Owns h p loose ((expr_at i, expr_row e w) ∷ rest)
    → Owns h' p' loose ((expr_at i, expr_row (minimize_not e) w) ∷ rest) → Enough (to_take n m) p'
spared_by_not {loose = loose} {rest = rest} {i = i} e w n m l k o o' =
    let s = spared loose rest [] ((expr_at i, expr_row e w) ∷ []) ((expr_at i, expr_row (minimize_not e) w) ∷ []) l o o' in
    let a = records_expr_row e w in
    let b = records_expr_row (minimize_not e) w in
    let r = minimize_not_records e in
    record {
      exprs = (let u = k.exprs in let x = s.exprs in let y = a.exprs in let z = b.exprs in omega arith);
      stmts = (let u = k.stmts in let x = s.stmts in let y = a.stmts in let z = b.stmts in omega arith);
      decls = omega arith;
    }
