-- Where a row begins nowhere there is none.
use Rattle.std.proofs.Common.{◌≡◌, List, ◌∷◌, refl, subst, arith}
use Rattle.records.specs.declared.record.Pools.{Pools}
use Rattle.records.specs.Heap.{Heap, Nowhere, Place, decl_at, expr_at, stmt_at}
use Rattle.records.specs.Owned.{Owns, Root, Short}
use Rattle.records.specs.Rows.{At, Row, end, node}
use Rattle.records.proofs.Moves.{end_out}

pub nothing_there : (h : Heap) (k : Place) (r : Row) → Short h → Nowhere k → At h k r → r ≡ end
nothing_there h k end s n a = refl
nothing_there h (expr_at i) (node l x y z w) s n a = let v = a.0 in let u = s.exprs in absurd (omega arith)
nothing_there h (stmt_at i) (node l x y z w) s n a = let v = a.0 in let u = s.stmts in absurd (omega arith)
nothing_there h (decl_at i) (node l x y z w) s n a = let v = a.0 in let u = s.decls in absurd (omega arith)

-- such a row is no root
pub nothing_out : {h : Heap} {p : Pools} {loose : List Place} {rest : List Root} {k : Place} {r : Row} → Nowhere k → Owns h p loose ((k, r) ∷ rest)
    → Owns h p loose rest
nothing_out {h} {p} {loose} {rest} {k} {r} n o =
    end_out (subst (λ (v : Row). Owns h p loose ((k, v) ∷ rest)) (nothing_there h k r o.short n o.held.0) o)
