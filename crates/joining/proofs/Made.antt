-- What is owned after an expression was made of new records.
use mathlib.Core.List.{List, [], ◌∷◌}
use Prim.Native.Nat.{ℕ}
use lib.ListN.{get_or, set}
use Rattle.script.specs.declared.ExpressionKind.{ExpressionKind}
use Rattle.script.specs.Tree.{Expr}
use Rattle.records.specs.declared.record.DeclRecord.{DeclRecord}
use Rattle.records.specs.declared.record.ExprRecord.{ExprRecord}
use Rattle.records.specs.declared.record.Pools.{Pools}
use Rattle.records.specs.declared.record.StmtRecord.{StmtRecord}
use Rattle.records.specs.Embedding.{expr_row}
use Rattle.records.specs.Heap.{Place, blank_expr, expr_at, expr_label}
use Rattle.records.specs.Owned.{Owns, Root}
use Rattle.records.specs.Readable.{tables}
use Rattle.records.specs.Rows.{Row, end, node}
use Rattle.moves.specs.Moved.{Moved}
use Rattle.moves.proofs.Frames.{arrange, then_use}
use Rattle.moves.proofs.Open.{close_expr, kind_of_expr, open_expr}
use Rattle.moves.proofs.Single.{put_expr_of}

module _ {exprs : List ExprRecord} {ss : List StmtRecord} {ds : List DeclRecord} {loose : List Place} {rest : List Root} where
  -- the content of a record moved into a new one, which is the first part of what the record became
  pub wrapped : {p p' : Pools} {at row : ℕ} (inner : ℕ) (kind : ExpressionKind) (e : Expr) (w v : Row)
      → ((ks : List Place) (roots : List Root) → Owns (tables exprs ss ds) p ks roots → Owns (tables exprs ss ds) p' (expr_at inner ∷ ks) roots)
      → Owns (tables exprs ss ds) p loose ((expr_at at, expr_row e w) ∷ (expr_at row, v) ∷ rest)
      → Moved (tables exprs ss ds)
      (tables
      (set (set exprs inner (record { kind = (get_or exprs at blank_expr).kind; first = (get_or exprs at blank_expr).first; next = row })) at
      (record { kind = kind; first = inner; next = (get_or exprs at blank_expr).next })) ss ds)
      p' loose ((expr_at at, node (expr_label kind) (expr_row e v) end end w) ∷ rest)
  wrapped {at = at} {row = row} inner kind e w v takes o =
      let o₁ = takes (expr_at at ∷ loose)
      ((expr_at (get_or exprs at blank_expr).first, _) ∷ (expr_at (get_or exprs at blank_expr).next, w) ∷ (expr_at row, v) ∷ rest) (open_expr e w o) in
      then_use (close_expr e v _ (kind_of_expr e w o) (arrange (0 ∷ 1 ∷ []) o₁)) (λ q. put_expr_of at _ q)
