-- The way to the last item of an expression, one sequence after the other.
use mathlib.Core.Path.{◌≡◌, ◌∙◌, refl, sym}
use mathlib.Core.List.{List}
use Prim.Native.Nat.{ℕ, ◌+◌, ◌<◌, ◌≤◌}
use native.Mathlib.Omega.{arith}
use lib.ListN.{get_or, length}
use Rattle.script.specs.declared.ExpressionKind.TheVariants as expression
use Rattle.script.specs.Sound.{count_exprs, records_expr, records_exprs}
use Rattle.script.specs.Tree.{Expr, Exprs, assignment, call, conditional, expr_then, logical, name, no_exprs, not, number, sequence, strict_equality, void}
use Rattle.script.specs.Tree.{word}
use Rattle.records.specs.declared.record.DeclRecord.{DeclRecord}
use Rattle.records.specs.declared.record.ExprRecord.{ExprRecord}
use Rattle.records.specs.declared.record.StmtRecord.{StmtRecord}
use Rattle.records.specs.Embedding.{expr_row, exprs_row}
use Rattle.records.specs.Heap.{Heap, Place, blank_expr, cell, expr_at}
use Rattle.records.specs.Owned.{Short}
use Rattle.records.specs.Readable.{tables}
use Rattle.records.specs.Rows.{At, Row, end}
use Rattle.moves.specs.First.{expr_kind}
use Rattle.moves.specs.Last.{last_behind}
use Rattle.joining.specs.LastItem.{last_item_place, last_of_items_place, or_behind}
use Rattle.moves.proofs.ByKind.{expr_of_kind}
use Rattle.moves.proofs.First.{expr_first}
use Rattle.moves.proofs.Rows.{expr_behind}

-- the kind of the record where an expression stands
pub kind_there : (h : Heap) (i : ℕ) (e : Expr) (w : Row) → At h (expr_at i) (expr_row e w) → (get_or h.exprs i blank_expr).kind ≡ expr_kind e
kind_there h i e w a = let l = (rw (expr_first e w) at a).1 in cc

pub records_some : (e : Expr) → 1 ≤ records_expr e
records_some (number b) = omega arith
records_some (word c) = omega arith
records_some (name n) = omega arith
records_some (assignment n e) = omega arith
records_some (call n es) = omega arith
records_some (sequence e es) = omega arith
records_some (conditional t a b) = omega arith
records_some (logical o a b) = omega arith
records_some (not e) = omega arith
records_some (void e) = omega arith
records_some (strict_equality a b) = omega arith

pub counted_records : (es : Exprs) → count_exprs es ≤ records_exprs es
counted_records no_exprs = omega arith
counted_records (expr_then e es) = let a = records_some e in let b = counted_records es in omega arith

-- the last item of what is no sequence
no_items : (h : Heap) (k : Place) (e : Expr) → (expr_kind e ≡ expression.Sequence → ⊥) → last_item_place h k e ≡ k
no_items h k (number b) n = refl
no_items h k (word c) n = refl
no_items h k (name m) n = refl
no_items h k (assignment m e) n = refl
no_items h k (call m es) n = refl
no_items h k (sequence e es) n = absurd (n refl)
no_items h k (conditional t a b) n = refl
no_items h k (logical o a b) n = refl
no_items h k (not e) n = refl
no_items h k (void e) n = refl
no_items h k (strict_equality a b) n = refl

-- the last expression of a row, whose last item is that of the row
abbrev LastOfRow : Heap → ℕ → Expr → Exprs → Type 0
LastOfRow h i e es =
    (k : ℕ) × (x : Expr) × (expr_at k ≡ last_behind h (expr_at i) es) × At h (expr_at k) (expr_row x end)
    × (last_item_place h (expr_at k) x ≡ or_behind es (last_item_place h (expr_at i) e) (last_of_items_place h (cell h (expr_at i)).next es))
    × (records_expr x ≤ records_expr e + records_exprs es)

last_of_row : (es : Exprs) (h : Heap) (i : ℕ) (e : Expr) → At h (expr_at i) (expr_row e (exprs_row es)) → LastOfRow h i e es
last_of_row no_exprs h i e a = (i, e, refl, a, refl, omega arith)
last_of_row (expr_then x xs) h i e a =
    let q = last_of_row xs h (get_or h.exprs i blank_expr).next x (expr_behind h i e (exprs_row (expr_then x xs)) a) in
    let r = q.5 in
    (q.0, q.1, q.2, q.3, q.4, omega arith)

-- as many sequences are passed, and what is left leads to the same item
abbrev pub ToLast : List ExprRecord → ℕ → ℕ → ℕ → Type 0
ToLast exprs at last n =
    (ss : List StmtRecord) (ds : List DeclRecord) (e : Expr) (w : Row) → Short (tables exprs ss ds) → At (tables exprs ss ds) (expr_at at) (expr_row e w)
    → records_expr e ≤ length exprs
    → (e' : Expr) × (w' : Row) × At (tables exprs ss ds) (expr_at last) (expr_row e' w')
    × (last_item_place (tables exprs ss ds) (expr_at last) e' ≡ last_item_place (tables exprs ss ds) (expr_at at) e)
    × (records_expr e' + n ≤ records_expr e)

module _ (exprs : List ExprRecord) (at last n : ℕ) (inv : ToLast exprs at last n) where
  -- no sequence stands here: this is the last item
  pub is_last : ((get_or exprs last blank_expr).kind ≡ expression.Sequence → ⊥) → (ss : List StmtRecord) (ds : List DeclRecord) (e : Expr) (w : Row)
      → Short (tables exprs ss ds) → At (tables exprs ss ds) (expr_at at) (expr_row e w) → records_expr e ≤ length exprs
      → expr_at last ≡ last_item_place (tables exprs ss ds) (expr_at at) e
  is_last ne ss ds e w s a l =
      let q = inv ss ds e w s a l in
      let k = kind_there (tables exprs ss ds) last q.0 q.1 q.2 in
      sym (no_items (tables exprs ss ds) (expr_at last) q.0 (λ z. ne (k ∙ z))) ∙ q.3

  -- one sequence more is passed
  pub into_last : (k : ℕ) → expression.Sequence ≡ (get_or exprs last blank_expr).kind
      → ((ss : List StmtRecord) (ds : List DeclRecord) (e : Expr) (es : Exprs) → Short (tables exprs ss ds)
      → At (tables exprs ss ds) (expr_at (get_or exprs last blank_expr).first) (expr_row e (exprs_row es)) → count_exprs es < length exprs
      → expr_at k ≡ last_behind (tables exprs ss ds) (expr_at (get_or exprs last blank_expr).first) es)
      → ToLast exprs at k (n + 1)
  into_last k z row ss ds e w s a l = by q.0 q.1 q.2 q.3 q.4
    where
      q : (e' : Expr) × (w' : Row) × At (tables exprs ss ds) (expr_at last) (expr_row e' w')
          × (last_item_place (tables exprs ss ds) (expr_at last) e' ≡ last_item_place (tables exprs ss ds) (expr_at at) e)
          × (records_expr e' + n ≤ records_expr e)
      q = inv ss ds e w s a l

      in_sequence : (x : Expr) (xs : Exprs) (v : Row) → At (tables exprs ss ds) (expr_at last) (expr_row (sequence x xs) v)
          → last_item_place (tables exprs ss ds) (expr_at last) (sequence x xs) ≡ last_item_place (tables exprs ss ds) (expr_at at) e
          → records_expr (sequence x xs) + n ≤ records_expr e
          → (e' : Expr) × (w' : Row) × At (tables exprs ss ds) (expr_at k) (expr_row e' w')
          × (last_item_place (tables exprs ss ds) (expr_at k) e' ≡ last_item_place (tables exprs ss ds) (expr_at at) e)
          × (records_expr e' + (n + 1) ≤ records_expr e)
      in_sequence x xs v b i c =
          let first = (get_or exprs last blank_expr).first in
          let t = last_of_row xs (tables exprs ss ds) first x b.2 in
          let cr = counted_records xs in
          let u = row ss ds x xs s b.2 (omega arith) in
          let y : k ≡ t.0 = let g = t.2 in cc in
          let r = t.5 in (t.1, end, rw y t.3, rw y (t.4 ∙ i), omega arith)

      by : (x : Expr) (v : Row) → At (tables exprs ss ds) (expr_at last) (expr_row x v)
          → last_item_place (tables exprs ss ds) (expr_at last) x ≡ last_item_place (tables exprs ss ds) (expr_at at) e
          → records_expr x + n ≤ records_expr e
          → (e' : Expr) × (w' : Row) × At (tables exprs ss ds) (expr_at k) (expr_row e' w')
          × (last_item_place (tables exprs ss ds) (expr_at k) e' ≡ last_item_place (tables exprs ss ds) (expr_at at) e)
          × (records_expr e' + (n + 1) ≤ records_expr e)
      by x v b i c =
          let f = expr_of_kind x (z ∙ kind_there (tables exprs ss ds) last x v b) in
          in_sequence f.0 f.1 v (rw f.2 at b) (rw f.2 at i) (rw f.2 at c)

  -- as many turns as there are records are more than there are sequences
  pub no_last : (ss : List StmtRecord) (ds : List DeclRecord) (e : Expr) (w : Row)
      → Short (tables exprs ss ds) → At (tables exprs ss ds) (expr_at at) (expr_row e w) → records_expr e ≤ length exprs → length exprs ≤ n → ⊥
  no_last ss ds e w s a l m =
      let q = inv ss ds e w s a l in
      let c = q.4 in
      let r = records_some q.0 in
      omega arith
