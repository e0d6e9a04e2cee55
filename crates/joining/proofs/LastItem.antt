-- The way to the last item of an expression, and work there as work on the whole expression.
use mathlib.Core.Path.{◌≡◌, refl}
use mathlib.Core.List.{List, [], ◌++◌, ◌∷◌}
use Prim.Native.Nat.{ℕ, ◌≤◌}
use native.Mathlib.Omega.{arith}
use lib.ListN.{get_or}
use Rattle.script.specs.Sound.{count_exprs}
use Rattle.script.specs.Tree.{Expr, Exprs, assignment, call, conditional, expr_then, logical, name, no_exprs, not, number, sequence, strict_equality, void}
use Rattle.script.specs.Tree.{word}
use Rattle.records.specs.declared.record.Pools.{Pools}
use Rattle.records.specs.Embedding.{expr_row, exprs_row}
use Rattle.records.specs.Heap.{Heap, Place, blank_expr, expr_at}
use Rattle.records.specs.Owned.{Owns, Root}
use Rattle.records.specs.Rows.{Row, end}
use Rattle.rules.specs.Expressions.{at_last_item, at_last_of_items}
use Rattle.moves.specs.First.{expr_parts}
use Rattle.moves.specs.Moved.{Moved, Turns}
use Rattle.joining.specs.LastItem.{last_item_place, last_of_items_place}
use Rattle.records.proofs.Moves.{pick}
use Rattle.moves.proofs.Exchanged.{exchange}
use Rattle.moves.proofs.Frames.{regroup}
use Rattle.moves.proofs.Lenses.{inside_expr}

-- work at a place that turns any expression there, given further rows, into what f makes of it
module _ {h h' : Heap} {p p' : Pools} {j : ℕ} (given : List Root) (f : Expr → Expr)
    (works : (y : Expr) (w : Row) (loose : List Place) (rest : List Root) → Owns h p loose ((expr_at j, expr_row y w) ∷ (rest ++ given))
    → Moved h h' p' loose ((expr_at j, expr_row (f y) w) ∷ rest)) where
  here : (y : Expr) (w : Row) (i : ℕ) → expr_at j ≡ expr_at i → (loose : List Place) (rest : List Root)
      → Owns h p loose ((expr_at i, expr_row y w) ∷ (rest ++ given)) → Moved h h' p' loose ((expr_at i, expr_row (f y) w) ∷ rest)
  here y w i z loose rest o =
      let q : i ≡ j = cc in rw q (works y w loose rest (rw q at o))

  mutual
    in_item : (e : Expr) (w : Row) (i : ℕ) → expr_at j ≡ last_item_place h (expr_at i) e → (loose : List Place) (rest : List Root)
        → Owns h p loose ((expr_at i, expr_row e w) ∷ (rest ++ given)) → Moved h h' p' loose ((expr_at i, expr_row (at_last_item f e) w) ∷ rest)
    in_item (number b) w i z loose rest o = here (number b) w i z loose rest o
    in_item (word c) w i z loose rest o = here (word c) w i z loose rest o
    in_item (name n) w i z loose rest o = here (name n) w i z loose rest o
    in_item (assignment n e) w i z loose rest o = here (assignment n e) w i z loose rest o
    in_item (call n es) w i z loose rest o = here (call n es) w i z loose rest o
    in_item (sequence e no_exprs) w i z loose rest o =
        inside_expr (sequence e no_exprs) (sequence (at_last_item f e) no_exprs) w w refl o
        (λ o₁. in_item e end (get_or h.exprs i blank_expr).first z (expr_at i ∷ loose) ((expr_at (get_or h.exprs i blank_expr).next, w) ∷ rest) o₁)
    in_item (sequence e (expr_then x xs)) w i z loose rest o =
        inside_expr (sequence e (expr_then x xs)) (sequence e (at_last_of_items f (expr_then x xs))) w w refl o
        (λ o₁. inside_expr e e (exprs_row (expr_then x xs)) (exprs_row (at_last_of_items f (expr_then x xs))) refl o₁
        (λ o₂. regroup
        (in_items (expr_then x xs) (omega arith) (get_or h.exprs (get_or h.exprs i blank_expr).first blank_expr).next z
        (expr_at (get_or h.exprs i blank_expr).first ∷ expr_at i ∷ loose)
        ((expr_at (get_or h.exprs (get_or h.exprs i blank_expr).first blank_expr).first, expr_parts e)
        ∷ (expr_at (get_or h.exprs i blank_expr).next, w) ∷ rest)
        (pick 1 o₂))
        (λ o₃. pick 1 o₃)))
    in_item (conditional t a b) w i z loose rest o = here (conditional t a b) w i z loose rest o
    in_item (logical k a b) w i z loose rest o = here (logical k a b) w i z loose rest o
    in_item (not e) w i z loose rest o = here (not e) w i z loose rest o
    in_item (void e) w i z loose rest o = here (void e) w i z loose rest o
    in_item (strict_equality a b) w i z loose rest o = here (strict_equality a b) w i z loose rest o

    in_items : (es : Exprs) → 1 ≤ count_exprs es → (i : ℕ) → expr_at j ≡ last_of_items_place h (expr_at i) es → (loose : List Place) (rest : List Root)
        → Owns h p loose ((expr_at i, exprs_row es) ∷ (rest ++ given)) → Moved h h' p' loose ((expr_at i, exprs_row (at_last_of_items f es)) ∷ rest)
    in_items no_exprs n i z loose rest o = absurd (omega arith)
    in_items (expr_then e no_exprs) n i z loose rest o = in_item e end i z loose rest o
    in_items (expr_then e (expr_then x xs)) n i z loose rest o =
        inside_expr e e (exprs_row (expr_then x xs)) (exprs_row (at_last_of_items f (expr_then x xs))) refl o
        (λ o₁. regroup
        (in_items (expr_then x xs) (omega arith) (get_or h.exprs i blank_expr).next z (expr_at i ∷ loose)
        ((expr_at (get_or h.exprs i blank_expr).first, expr_parts e) ∷ rest) (pick 1 o₁))
        (λ o₂. pick 1 o₂))

-- what a routine does at the last item it does to the whole expression
pub at_last : {h h' : Heap} {p p' : Pools} {i j : ℕ} (given : List Root) (f : Expr → Expr)
    → ((y : Expr) (w : Row) → Turns h p h' p' [] ((expr_at j, expr_row y w) ∷ given) ((expr_at j, expr_row (f y) w) ∷ []))
    → (e : Expr) (w : Row) → expr_at j ≡ last_item_place h (expr_at i) e
    → Turns h p h' p' [] ((expr_at i, expr_row e w) ∷ given) ((expr_at i, expr_row (at_last_item f e) w) ∷ [])
at_last {i = i} given f works e w z loose rest o =
    in_item given f (λ y v ks rs q. works y v ks rs (exchange rs given q)) e w i z loose rest (exchange given rest o)
