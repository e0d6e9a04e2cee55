-- The records that a walk meets are those of the row.
use Rattle.std.proofs.Common.{◌≡◌, ℕ, zero, suc, [], ◌∷◌, get_or, refl, arith}
use Rattle.std.proofs.lemmas.Option.{slice_get-get_or, slice_get_past}
use Rattle.records.specs.Heap.{Heap, Within}
use Rattle.records.specs.Owned.{Short}
use Rattle.records.specs.Rows.{At, end}
use Rattle.records.specs.TableOf.{TableOf, Tabled}
use Rattle.records.specs.Walked.{walked}

module _ {R : Type 0} {t : TableOf R} {link : R → ℕ} {relinked : R → ℕ → R} (tabled : Tabled R t link relinked) where
  -- none where the row ends
  pub walked_end : (h : Heap) (i n : ℕ) → Short h → At h (t.place i) end → walked link (t.table h) i n ≡ []
  walked_end h i zero s a = refl
  walked_end h i (suc n) s a =
      let u = tabled.short h s in let e = tabled.nowhere_out i a in rw (slice_get_past (t.table h) i (omega arith)) refl

  -- where it does not, the record there and those behind it
  pub walked_node : (h : Heap) (i n : ℕ) → Within h (t.place i)
      → walked link (t.table h) i (suc n) ≡ (i, get_or (t.table h) i t.blank) ∷ walked link (t.table h) (link (get_or (t.table h) i t.blank)) n
  walked_node h i n v = rw (slice_get-get_or (t.table h) i t.blank (tabled.within_out h i v)) refl
