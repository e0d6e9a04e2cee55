-- The way along a chain to its last place.
use Rattle.std.proofs.Common.{◌≡◌, ℕ, zero, suc, ◌<◌, ◌≤◌, List, map, length, get_or, fold, sym, refl, ap, ◌∙◌, subst, arith}
use lib.ListN.{length-map}
use Rattle.std.proofs.lemmas.List.{get_or-map}
use Rattle.std.proofs.lemmas.Option.{slice_get-get_or, slice_get_past}
use Rattle.pool.specs.Chain.{Chain, nowhere}
use Rattle.records.specs.Heap.{Heap, Label, Place}
use Rattle.records.specs.Rows.{At, Row, end, node, row_length}
use Rattle.records.specs.TableOf.{TableOf, Tabled}
use Rattle.records.specs.Walked.{walked}
use Rattle.records.proofs.Counting.{at_next, link_there, next_there, row_chain, there}
use Rattle.moves.specs.Front.{links_on}
use Rattle.moves.specs.Last.{IsLast, last_place}

-- the place of the last of these records, and the one before them where there are none
abbrev pub last_met : {R : Type 0} → ℕ → List (ℕ × R) → ℕ
last_met = fold (λ i x. x.0)

-- a walk along a chain ends at its last place
module _ {R : Type 0} (blank : R) (link : R → ℕ) (xs : List R) (short : length xs ≤ nowhere) where
  none_met : (d i n : ℕ) → i ≡ nowhere → last_met d (walked link xs i n) ≡ d
  none_met d i zero e = refl
  none_met d i (suc n) e = rw (slice_get_past xs i (omega arith)) refl

  one_met : (d i n : ℕ) → i < length (map link xs) → last_met d (walked link xs i (suc n)) ≡ last_met i (walked link xs (get_or (map link xs) i 0) n)
  one_met d i n v =
      let l = length-map xs link in
      rw (get_or-map link xs i blank 0 (omega arith)) (rw (slice_get-get_or xs i blank (omega arith)) refl)

  pub last_walked : (d i n k : ℕ) → n < k → Chain (map link xs) i (suc n) → last_met d (walked link xs i k) ≡ links_on (map link xs) i n
  last_walked d i n zero b c = absurd (omega arith)
  last_walked d i zero (suc k) b c = one_met d i k c.0 ∙ none_met i _ k c.1
  last_walked d i (suc n) (suc k) b c = one_met d i k c.0 ∙ last_walked i _ n k (omega arith) c.1

-- so it ends where the last record of the row is
module _ {R : Type 0} {t : TableOf R} {link : R → ℕ} {relinked : R → ℕ → R} (tabled : Tabled R t link relinked) where
  links_to_last : (h : Heap) (i : ℕ) (l : Label) (x y z w : Row) → At h (t.place i) (node l x y z w)
      → last_place h (t.place i) w ≡ t.place (links_on (map link (t.table h)) i (row_length w))
  links_to_last h i l x y z end a = refl
  links_to_last h i l x y z (node m b c d w) a =
      let v = tabled.within_out h i a.0 in
      ap (λ (k : Place). last_place h k w) (next_there tabled h i)
      ∙ links_to_last h (link (there tabled h i)) m b c d w (at_next tabled h i (node m b c d w) a.5)
      ∙ ap (λ (k : ℕ). t.place (links_on (map link (t.table h)) k (row_length w))) (sym (link_there tabled h i v))

  pub last_placed : (xs : List R) (row last : ℕ)
      → ((n : ℕ) → n < length xs → length xs ≤ nowhere → Chain (map link xs) row (suc n) → last ≡ links_on (map link xs) row n)
      → IsLast t xs row last
  last_placed xs row last f h l x y z w s a b =
      let g = t.with_table h xs in
      let e = tabled.table_with h xs in
      let c = subst (λ (ys : List R). Chain (map link ys) row (suc (row_length w))) e (row_chain tabled g row (node l x y z w) a) in
      let q = subst (λ (ys : List R). length ys ≤ nowhere) e (tabled.short g s) in
      let m = subst (λ (ys : List R). last_place g (t.place row) w ≡ t.place (links_on (map link ys) row (row_length w))) e (links_to_last g row l x y z w a) in
      ap t.place (f (row_length w) b q c) ∙ sym m
