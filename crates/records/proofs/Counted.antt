-- How many records of one table a row has.
use Rattle.std.proofs.Common.{◌≡◌, ℕ, ◌+◌, ◌≤◌, List, ◌∷◌, length, refl, ap, arith}
use Rattle.script.specs.Sound.{plus}
use Rattle.records.specs.declared.record.Pools.{Pools}
use Rattle.records.specs.Heap.{Heap, Label, Place}
use Rattle.records.specs.Holds.{counted}
use Rattle.records.specs.Owned.{Owns, Root}
use Rattle.records.specs.Rows.{At, Row, end, node, row_length}
use Rattle.records.specs.TableOf.{TableOf, Tabled, of_label}
use Rattle.records.proofs.Balance.{balance, records_loose}
use Rattle.records.proofs.Counting.{at_next, there}
use Rattle.records.proofs.Tallies.{records_roots, records_row}

abbrev pub count_of : {R : Type 0} → TableOf R → Row → ℕ
count_of t r = t.count (records_row r)

module _ {R : Type 0} {t : TableOf R} {link : R → ℕ} {relinked : R → ℕ → R} (tabled : Tabled R t link relinked) where
  -- the first record's own, and those of its parts and behind it
  pub count_node : (h : Heap) (i : ℕ) (l : Label) (x y z w : Row) → At h (t.place i) (node l x y z w)
      → count_of t (node l x y z w) ≡ 1 + (count_of t x + (count_of t y + (count_of t z + count_of t w)))
  count_node h i l x y z w a =
      let one = tabled.counts_one h i l a.1 in
      let e₁ = tabled.counts_plus (of_label l) (plus (records_row x) (plus (records_row y) (plus (records_row z) (records_row w)))) in
      let e₂ = tabled.counts_plus (records_row x) (plus (records_row y) (plus (records_row z) (records_row w))) in
      let e₃ = tabled.counts_plus (records_row y) (plus (records_row z) (records_row w)) in
      let e₄ = tabled.counts_plus (records_row z) (records_row w) in
      omega arith

  row_short : (h : Heap) (i : ℕ) (r : Row) → At h (t.place i) r → row_length r ≤ count_of t r
  row_short h i end a = omega arith
  row_short h i (node l x y z w) a =
      let e = count_node h i l x y z w a in let b = row_short h (link (there tabled h i)) w (at_next tabled h i w a.5) in omega arith

  -- a row of none is none
  pub count_none : (h : Heap) (i : ℕ) (r : Row) → At h (t.place i) r → count_of t r ≡ 0 → r ≡ end
  count_none h i end a e = refl
  count_none h i (node l x y z w) a e = let n = count_node h i l x y z w a in absurd (omega arith)

  -- an owned row has no more than the table
  pub count_fits : {h : Heap} {p : Pools} {loose : List Place} {rest : List Root} {k : Place} (r : Row) → Owns h p loose ((k, r) ∷ rest)
      → count_of t r ≤ length (t.table h)
  count_fits {h} {p} {loose} {rest} r o =
      let b = ap t.count (balance o) in
      let a = tabled.counts_all h in
      let e₁ = tabled.counts_plus (records_loose loose) (plus (plus (records_row r) (records_roots rest)) (counted p)) in
      let e₂ = tabled.counts_plus (plus (records_row r) (records_roots rest)) (counted p) in
      let e₃ = tabled.counts_plus (records_row r) (records_roots rest) in
      omega arith

  pub row_fits : {h : Heap} {p : Pools} {loose : List Place} {rest : List Root} (i : ℕ) (r : Row) → Owns h p loose ((t.place i, r) ∷ rest)
      → row_length r ≤ length (t.table h)
  row_fits {h} i r o = let a = row_short h i r o.held.0 in let b = count_fits r o in omega arith
