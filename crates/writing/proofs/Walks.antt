-- Walks along rows: a chain is no longer than its table, so a walk meets all of it.
use Rattle.std.proofs.Common.{◌≡◌, ℕ, zero, suc, ◌≤◌, List, Option, None, Some, map, length, get_or, option_map, slice_get, sym, refl, ap, ◌∙◌, subst, arith}
use Rattle.std.proofs.lemmas.Option.{slice_get-get_or, slice_get-map, slice_get_past}
use Rattle.pool.specs.Chain.{nowhere, Chain}
use Rattle.records.specs.Walked.{met, walked}
use Rattle.records.proofs.Fits.{linked_fits}

module _ {R : Type 0} (link : R → ℕ) (table : List R) (s : length table ≤ nowhere) where
  met_all : (i m n : ℕ) → Chain (map link table) i m → m ≤ n → length (walked link table i n) ≡ m
  met_all i zero zero c l = refl
  met_all i zero (suc n) c l = rw (slice_get_past table i (omega arith)) refl
  met_all i (suc m) zero c l = absurd (omega arith)
  met_all i (suc m) (suc n) c l = by (slice_get table i) refl (λ k e. met_all k m n (subst (λ (a : ℕ). Chain (map link table) a m) e c.1) (omega arith))
    where
      there : slice_get (map link table) i ≡ Some (get_or (map link table) i 0)
      there = slice_get-get_or (map link table) i 0 c.0

      by : (o : Option R) → slice_get table i ≡ o → ((k : ℕ) → get_or (map link table) i 0 ≡ k → length (walked link table k n) ≡ m)
          → length (met i o (λ x. walked link table (link x) n)) ≡ suc m
      by None e behind = let a : option_map link None ≡ Some (get_or (map link table) i 0) = ap (option_map link) (sym e) ∙ sym (slice_get-map link table i) ∙ there in cc
      by (Some x) e behind =
          let a : option_map link (Some x) ≡ Some (get_or (map link table) i 0) = ap (option_map link) (sym e) ∙ sym (slice_get-map link table i) ∙ there in
          ap suc (behind (link x) cc)

  -- so a walk meets as many records as the chain has
  pub chain_met : (i m : ℕ) {items : List (ℕ × R)} → Chain (map link table) i m → items ≡ walked link table i (length table) → length items ≡ m
  chain_met i m c e = ap length e ∙ met_all i m (length table) c (linked_fits link table s i m c)
