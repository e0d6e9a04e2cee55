-- A chain of links has no more places than its table.
use Rattle.std.proofs.Common.{◌≡◌, ℕ, zero, suc, ◌<◌, ◌≤◌, List, map, length, get_or, sym, refl, ⊎_elim, subst, arith}
use lib.ListN.{length-map}
use Rattle.std.proofs.lemmas.Bool.{cases_eq}
use Rattle.pool.specs.Chain.{nowhere, Chain, occurrences, places, same_place}
use Rattle.pool.proofs.Chains.{same_place_same, same_place_other}
use Rattle.records.proofs.Counting.{chain_unique}
use Rattle.records.proofs.Sizes.{total, total_add, total_le, total_none, total_same}

module _ (links : List ℕ) (s : length links ≤ nowhere) where
  -- a place of a longer chain is not met again
  apart : (k b n m : ℕ) → Chain links k n → Chain links b m → m < n → occurrences k (places links b m) ≡ 0
  apart k b n zero c d l = refl
  apart k b n (suc m) c d l =
      let e = same_place_other k b (λ q. let u = chain_unique links b n (suc m) s (subst (λ (a : ℕ). Chain links a n) q c) d in omega arith) in
      let z = apart k (get_or links b 0) n m c d.1 (omega arith) in
      omega arith

  once : (k b m : ℕ) → Chain links b m → occurrences k (places links b m) ≤ 1
  once k b zero c = omega arith
  once k b (suc m) c =
      ⊎_elim
      (λ e. let o = same_place_same k b e in
      let z = apart k (get_or links b 0) (suc m) m (subst (λ (a : ℕ). Chain links a (suc m)) (sym e) c) c.1 (omega arith) in
      omega arith)
      (λ ne. let o = same_place_other k b ne in let z = once k (get_or links b 0) m c.1 in omega arith)
      (cases_eq k b)

  all_within : (b m : ℕ) → Chain links b m → total (length links) (λ k. occurrences k (places links b m)) ≡ m
  all_within b zero c = total_none (length links)
  all_within b (suc m) c =
      let a = total_add (length links) (λ k. same_place k b) (λ k. occurrences k (places links (get_or links b 0) m)) in
      let o = total_same (length links) b c.0 in
      let z = all_within (get_or links b 0) m c.1 in
      omega arith

  chain_fits : (b m : ℕ) → Chain links b m → m ≤ length links
  chain_fits b m c =
      let e = all_within b m c in
      let l = total_le (length links) (λ k. occurrences k (places links b m)) (λ k v. once k b m c) in
      omega arith

module _ {R : Type 0} (link : R → ℕ) (table : List R) (s : length table ≤ nowhere) where
  pub linked_fits : (i m : ℕ) → Chain (map link table) i m → m ≤ length table
  linked_fits i m c = let f = chain_fits (map link table) (omega (arith, length-map table link)) i m c in omega (arith, length-map table link)
