-- Laws of chains: what a write to one record leaves of a chain, one record more at its front, one fewer.
use Rattle.std.proofs.Common.{◌≡◌, ℕ, zero, suc, ◌+◌, ◌-◌, ◌<◌, ◌≤◌, cond, ◌≢◌, List, [], ◌∷◌, length, get_or, set, sym, refl, ap, ⊎_elim, arith, length-set, get_or-set_other, get_or-set_same, eq-eqb, ne_eqb}
use Rattle.std.specs.List.{range_with_len}
use Rattle.std.proofs.lemmas.Bool.{cases_eq}
use Rattle.pool.specs.Chain.{Chain, places, same_place, occurrences, modify}

pub same_place_self : (k : ℕ) → same_place k k ≡ 1
same_place_self k = ap (λ b. cond b 1 0) (eq-eqb k k refl)

pub same_place_same : (k i : ℕ) → k ≡ i → same_place k i ≡ 1
same_place_same k i e = ap (λ b. cond b 1 0) (eq-eqb k i e)

pub same_place_other : (k i : ℕ) → k ≢ i → same_place k i ≡ 0
same_place_other k i h = ap (λ b. cond b 1 0) (ne_eqb k i h)

pub other_place : (k i : ℕ) → same_place k i ≡ 0 → i ≢ k
other_place k i z e = let o = same_place_same k i (sym e) in omega arith

-- what is left of a sum that is 0
pub left_zero : (a b : ℕ) → a + b ≡ 0 → a ≡ 0
left_zero a b h = omega arith

pub right_zero : (a b : ℕ) → a + b ≡ 0 → b ≡ 0
right_zero a b h = omega arith

pub chain_set : (links : List ℕ) (i v at n : ℕ) → Chain links at n → occurrences i (places links at n) ≡ 0 → Chain (set links i v) at n
chain_set links i v at zero h o = h
chain_set links i v at (suc n) h o =
    let o₁ = left_zero (same_place i at) (occurrences i (places links (get_or links at 0) n)) o in
    let o₂ = right_zero (same_place i at) (occurrences i (places links (get_or links at 0) n)) o in
    let e = get_or-set_other links i at v 0 (other_place i at o₁) in
    (rw length-set h.0, rw e (chain_set links i v (get_or links at 0) n h.1 o₂))

pub places_set : (links : List ℕ) (i v at n : ℕ) → occurrences i (places links at n) ≡ 0 → places (set links i v) at n ≡ places links at n
places_set links i v at zero o = refl
places_set links i v at (suc n) o =
    let o₁ = left_zero (same_place i at) (occurrences i (places links (get_or links at 0) n)) o in
    let o₂ = right_zero (same_place i at) (occurrences i (places links (get_or links at 0) n)) o in
    let e = get_or-set_other links i at v 0 (other_place i at o₁) in
    ap (λ l. at ∷ l) (rw e (places_set links i v (get_or links at 0) n o₂))

-- one record more at the front
pub chain_push : (links : List ℕ) (i at n : ℕ) → i < length links → Chain links at n → occurrences i (places links at n) ≡ 0 → Chain (set links i at) i (suc n)
chain_push links i at n h c o = (rw length-set h, rw (get_or-set_same links i at 0 h) (chain_set links i at at n c o))

pub places_push : (links : List ℕ) (i at n : ℕ) → i < length links → occurrences i (places links at n) ≡ 0 → places (set links i at) i (suc n) ≡ i ∷ places links at n
places_push links i at n h o = ap (λ l. i ∷ l) (rw (get_or-set_same links i at 0 h) (places_set links i at at n o))

-- a chain of some places has a first
pub chain_first : (links : List ℕ) (at n : ℕ) → Chain links at n → n ≢ 0 → at < length links
chain_first links at zero c h = absurd (h refl)
chain_first links at (suc n) c h = c.0

pub chain_rest : (links : List ℕ) (at n : ℕ) → Chain links at n → n ≢ 0 → Chain links (get_or links at 0) (n - 1)
chain_rest links at zero c h = absurd (h refl)
chain_rest links at (suc n) c h = let e : suc n - 1 ≡ n = omega arith in rw e c.1

pub places_first : (links : List ℕ) (at n : ℕ) → n ≢ 0 → places links at n ≡ at ∷ places links (get_or links at 0) (n - 1)
places_first links at zero h = absurd (h refl)
places_first links at (suc n) h = let e : suc n - 1 ≡ n = omega arith in rw e refl

pub occurrences_counting : (k a n : ℕ) → k < a → occurrences k (range_with_len a n) ≡ 0
occurrences_counting k a zero h = refl
occurrences_counting k a (suc n) h =
    let z = same_place_other k a (omega arith) in
    let ih = occurrences_counting k (a + 1) n (omega arith) in
    omega arith

pub occurrences_counting_in : (k a n : ℕ) → a ≤ k → k < a + n → occurrences k (range_with_len a n) ≡ 1
occurrences_counting_in k a zero h l = absurd (omega arith)
occurrences_counting_in k a (suc n) h l =
    ⊎_elim
    (λ e. let z = same_place_same k a e in let q = occurrences_counting k (a + 1) n (omega arith) in omega arith)
    (λ ne. let z = same_place_other k a ne in let q = occurrences_counting_in k (a + 1) n (omega arith) (omega arith) in omega arith)
    (cases_eq k a)

pub set_modify : {X : Type 0} (f : X → X) (i : ℕ) (xs : List X) (d : X) → i < length xs → set xs i (f (get_or xs i d)) ≡ modify f i xs
set_modify f i [] d h = refl
set_modify f zero (x ∷ xs) d h = refl
set_modify f (suc i) (x ∷ xs) d h = ap (λ l. x ∷ l) (set_modify f i xs d (omega arith))

-- the first place of a chain lies within
pub chain_within : (ls : List ℕ) (at n i : ℕ) (is : List ℕ) → Chain ls at n → places ls at n ≡ i ∷ is → i < length ls
chain_within ls at zero i is c e = let z : ◌≡◌ {A = ℕ} 0 1 = cc in absurd (omega arith)
chain_within ls at (suc n) i is c e = let z : at ≡ i = cc in rw z at c.0
