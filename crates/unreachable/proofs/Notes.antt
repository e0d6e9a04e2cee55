-- Noting a name: what is noted then.
use Rattle.std.proofs.Common.{◌≡◌, ℕ, zero, suc, ◌+◌, ◌<◌, ◌≤◌, Bool, true, false, cond, T, eqb, ◌≢◌, List, [], ◌∷◌, ◌++◌, length, get_or, set}
use Rattle.std.proofs.Common.{replicate, sym, refl, ap, ◌∙◌, subst, ⊎_elim, arith, length-append, length-set, get_or-set_other, get_or-set_same}
use Rattle.std.proofs.Common.{eq-eqb, ne_eqb}
use lib.ListN.{length-replicate, get_or-replicate}
use Rattle.std.proofs.lemmas.Bool.{cases_eq, cases_lt}
use Rattle.pool.specs.Chain.{occurrences, same_place}
use Rattle.pool.proofs.Chains.{same_place_other, same_place_same, same_place_self}
use Rattle.records.proofs.Sizes.{total, total_add, total_none, total_same}
use Rattle.run.specs.Environment.{among}
use Rattle.arrayvec.specs.ArrayVec.{ArrayVec, array_vec_len}
use Rattle.unreachable.specs.declared.noting.NotedNames.{NotedNames}
use Rattle.unreachable.specs.Noted.{Notes, noted_with}

-- numbers below n that stand in a list once at most are n at most

total_le : (n : ℕ) (g : ℕ → ℕ) → ((i : ℕ) → g i ≤ 1) → total n g ≤ n
total_le zero g h = omega arith
total_le (suc n) g h = let a = total_le n g h in let b = h n in omega arith

total_occurrences : (n : ℕ) (l : List ℕ) → ((k : ℕ) → n ≤ k → occurrences k l ≡ 0) → total n (λ j. occurrences j l) ≡ length l
total_occurrences n [] b = total_none n
total_occurrences n (m ∷ l) b =
    let below : m < n = ⊎_elim (λ (v : m < n). v) (λ (v : n ≤ m). let s = same_place_self m in let z = b m v in absurd (omega arith)) (cases_lt m n) in
    let a = total_add n (λ j. same_place j m) (λ j. occurrences j l) in
    let s = total_same n m below in
    let h = total_occurrences n l (λ k v. let z = b k v in omega arith) in
    omega arith

pub few : (n : ℕ) (l : List ℕ) → ((k : ℕ) → n ≤ k → occurrences k l ≡ 0) → ((k : ℕ) → occurrences k l ≤ 1) → length l ≤ n
few n l b o = let t = total_occurrences n l b in let u = total_le n (λ j. occurrences j l) o in omega arith

-- one name more

occurrences_more : (k n : ℕ) (l : List ℕ) → occurrences k (l ++ (n ∷ [])) ≡ occurrences k l + same_place k n
occurrences_more k n [] = omega arith
occurrences_more k n (m ∷ l) = let h = occurrences_more k n l in omega arith

not_among : (n : ℕ) (l : List ℕ) → among n l ≡ false → occurrences n l ≡ 0
not_among n [] e = refl
not_among n (m ∷ l) e = by (eqb n m) refl e (λ f. not_among n l f)
  where
    by : (b : Bool) → eqb n m ≡ b → cond b true (among n l) ≡ false → (among n l ≡ false → occurrences n l ≡ 0) → occurrences n (m ∷ l) ≡ 0
    by true t f h = absurd (subst T f tt)
    by false t f h = let z = h f in let s : same_place n m ≡ 0 = ap (λ (v : Bool). cond v 1 0) t in omega arith

among_new : (n : ℕ) (l : List ℕ) → among n (l ++ (n ∷ [])) ≡ true
among_new n [] = rw (eq-eqb n n refl) refl
among_new n (m ∷ l) = by (eqb n m) (among_new n l)
  where
    by : (b : Bool) → among n (l ++ (n ∷ [])) ≡ true → cond b true (among n (l ++ (n ∷ []))) ≡ true
    by true h = refl
    by false h = h

among_other : (k n : ℕ) (l : List ℕ) → k ≢ n → among k (l ++ (n ∷ [])) ≡ among k l
among_other k n [] ne = rw (ne_eqb k n ne) refl
among_other k n (m ∷ l) ne = ap (λ (b : Bool). cond (eqb k m) true b) (among_other k n l ne)

-- a new name: the names with it stand in the list once each, and are bytes
module _ {noted : NotedNames} {n : ℕ} {l : List ℕ} (b : n < 256) (f : get_or noted.seen n false ≡ false) (q : Notes noted l) where
  new : among n l ≡ false
  new = sym (q.seen n b) ∙ f

  once_more : (k : ℕ) → occurrences k (l ++ (n ∷ [])) ≤ 1
  once_more k =
      let a = occurrences_more k n l in
      let z = not_among n l new in
      ⊎_elim
      (λ (e : k ≡ n). let s = same_place_same k n e in let u : occurrences k l ≡ occurrences n l = ap (λ (v : ℕ). occurrences v l) e in omega arith)
      (λ (ne : k ≢ n). let s = same_place_other k n ne in let u = q.once k in omega arith)
      (cases_eq k n)

  bytes_more : (k : ℕ) → 256 ≤ k → occurrences k (l ++ (n ∷ [])) ≡ 0
  bytes_more k v =
      let s = same_place_other k n (omega arith) in let w = q.bytes k v in let a = occurrences_more k n l in omega arith

  -- there is room for it
  pub room_left : array_vec_len noted.names < 256
  room_left =
      let m = few 256 (l ++ (n ∷ [])) bytes_more once_more in
      let a = length-append l (n ∷ []) in
      let c = ap length q.names in
      omega arith

  pub noted_new : (names : ArrayVec ℕ) → names.items ≡ noted.names.items ++ (n ∷ [])
      → Notes (record { seen = set noted.seen n true; names = names }) (noted_with n l)
  noted_new names e = rw new
      (record {
        flags = length-set noted.seen n true ∙ q.flags;
        seen = flag;
        names = e ∙ ap (λ (v : List ℕ). v ++ (n ∷ [])) q.names;
        bytes = bytes_more;
        once = once_more;
      })
    where
      flag : (k : ℕ) → k < 256 → get_or (set noted.seen n true) k false ≡ among k (l ++ (n ∷ []))
      flag k v =
          ⊎_elim
          (λ (e : k ≡ n).
          subst (λ (m : ℕ). get_or (set noted.seen n true) m false ≡ among m (l ++ (n ∷ []))) (sym e)
          (get_or-set_same noted.seen n true false (let w = q.flags in omega arith) ∙ sym (among_new n l)))
          (λ (ne : k ≢ n). get_or-set_other noted.seen n k true false ne ∙ q.seen k v ∙ sym (among_other k n l ne))
          (cases_eq k n)

-- nothing is noted at first
pub none_noted : (names : ArrayVec ℕ) → names.items ≡ [] → Notes (record { seen = replicate 256 false; names = names }) []
none_noted names e = record {
  flags = length-replicate 256 false;
  seen = λ n b. get_or-replicate 256 n false false b;
  names = e;
  bytes = λ k b. refl;
  once = λ k. omega arith;
}
