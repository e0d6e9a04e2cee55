-- One step of taking records off a row, by their links.
use Rattle.std.proofs.Common.{◌≡◌, ℕ, zero, suc, ◌<◌, ◌≤◌, true, false, ltb, List, map, length, get_or, sym, refl, ◌∙◌, le-ltb, lt-ltb}
use Rattle.pool.specs.Chain.{modify}
use Rattle.records.specs.Turning.{turned}

module _ {R : Type 0} (link : R → ℕ) (relinked : R → ℕ → R) where
  pub turned_step : (n : ℕ) (t : List R) (rest row : ℕ) → rest < length t →
      turned link relinked (suc n) t rest row ≡ turned link relinked n (modify (λ x. relinked x row) rest t) (get_or (map link t) rest 0) rest
  turned_step n t rest row h = let e : ltb rest (length t) ≡ true = lt-ltb rest (length t) h in rw e refl

  pub turned_out : (n : ℕ) (t : List R) (rest row : ℕ) → length t ≤ rest → turned link relinked n t rest row ≡ record { table = t; row = row; rest = rest }
  turned_out zero t rest row h = refl
  turned_out (suc n) t rest row h = let e : ltb rest (length t) ≡ false = le-ltb rest (length t) h in rw e refl

-- what is left to turn comes to the whole
pub record Turning {R : Type 0} (link : R → ℕ) (relinked : R → ℕ → R) (n : ℕ) (t : List R) (top row left : ℕ) (t' : List R) (rest row' : ℕ) : Type 0 where
  pub same : turned link relinked n t top row ≡ turned link relinked left t' rest row'

module _ {R : Type 0} {link : R → ℕ} {relinked : R → ℕ → R} {n top row left rest row' : ℕ} {t t' : List R}
    (q : Turning link relinked n t top row left t' rest row') where
  -- one record more
  pub turning_on : {left' next : ℕ} {t'' : List R} → left ≡ suc left'
      → (rest < length t') × (t'' ≡ modify (λ x. relinked x row') rest t') × (next ≡ get_or (map link t') rest 0)
      → Turning link relinked n t top row left' t'' next rest
  turning_on {left'} e d = record {
    same = q.same ∙ rw e (turned_step link relinked left' t' rest row' d.0) ∙ sym (λ i. turned link relinked left' (d.1 i) (d.2 i) rest);
  }

  -- there is no such record
  pub turning_out : {t'' : List R} → (length t' ≤ rest) × (t'' ≡ t') → turned link relinked n t top row ≡ record { table = t''; row = row'; rest = rest }
  turning_out d = q.same ∙ turned_out link relinked left t' rest row' d.0 ∙ sym (λ i. record { table = d.1 i; row = row'; rest = rest })

  pub turning_done : left ≡ 0 → turned link relinked n t top row ≡ record { table = t'; row = row'; rest = rest }
  turning_done e = rw e at q.same
