-- Judging bytes one after another: what is left of the bytes comes to the whole.
use Rattle.std.proofs.Common.{◌≡◌, ℕ, zero, suc, ◌+◌, ◌<◌, ◌≤◌, List, length, get_or, drop, Ok, Err, sym, refl, ap, ◌∙◌, subst, add-one, arith, drop-cons}
use Rattle.std.proofs.lemmas.List.{drop_all}
use Rattle.script.specs.Format.{Refusal}
use Rattle.script.specs.Judge.{Model, Verdict, turned_away, taken, judge, Fed, all_taken, stopped, one_more, then_fed, judge_all}
use Rattle.faults.specs.declared.fault.ReadFault.{ReadFault}
use Rattle.records.specs.declared.record.Draft.{Draft}
use Rattle.records.specs.Heap.{Heap}
use Rattle.records.specs.Holds.{Holds}
use Rattle.reading.specs.Judged.{Stepped, FedAs}

-- n bytes were taken before
abbrev more : ℕ → Fed → Fed
more zero f = f
more (suc n) f = one_more (more n f)

more_taken : (n : ℕ) (m : Model) → more n (all_taken m) ≡ all_taken m
more_taken zero m = refl
more_taken (suc n) m = ap one_more (more_taken n m)

more_stopped : (n k : ℕ) (r : Refusal) (m : Model) → more n (stopped k r m) ≡ stopped (n + k) r m
more_stopped zero k r m = let e : 0 + k ≡ k = omega arith in ap (λ x. stopped x r m) (sym e)
more_stopped (suc n) k r m = let e : suc (n + k) ≡ suc n + k = omega arith in ap one_more (more_stopped n k r m) ∙ ap (λ x. stopped x r m) e

more_one : (n : ℕ) (f : Fed) → more n (one_more f) ≡ one_more (more n f)
more_one zero f = refl
more_one (suc n) f = ap one_more (more_one n f)

-- after i bytes the tables hold a model from which the rest is judged
pub record Midway (bytes : List ℕ) (i : ℕ) (m : Model) (h : Heap) (d : Draft) : Type 0 where
  pub model : Model
  pub holds : Holds h d model
  pub same : judge_all bytes m ≡ more i (judge_all (drop i bytes) model)

module _ (bytes : List ℕ) (i : ℕ) (m : Model) (h : Heap) (d : Draft) (mid : Midway bytes i m h d) where
  module _ (here : i < length bytes) where
    at_byte : judge_all bytes m ≡ more i (then_fed (judge mid.model (get_or bytes i 0)) mid.model (λ m'. judge_all (drop (suc i) bytes) m'))
    at_byte = mid.same ∙ ap (λ l. more i (judge_all l mid.model)) (drop-cons bytes i 0 here)

    pub midway_next : (h' : Heap) (d' : Draft) → Stepped (Ok tt) (judge mid.model (get_or bytes i 0)) h d h' d' → Midway bytes (i + 1) m h' d'
    midway_next h' d' s = by (judge mid.model (get_or bytes i 0)) refl s
      where
        by : (v : Verdict) → judge mid.model (get_or bytes i 0) ≡ v → Stepped (Ok tt) v h d h' d' → Midway bytes (i + 1) m h' d'
        by (turned_away r) e k = absurd k
        by (taken m') e k = rw add-one (record {
          model = m';
          holds = k;
          same = at_byte ∙ ap (λ v. more i (then_fed v mid.model (λ x. judge_all (drop (suc i) bytes) x))) e ∙ more_one i (judge_all (drop (suc i) bytes) m');
        })

    pub midway_refused : (f : ReadFault) (h' : Heap) (d' : Draft) → Stepped (Err f) (judge mid.model (get_or bytes i 0)) h d h' d' →
        FedAs (record { count = i; answer = Err f }) (length bytes) (judge_all bytes m) h' d'
    midway_refused f h' d' s = by (judge mid.model (get_or bytes i 0)) refl s
      where
        by : (v : Verdict) → judge mid.model (get_or bytes i 0) ≡ v → Stepped (Err f) v h d h' d' → FedAs (record { count = i; answer = Err f }) (length bytes) (judge_all bytes m) h' d'
        by (taken m') e k = absurd k
        by (turned_away r) e k =
            let z : i + 0 ≡ i = omega arith in
            let q : judge_all bytes m ≡ stopped i r mid.model = at_byte ∙ ap (λ v. more i (then_fed v mid.model (λ x. judge_all (drop (suc i) bytes) x))) e ∙ more_stopped i 0 r mid.model ∙ ap (λ x. stopped x r mid.model) z in
            rw q (ap Err k.0, refl, subst (λ x. Holds x d' mid.model) (sym k.1) (subst (λ x. Holds h x mid.model) (sym k.2) mid.holds))

  pub midway_end : length bytes ≤ i → FedAs (record { count = length bytes; answer = Ok tt }) (length bytes) (judge_all bytes m) h d
  midway_end past =
      let q : judge_all bytes m ≡ all_taken mid.model = mid.same ∙ ap (λ l. more i (judge_all l mid.model)) (drop_all i bytes past) ∙ more_taken i mid.model in
      rw q (refl, refl, mid.holds)
