-- Marking a chain of spares: what is left of it decides all of it.
use Rattle.std.proofs.Common.{◌≡◌, ℕ, suc, ◌+◌, Bool, true, false, eqb, List, length, get_or, set, refl, ap, arith, eqb-true}
use borrow.Author.Tests.{eqb-false}
use Rattle.pool.specs.Chain.{Chain, places, occurrences, nowhere}
use Rattle.pool.proofs.Chains.{same_place_self}
use Rattle.lending.specs.Marked.{Claims, ChainFits, ChainMarked}
use Rattle.lending.proofs.Marking.{mark_set}

-- the marks and what is left of the chain from here, against the first marks and the whole chain
pub record Going (m₀ links : List ℕ) (head n : ℕ) (m : List ℕ) (at left : ℕ) : Type 0 where
  pub on : Chain links at left → Chain links head n
  pub back : Chain links head n → Chain links at left
  pub met : (k : ℕ) → get_or m k 0 + occurrences k (places links at left) ≡ get_or m₀ k 0 + occurrences k (places links head n)

pub going_start : (m links : List ℕ) (head n : ℕ) → Going m links head n m head n
going_start m links head n = record { on = λ c. c; back = λ c. c; met = λ k. refl }

module _ {m₀ links : List ℕ} {head n : ℕ} {m : List ℕ} {at : ℕ} where
  pub going_step : (left : ℕ) (m' : List ℕ) → length m ≡ length links → Going m₀ links head n m at (suc left) → Claims true m at (length m) m' →
      Going m₀ links head n m' (get_or links at 0) left
  going_step left m' fit o c = record {
    on = λ r. o.on ((let a = c.0 in omega arith), r);
    back = λ r. (o.back r).1;
    met = λ k.
        let f = o.met k in
        let s = mark_set m at k c.0 c.1 in
        let u : get_or m' k 0 ≡ get_or (set m at 1) k 0 = ap (λ v. get_or v k 0) c.2 in
        omega arith;
  }

  pub going_out : (left : ℕ) (m' : List ℕ) → length m ≡ length links → Going m₀ links head n m at (suc left) → Claims false m at (length m) m' →
      ChainFits m₀ links head n → ⊥
  going_out left m' fit o c f =
      c.1 (let a = (o.back f.chain).0 in omega arith) (let e = o.met at in let q = f.once at in let s = same_place_self at in omega arith)

  pub going_end : Going m₀ links head n m at 0 → ChainMarked (eqb at nowhere) m₀ links head n m
  going_end o = go (eqb at nowhere) refl
    where
      go : (b : Bool) → eqb at nowhere ≡ b → ChainMarked b m₀ links head n m
      go true e = record { chain = o.on (eqb-true at nowhere e); met = λ k. let q = o.met k in omega arith }
      go false e = λ f. eqb-false at nowhere e (o.back f.chain)
