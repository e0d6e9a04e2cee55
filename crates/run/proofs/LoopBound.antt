-- A loop's bound is the turns and nothing else.
use mathlib.Core.Path.{◌≡◌, refl, sym}
use mathlib.Core.Bool.{Bool, true, false}
use Prim.Native.Nat.{ℕ, zero, suc, ◌≤◌}
use native.Mathlib.Omega.{arith}
use Rattle.run.specs.Values.{Value, undefined, boolean, to_boolean}
use Rattle.run.specs.Completion.{State, with_turns, Abrupt, returned, thrown, broke, continued, cut, Completion, normal, abrupt, and_then, branch}
use Rattle.run.specs.Evaluate.{evaluate_optional}
use Rattle.run.specs.Execute.{Step, spend_turn, after_abrupt_body, after_body, repeat}
use Rattle.run.specs.Laws.{LoopBoundIsTheTurns}
use Rattle.run.proofs.Reaching.{Reaches, Every, optional_reaches, discard_reaches, execute_reaches}
use Rattle.run.proofs.Turns.{Fewer, fewer_kept}

-- steps that are the same wherever so many turns or fewer are left
abbrev SameWithin : ℕ → Step → Step → Type 0
SameWithin n f g = (s : State) → s.turns ≤ n → f s ≡ g s

then_same : {A : Type 0} (n : ℕ) (s : State) (r : Completion A) (f g : A → Step) → s.turns ≤ n → Reaches Fewer s r
    → ((a : A) → SameWithin n (f a) (g a)) → and_then r f ≡ and_then r g
then_same n s (normal a t) f g m h k = k a t (omega arith)
then_same n s (abrupt j t) f g m h k = refl

branch_same : (n : ℕ) (b : Bool) (f g h : Step) → SameWithin n f g → SameWithin n (branch b f h) (branch b g h)
branch_same n true f g h k s m = k s m
branch_same n false f g h k s m = refl

after_abrupt_same : (n : ℕ) (j : Abrupt) (s : State) (f g : Step) → s.turns ≤ n → SameWithin n f g
    → after_abrupt_body j s f ≡ after_abrupt_body j s g
after_abrupt_same n (returned v) s f g m k = refl
after_abrupt_same n (thrown v) s f g m k = refl
after_abrupt_same n broke s f g m k = refl
after_abrupt_same n continued s f g m k = k s m
after_abrupt_same n cut s f g m k = refl

after_body_same : (n : ℕ) (s : State) (r : Completion (Unit {0})) (f g : Step) → s.turns ≤ n → Reaches Fewer s r → SameWithin n f g
    → after_body r f ≡ after_body r g
after_body_same n s (normal a t) f g m h k = k t (omega arith)
after_body_same n s (abrupt j t) f g m h k = after_abrupt_same n j t f g (omega arith) k

spend_same : (turns : ℕ) (s : State) (f g : Step) → ((left : ℕ) → turns ≡ suc left → f (with_turns left s) ≡ g (with_turns left s))
    → spend_turn turns f s ≡ spend_turn turns g s
spend_same zero s f g k = refl
spend_same (suc left) s f g k = k left refl

spend_none : (turns : ℕ) (s : State) (f : Step) → turns ≤ 0 → spend_turn turns f s ≡ abrupt cut s
spend_none zero s f m = refl
spend_none (suc left) s f m = absurd (omega arith)

module _ (test : State → Completion Value) (body update : Step)
    (test_reaches : (s : State) → Reaches Fewer s (test s)) (body_reaches : Every Fewer fewer_kept body)
    (update_reaches : Every Fewer fewer_kept update) where
  -- two bounds that both cover the turns
  pub bounds_agree : (m n : ℕ) (s : State) → s.turns ≤ m → s.turns ≤ n → repeat m test body update s ≡ repeat n test body update s
  bounds_agree zero zero s p q = refl
  bounds_agree zero (suc n) s p q = sym (spend_none s.turns s _ p)
  bounds_agree (suc m) zero s p q = spend_none s.turns s _ q
  bounds_agree (suc m) (suc n) s p q =
      spend_same s.turns s _ _ (λ left e.
      let t : State = with_turns left s in
      after_body_same left t (body t) _ _ (omega arith) (body_reaches t) (λ u h.
      then_same left u (update u) _ _ h (update_reaches u) (λ _ v i.
      then_same left v (test v) _ _ i (test_reaches v) (λ value w k.
      branch_same left (to_boolean value) _ _ _ (λ x l. bounds_agree m n x (omega arith) (omega arith)) w k))))

pub loop_bound_is_the_turns : LoopBoundIsTheTurns
loop_bound_is_the_turns test update body bound s h =
    bounds_agree _ _ _
    (λ t. optional_reaches Fewer fewer_kept (boolean true) test t)
    (λ t. execute_reaches Fewer fewer_kept body t)
    (λ t. discard_reaches Fewer fewer_kept t (evaluate_optional undefined update t) (optional_reaches Fewer fewer_kept undefined update t))
    bound s.turns s h (omega arith)
