-- The laws of completions.
use Rattle.std.proofs.Common.{◌≡◌, Bool, true, false, refl}
use Rattle.run.specs.Completion.{Completion, and_then, normal, abrupt, State, branch}

pub and_then_normal : {A : Type 0} (r : Completion A) → and_then r (λ a s. normal a s) ≡ r
and_then_normal (normal a s) = refl
and_then_normal (abrupt j s) = refl

pub and_then_assoc : {A B C : Type 0} (r : Completion A) (k : A → State → Completion B) (l : B → State → Completion C)
    → and_then (and_then r k) l ≡ and_then r (λ a s. and_then (k a s) l)
and_then_assoc (normal a s) k l = refl
and_then_assoc (abrupt j s) k l = refl

pub and_then_cong : {A B : Type 0} (r : Completion A) {k l : A → State → Completion B} → ((a : A) (s : State) → k a s ≡ l a s)
    → and_then r k ≡ and_then r l
and_then_cong r h = λ i. and_then r (λ a s. h a s i)

pub branch_and_then : {A B : Type 0} (b : Bool) (f g : State → Completion A) (s : State) (k : A → State → Completion B)
    → and_then (branch b f g s) k ≡ branch b (λ s₁. and_then (f s₁) k) (λ s₁. and_then (g s₁) k) s
branch_and_then true f g s k = refl
branch_and_then false f g s k = refl
