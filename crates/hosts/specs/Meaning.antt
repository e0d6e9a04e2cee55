-- What a host means: three facts of each expression, and the laws that tie them to what running the expression does.
use Rattle.std.specs.Prelude.{◌≡◌, Bool, true, Some, Option}
use Rattle.script.specs.Tree.{Expr}
use Rattle.run.specs.Values.{Value, undefined as undefined_value, to_boolean}
use Rattle.run.specs.Completion.{State, normal}
use Rattle.run.specs.Evaluate.{evaluate}

-- each fact is a function of the expression, so equal expressions have equal facts
pub record Meaning : Type 0 where
  pub harmless : Expr → Bool
  pub undefined : Expr → Bool
  -- the truth in a test, where it is known
  pub truth : Expr → Option Bool

-- in this state the expression ends normally and leaves the state as it is: no event, no name changed, no turn spent
abbrev pub Leaves : Expr → State → Type 0
Leaves e s = (v : Value) × (evaluate e s ≡ normal v s)

-- so it does, and its value has this truth
abbrev pub Tests : Expr → Bool → State → Type 0
Tests e b s = (v : Value) × (evaluate e s ≡ normal v s) × (to_boolean v ≡ b)

-- a host may know less than is so, never more
pub record Lawful (m : Meaning) : Type 0 where
  pub harmless_law : (e : Expr) → m.harmless e ≡ true → (s : State) → Leaves e s
  pub undefined_law : (e : Expr) → m.undefined e ≡ true → (s s₁ : State) (v : Value) → evaluate e s ≡ normal v s₁ → v ≡ undefined_value
  pub truth_law : (e : Expr) (b : Bool) → m.truth e ≡ Some b → (s : State) → Tests e b s
