-- The state of a run, and how an expression or a statement completes.
use Rattle.std.specs.Prelude.{Bool, true, false, List, ℕ}
use Rattle.run.specs.Values.{Value}
use Rattle.run.specs.Environment.{Environment}
use Rattle.run.specs.World.{Event, World}

-- the world, the events so far with the last one first, the running environment, and the turns that are left
pub record State : Type 0 where
  pub world : World
  pub events : List Event
  pub environment : Environment
  pub turns : ℕ

abbrev pub with_environment : Environment → State → State
with_environment e s = record { world = s.world; events = s.events; environment = e; turns = s.turns }

abbrev pub with_turns : ℕ → State → State
with_turns n s = record { world = s.world; events = s.events; environment = s.environment; turns = n }

-- "Completion Records": the abrupt ones, and the cut, which ends a run that has no turn left.
-- A break or a continue that no loop or switch took is stray.
pub data Abrupt : Type 0 where
  returned thrown : Value → Abrupt
  broke continued cut : Abrupt

pub data Completion (A : Type 0) : Type 0 where
  normal : A → State → Completion A
  abrupt : Abrupt → State → Completion A

-- "ReturnIfAbrupt": only a normal completion goes on
abbrev pub and_then : {A B : Type 0} → Completion A → (A → State → Completion B) → Completion B
and_then (normal a s) next = next a s
and_then (abrupt j s) next = abrupt j s

abbrev pub branch : {A : Type 0} → Bool → (State → Completion A) → (State → Completion A) → State → Completion A
branch true yes_way no_way s = yes_way s
branch false yes_way no_way s = no_way s
