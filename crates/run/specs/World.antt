-- Calls as events, and the world that answers them.
use Rattle.std.specs.Prelude.{List, [], ◌∷◌, ℕ}
use Rattle.std.proofs.Math.Option.{Option, none, some}
use Rattle.run.specs.Values.{Value}
use Rattle.run.specs.Environment.{mutable, immutable, Binding, unbound, uninitialised, initialised, Environment}

-- how a name is seen: not in sight, in sight but uninitialised, or with its value
pub data Sight : Type 0 where
  not_in_sight without_value : Sight
  with_value : Value → Sight

abbrev pub sight_of : Binding → Sight
sight_of unbound = not_in_sight
sight_of uninitialised = without_value
sight_of (initialised m v) = with_value v

-- a call: its number, its arguments, and every name as it is seen there
pub record Event : Type 0 where
  pub number : ℕ
  pub arguments : List Value
  pub sight : ℕ → Sight

-- a call completes with a value or throws one
pub data Reply : Type 0 where
  gives throws : Value → Reply

-- the reply, and the names to be set
pub record Answer : Type 0 where
  pub reply : Reply
  pub settings : ℕ → Option Value

-- the answer to the last of all events so far, which come the last one first
abbrev pub World : Type 0
World = List Event → Answer

-- a setting of a name in one record: only an initialised binding that is not const changes
abbrev pub as_set : Binding → Option Value → Binding
as_set unbound setting = unbound
as_set uninitialised setting = uninitialised
as_set (initialised immutable v) setting = initialised immutable v
as_set (initialised mutable v) none = initialised mutable v
as_set (initialised mutable v) (some u) = initialised mutable u

-- a setting reaches the outer records only where the name is not bound further in
abbrev pub left_for_outer : Binding → Option Value → Option Value
left_for_outer unbound setting = setting
left_for_outer uninitialised setting = none
left_for_outer (initialised m v) setting = none

abbrev pub apply_settings : (ℕ → Option Value) → Environment → Environment
apply_settings settings [] = []
apply_settings settings (r ∷ outer) =
    (λ n. as_set (r n) (settings n)) ∷ apply_settings (λ n. left_for_outer (r n) (settings n)) outer
