-- The wrong readings alter a run.
use Rattle.std.proofs.Common.{Bool, true, false, T, eqb, List, [], ◌∷◌, sym, ap, subst}
use Rattle.run.specs.Completion.{Abrupt, broke, continued, cut, returned, thrown}
use Rattle.run.specs.Values.{Value, boolean, integer, null, object, undefined}
use Rattle.run.specs.World.{Event, Sight, not_in_sight, without_value, with_value}
use Rattle.rules.specs.Laws.{DroppedLetsAlterRuns, WrongReadingsAlterRuns}

abbrev has_two : List Event → Bool
has_two [] = false
has_two (e ∷ []) = false
has_two (e ∷ (e₁ ∷ es)) = true

abbrev in_sight : Sight → Bool
in_sight not_in_sight = false
in_sight without_value = true
in_sight (with_value v) = true

abbrev has_value : Sight → Bool
has_value not_in_sight = false
has_value without_value = false
has_value (with_value v) = true

-- how the first call sees the name a
abbrev first_sees : (Sight → Bool) → List Event → Bool
first_sees test [] = false
first_sees test (e ∷ es) = test (e.sight 0)

-- the object for an uninitialised name was thrown
abbrev is_second_object : Value → Bool
is_second_object undefined = false
is_second_object null = false
is_second_object (boolean b) = false
is_second_object (integer n) = false
is_second_object (object n) = eqb n 2

abbrev throws_second : Abrupt → Bool
throws_second (returned v) = false
throws_second (thrown v) = is_second_object v
throws_second broke = false
throws_second continued = false
throws_second cut = false

pub wrong_readings_alter_runs : WrongReadingsAlterRuns
wrong_readings_alter_runs = (
  λ e. subst T (ap (λ r. has_two r.events) e) tt,
  (
    λ e. subst T (sym (ap (λ r. first_sees in_sight r.events) e)) tt,
    (λ e. subst T (sym (ap (λ r. first_sees has_value r.events) e)) tt, tt),
  ),
)

pub dropped_lets_alter_runs : DroppedLetsAlterRuns
dropped_lets_alter_runs = (
  λ e. subst T (sym (ap (λ r. throws_second r.completion) e)) tt,
  (
    λ e. subst T (sym (ap (λ r. first_sees in_sight r.events) e)) tt,
    (λ e. subst T (sym (ap (λ r. throws_second r.completion) e)) tt, tt),
  ),
)
