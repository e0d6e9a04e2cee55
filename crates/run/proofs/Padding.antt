-- A record without names among the others changes no step.
use mathlib.Core.Path.{◌≡◌, refl, sym, ap, ◌∙◌}
use mathlib.Core.List.{List, [], ◌∷◌}
use mathlib.Core.Logic.{inr}
use mathlib.Core.Option.{Option}
use Prim.Native.Nat.{ℕ, zero, suc}
use native.Mathlib.Omega.{arith}
use Rattle.run.specs.Values.{Value}
use Rattle.run.specs.Environment.{Binding, unbound, uninitialised, initialised, EnvironmentRecord, Environment, or_outer, lookup, set_here_or, set_innermost, initialise, new_record}
use Rattle.run.specs.World.{Event, sight_of, Reply, gives, throws, Answer, as_set, left_for_outer, apply_settings}
use Rattle.run.specs.Completion.{State, with_environment, Completion}
use Rattle.run.specs.Evaluate.{event_at, reply_completion, answered, call_world}
use Rattle.run.specs.Execute.{Step, outer_environment, leave_record, enter_record, spend_turn}
use Rattle.run.proofs.Following.{Follows, normally, abruptly, was_cut, Carried, moved, Followed}

abbrev pub no_names : EnvironmentRecord
no_names = new_record uninitialised []

-- the record without names behind so many others
abbrev pub pad : ℕ → Environment → Environment
pad zero e = no_names ∷ e
pad (suc k) [] = no_names ∷ pad k []
pad (suc k) (r ∷ outer) = r ∷ pad k outer

abbrev pub padded : ℕ → State → State
padded k s = with_environment (pad k s.environment) s

lookup_pad : (k : ℕ) (e : Environment) (n : ℕ) → lookup (pad k e) n ≡ lookup e n
lookup_pad zero e n = refl
lookup_pad (suc k) [] n = lookup_pad k [] n
lookup_pad (suc k) (r ∷ outer) n = ap (or_outer (r n)) (lookup_pad k outer n)

set_here_pad : (had : Binding) (k n : ℕ) (b : Binding) (r : EnvironmentRecord) (outer set_outer : Environment)
    → set_here_or had n b r (pad k outer) (pad k set_outer) ≡ pad (suc k) (set_here_or had n b r outer set_outer)
set_here_pad unbound k n b r outer set_outer = refl
set_here_pad uninitialised k n b r outer set_outer = refl
set_here_pad (initialised m v) k n b r outer set_outer = refl

set_pad : (k n : ℕ) (b : Binding) (e : Environment) → set_innermost n b (pad k e) ≡ pad k (set_innermost n b e)
set_pad zero n b e = refl
set_pad (suc k) n b [] = ap (λ outer. no_names ∷ outer) (set_pad k n b [])
set_pad (suc k) n b (r ∷ outer) =
    ap (λ x. set_here_or (r n) n b r (pad k outer) x) (set_pad k n b outer) ∙ set_here_pad (r n) k n b r outer (set_innermost n b outer)

apply_pad : (settings : ℕ → Option Value) (k : ℕ) (e : Environment) → apply_settings settings (pad k e) ≡ pad k (apply_settings settings e)
apply_pad settings zero e = refl
apply_pad settings (suc k) [] = ap (λ outer. no_names ∷ outer) (apply_pad settings k [])
apply_pad settings (suc k) (r ∷ outer) =
    ap (λ x. (λ n. as_set (r n) (settings n)) ∷ x) (apply_pad (λ n. left_for_outer (r n) (settings n)) k outer)

initialise_pad : (k n : ℕ) (b : Binding) (e : Environment) → initialise n b (pad (suc k) e) ≡ pad (suc k) (initialise n b e)
initialise_pad k n b [] = refl
initialise_pad k n b (r ∷ outer) = refl

outer_pad : (k : ℕ) (e : Environment) → outer_environment (pad (suc k) e) ≡ pad k (outer_environment e)
outer_pad k [] = refl
outer_pad k (r ∷ outer) = refl

-- calls

event_pad : (k n : ℕ) (vs : List Value) (s : State) → event_at n vs (padded k s) ≡ event_at n vs s
event_pad k n vs s = λ i. record { number = n; arguments = vs; sight = λ m. sight_of (lookup_pad k s.environment m i) }

reply_follows : (k : ℕ) (r : Reply) (s : State) → Follows ⊥ (padded k) Value (reply_completion r s) (reply_completion r (padded k s))
reply_follows k (gives v) s = normally v s
reply_follows k (throws v) s = abruptly _ s

answered_pad : (k : ℕ) (a : Answer) (events : List Event) (s : State)
    → Follows ⊥ (padded k) Value (answered a events s) (answered a events (padded k s))
answered_pad k a events s =
    moved (ap (λ e. reply_completion a.reply (record { world = s.world; events = events; environment = e; turns = s.turns }))
    (sym (apply_pad a.settings k s.environment)))
    (reply_follows k a.reply _)

call_pad : (k n : ℕ) (vs : List Value) (s : State) → Follows ⊥ (padded k) Value (call_world n vs s) (call_world n vs (padded k s))
call_pad k n vs s =
    moved (ap (λ event. answered (s.world (event ∷ s.events)) (event ∷ s.events) (padded k s)) (sym (event_pad k n vs s)))
    (answered_pad k _ _ s)

pub pad_carried : Carried ⊥ padded
pad_carried = record {
  looks = λ k s n. lookup_pad k s.environment n;
  sets = λ k n b s. ap (λ e. with_environment e s) (set_pad k n b s.environment);
  calls = call_pad;
  initialises = λ k n b s. ap (λ e. with_environment e s) (initialise_pad k n b s.environment);
  enters = λ k names s. refl;
  leaves = λ k s. ap (λ e. with_environment e s) (outer_pad k s.environment);
  covers = λ k s. omega arith;
  spends = λ k left s e step. ap (λ n. spend_turn n step (padded k s)) e;
  cuts = λ k s e. inr e;
}

left_same : {A : Type 0} {r r' : Completion A} → Follows ⊥ (padded 0) A r r' → leave_record r' ≡ r
left_same (normally a s) = refl
left_same (abruptly j s) = refl
left_same (was_cut x s r) = absurd x

-- a step that is followed, in a record without names
pub in_empty_record : (step : Step) → Followed ⊥ padded pad_carried 0 (Unit {0}) step → (s : State)
    → leave_record (step (enter_record [] s)) ≡ step s
in_empty_record step h s = left_same (h s)
