-- Environments whose values and names fit, and what keeps them so.
use mathlib.Core.Path.{◌≡◌, refl}
use mathlib.Core.Bool.{Bool, true, false, cond}
use mathlib.Core.List.{List, [], ◌∷◌}
use mathlib.Core.Option.{Option, none, some}
use Prim.Native.Nat.{ℕ, ◌≤◌, ◌<◌}
use lib.Dec.{eqb, eqb→eq}
use native.Mathlib.Omega.{arith}
use Rattle.run.specs.Values.{Value}
use Rattle.run.specs.Environment.{mutable, immutable, Binding, unbound, uninitialised, initialised, EnvironmentRecord, Environment, or_outer, lookup}
use Rattle.run.specs.Environment.{with_binding, set_here_or, set_innermost, initialise, among, new_record}
use Rattle.run.specs.World.{sight_of, as_set, left_for_outer, apply_settings}
use Rattle.run.specs.Execute.{outer_environment}
use Rattle.run.specs.Fits.{FitsValue, FitsSight, FitsSetting}
use Rattle.run.proofs.FittingNames.{FitsNames}

abbrev pub FitsBinding : Binding → Type 0
FitsBinding unbound = Unit {0}
FitsBinding uninitialised = Unit {0}
FitsBinding (initialised m v) = FitsValue v

-- one name's binding: its value fits, and it is bound only if it is of one byte
pub record FitsAt (b : Binding) (n : ℕ) : Type 0 where
  pub value : FitsBinding b
  pub bounded : 256 ≤ n → b ≡ unbound

pub record FitsRecord (r : EnvironmentRecord) : Type 0 where
  pub each : (n : ℕ) → FitsAt (r n) n

abbrev pub FitsEnvironment : Environment → Type 0
FitsEnvironment [] = Unit {0}
FitsEnvironment (r ∷ outer) = FitsRecord r × FitsEnvironment outer

nothing_fits : (n : ℕ) → FitsAt unbound n
nothing_fits n = record { value = tt; bounded = λ h. refl }

small : {n : ℕ} (b : Binding) → FitsBinding b → n < 256 → FitsAt b n
small b h l = record { value = h; bounded = λ m. absurd (omega arith) }

or_outer_fits : (b c : Binding) (n : ℕ) → FitsAt b n → FitsAt c n → FitsAt (or_outer b c) n
or_outer_fits unbound c n h k = k
or_outer_fits uninitialised c n h k = h
or_outer_fits (initialised m v) c n h k = h

pub lookup_fits : (e : Environment) (n : ℕ) → FitsEnvironment e → FitsAt (lookup e n) n
lookup_fits [] n h = nothing_fits n
lookup_fits (r ∷ outer) n h = or_outer_fits (r n) (lookup outer n) n (h.0.each n) (lookup_fits outer n h.1)

pub sight_fits : (b : Binding) → FitsBinding b → FitsSight (sight_of b)
sight_fits unbound h = tt
sight_fits uninitialised h = tt
sight_fits (initialised m v) h = h

with_binding_fits : (n : ℕ) (b : Binding) (r : EnvironmentRecord) → n < 256 → FitsBinding b → FitsRecord r → FitsRecord (with_binding n b r)
with_binding_fits n b r l h k = record { each = λ m. by m (eqb m n) refl }
  where
    by : (m : ℕ) (same : Bool) → eqb m n ≡ same → FitsAt (cond same b (r m)) m
    by m true e = let same : m ≡ n = eqb→eq m n (rw e tt) in small b h (omega arith)
    by m false e = k.each m

set_here_fits : (had : Binding) (n : ℕ) (b : Binding) (r : EnvironmentRecord) (outer set_outer : Environment) → n < 256 → FitsBinding b → FitsRecord r
    → FitsEnvironment outer → FitsEnvironment set_outer → FitsEnvironment (set_here_or had n b r outer set_outer)
set_here_fits unbound n b r outer set_outer l h k o p = (k, p)
set_here_fits uninitialised n b r outer set_outer l h k o p = (with_binding_fits n b r l h k, o)
set_here_fits (initialised m v) n b r outer set_outer l h k o p = (with_binding_fits n b r l h k, o)

pub set_fits : (n : ℕ) (b : Binding) (e : Environment) → n < 256 → FitsBinding b → FitsEnvironment e → FitsEnvironment (set_innermost n b e)
set_fits n b [] l h k = tt
set_fits n b (r ∷ outer) l h k = set_here_fits (r n) n b r outer (set_innermost n b outer) l h k.0 k.1 (set_fits n b outer l h k.1)

pub initialise_fits : (n : ℕ) (b : Binding) (e : Environment) → n < 256 → FitsBinding b → FitsEnvironment e → FitsEnvironment (initialise n b e)
initialise_fits n b [] l h k = (with_binding_fits n b (λ _. unbound) l h (record { each = nothing_fits }), tt)
initialise_fits n b (r ∷ outer) l h k = (with_binding_fits n b r l h k.0, k.1)

pub outer_fits : (e : Environment) → FitsEnvironment e → FitsEnvironment (outer_environment e)
outer_fits [] h = tt
outer_fits (r ∷ outer) h = h.1

among_fits : (n : ℕ) (names : List ℕ) → FitsNames names → among n names ≡ true → n < 256
among_fits n [] h e = let z : ◌≡◌ {A = ℕ} 0 1 = cc in absurd (omega arith)
among_fits n (m ∷ names) h e = by (eqb n m) refl (among_fits n names h.1) e
  where
    by : (same : Bool) → eqb n m ≡ same → (among n names ≡ true → n < 256) → cond same true (among n names) ≡ true → n < 256
    by true p rest q = let same : n ≡ m = eqb→eq n m (rw p tt) in let l : m < 256 = h.0 in omega arith
    by false p rest q = rest q

pub new_record_fits : (b : Binding) (names : List ℕ) → FitsBinding b → FitsNames names → FitsRecord (new_record b names)
new_record_fits b names h k = record { each = λ n. by n (among n names) refl }
  where
    by : (n : ℕ) (there : Bool) → among n names ≡ there → FitsAt (cond there b unbound) n
    by n true e = small b h (among_fits n names k e)
    by n false e = nothing_fits n

as_set_fits : (b : Binding) (n : ℕ) (setting : Option Value) → FitsAt b n → FitsSetting setting → FitsAt (as_set b setting) n
as_set_fits unbound n setting h k = h
as_set_fits uninitialised n setting h k = h
as_set_fits (initialised immutable v) n setting h k = h
as_set_fits (initialised mutable v) n none h k = h
as_set_fits (initialised mutable v) n (some u) h k =
    record { value = k; bounded = λ m. let e : initialised mutable v ≡ unbound = h.bounded m in cc }

left_fits : (b : Binding) (setting : Option Value) → FitsSetting setting → FitsSetting (left_for_outer b setting)
left_fits unbound setting k = k
left_fits uninitialised setting k = tt
left_fits (initialised m v) setting k = tt

pub apply_fits : (settings : ℕ → Option Value) (e : Environment) → ((n : ℕ) → FitsSetting (settings n)) → FitsEnvironment e
    → FitsEnvironment (apply_settings settings e)
apply_fits settings [] k h = tt
apply_fits settings (r ∷ outer) k h = (
  record { each = λ n. as_set_fits (r n) n (settings n) (h.0.each n) (k n) },
  apply_fits (λ n. left_for_outer (r n) (settings n)) outer (λ n. left_fits (r n) (settings n) (k n)) h.1,
)
