-- Bindings, environment records, and the chain of records that names are looked up in.
use Rattle.std.specs.Prelude.{Bool, true, false, cond, List, [], ◌∷◌, ℕ, eqb}
use Rattle.run.specs.Values.{Value}

-- CreateMutableBinding makes the first kind (var, let), CreateImmutableBinding the second (const)
pub data Mutability : Type 0 where
  mutable immutable : Mutability

-- what an environment record has for a name: nothing, a binding that is not initialised yet, or a binding with its value
pub data Binding : Type 0 where
  unbound uninitialised : Binding
  initialised : Mutability → Value → Binding

-- "Declarative Environment Records": what each name is bound to
abbrev pub EnvironmentRecord : Type 0
EnvironmentRecord = ℕ → Binding

-- the running environment and, one after the other, those outside it ([[OuterEnv]])
abbrev pub Environment : Type 0
Environment = List EnvironmentRecord

-- "HasBinding", and "GetIdentifierReference" where it says no: go on to the outer environment
abbrev pub or_outer : Binding → Binding → Binding
or_outer unbound outer = outer
or_outer uninitialised outer = uninitialised
or_outer (initialised m v) outer = initialised m v

-- "ResolveBinding": the innermost binding of a name
abbrev pub lookup : Environment → ℕ → Binding
lookup [] n = unbound
lookup (inner ∷ outer) n = or_outer (inner n) (lookup outer n)

-- the record with another binding of one name
abbrev pub with_binding : ℕ → Binding → EnvironmentRecord → EnvironmentRecord
with_binding n b r m = cond (eqb m n) b (r m)

-- the innermost binding of a name is replaced; r is the innermost record, and it had the binding given first
abbrev pub set_here_or : Binding → ℕ → Binding → EnvironmentRecord → Environment → Environment → Environment
set_here_or unbound n b r outer set_outer = r ∷ set_outer
set_here_or uninitialised n b r outer set_outer = with_binding n b r ∷ outer
set_here_or (initialised m v) n b r outer set_outer = with_binding n b r ∷ outer

-- "SetMutableBinding" on what ResolveBinding found
abbrev pub set_innermost : ℕ → Binding → Environment → Environment
set_innermost n b [] = []
set_innermost n b (r ∷ outer) = set_here_or (r n) n b r outer (set_innermost n b outer)

-- "InitializeBinding": a name gets its value, and its kind, in the running environment record,
-- which is that of the list or the head that the declaration stands in
abbrev pub initialise : ℕ → Binding → Environment → Environment
initialise n b [] = with_binding n b (λ _. unbound) ∷ []
initialise n b (r ∷ outer) = with_binding n b r ∷ outer

abbrev pub among : ℕ → List ℕ → Bool
among n [] = false
among n (m ∷ ms) = cond (eqb n m) true (among n ms)

-- "NewDeclarativeEnvironment", with the same binding for each of these names
abbrev pub new_record : Binding → List ℕ → EnvironmentRecord
new_record b names n = cond (among n names) b unbound
