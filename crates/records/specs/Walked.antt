-- The records that a walk along a row meets, each with its place.
use Rattle.std.specs.Prelude.{ℕ, zero, suc, List, [], ◌∷◌, slice_get}
use Rattle.std.specs.declared.option.Option.{Option}
use Rattle.std.specs.declared.option.Option.TheVariants.{None, Some}
use Rattle.records.specs.declared.walk.Walk.{Walk}

-- the record at a place, if one is there, and what comes behind it
abbrev pub met : {R : Type 0} → ℕ → Option R → (R → List (ℕ × R)) → List (ℕ × R)
met at None behind = []
met at (Some x) behind = (at, x) ∷ behind x

-- from a place on, n records at most
abbrev pub walked : {R : Type 0} → (R → ℕ) → List R → ℕ → ℕ → List (ℕ × R)
walked link table at zero = []
walked link table at (suc n) = met at (slice_get table at) (λ x. walked link table (link x) n)

-- those that a walk has left
abbrev pub ahead : {R : Type 0} → (R → ℕ) → Walk R → List (ℕ × R)
ahead link w = walked link w.table.now w.at w.left
