-- Reading and writing single records, and their pools.
use Rattle.std.specs.Prelude.{◌≡◌, ℕ, ◌+◌, ◌-◌, ◌<◌, List, length, slice_index}
use Rattle.pool.specs.Chain.{nowhere, modify}
use Rattle.pool.specs.declared.Pool.{Pool}

-- a pool that has a spare gives its first
abbrev pub Took : List ℕ → Pool → ℕ → Pool → Type 0
Took links p at p' = 0 < p.count → p.head < length links → (at ≡ p.head) × (p' ≡ record { head = slice_index links p.head; count = p.count - 1 })

-- a record of the table that is given back is the first spare
abbrev pub Gave : {R : Type 0} → (R → ℕ → R) → List R → Pool → ℕ → List R → Pool → Type 0
Gave relinked t p at t' p' =
    at < length t → p.count < nowhere → (t' ≡ modify (λ x. relinked x p.head) at t) × (p' ≡ record { head = at; count = p.count + 1 })
