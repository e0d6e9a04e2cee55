-- A chain of records by their links, and the places that it passes.
use Rattle.std.specs.Prelude.{◌≡◌, ℕ, zero, suc, ◌+◌, ◌<◌, cond, List, [], ◌∷◌, length, ◌==◌, slice_index}

-- the link that leads nowhere
abbrev pub nowhere : ℕ
nowhere = 4294967295

-- from a place, n links lead through places of the list and then nowhere
abbrev pub Chain : List ℕ → ℕ → ℕ → Type 0
Chain links at zero = at ≡ nowhere
Chain links at (suc n) = (at < length links) × Chain links (slice_index links at) n

-- those places, in order
abbrev pub places : List ℕ → ℕ → ℕ → List ℕ
places links at zero = []
places links at (suc n) = at ∷ places links (slice_index links at) n

-- 1 where two places are one, else 0
abbrev pub same_place : ℕ → ℕ → ℕ
same_place k i = cond (k == i) 1 0

-- how often a place stands in a list
abbrev pub occurrences : ℕ → List ℕ → ℕ
occurrences k [] = 0
occurrences k (i ∷ is) = same_place k i + occurrences k is

-- the list with its element at a place changed
abbrev pub modify : {X : Type 0} → (X → X) → ℕ → List X → List X
modify f i [] = []
modify f zero (x ∷ xs) = f x ∷ xs
modify f (suc i) (x ∷ xs) = x ∷ modify f i xs
