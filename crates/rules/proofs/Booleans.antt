-- Parts of a conjunction that holds, and of a disjunction that fails; conjunctions that fail.
use Rattle.std.proofs.Common.{◌≡◌, Bool, true, false, ◌&&◌, ◌||◌, T, refl}

pub and_left : (a b : Bool) → T (a && b) → T a
and_left true b t = tt
and_left false b t = t

pub and_right : (a b : Bool) → T (a && b) → T b
and_right true b t = t
and_right false b t = absurd t

pub or_left : (a b : Bool) → a || b ≡ false → a ≡ false
or_left true b e = e
or_left false b e = refl

pub or_right : (a b : Bool) → a || b ≡ false → b ≡ false
or_right true b e = cc
or_right false b e = e

pub and_false : (a : Bool) → a && false ≡ false
and_false true = refl
and_false false = refl

pub and_swapped : (a b : Bool) → a && b ≡ false → b && a ≡ false
and_swapped true true e = e
and_swapped true false e = refl
and_swapped false true e = refl
and_swapped false false e = refl
