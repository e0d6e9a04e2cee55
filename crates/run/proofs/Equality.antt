-- Strict equality tells exactly the values that are the same.
use mathlib.Core.Path.{◌≡◌, refl, ap}
use mathlib.Core.Bool.{true, false}
use borrow.Author.Tests.{eq-eqb}
use lib.Dec.{eqb→eq}
use Rattle.run.specs.Values.{Value, undefined, null, boolean, integer, object, is_strictly_equal}
use Rattle.run.specs.Laws.{StrictEqualityIsEquality}

equal : (u v : Value) → is_strictly_equal u v ≡ true → u ≡ v
equal undefined undefined h = refl
equal undefined null h = cc
equal undefined (boolean b) h = cc
equal undefined (integer m) h = cc
equal undefined (object m) h = cc
equal null undefined h = cc
equal null null h = refl
equal null (boolean b) h = cc
equal null (integer m) h = cc
equal null (object m) h = cc
equal (boolean a) undefined h = cc
equal (boolean a) null h = cc
equal (boolean true) (boolean true) h = refl
equal (boolean true) (boolean false) h = cc
equal (boolean false) (boolean true) h = cc
equal (boolean false) (boolean false) h = refl
equal (boolean a) (integer m) h = cc
equal (boolean a) (object m) h = cc
equal (integer n) undefined h = cc
equal (integer n) null h = cc
equal (integer n) (boolean b) h = cc
equal (integer n) (integer m) h = ap integer (eqb→eq n m (rw h tt))
equal (integer n) (object m) h = cc
equal (object n) undefined h = cc
equal (object n) null h = cc
equal (object n) (boolean b) h = cc
equal (object n) (integer m) h = cc
equal (object n) (object m) h = ap object (eqb→eq n m (rw h tt))

same : (v : Value) → is_strictly_equal v v ≡ true
same undefined = refl
same null = refl
same (boolean true) = refl
same (boolean false) = refl
same (integer n) = eq-eqb n n refl
same (object n) = eq-eqb n n refl

pub strict_equality_is_equality : StrictEqualityIsEquality
strict_equality_is_equality = record { equal = equal; same = same }
