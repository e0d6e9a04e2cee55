-- The values that a body computes with, their truth in a test, and their strict equality.
use Rattle.std.specs.Prelude.{Bool, true, false, not, ◌&&◌, ℕ, eqb}

-- ECMA-262, "ECMAScript Language Types": an integer of 32 bits is told by its bits, an object by a number of 32 bits.
-- Two's complement is a bijection between -2^31 .. 2^31 - 1 and 0 .. 2^32 - 1 that takes 0 to 0, so nothing is lost by speaking of the bits.
-- No bound is put on them here: a run of 32-bit parts in a world of 32-bit answers meets 32-bit values only (Laws, ValuesFit).
pub data Value : Type 0 where
  undefined null : Value
  boolean : Bool → Value
  integer : ℕ → Value
  object : ℕ → Value

-- "ToBoolean": undefined, null, false and 0 are false, everything else is true
abbrev pub to_boolean : Value → Bool
to_boolean undefined = false
to_boolean null = false
to_boolean (boolean b) = b
to_boolean (integer bits) = not (eqb bits 0)
to_boolean (object o) = true

-- what the operator ?? asks of its left side: "If value is either undefined or null"
abbrev pub undefined_or_null : Value → Bool
undefined_or_null undefined = true
undefined_or_null null = true
undefined_or_null (boolean b) = false
undefined_or_null (integer bits) = false
undefined_or_null (object o) = false

-- the kinds of values, numbered
abbrev pub kind : Value → ℕ
kind undefined = 0
kind null = 1
kind (boolean b) = 2
kind (integer bits) = 3
kind (object o) = 4

-- the content of a value, apart from its kind
abbrev pub content : Value → ℕ
content undefined = 0
content null = 0
content (boolean false) = 0
content (boolean true) = 1
content (integer bits) = bits
content (object o) = o

-- "IsStrictlyEqual": kind and content agree
abbrev pub is_strictly_equal : Value → Value → Bool
is_strictly_equal u v = eqb (kind u) (kind v) && eqb (content u) (content v)
