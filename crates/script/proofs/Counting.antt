-- The bytes of a count and of a number make that number again.
use mathlib.Core.Path.{◌≡◌, ap}
use Prim.Native.Nat.{ℕ, ◌/◌, ◌%◌}
use native.Mathlib.Omega.{arith}
use Rattle.script.specs.declared.Awaiting.TheVariants as awaiting
use Rattle.script.specs.declared.Command.TheVariants as command
use Rattle.script.specs.declared.Counted.{Counted}
use Rattle.script.specs.Format.{two, four, ends, lexed, count_ends}

two_bytes : (n : ℕ) → two (n % 256) (n / 256) ≡ n
two_bytes n = omega arith

four_bytes : (n : ℕ) → four (n % 256) ((n / 256) % 256) ((n / 65536) % 256) (n / 16777216) ≡ n
four_bytes n = omega arith

-- so the last byte of either is known
pub count_ends_with : (c : Counted) (n : ℕ) → lexed (awaiting.CountHigh c (n % 256)) (n / 256) ≡ count_ends c n
count_ends_with c n = ap (count_ends c) (two_bytes n)

pub number_ends_with : (n : ℕ) → lexed (awaiting.NumberFourth (n % 256) ((n / 256) % 256) ((n / 65536) % 256)) (n / 16777216) ≡ ends (command.Number n)
number_ends_with n = ap (λ k. ends (command.Number k)) (four_bytes n)
