-- A byte that is not listed is handed back.
use Rattle.std.proofs.Math.Option.{Option, none, some}
use Rattle.std.specs.Prelude.{ℕ, Ok, Err, Result}
use Rattle.script.specs.declared.operand.NotListed.{NotListed}

abbrev pub listed_or_not : {A : Type 0} → ℕ → Option A → Result A NotListed
listed_or_not byte none = Err (record { 0 = byte })
listed_or_not byte (some a) = Ok a
