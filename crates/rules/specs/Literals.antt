-- Which expressions are literals.
use Rattle.std.specs.Prelude.{Bool, true, false}
use Rattle.script.specs.Tree.{Expr, number, word, name, assignment, call, sequence, conditional, logical, not, void, strict_equality}

abbrev pub is_literal : Expr → Bool
is_literal (number bits) = true
is_literal (word w) = true
is_literal (name n) = false
is_literal (assignment n e) = false
is_literal (call n es) = false
is_literal (sequence e es) = false
is_literal (conditional t a b) = false
is_literal (logical o a b) = false
is_literal (not e) = false
is_literal (void e) = false
is_literal (strict_equality a b) = false

-- literals, and `!` and `void` over them
abbrev pub is_literal_value : Expr → Bool
is_literal_value (number bits) = true
is_literal_value (word w) = true
is_literal_value (name n) = false
is_literal_value (assignment n e) = false
is_literal_value (call n es) = false
is_literal_value (sequence e es) = false
is_literal_value (conditional t a b) = false
is_literal_value (logical o a b) = false
is_literal_value (not e) = is_literal_value e
is_literal_value (void e) = is_literal_value e
is_literal_value (strict_equality a b) = false
