-- Which cases the rule on `switch` inlines.
use Rattle.std.specs.Prelude.{Bool, true, false, not as negated, ◌&&◌}
use Rattle.script.specs.Tree.{Cases, OptionalExpr, Stmt, Stmts, absent, case_then, no_cases, no_stmts, present, stmt_then}
use Rattle.script.specs.Tree.{block, break, continue, declaration, do_while, empty, expression, for, if_then, return_of, switch, throw, while}
use Rattle.rules.specs.Literals.{is_literal}
use Rattle.rules.specs.Switches.{has_nested_break_in_list}

abbrev pub is_a_block : Stmt → Bool
is_a_block empty = false
is_a_block (expression e) = false
is_a_block (declaration k ds) = false
is_a_block (return_of v) = false
is_a_block (throw e) = false
is_a_block (if_then t c a) = false
is_a_block (block ss) = true
is_a_block (while t b) = false
is_a_block (do_while b t) = false
is_a_block (for i t u b) = false
is_a_block (switch d cs) = false
is_a_block break = false
is_a_block continue = false

-- the list is one block and nothing else
abbrev pub is_one_block : Stmts → Bool
is_one_block no_stmts = false
is_one_block (stmt_then x no_stmts) = is_a_block x
is_one_block (stmt_then x (stmt_then y ys)) = false

abbrev pub literal_or_none : OptionalExpr → Bool
literal_or_none absent = true
literal_or_none (present e) = is_literal e

-- one case, its test a literal or none, without a break that would leave the switch
abbrev pub inlines : Cases → Bool
inlines no_cases = false
inlines (case_then v ss no_cases) = negated (has_nested_break_in_list ss) && literal_or_none v
inlines (case_then v ss (case_then u ts cs)) = false
