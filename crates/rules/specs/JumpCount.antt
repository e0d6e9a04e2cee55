-- How many jumps a statement has, at any depth.
use Rattle.std.specs.Prelude.{ℕ, ◌+◌}
use Rattle.script.specs.Tree.{Stmt, empty, expression, declaration, return_of, throw, if_then, block, while, do_while, for, switch, break}
use Rattle.script.specs.Tree.{continue, Alternate, no_alternate, alternate, Stmts, no_stmts, stmt_then, Cases, no_cases, case_then}

abbrev mutual
  pub jumps : Stmt → ℕ
  jumps empty = 0
  jumps (expression e) = 0
  jumps (declaration k ds) = 0
  jumps (return_of p) = 1
  jumps (throw e) = 1
  jumps (if_then t c a) = jumps c + jumps_alternate a
  jumps (block ss) = jumps_list ss
  jumps (while t b) = jumps b
  jumps (do_while b t) = jumps b
  jumps (for i t u b) = jumps b
  jumps (switch d cs) = jumps_cases cs
  jumps break = 1
  jumps continue = 1

  pub jumps_alternate : Alternate → ℕ
  jumps_alternate no_alternate = 0
  jumps_alternate (alternate x) = jumps x

  pub jumps_list : Stmts → ℕ
  jumps_list no_stmts = 0
  jumps_list (stmt_then x xs) = jumps x + jumps_list xs

  pub jumps_cases : Cases → ℕ
  jumps_cases no_cases = 0
  jumps_cases (case_then p ss cs) = jumps_list ss + jumps_cases cs
