-- Two measures of a body. The first, a sum over its records, is one that every altering rule of fusing lowers, but for one that only puts let and const before var.
use Rattle.std.specs.Prelude.{◌≡◌, ℕ, suc, ◌+◌, ◌<◌, cond, ◌⊎◌}
use Rattle.script.specs.Sound.{records_expr, records_optional}
use Rattle.script.specs.Tree.{OptionalExpr, absent, present, Declarators, no_declarators, declarator_then, Init, no_init, init_expression}
use Rattle.script.specs.Tree.{init_declaration, Stmt, empty, expression, declaration, return_of, throw, if_then, block, while, do_while, for}
use Rattle.script.specs.Tree.{switch, break, continue, Alternate, no_alternate, alternate, Stmts, no_stmts, stmt_then, Cases, no_cases}
use Rattle.script.specs.Tree.{case_then}
use Rattle.rules.specs.Statements.{is_lexical, statement_cares_about_scope}

-- one for each expression and each declarator, and for each statement a number by its kind

abbrev pub weight_of_declarators : Declarators → ℕ
weight_of_declarators no_declarators = 0
weight_of_declarators (declarator_then n v ds) = suc (records_optional v + weight_of_declarators ds)

abbrev pub weight_of_init : Init → ℕ
weight_of_init no_init = 0
weight_of_init (init_expression e) = records_expr e
weight_of_init (init_declaration k ds) = weight_of_declarators ds

abbrev pub weight_of_return : OptionalExpr → ℕ
weight_of_return absent = 20
weight_of_return (present e) = 25 + records_expr e

abbrev mutual
  pub weight_of_statement : Stmt → ℕ
  weight_of_statement empty = 1
  weight_of_statement (expression e) = 3 + records_expr e
  weight_of_statement (declaration k ds) = 1 + weight_of_declarators ds
  weight_of_statement (return_of p) = weight_of_return p
  weight_of_statement (throw e) = 20 + records_expr e
  weight_of_statement (if_then t c a) = 2 + (records_expr t + (weight_of_statement c + weight_of_alternate a))
  weight_of_statement (block ss) = 1 + weight ss
  weight_of_statement (while t b) = 1 + (records_expr t + weight_of_statement b)
  weight_of_statement (do_while b t) = 1 + (weight_of_statement b + records_expr t)
  weight_of_statement (for i t u b) = 2 + (weight_of_init i + (records_optional t + (records_optional u + weight_of_statement b)))
  weight_of_statement (switch d cs) = 10 + (records_expr d + weight_of_cases cs)
  weight_of_statement break = 20
  weight_of_statement continue = 20

  pub weight_of_alternate : Alternate → ℕ
  weight_of_alternate no_alternate = 0
  weight_of_alternate (alternate x) = 1 + weight_of_statement x

  pub weight : Stmts → ℕ
  weight no_stmts = 0
  weight (stmt_then x xs) = weight_of_statement x + weight xs

  pub weight_of_cases : Cases → ℕ
  weight_of_cases no_cases = 0
  weight_of_cases (case_then p ss cs) = 1 + (records_optional p + (weight ss + weight_of_cases cs))

-- is the statement a var declaration: one or none
abbrev pub vars_here : Stmt → ℕ
vars_here empty = 0
vars_here (expression e) = 0
vars_here (declaration k ds) = cond (is_lexical k) 0 1
vars_here (return_of p) = 0
vars_here (throw e) = 0
vars_here (if_then t c a) = 0
vars_here (block ss) = 0
vars_here (while t b) = 0
vars_here (do_while b t) = 0
vars_here (for i t u b) = 0
vars_here (switch d cs) = 0
vars_here break = 0
vars_here continue = 0

-- the pairs of a var declaration and a let or const declaration behind it in the same list, of every list at any depth:
-- `return; var a; let b` becomes `return; let b; var a`, of the same weight
abbrev mutual
  pub vars_ahead_within : Stmt → ℕ
  vars_ahead_within empty = 0
  vars_ahead_within (expression e) = 0
  vars_ahead_within (declaration k ds) = 0
  vars_ahead_within (return_of p) = 0
  vars_ahead_within (throw e) = 0
  vars_ahead_within (if_then t c a) = vars_ahead_within c + vars_ahead_in_alternate a
  vars_ahead_within (block ss) = vars_ahead_after 0 ss
  vars_ahead_within (while t b) = vars_ahead_within b
  vars_ahead_within (do_while b t) = vars_ahead_within b
  vars_ahead_within (for i t u b) = vars_ahead_within b
  vars_ahead_within (switch d cs) = vars_ahead_in_cases cs
  vars_ahead_within break = 0
  vars_ahead_within continue = 0

  pub vars_ahead_in_alternate : Alternate → ℕ
  vars_ahead_in_alternate no_alternate = 0
  vars_ahead_in_alternate (alternate x) = vars_ahead_within x

  -- n var declarations stand before
  pub vars_ahead_after : ℕ → Stmts → ℕ
  vars_ahead_after n no_stmts = 0
  vars_ahead_after n (stmt_then x xs) =
      vars_ahead_within x + (cond (statement_cares_about_scope x) n 0 + vars_ahead_after (n + vars_here x) xs)

  pub vars_ahead_in_cases : Cases → ℕ
  vars_ahead_in_cases no_cases = 0
  vars_ahead_in_cases (case_then p ss cs) = vars_ahead_after 0 ss + vars_ahead_in_cases cs

abbrev pub vars_ahead : Stmts → ℕ
vars_ahead ss = vars_ahead_after 0 ss

-- the two numbers by which fusing is told
abbrev pub measures : Stmts → ℕ × ℕ
measures ss = (weight ss, vars_ahead ss)

abbrev pub Lighter : Stmts → Stmts → Type 0
Lighter a b = (weight a < weight b) ⊎ ((weight a ≡ weight b) × (vars_ahead a < vars_ahead b))
