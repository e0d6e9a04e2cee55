-- Lists in which no two expression statements are neighbours, at any depth.
use Rattle.std.specs.Prelude.{◌≡◌, Bool, true, false, ◌&&◌}
use Rattle.script.specs.Tree.{Stmt, empty, expression, declaration, return_of, throw, if_then, block, while, do_while, for, switch, break}
use Rattle.script.specs.Tree.{continue, Alternate, no_alternate, alternate, Stmts, no_stmts, stmt_then, Cases, no_cases, case_then}

abbrev pub is_expression_statement : Stmt → Bool
is_expression_statement empty = false
is_expression_statement (expression e) = true
is_expression_statement (declaration k ds) = false
is_expression_statement (return_of p) = false
is_expression_statement (throw e) = false
is_expression_statement (if_then t c a) = false
is_expression_statement (block ss) = false
is_expression_statement (while t b) = false
is_expression_statement (do_while b t) = false
is_expression_statement (for i t u b) = false
is_expression_statement (switch d cs) = false
is_expression_statement break = false
is_expression_statement continue = false

abbrev pub begins_with_expression : Stmts → Bool
begins_with_expression no_stmts = false
begins_with_expression (stmt_then x xs) = is_expression_statement x

-- a statement is apart if the lists in it are
abbrev mutual
  pub ApartStatement : Stmt → Type 0
  ApartStatement empty = Unit {0}
  ApartStatement (expression e) = Unit {0}
  ApartStatement (declaration k ds) = Unit {0}
  ApartStatement (return_of p) = Unit {0}
  ApartStatement (throw e) = Unit {0}
  ApartStatement (if_then t c a) = ApartStatement c × ApartAlternate a
  ApartStatement (block ss) = Apart ss
  ApartStatement (while t b) = ApartStatement b
  ApartStatement (do_while b t) = ApartStatement b
  ApartStatement (for i t u b) = ApartStatement b
  ApartStatement (switch d cs) = ApartCases cs
  ApartStatement break = Unit {0}
  ApartStatement continue = Unit {0}

  pub ApartAlternate : Alternate → Type 0
  ApartAlternate no_alternate = Unit {0}
  ApartAlternate (alternate x) = ApartStatement x

  pub Apart : Stmts → Type 0
  Apart no_stmts = Unit {0}
  Apart (stmt_then x xs) = (is_expression_statement x && begins_with_expression xs ≡ false) × ApartStatement x × Apart xs

  pub ApartCases : Cases → Type 0
  ApartCases no_cases = Unit {0}
  ApartCases (case_then p ss cs) = Apart ss × ApartCases cs
