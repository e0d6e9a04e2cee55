-- Which names a list, the cases of a switch or the head of a loop declare, and which are var names.
use Rattle.std.specs.Prelude.{List, [], ◌∷◌, ◌++◌, ℕ}
use Rattle.script.specs.declared.DeclarationKind.{DeclarationKind}
use Rattle.script.specs.declared.DeclarationKind.TheVariants.{Var, Let, Const}
use Rattle.script.specs.Tree.{Declarators, no_declarators, declarator_then, Init, no_init, init_expression, init_declaration}
use Rattle.script.specs.Tree.{Stmt, empty, expression, declaration, return_of, throw, if_then, block, while, do_while, for, switch, break, continue}
use Rattle.script.specs.Tree.{Alternate, no_alternate, alternate, Stmts, no_stmts, stmt_then, Cases, no_cases, case_then}

-- "BoundNames"
abbrev pub bound_names : Declarators → List ℕ
bound_names no_declarators = []
bound_names (declarator_then n v ds) = n ∷ bound_names ds

abbrev pub lexical_names : DeclarationKind → Declarators → List ℕ
lexical_names Var ds = []
lexical_names Let ds = bound_names ds
lexical_names Const ds = bound_names ds

abbrev pub var_names : DeclarationKind → Declarators → List ℕ
var_names Var ds = bound_names ds
var_names Let ds = []
var_names Const ds = []

-- "LexicallyDeclaredNames": the let and const names that a statement declares in the list it stands in
abbrev pub lexically_declared : Stmt → List ℕ
lexically_declared empty = []
lexically_declared (expression e) = []
lexically_declared (declaration k ds) = lexical_names k ds
lexically_declared (return_of v) = []
lexically_declared (throw e) = []
lexically_declared (if_then t c a) = []
lexically_declared (block ss) = []
lexically_declared (while t b) = []
lexically_declared (do_while b t) = []
lexically_declared (for i t u b) = []
lexically_declared (switch d cs) = []
lexically_declared break = []
lexically_declared continue = []

abbrev pub lexically_declared_list : Stmts → List ℕ
lexically_declared_list no_stmts = []
lexically_declared_list (stmt_then x xs) = lexically_declared x ++ lexically_declared_list xs

-- the cases of a switch are one list
abbrev pub lexically_declared_cases : Cases → List ℕ
lexically_declared_cases no_cases = []
lexically_declared_cases (case_then t xs cs) = lexically_declared_list xs ++ lexically_declared_cases cs

abbrev pub lexically_declared_init : Init → List ℕ
lexically_declared_init no_init = []
lexically_declared_init (init_expression e) = []
lexically_declared_init (init_declaration k ds) = lexical_names k ds

abbrev pub var_declared_init : Init → List ℕ
var_declared_init no_init = []
var_declared_init (init_expression e) = []
var_declared_init (init_declaration k ds) = var_names k ds

abbrev mutual
  -- "VarDeclaredNames": at any depth
  pub var_declared : Stmt → List ℕ
  var_declared empty = []
  var_declared (expression e) = []
  var_declared (declaration k ds) = var_names k ds
  var_declared (return_of v) = []
  var_declared (throw e) = []
  var_declared (if_then t c a) = var_declared c ++ var_declared_alternate a
  var_declared (block ss) = var_declared_list ss
  var_declared (while t b) = var_declared b
  var_declared (do_while b t) = var_declared b
  var_declared (for i t u b) = var_declared_init i ++ var_declared b
  var_declared (switch d cs) = var_declared_cases cs
  var_declared break = []
  var_declared continue = []

  pub var_declared_alternate : Alternate → List ℕ
  var_declared_alternate no_alternate = []
  var_declared_alternate (alternate x) = var_declared x

  pub var_declared_list : Stmts → List ℕ
  var_declared_list no_stmts = []
  var_declared_list (stmt_then x xs) = var_declared x ++ var_declared_list xs

  pub var_declared_cases : Cases → List ℕ
  var_declared_cases no_cases = []
  var_declared_cases (case_then t xs cs) = var_declared_list xs ++ var_declared_cases cs
