-- The names that a tree declares are of one byte where the tree's names are.
use mathlib.Core.List.{List, [], ◌∷◌, ◌++◌}
use Prim.Native.Nat.{ℕ, ◌<◌}
use Rattle.script.specs.declared.DeclarationKind.{DeclarationKind}
use Rattle.script.specs.declared.DeclarationKind.TheVariants.{Var, Let, Const}
use Rattle.script.specs.Tree.{Declarators, no_declarators, declarator_then, Init, no_init, init_expression, init_declaration}
use Rattle.script.specs.Tree.{Stmt, empty, expression, declaration, return_of, throw, if_then, block, while, do_while, for, switch, break, continue}
use Rattle.script.specs.Tree.{Alternate, no_alternate, alternate, Stmts, no_stmts, stmt_then, Cases, no_cases, case_then}
use Rattle.run.specs.Names.{bound_names, lexical_names, var_names, lexically_declared, lexically_declared_list, lexically_declared_cases, lexically_declared_init}
use Rattle.run.specs.Names.{var_declared_init, var_declared, var_declared_alternate, var_declared_list, var_declared_cases}
use Rattle.run.specs.Fits.{FitsDeclarators, FitsInit, FitsStmt, FitsAlternate, FitsStmts, FitsCases}

abbrev pub FitsNames : List ℕ → Type 0
FitsNames [] = Unit {0}
FitsNames (n ∷ ns) = (n < 256) × FitsNames ns

both : (a b : List ℕ) → FitsNames a → FitsNames b → FitsNames (a ++ b)
both [] b p q = q
both (n ∷ a) b p q = (p.0, both a b p.1 q)

bound_fit : (ds : Declarators) → FitsDeclarators ds → FitsNames (bound_names ds)
bound_fit no_declarators ok = tt
bound_fit (declarator_then n e ds) ok = (ok.0, bound_fit ds ok.2)

lexical_fit : (k : DeclarationKind) (ds : Declarators) → FitsDeclarators ds → FitsNames (lexical_names k ds)
lexical_fit Var ds ok = tt
lexical_fit Let ds ok = bound_fit ds ok
lexical_fit Const ds ok = bound_fit ds ok

var_fit : (k : DeclarationKind) (ds : Declarators) → FitsDeclarators ds → FitsNames (var_names k ds)
var_fit Var ds ok = bound_fit ds ok
var_fit Let ds ok = tt
var_fit Const ds ok = tt

declared_fit : (x : Stmt) → FitsStmt x → FitsNames (lexically_declared x)
declared_fit empty ok = tt
declared_fit (expression e) ok = tt
declared_fit (declaration k ds) ok = lexical_fit k ds ok
declared_fit (return_of e) ok = tt
declared_fit (throw e) ok = tt
declared_fit (if_then t c a) ok = tt
declared_fit (block xs) ok = tt
declared_fit (while t b) ok = tt
declared_fit (do_while b t) ok = tt
declared_fit (for i t u b) ok = tt
declared_fit (switch d cs) ok = tt
declared_fit break ok = tt
declared_fit continue ok = tt

pub declared_list_fit : (xs : Stmts) → FitsStmts xs → FitsNames (lexically_declared_list xs)
declared_list_fit no_stmts ok = tt
declared_list_fit (stmt_then x xs) ok = both (lexically_declared x) _ (declared_fit x ok.0) (declared_list_fit xs ok.1)

pub declared_cases_fit : (cs : Cases) → FitsCases cs → FitsNames (lexically_declared_cases cs)
declared_cases_fit no_cases ok = tt
declared_cases_fit (case_then t xs cs) ok =
    both (lexically_declared_list xs) _ (declared_list_fit xs ok.1) (declared_cases_fit cs ok.2)

pub declared_init_fit : (i : Init) → FitsInit i → FitsNames (lexically_declared_init i)
declared_init_fit no_init ok = tt
declared_init_fit (init_expression e) ok = tt
declared_init_fit (init_declaration k ds) ok = lexical_fit k ds ok

var_init_fit : (i : Init) → FitsInit i → FitsNames (var_declared_init i)
var_init_fit no_init ok = tt
var_init_fit (init_expression e) ok = tt
var_init_fit (init_declaration k ds) ok = var_fit k ds ok

mutual
  vars_fit : (x : Stmt) → FitsStmt x → FitsNames (var_declared x)
  vars_fit empty ok = tt
  vars_fit (expression e) ok = tt
  vars_fit (declaration k ds) ok = var_fit k ds ok
  vars_fit (return_of e) ok = tt
  vars_fit (throw e) ok = tt
  vars_fit (if_then t c a) ok = both (var_declared c) _ (vars_fit c ok.1) (vars_alternate_fit a ok.2)
  vars_fit (block xs) ok = vars_list_fit xs ok
  vars_fit (while t b) ok = vars_fit b ok.1
  vars_fit (do_while b t) ok = vars_fit b ok.0
  vars_fit (for i t u b) ok = both (var_declared_init i) _ (var_init_fit i ok.0) (vars_fit b ok.3)
  vars_fit (switch d cs) ok = vars_cases_fit cs ok.1
  vars_fit break ok = tt
  vars_fit continue ok = tt

  vars_alternate_fit : (a : Alternate) → FitsAlternate a → FitsNames (var_declared_alternate a)
  vars_alternate_fit no_alternate ok = tt
  vars_alternate_fit (alternate x) ok = vars_fit x ok

  pub vars_list_fit : (xs : Stmts) → FitsStmts xs → FitsNames (var_declared_list xs)
  vars_list_fit no_stmts ok = tt
  vars_list_fit (stmt_then x xs) ok = both (var_declared x) _ (vars_fit x ok.0) (vars_list_fit xs ok.1)

  vars_cases_fit : (cs : Cases) → FitsCases cs → FitsNames (var_declared_cases cs)
  vars_cases_fit no_cases ok = tt
  vars_cases_fit (case_then t xs cs) ok = both (var_declared_list xs) _ (vars_list_fit xs ok.1) (vars_cases_fit cs ok.2)
