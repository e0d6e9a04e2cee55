-- Whether a statement ends what follows it, whether it declares a name in its list, and the rule on blocks. Results are kept with the newest statement first.
use Rattle.std.specs.Prelude.{Bool, true, false, cond, ◌&&◌, ◌||◌}
use Rattle.script.specs.declared.DeclarationKind.{DeclarationKind}
use Rattle.script.specs.declared.DeclarationKind.TheVariants.{Var, Let, Const}
use Rattle.script.specs.Tree.{Stmt, empty, expression, declaration, return_of, throw, if_then, block, while, do_while, for, switch, break}
use Rattle.script.specs.Tree.{continue, Alternate, no_alternate, alternate, Stmts, no_stmts, stmt_then}

abbrev mutual
  pub is_terminated : Stmt → Bool
  is_terminated empty = false
  is_terminated (expression e) = false
  is_terminated (declaration k ds) = false
  is_terminated (return_of p) = true
  is_terminated (throw e) = true
  is_terminated (if_then t c a) = is_terminated c && is_terminated_alternate a
  is_terminated (block ss) = is_terminated_list ss
  is_terminated (while t b) = false
  is_terminated (do_while b t) = false
  is_terminated (for i t u b) = false
  is_terminated (switch d cs) = false
  is_terminated break = true
  is_terminated continue = true

  pub is_terminated_alternate : Alternate → Bool
  is_terminated_alternate no_alternate = false
  is_terminated_alternate (alternate x) = is_terminated x

  pub is_terminated_list : Stmts → Bool
  is_terminated_list no_stmts = false
  is_terminated_list (stmt_then x xs) = is_terminated x || is_terminated_list xs

abbrev pub is_lexical : DeclarationKind → Bool
is_lexical Var = false
is_lexical Let = true
is_lexical Const = true

abbrev pub statement_cares_about_scope : Stmt → Bool
statement_cares_about_scope empty = false
statement_cares_about_scope (expression e) = false
statement_cares_about_scope (declaration k ds) = is_lexical k
statement_cares_about_scope (return_of p) = false
statement_cares_about_scope (throw e) = false
statement_cares_about_scope (if_then t c a) = false
statement_cares_about_scope (block ss) = false
statement_cares_about_scope (while t b) = false
statement_cares_about_scope (do_while b t) = false
statement_cares_about_scope (for i t u b) = false
statement_cares_about_scope (switch d cs) = false
statement_cares_about_scope break = false
statement_cares_about_scope continue = false

abbrev pub any_cares_about_scope : Stmts → Bool
any_cares_about_scope no_stmts = false
any_cares_about_scope (stmt_then x xs) = statement_cares_about_scope x || any_cares_about_scope xs

-- the statements of a list, put one after the other onto the results
abbrev pub push_all : Stmts → Stmts → Stmts
push_all no_stmts r = r
push_all (stmt_then x xs) r = push_all xs (stmt_then x r)

abbrev pub handle_block : Stmts → Stmts → Stmts
handle_block ss r = cond (any_cares_about_scope ss) (stmt_then (block ss) r) (push_all ss r)
