-- The work on one list keeps what the list does and declares.
use Rattle.std.proofs.Common.{◌≡◌, ℕ, zero, suc, Bool, true, false, cond, [], ◌++◌, sym, refl, ap, ◌∙◌, append-nil}
use Rattle.script.specs.Tree.{Stmts, empty, Expr, expression, block, stmt_then, OptionalExpr, return_of, Stmt, Alternate, if_then}
use Rattle.script.specs.Tree.{declaration, throw, while, do_while, for, switch, break, continue, no_stmts}
use Rattle.run.specs.Environment.{among}
use Rattle.run.specs.Names.{lexically_declared, var_declared, var_declared_list}
use Rattle.run.specs.Execute.{done, execute_list}
use Rattle.hosts.specs.Meaning.{Lawful}
use Rattle.rules.specs.Statements.{handle_block, any_cares_about_scope, push_all}
use Rattle.rules.specs.Merging.{handle_expression_statement, Worked}
use Rattle.rules.specs.Returns.{handle_return_statement, value_or_void_0}
use Rattle.rules.specs.Unreachable.{then_rest}
use Rattle.rules.specs.Folding.{Context, handle_if_after_test, MergedTest, merge_same_if, last_if?, jump?, handle_if_statement}
use Rattle.rules.specs.Folding.{worked_if_test}
use Rattle.rules.specs.Minimize.{minimize_statement, minimize_onto_with, minimize_onto, minimize_statements}
use Rattle.rules.specs.Results.{gather}
use Rattle.rules.proofs.Completions.{and_then_normal}
use Rattle.rules.proofs.Statements.{handle_block_same, list_declares_nothing, results_then_push_all, results_then_cong}
use Rattle.rules.proofs.Merging.{handle_expression_statement_same}
use Rattle.rules.proofs.Returns.{handle_return_statement_same}
use Rattle.rules.proofs.Names.{handle_expression_statement_names, lexical_names_of_list, var_names_of_list, handle_return_statement_names}
use Rattle.rules.proofs.Holders.{agree_same}
use Rattle.rules.proofs.Keeping.{Keeps, push_all_lexical, push_all_var, Minimizes, Rest, Minimized, minimized_via, keeps_same_work}
use Rattle.rules.proofs.Keeping.{then_rest_minimized, pushed_keeps}
use Rattle.rules.proofs.Declarations.{handle_variable_declaration_keeps}
use Rattle.rules.proofs.For.{handle_for_statement_keeps}
use Rattle.rules.proofs.Throws.{handle_throw_statement_keeps}
use Rattle.rules.proofs.Switches.{handle_switch_statement_keeps}
use Rattle.rules.proofs.Folding.{push_if_minimized, merge_same_if_work, fold_rest_minimized, worked_if_test_work, ListKept, list_kept}

empty_keeps : (r : Stmts) → Keeps empty r r
empty_keeps r =
    record { same = λ f. refl; lexical = sym (append-nil (gather lexically_declared r)); var = sym (append-nil (gather var_declared r)) }

expression_keeps : (q : Bool) (e : Expr) (r : Stmts) → Keeps (expression e) r (handle_expression_statement q e r)
expression_keeps q e r = record {
  same = handle_expression_statement_same q e r;
  lexical = handle_expression_statement_names lexically_declared lexical_names_of_list q e r
      ∙ sym (append-nil (gather lexically_declared r));
  var = handle_expression_statement_names var_declared var_names_of_list q e r ∙ sym (append-nil (gather var_declared r));
}

block_keeps : (ss r : Stmts) → Keeps (block ss) r (handle_block ss r)
block_keeps ss r =
    record { same = handle_block_same ss r; lexical = lexical_by (any_cares_about_scope ss) refl; var = var_by (any_cares_about_scope ss) }
  where
    lexical_by : (b : Bool) → any_cares_about_scope ss ≡ b
        → gather lexically_declared (cond b (stmt_then (block ss) r) (push_all ss r)) ≡ gather lexically_declared r ++ []
    lexical_by true e = refl
    lexical_by false e = push_all_lexical ss r ∙ ap (λ l. gather lexically_declared r ++ l) (list_declares_nothing ss e)

    var_by : (b : Bool)
        → gather var_declared (cond b (stmt_then (block ss) r) (push_all ss r)) ≡ gather var_declared r ++ var_declared_list ss
    var_by true = refl
    var_by false = push_all_var ss r

module _ (st : Context) (law : Lawful st.host) where
  return_keeps : (p : OptionalExpr) (r : Stmts)
      → Keeps (return_of p) r (handle_return_statement st.sequences st.host st.holder p r)
  return_keeps p r = record {
    same = handle_return_statement_same st.host law st.sequences st.holder p r;
    lexical = handle_return_statement_names lexically_declared lexical_names_of_list st.sequences st.host st.holder p r
        ∙ sym (append-nil (gather lexically_declared r));
    var = handle_return_statement_names var_declared var_names_of_list st.sequences st.host st.holder p r
        ∙ sym (append-nil (gather var_declared r));
  }

  module _ (again : Stmts → Stmts → Stmts) (w : Minimizes st.holder again) (rest : Stmts) (more : Stmts → Stmts)
      (v : Rest st.holder rest more) where
    handle_if_after_test_minimized : (q : Bool) (t : Expr) (c : Stmt) (a : Alternate) (r : Stmts)
        → Minimized st.holder (stmt_then (if_then t c a) rest) r (handle_if_after_test st q again more t c a rest r)
    handle_if_after_test_minimized false t c a r = push_if_minimized st.host law again w rest more v t c a r
    handle_if_after_test_minimized true t c a r =
        let j : MergedTest = merge_same_if t c (last_if? r) in
        minimized_via (merge_same_if_work t c (last_if? r) a rest)
        (fold_rest_minimized st.host law again w rest more v st refl j.test (jump? st.holder c) a j.results)

    handle_if_statement_minimized : (t : Expr) (c : Stmt) (a : Alternate) (r : Stmts)
        → Minimized st.holder (stmt_then (if_then t c a) rest) r (handle_if_statement st again more t c a rest r)
    handle_if_statement_minimized t c a r =
        let u : Worked = worked_if_test st.sequences t r in
        minimized_via (worked_if_test_work st.sequences t c a rest r)
        (handle_if_after_test_minimized st.sequences (value_or_void_0 u.target) c a u.results)

    keeps_minimized : (x : Stmt) (r r' : Stmts) → Keeps x r r' → Minimized st.holder (stmt_then x rest) r (then_rest more rest r')
    keeps_minimized x r r' p = minimized_via (keeps_same_work rest p) (then_rest_minimized rest more v r')

    minimize_statement_minimized : (x : Stmt) (r : Stmts)
        → Minimized st.holder (stmt_then x rest) r (minimize_statement st again more x rest r)
    minimize_statement_minimized empty r = keeps_minimized empty r _ (empty_keeps r)
    minimize_statement_minimized (expression e) r = keeps_minimized (expression e) r _ (expression_keeps st.sequences e r)
    minimize_statement_minimized (declaration k ds) r =
        keeps_minimized (declaration k ds) r _ (handle_variable_declaration_keeps st.join_vars k ds r)
    minimize_statement_minimized (return_of p) r = keeps_minimized (return_of p) r _ (return_keeps p r)
    minimize_statement_minimized (throw e) r = keeps_minimized (throw e) r _ (handle_throw_statement_keeps st.sequences e r)
    minimize_statement_minimized (if_then t c a) r = handle_if_statement_minimized t c a r
    minimize_statement_minimized (block ss) r = keeps_minimized (block ss) r _ (block_keeps ss r)
    minimize_statement_minimized (while t b) r = keeps_minimized (while t b) r _ (pushed_keeps (while t b) r)
    minimize_statement_minimized (do_while b t) r = keeps_minimized (do_while b t) r _ (pushed_keeps (do_while b t) r)
    minimize_statement_minimized (for i t u b) r = keeps_minimized (for i t u b) r _ (handle_for_statement_keeps t u b st.sequences i r)
    minimize_statement_minimized (switch d cs) r = keeps_minimized (switch d cs) r _ (handle_switch_statement_keeps st.sequences d cs r)
    minimize_statement_minimized break r = keeps_minimized break r _ (pushed_keeps break r)
    minimize_statement_minimized continue r = keeps_minimized continue r _ (pushed_keeps continue r)

  pub push_all_minimized : (todo r : Stmts) → Minimized st.holder todo r (push_all todo r)
  push_all_minimized todo r = record {
    does = agree_same
        (λ s. ap (λ f. f s) (results_then_push_all todo r done ∙ results_then_cong r (λ s₁. and_then_normal (execute_list todo s₁))));
    lexical = push_all_lexical todo r;
    var = λ n. ap (among n) (push_all_var todo r);
  }

  nothing_minimized : (r : Stmts) → Minimized st.holder no_stmts r r
  nothing_minimized r = record {
    does = agree_same (λ s. refl);
    lexical = sym (append-nil (gather lexically_declared r));
    var = λ n. ap (among n) (sym (append-nil (gather var_declared r)));
  }

  minimize_onto_with_minimized : (again : Stmts → Stmts → Stmts) → Minimizes st.holder again
      → Minimizes st.holder (λ todo r. minimize_onto_with st again todo r)
  minimize_onto_with_minimized again w no_stmts r = nothing_minimized r
  minimize_onto_with_minimized again w (stmt_then x rest) r =
      minimize_statement_minimized again w rest (λ r₁. minimize_onto_with st again rest r₁) (minimize_onto_with_minimized again w rest) x r

  pub minimize_onto_minimized : (n : ℕ) → Minimizes st.holder (λ todo r. minimize_onto n st todo r)
  minimize_onto_minimized zero todo r = minimize_onto_with_minimized push_all push_all_minimized todo r
  minimize_onto_minimized (suc n) todo r =
      minimize_onto_with_minimized (λ todo₁ r₁. minimize_onto n st todo₁ r₁) (minimize_onto_minimized n) todo r

  pub minimize_statements_kept : (n : ℕ) (ss : Stmts) → ListKept st.holder ss (minimize_statements n st ss)
  minimize_statements_kept n ss = list_kept ss (minimize_onto n st ss no_stmts) (minimize_onto_minimized n ss no_stmts)
