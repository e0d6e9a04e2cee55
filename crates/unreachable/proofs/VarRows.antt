-- The names that rows declare by `var` are those of their trees, and rows have no more records than the tables.
use Rattle.std.proofs.Common.{◌≡◌, ℕ, ◌≤◌, List, ◌∷◌, ◌++◌, length, refl, ap, ◌∙◌, append-nil, arith}
use Rattle.script.specs.declared.DeclarationKind.{DeclarationKind}
use Rattle.script.specs.declared.DeclarationKind.TheVariants.{Const, Let, Var}
use Rattle.script.specs.Judge.{Spares}
use Rattle.script.specs.Tree.{Alternate, Cases, Declarators, Init, Stmt, Stmts, alternate, case_then, declarator_then, init_declaration, init_expression}
use Rattle.script.specs.Tree.{no_alternate, no_cases, no_declarators, no_init, no_stmts, stmt_then}
use Rattle.script.specs.Tree.{block, break, continue, declaration, do_while, empty, expression, for, if_then, return_of, switch, throw, while}
use Rattle.records.specs.declared.record.Pools.{Pools}
use Rattle.records.specs.Embedding.{alternate_row, cases_row, declarators_row, init_stmts, stmt_row, stmts_row}
use Rattle.records.specs.Heap.{Heap, Label, Place, decl_at, stmt_at}
use Rattle.records.specs.Owned.{Owns, Root}
use Rattle.records.specs.Rows.{At, Row, end, node, row_length}
use Rattle.records.proofs.Balance.{balance}
use Rattle.records.proofs.Tallies.{lengths, of_label, records_row}
use Rattle.run.specs.Names.{bound_names, var_declared, var_declared_alternate, var_declared_cases, var_declared_init, var_declared_list, var_names}
use Rattle.unreachable.specs.Noted.{declarators_in, names_of_row, statements_in, vars_by, vars_of_row}

names_row : (ds : Declarators) → names_of_row (declarators_row ds) ≡ bound_names ds
names_row no_declarators = refl
names_row (declarator_then n v ds) = ap (λ (ns : List ℕ). n ∷ ns) (names_row ds)

vars_declared : (k : DeclarationKind) (ds : Declarators) → vars_by k (declarators_row ds) ≡ var_names k ds
vars_declared Var ds = names_row ds
vars_declared Let ds = refl
vars_declared Const ds = refl

vars_init : (i : Init) (w : Row) → vars_of_row (init_stmts i w) ≡ var_declared_init i ++ vars_of_row w
vars_init no_init w = refl
vars_init (init_expression e) w = refl
vars_init (init_declaration k ds) w = ap (λ (ns : List ℕ). ns ++ vars_of_row w) (vars_declared k ds)

-- before the names of what is behind
before : {ms ns : List ℕ} (w : Row) → ms ≡ ns → ms ++ vars_of_row w ≡ ns ++ vars_of_row w
before w e = ap (λ (v : List ℕ). v ++ vars_of_row w) e

mutual
  pub vars_stmt : (x : Stmt) (w : Row) → vars_of_row (stmt_row x w) ≡ var_declared x ++ vars_of_row w
  vars_stmt empty w = refl
  vars_stmt (expression e) w = refl
  vars_stmt (declaration k ds) w = before w (vars_declared k ds)
  vars_stmt (return_of v) w = refl
  vars_stmt (throw e) w = refl
  vars_stmt (if_then t c a) w =
      before w (vars_stmt c (alternate_row a) ∙ ap (λ (v : List ℕ). var_declared c ++ v) (vars_alternate a))
  vars_stmt (block ss) w = before w (vars_stmts ss)
  vars_stmt (while t b) w = before w (vars_stmt b end ∙ append-nil (var_declared b))
  vars_stmt (do_while b t) w = before w (vars_stmt b end ∙ append-nil (var_declared b))
  vars_stmt (for i t u b) w =
      before w (vars_init i (stmt_row b end) ∙ ap (λ (v : List ℕ). var_declared_init i ++ v) (vars_stmt b end ∙ append-nil (var_declared b)))
  vars_stmt (switch d cs) w = before w (vars_cases cs)
  vars_stmt break w = refl
  vars_stmt continue w = refl

  vars_alternate : (a : Alternate) → vars_of_row (alternate_row a) ≡ var_declared_alternate a
  vars_alternate no_alternate = refl
  vars_alternate (alternate x) = vars_stmt x end ∙ append-nil (var_declared x)

  pub vars_stmts : (xs : Stmts) → vars_of_row (stmts_row xs) ≡ var_declared_list xs
  vars_stmts no_stmts = refl
  vars_stmts (stmt_then x xs) = vars_stmt x (stmts_row xs) ∙ ap (λ (v : List ℕ). var_declared x ++ v) (vars_stmts xs)

  vars_cases : (cs : Cases) → vars_of_row (cases_row cs) ≡ var_declared_cases cs
  vars_cases no_cases = refl
  vars_cases (case_then t xs cs) =
      before (cases_row cs) (vars_stmts xs) ∙ ap (λ (v : List ℕ). var_declared_list xs ++ v) (vars_cases cs)

-- a record at a place of a table is one of that table's
decls_counted : (h : Heap) (i : ℕ) (z : Row) → At h (decl_at i) z → row_length z ≤ (records_row z).decls
decls_counted h i end a = omega arith
decls_counted h i (node l x y z w) a =
    let o : 1 ≡ (of_label l).decls = ap (λ (v : Label). (of_label v).decls) a.1 in let r = decls_counted h _ w a.5 in omega arith

pub statements_counted : (h : Heap) (i : ℕ) (r : Row) → At h (stmt_at i) r → statements_in r ≤ (records_row r).stmts
statements_counted h i end a = omega arith
statements_counted h i (node l x y z w) a =
    let o : 1 ≡ (of_label l).stmts = ap (λ (v : Label). (of_label v).stmts) a.1 in
    let p = statements_counted h _ y a.3 in
    let q = statements_counted h _ w a.5 in
    omega arith

pub declarators_counted : (h : Heap) (i : ℕ) (r : Row) → At h (stmt_at i) r → declarators_in r ≤ (records_row r).decls
declarators_counted h i end a = omega arith
declarators_counted h i (node l x y z w) a =
    let o = decls_counted h _ z a.4 in
    let p = declarators_counted h _ y a.3 in
    let q = declarators_counted h _ w a.5 in
    omega arith

module _ {h : Heap} {p : Pools} {loose : List Place} {rest : List Root} {i : ℕ} {r : Row} where
  pub statements_fit : Owns h p loose ((stmt_at i, r) ∷ rest) → statements_in r ≤ length h.stmts
  statements_fit o =
      let b : (lengths h).stmts ≡ _ = ap (λ (s : Spares). s.stmts) (balance o) in let c = statements_counted h i r o.held.0 in omega arith

  pub declarators_fit : Owns h p loose ((stmt_at i, r) ∷ rest) → declarators_in r ≤ length h.decls
  declarators_fit o =
      let b : (lengths h).decls ≡ _ = ap (λ (s : Spares). s.decls) (balance o) in let c = declarators_counted h i r o.held.0 in omega arith
