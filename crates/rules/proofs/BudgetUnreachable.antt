-- What is kept of the statements behind a jump is within their budget.
use Rattle.std.proofs.Common.{◌≡◌, ℕ, ◌+◌, ◌≤◌, Bool, true, false, cond, ◌&&◌, T, List, [], ◌∷◌, ◌++◌, length, sym, refl, subst, arith, length-append}
use Rattle.script.specs.declared.DeclarationKind.{DeclarationKind}
use Rattle.script.specs.declared.DeclarationKind.TheVariants.{Var, Let, Const}
use Rattle.script.specs.Judge.{Spares}
use Rattle.script.specs.Sound.{records_declarators, records_init, records_stmt, records_alternate, records_stmts, records_cases, plus}
use Rattle.script.specs.Tree.{Declarators, no_declarators, declarator_then, Init, no_init, init_expression, expression, init_declaration}
use Rattle.script.specs.Tree.{declaration, Stmt, empty, return_of, throw, if_then, alternate, block, while, do_while, for, switch, break}
use Rattle.script.specs.Tree.{continue, Alternate, no_alternate, Stmts, no_stmts, stmt_then, Cases, no_cases, case_then}
use Rattle.run.specs.Environment.{among}
use Rattle.run.specs.Names.{bound_names, var_names, var_declared_init, var_declared, var_declared_alternate, var_declared_list}
use Rattle.run.specs.Names.{var_declared_cases}
use Rattle.rules.specs.Statements.{is_lexical, statement_cares_about_scope, push_all}
use Rattle.rules.specs.Unreachable.{bare_declarators, note_hoisted_names, lexical_declarations, push_kept_vars, keep_declarations}
use Rattle.rules.specs.Unreachable.{then_rest, last_is_terminated, is_nonempty}
use Rattle.rules.specs.Budget.{SameNumber, AtMost, weight_stmts, budget_stmts}
use Rattle.rules.specs.StatementMoves.{dead_records}
use Rattle.rules.proofs.BudgetMerging.{either_budget}
use Rattle.rules.proofs.BudgetStatements.{push_all_budget}

-- the `var` that keeps some names
abbrev pub kept_statement : List ℕ → ℕ
kept_statement [] = 0
kept_statement (n ∷ ns) = 1

abbrev pub kept_records : List ℕ → Spares
kept_records ns = record { exprs = 0; stmts = kept_statement ns; decls = length ns }

pub kept_one : (ns : List ℕ) → kept_statement ns ≤ 1
kept_one [] = omega arith
kept_one (n ∷ ns) = omega arith

pub kept_none : (ns : List ℕ) → kept_statement ns ≤ length ns
kept_none [] = omega arith
kept_none (n ∷ ns) = omega arith

pub kept_both : (ns ms : List ℕ) → kept_statement (ns ++ ms) ≤ kept_statement ns + kept_statement ms
kept_both [] ms = omega arith
kept_both (n ∷ ns) ms = omega arith

pub bare_declarators_records : (ns : List ℕ)
    → SameNumber (records_declarators (bare_declarators ns)) (record { exprs = 0; stmts = 0; decls = length ns })
bare_declarators_records [] = search arith
bare_declarators_records (n ∷ ns) = let h = bare_declarators_records ns in search arith

-- each name once: no more names
pub noted_names : (ns seen : List ℕ) → length (note_hoisted_names ns seen) ≤ length ns + length seen
noted_names [] seen = omega arith
noted_names (n ∷ ns) seen = by (among n seen) (λ s. noted_names ns s)
  where
    by : (b : Bool) → ((s : List ℕ) → length (note_hoisted_names ns s) ≤ length ns + length s)
        → length (note_hoisted_names ns (cond b seen (seen ++ (n ∷ [])))) ≤ length (n ∷ ns) + length seen
    by true h = let a = h seen in omega arith
    by false h = let a = h (seen ++ (n ∷ [])) in let b = length-append seen (n ∷ []) in omega arith

pub noted_statement : (ns seen : List ℕ) → kept_statement (note_hoisted_names ns seen) ≤ kept_statement ns + kept_statement seen
noted_statement [] seen = omega arith
noted_statement (n ∷ ns) seen = let a = kept_one (note_hoisted_names (n ∷ ns) seen) in omega arith

-- a declarator for each name

pub bound_names_records : (ds : Declarators) → length (bound_names ds) ≤ (records_declarators ds).decls
bound_names_records no_declarators = omega arith
bound_names_records (declarator_then n v ds) = let h = bound_names_records ds in omega arith

pub var_names_records : (k : DeclarationKind) (ds : Declarators) → length (var_names k ds) ≤ (records_declarators ds).decls
var_names_records Var ds = bound_names_records ds
var_names_records Let ds = omega arith
var_names_records Const ds = omega arith

pub var_init_records : (i : Init) → length (var_declared_init i) ≤ (records_init i).decls
var_init_records no_init = omega arith
var_init_records (init_expression e) = omega arith
var_init_records (init_declaration k ds) = var_names_records k ds

mutual
  pub var_declared_records : (x : Stmt) → length (var_declared x) ≤ (records_stmt x).decls
  var_declared_records empty = omega arith
  var_declared_records (expression e) = omega arith
  var_declared_records (declaration k ds) = var_names_records k ds
  var_declared_records (return_of v) = omega arith
  var_declared_records (throw e) = omega arith
  var_declared_records (if_then t c a) =
      let x = length-append (var_declared c) (var_declared_alternate a) in
      let y = var_declared_records c in
      let z = var_alternate_records a in
      omega arith
  var_declared_records (block ss) = var_list_records ss
  var_declared_records (while t b) = let x = var_declared_records b in omega arith
  var_declared_records (do_while b t) = let x = var_declared_records b in omega arith
  var_declared_records (for i t u b) =
      let x = length-append (var_declared_init i) (var_declared b) in
      let y = var_init_records i in
      let z = var_declared_records b in
      omega arith
  var_declared_records (switch d cs) = let x = var_cases_records cs in omega arith
  var_declared_records break = omega arith
  var_declared_records continue = omega arith

  pub var_alternate_records : (a : Alternate) → length (var_declared_alternate a) ≤ (records_alternate a).decls
  var_alternate_records no_alternate = omega arith
  var_alternate_records (alternate x) = var_declared_records x

  pub var_list_records : (xs : Stmts) → length (var_declared_list xs) ≤ (records_stmts xs).decls
  var_list_records no_stmts = omega arith
  var_list_records (stmt_then x xs) =
      let a = length-append (var_declared x) (var_declared_list xs) in
      let b = var_declared_records x in
      let c = var_list_records xs in
      omega arith

  pub var_cases_records : (cs : Cases) → length (var_declared_cases cs) ≤ (records_cases cs).decls
  var_cases_records no_cases = omega arith
  var_cases_records (case_then p xs cs) =
      let a = length-append (var_declared_list xs) (var_declared_cases cs) in
      let b = var_list_records xs in
      let c = var_cases_records cs in
      omega arith

pub some_statement : (x : Stmt) → 1 ≤ (records_stmt x).stmts
some_statement empty = omega arith
some_statement (expression e) = omega arith
some_statement (declaration k ds) = omega arith
some_statement (return_of v) = omega arith
some_statement (throw e) = omega arith
some_statement (if_then t c a) = omega arith
some_statement (block ss) = omega arith
some_statement (while t b) = omega arith
some_statement (do_while b t) = omega arith
some_statement (for i t u b) = omega arith
some_statement (switch d cs) = omega arith
some_statement break = omega arith
some_statement continue = omega arith

-- let and const declare no var

lexical_no_var : (k : DeclarationKind) (ds : Declarators) → is_lexical k ≡ true → length (var_names k ds) ≡ 0
lexical_no_var Var ds e = absurd (subst T (sym e) tt)
lexical_no_var Let ds e = refl
lexical_no_var Const ds e = refl

pub cares_no_var : (x : Stmt) → statement_cares_about_scope x ≡ true → length (var_declared x) ≡ 0
cares_no_var empty e = absurd (subst T (sym e) tt)
cares_no_var (expression x) e = absurd (subst T (sym e) tt)
cares_no_var (declaration k ds) e = lexical_no_var k ds e
cares_no_var (return_of p) e = absurd (subst T (sym e) tt)
cares_no_var (throw x) e = absurd (subst T (sym e) tt)
cares_no_var (if_then t c a) e = absurd (subst T (sym e) tt)
cares_no_var (block ss) e = absurd (subst T (sym e) tt)
cares_no_var (while t b) e = absurd (subst T (sym e) tt)
cares_no_var (do_while b t) e = absurd (subst T (sym e) tt)
cares_no_var (for i t u b) e = absurd (subst T (sym e) tt)
cares_no_var (switch d cs) e = absurd (subst T (sym e) tt)
cares_no_var break e = absurd (subst T (sym e) tt)
cares_no_var continue e = absurd (subst T (sym e) tt)

-- what is dead, and what is kept

pub dead_and_kept : (xs : Stmts) → SameNumber (plus (dead_records xs) (records_stmts (lexical_declarations xs))) (records_stmts xs)
dead_and_kept no_stmts = search arith
dead_and_kept (stmt_then x xs) = by (statement_cares_about_scope x) (dead_and_kept xs)
  where
    by : (b : Bool) → SameNumber (plus (dead_records xs) (records_stmts (lexical_declarations xs))) (records_stmts xs)
        → SameNumber (plus (cond b (dead_records xs) (plus (records_stmt x) (dead_records xs)))
        (records_stmts (cond b (stmt_then x (lexical_declarations xs)) (lexical_declarations xs)))) (records_stmts (stmt_then x xs))
    by true h = search arith
    by false h = search arith

-- what is dead has a declarator for each name, and a statement if there is a name
pub names_are_dead : (xs : Stmts) → AtMost (kept_records (var_declared_list xs)) (dead_records xs)
names_are_dead no_stmts = search arith
names_are_dead (stmt_then x xs) = by (statement_cares_about_scope x) refl (names_are_dead xs)
  where
    by : (b : Bool) → statement_cares_about_scope x ≡ b → AtMost (kept_records (var_declared_list xs)) (dead_records xs)
        → AtMost (kept_records (var_declared x ++ var_declared_list xs))
        (cond b (dead_records xs) (plus (records_stmt x) (dead_records xs)))
    by true e h =
        let a = length-append (var_declared x) (var_declared_list xs) in
        let c = cares_no_var x e in
        let d = kept_both (var_declared x) (var_declared_list xs) in
        let f = kept_none (var_declared x) in
        (search arith)
    by false e h =
        let a = length-append (var_declared x) (var_declared_list xs) in
        let c = var_declared_records x in
        let d = kept_both (var_declared x) (var_declared_list xs) in
        let f = kept_one (var_declared x) in
        let g = some_statement x in
        (search arith)

pub lexical_declarations_weight : (xs : Stmts) → AtMost (weight_stmts (lexical_declarations xs)) (weight_stmts xs)
lexical_declarations_weight no_stmts = search arith
lexical_declarations_weight (stmt_then x xs) = by (statement_cares_about_scope x) (lexical_declarations_weight xs)
  where
    by : (b : Bool) → AtMost (weight_stmts (lexical_declarations xs)) (weight_stmts xs)
        → AtMost (weight_stmts (cond b (stmt_then x (lexical_declarations xs)) (lexical_declarations xs))) (weight_stmts (stmt_then x xs))
    by true h = search arith
    by false h = search arith

pub push_kept_vars_budget : (ns : List ℕ) (r : Stmts)
    → SameNumber (budget_stmts (push_kept_vars ns r)) (plus (kept_records ns) (budget_stmts r))
push_kept_vars_budget [] r = search arith
push_kept_vars_budget (n ∷ ns) r = let h = bare_declarators_records ns in search arith

pub keep_declarations_budget : (rest r : Stmts)
    → AtMost (budget_stmts (keep_declarations rest r)) (plus (budget_stmts rest) (budget_stmts r))
keep_declarations_budget rest r =
    let ns : List ℕ = var_declared_list rest in
    let a = push_kept_vars_budget (note_hoisted_names ns []) (push_all (lexical_declarations rest) r) in
    let b = push_all_budget (lexical_declarations rest) r in
    let c = dead_and_kept rest in
    let f = names_are_dead rest in
    let g = lexical_declarations_weight rest in
    let d = noted_names ns [] in
    let e = noted_statement ns [] in
    (search arith)

-- what more does with the rest
abbrev pub RestWithin : Stmts → (Stmts → Stmts) → Type 0
RestWithin rest more = (r : Stmts) → AtMost (budget_stmts (more r)) (plus (budget_stmts rest) (budget_stmts r))

pub then_rest_budget : (rest : Stmts) (more : Stmts → Stmts) → RestWithin rest more → (r : Stmts)
    → AtMost (budget_stmts (then_rest more rest r)) (plus (budget_stmts rest) (budget_stmts r))
then_rest_budget rest more m r =
    either_budget (last_is_terminated r && is_nonempty rest) (keep_declarations rest r) (more r) _ (keep_declarations_budget rest r) (m r)
