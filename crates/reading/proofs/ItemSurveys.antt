-- The items that a command takes against the surveys of their rows: which items may stand where.
use Rattle.std.proofs.Common.{◌≡◌, ℕ, ◌+◌, ◌≤◌, Bool, true, false, not as negated, ◌&&◌, eqb, leb, List, [], ◌∷◌, length, None, sym, refl, ap, ◌∙◌, arith, ne_eqb, le-leb}
use Rattle.script.specs.declared.DeclarationKind.{DeclarationKind}
use Rattle.script.specs.declared.DeclarationKind.TheVariants.{Var, Let, Const}
use Rattle.script.specs.Tree.{Expr, OptionalExpr, absent, present, Init, init_declaration, Declarators}
use Rattle.script.specs.Tree.{number, word, name, assignment, call, sequence, conditional, logical, not, void, strict_equality}
use Rattle.script.specs.Tree.{Stmt, empty, expression, declaration, return_of, throw, if_then, block, while, do_while, for, switch, break, continue}
use Rattle.script.specs.Tree.{Stmts, no_stmts, stmt_then, Cases, no_cases, case_then}
use Rattle.script.specs.Stacks.{Item, statement, case, Declarator, declarator, Performed, misplaces, lexical_declaration, unless, as_branch, as_stmts, as_cases, as_init}
use Rattle.script.specs.Stacks.{defaults as defaults_of, some_case, declarators_of, all_valued, sound_declaration}
use Rattle.shapes.specs.declared.rule.StmtSurvey.{StmtSurvey}
use Rattle.records.specs.Rows.{Row, end, row_length}
use Rattle.records.specs.Embedding.{expr_row, stmt_row, stmts_row, cases_row, item_row, declarator_row, declarators_row, stmt_stack, decl_stack}
use Rattle.shapes.specs.Shape.{survey, decl_survey, first_declared, values_fit}
use Rattle.records.specs.Flags.{one_if as flag_number}

-- what an item adds to the survey of a row
abbrev pub case_item : Item → Bool
case_item (statement s) = false
case_item (case t ss) = true

abbrev pub default_item : Item → Bool
default_item (statement s) = false
default_item (case absent ss) = true
default_item (case (present e) ss) = false

abbrev pub lexical_item : Item → Bool
lexical_item (statement s) = lexical_declaration s
lexical_item (case t ss) = false

abbrev pub counted : Bool → Bool → Bool → StmtSurvey → StmtSurvey
counted cases defaults lexicals v = record {
  count = v.count + 1;
  cases = v.cases + flag_number cases;
  defaults = v.defaults + flag_number defaults;
  lexicals = v.lexicals + flag_number lexicals;
}

pub one_expr : (e : Expr) → row_length (expr_row e end) ≡ 1
one_expr (number b) = refl
one_expr (word c) = refl
one_expr (name x) = refl
one_expr (assignment x e) = refl
one_expr (call x es) = refl
one_expr (sequence e es) = refl
one_expr (conditional t a b) = refl
one_expr (logical o a b) = refl
one_expr (not e) = refl
one_expr (void e) = refl
one_expr (strict_equality a b) = refl

pub item_survey : (i : Item) (w : Row) → survey (item_row i w) ≡ counted (case_item i) (default_item i) (lexical_item i) (survey w)
item_survey (case absent ss) w = refl
item_survey (case (present e) ss) w = rw one_expr
item_survey (statement empty) w = refl
item_survey (statement (expression e)) w = refl
item_survey (statement (declaration k ds)) w = refl
item_survey (statement (return_of v)) w = refl
item_survey (statement (throw e)) w = refl
item_survey (statement (if_then t c a)) w = refl
item_survey (statement (block ss)) w = refl
item_survey (statement (while t b)) w = refl
item_survey (statement (do_while b t)) w = refl
item_survey (statement (for i t u b)) w = refl
item_survey (statement (switch d cs)) w = refl
item_survey (statement break) w = refl
item_survey (statement continue) w = refl

module _ (i : Item) (w : Row) where
  item_count : (survey (item_row i w)).count ≡ (survey w).count + 1
  item_count = ap (λ (v : StmtSurvey). v.count) (item_survey i w)

  item_cases : (survey (item_row i w)).cases ≡ (survey w).cases + flag_number (case_item i)
  item_cases = ap (λ (v : StmtSurvey). v.cases) (item_survey i w)

  item_defaults : (survey (item_row i w)).defaults ≡ (survey w).defaults + flag_number (default_item i)
  item_defaults = ap (λ (v : StmtSurvey). v.defaults) (item_survey i w)

one_at_most : (b : Bool) → flag_number b ≤ 1
one_at_most true = omega arith
one_at_most false = omega arith

cases_counted : (is : List Item) → (survey (stmt_stack is)).cases ≤ (survey (stmt_stack is)).count
cases_counted [] = omega arith
cases_counted (i ∷ is) =
    let e = item_count i (stmt_stack is) in
    let c = item_cases i (stmt_stack is) in
    let h = cases_counted is in
    let o = one_at_most (case_item i) in
    omega arith

-- a branch or a loop's body
abbrev pub plain : Item → Bool
plain i = negated (case_item i) && negated (lexical_item i)

pub unless_taken : (P : Performed → Type 0) (b : Bool) (p : Performed) → (b ≡ true → P misplaces) → (b ≡ false → P p) → P (unless b p)
unless_taken P true p bad good = bad refl
unless_taken P false p bad good = good refl

pub branch_taken : (P : Performed → Type 0) (i : Item) (k : Stmt → Performed) →
    (plain i ≡ false → P misplaces) →
    ((s : Stmt) → i ≡ statement s → plain i ≡ true → P (k s)) →
    P (as_branch i k)
branch_taken P (case t ss) k bad good = bad refl
branch_taken P (statement s) k bad good =
    unless_taken P (lexical_declaration s) (k s) (λ e. bad (ap negated e)) (λ e. good s refl (ap negated e))

-- a for's declaration
pub init_taken : (P : Performed → Type 0) (i : Item) (k : Init → Performed) →
    (((w : Row) → first_declared (item_row i w) ≡ None) → P misplaces) →
    ((d : DeclarationKind) (ds : Declarators) → i ≡ statement (declaration d ds) → P (k (init_declaration d ds))) →
    P (as_init i k)
init_taken P (case t ss) k bad good = bad (λ w. refl)
init_taken P (statement (declaration d ds)) k bad good = good d ds refl
init_taken P (statement empty) k bad good = bad (λ w. refl)
init_taken P (statement (expression e)) k bad good = bad (λ w. refl)
init_taken P (statement (return_of v)) k bad good = bad (λ w. refl)
init_taken P (statement (throw e)) k bad good = bad (λ w. refl)
init_taken P (statement (if_then t c a)) k bad good = bad (λ w. refl)
init_taken P (statement (block ss)) k bad good = bad (λ w. refl)
init_taken P (statement (while t b)) k bad good = bad (λ w. refl)
init_taken P (statement (do_while b t)) k bad good = bad (λ w. refl)
init_taken P (statement (for i t u b)) k bad good = bad (λ w. refl)
init_taken P (statement (switch d cs)) k bad good = bad (λ w. refl)
init_taken P (statement break) k bad good = bad (λ w. refl)
init_taken P (statement continue) k bad good = bad (λ w. refl)

-- a list of statements
pub stmts_taken : (P : Performed → Type 0) (is : List Item) (k : Stmts → Performed) →
    (((survey (stmt_stack is)).cases ≡ 0 → ⊥) → P misplaces) →
    ((ss : Stmts) → (survey (stmt_stack is)).cases ≡ 0 → stmts_row ss ≡ stmt_stack is → P (k ss)) →
    P (as_stmts is k)
stmts_taken P [] k bad good = good no_stmts refl refl
stmts_taken P (case t ss ∷ is) k bad good = bad (λ e. omega arith)
stmts_taken P (statement s ∷ is) k bad good =
    let c = item_cases (statement s) (stmt_stack is) in
    stmts_taken P is (λ ss. k (stmt_then s ss))
    (λ no. bad (λ e. no (omega arith)))
    (λ ss e r. good (stmt_then s ss) (omega arith) (ap (stmt_row s) r))

-- the cases of a switch
pub record AsCases (is : List Item) (cs : Cases) : Type 0 where
  pub cases : (survey (stmt_stack is)).cases ≡ (survey (stmt_stack is)).count
  pub defaults : (survey (stmt_stack is)).defaults ≡ defaults_of cs
  pub some : some_case cs ≡ leb 1 (survey (stmt_stack is)).count
  pub rows : cases_row cs ≡ stmt_stack is

more_cases : {is : List Item} {cs : Cases} (t : OptionalExpr) (ss : Stmts) → AsCases is cs → AsCases (case t ss ∷ is) (case_then t ss cs)
more_cases {is} {cs} t ss a = record {
  cases = let e = a.cases in omega arith;
  defaults = by t;
  some = sym (le-leb 1 (survey (stmt_stack (case t ss ∷ is))).count (omega arith));
  rows = ap (λ w. item_row (case t ss) w) a.rows;
}
  where
    by : (v : OptionalExpr) → (survey (stmt_stack (case v ss ∷ is))).defaults ≡ defaults_of (case_then v ss cs)
    by absent = let e = a.defaults in omega arith
    by (present e) = let d = item_defaults (case (present e) ss) (stmt_stack is) in let e = a.defaults in omega arith

pub cases_taken : (P : Performed → Type 0) (is : List Item) (k : Cases → Performed) →
    (((survey (stmt_stack is)).cases ≡ (survey (stmt_stack is)).count → ⊥) → P misplaces) →
    ((cs : Cases) → AsCases is cs → P (k cs)) →
    P (as_cases is k)
cases_taken P [] k bad good = good no_cases (record { cases = refl; defaults = refl; some = refl; rows = refl })
cases_taken P (statement s ∷ is) k bad good =
    let c = item_cases (statement s) (stmt_stack is) in
    let n = item_count (statement s) (stmt_stack is) in
    let o = cases_counted is in
    bad (λ e. omega arith)
cases_taken P (case t ss ∷ is) k bad good =
    cases_taken P is (λ cs. k (case_then t ss cs)) (λ no. bad (λ e. no (omega arith))) (λ cs a. good (case_then t ss cs) (more_cases t ss a))

-- the declarators of a declaration
pub declarators_stack : (ds : List Declarator) → declarators_row (declarators_of ds) ≡ decl_stack ds
declarators_stack [] = refl
declarators_stack (declarator n v ∷ ds) = ap (λ w. declarator_row (declarator n v) w) (declarators_stack ds)

pub declarators_count : (ds : List Declarator) → (decl_survey (decl_stack ds)).count ≡ length ds
declarators_count [] = refl
declarators_count (declarator n v ∷ ds) = let h = declarators_count ds in omega arith

bare_valued : (ds : List Declarator) → all_valued (declarators_of ds) ≡ eqb (decl_survey (decl_stack ds)).bare 0
bare_valued [] = refl
bare_valued (declarator n absent ∷ ds) = sym (ne_eqb _ _ (λ e. omega arith))
bare_valued (declarator n (present e) ∷ ds) = rw one_expr (bare_valued ds ∙ ap (λ (bare : ℕ). eqb bare 0) (omega arith))

pub values_sound : (k : DeclarationKind) (ds : List Declarator) → sound_declaration k (declarators_of ds) ≡ values_fit k (decl_survey (decl_stack ds)).bare
values_sound Var ds = refl
values_sound Let ds = refl
values_sound Const ds = bare_valued ds
