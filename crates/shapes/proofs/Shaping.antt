-- The rows of trees that break no rule have parts that fit.
use Rattle.std.proofs.Common.{◌≡◌, ℕ, suc, ◌+◌, ◌≤◌, true, false, ◌&&◌, eqb, leb, List, [], ◌∷◌, sym, refl, ap, ◌∙◌, arith, eq-eqb, le-leb, leb-true}
use borrow.Author.Tests.{clash}
use Rattle.script.specs.declared.DeclarationKind.{DeclarationKind}
use Rattle.script.specs.declared.DeclarationKind.TheVariants.{Var, Let, Const}
use Rattle.script.specs.Tree.{Expr, number, word, name, assignment, call, sequence, conditional, logical, not, void, strict_equality}
use Rattle.script.specs.Tree.{Exprs, no_exprs, expr_then, OptionalExpr, absent, present, Declarators, no_declarators, declarator_then}
use Rattle.script.specs.Tree.{Init, no_init, init_expression, init_declaration, Alternate, no_alternate, alternate}
use Rattle.script.specs.Tree.{Stmt, empty, expression, declaration, return_of, throw, if_then, block, while, do_while, for, switch, break, continue}
use Rattle.script.specs.Tree.{Stmts, no_stmts, stmt_then, Cases, no_cases, case_then}
use Rattle.script.specs.Stacks.{Item, statement, case, Declarator, declarator, lexical_kind, lexical_declaration, defaults, some_case, sound_cases}
use Rattle.script.specs.Stacks.{all_valued, sound_declaration}
use Rattle.script.specs.Sound.{count_exprs, count_declarators, count_cases, SoundExpr, SoundExprs, SoundOptional, SoundDeclarator, SoundDeclarators}
use Rattle.script.specs.Sound.{SoundDeclaration, SoundInit, SoundStmt, SoundAlternate, SoundStmts, SoundCases, SoundItem, Every}
use Rattle.records.specs.Rows.{Row, end, row_length}
use Rattle.records.specs.Embedding.{expr_row, exprs_row, optional_row, init_kind, is_present, for_head, init_exprs, init_stmts, declarators_row, stmt_row}
use Rattle.records.specs.Embedding.{alternate_row, stmts_row, cases_row, expr_stack, stmt_stack, decl_stack}
use Rattle.records.specs.Flags.{one_if as flag}
use Rattle.shapes.specs.Shape.{survey, decl_survey, first_declared, values_fit, branches, init_expressions, head_expressions}
use Rattle.shapes.specs.Shape.{for_fits, switch_fits, ShapedExprs, ShapedDecls, ShapedStmts}
use Rattle.shapes.proofs.Surveys.{both, join, optional_length, optional_bare, stmt_row_count, stmt_row_cases, stmt_row_lexicals}
use Rattle.records.proofs.RowLengths.{expr_row_length}

-- expressions
exprs_row_length : (es : Exprs) → row_length (exprs_row es) ≡ count_exprs es
exprs_row_length no_exprs = refl
exprs_row_length (expr_then e es) = expr_row_length e (exprs_row es) ∙ ap suc (exprs_row_length es)

mutual
  expr_shaped : (e : Expr) → SoundExpr e → (w : Row) → ShapedExprs w → ShapedExprs (expr_row e w)
  expr_shaped (number b) h w g = (refl, tt, tt, tt, g)
  expr_shaped (word c) h w g = (refl, tt, tt, tt, g)
  expr_shaped (name n) h w g = (refl, tt, tt, tt, g)
  expr_shaped (assignment n e) h w g = (eq-eqb _ _ (expr_row_length e end), expr_shaped e h end tt, tt, tt, g)
  expr_shaped (call n es) h w g = (le-leb _ _ (omega (arith, exprs_row_length es)), exprs_row_shaped es h.1, tt, tt, g)
  expr_shaped (sequence e es) h w g = (
    le-leb _ _ (omega (arith, expr_row_length e (exprs_row es), exprs_row_length es)),
    expr_shaped e h.1 (exprs_row es) (exprs_row_shaped es h.2),
    tt,
    tt,
    g,
  )
  expr_shaped (conditional t a b) h w g = (
    eq-eqb _ _ (omega (arith, expr_row_length t (expr_row a (expr_row b end)), expr_row_length a (expr_row b end), expr_row_length b end)),
    expr_shaped t h.0 (expr_row a (expr_row b end)) (expr_shaped a h.1 (expr_row b end) (expr_shaped b h.2 end tt)),
    tt,
    tt,
    g,
  )
  expr_shaped (logical o a b) h w g = (
    eq-eqb _ _ (omega (arith, expr_row_length a (expr_row b end), expr_row_length b end)),
    expr_shaped a h.0 (expr_row b end) (expr_shaped b h.1 end tt),
    tt,
    tt,
    g,
  )
  expr_shaped (not e) h w g = (eq-eqb _ _ (expr_row_length e end), expr_shaped e h end tt, tt, tt, g)
  expr_shaped (void e) h w g = (eq-eqb _ _ (expr_row_length e end), expr_shaped e h end tt, tt, tt, g)
  expr_shaped (strict_equality a b) h w g = (
    eq-eqb _ _ (omega (arith, expr_row_length a (expr_row b end), expr_row_length b end)),
    expr_shaped a h.0 (expr_row b end) (expr_shaped b h.1 end tt),
    tt,
    tt,
    g,
  )

  exprs_row_shaped : (es : Exprs) → SoundExprs es → ShapedExprs (exprs_row es)
  exprs_row_shaped no_exprs h = tt
  exprs_row_shaped (expr_then e es) h = expr_shaped e h.0 (exprs_row es) (exprs_row_shaped es h.1)

pub exprs_shaped : (es : List Expr) → Every SoundExpr es → ShapedExprs (expr_stack es)
exprs_shaped [] h = tt
exprs_shaped (e ∷ es) h = expr_shaped e h.0 (expr_stack es) (exprs_shaped es h.1)

optional_shaped : (v : OptionalExpr) → SoundOptional v → (w : Row) → ShapedExprs w → ShapedExprs (optional_row v w)
optional_shaped absent h w g = g
optional_shaped (present e) h w g = expr_shaped e h w g

optional_row_length : (v : OptionalExpr) (w : Row) → row_length (optional_row v w) ≡ flag (is_present v) + row_length w
optional_row_length absent w = omega arith
optional_row_length (present e) w = omega (arith, expr_row_length e w)

optional_short : (v : OptionalExpr) → leb (row_length (optional_row v end)) 1 ≡ true
optional_short absent = refl
optional_short (present e) = ap (λ (n : ℕ). leb n 1) (expr_row_length e end)

-- declarators
pub declarators_shaped : (ds : List Declarator) → Every SoundDeclarator ds → ShapedDecls (decl_stack ds)
declarators_shaped [] h = tt
declarators_shaped (declarator n v ∷ ds) h = (optional_short v, optional_shaped v h.0 end tt, tt, tt, declarators_shaped ds h.1)

declarators_row_shaped : (ds : Declarators) → SoundDeclarators ds → ShapedDecls (declarators_row ds)
declarators_row_shaped no_declarators h = tt
declarators_row_shaped (declarator_then n v ds) h = (optional_short v, optional_shaped v h.0 end tt, tt, tt, declarators_row_shaped ds h.1)

declarators_row_count : (ds : Declarators) → (decl_survey (declarators_row ds)).count ≡ count_declarators ds
declarators_row_count no_declarators = refl
declarators_row_count (declarator_then n v ds) = omega (arith, declarators_row_count ds)

none_bare : (ds : Declarators) → all_valued ds ≡ true → (decl_survey (declarators_row ds)).bare ≡ 0
none_bare no_declarators h = refl
none_bare (declarator_then n absent ds) h = absurd (clash h)
none_bare (declarator_then n (present e) ds) h = rw (optional_bare (present e)) (omega (arith, none_bare ds h))

values_fit_of : (k : DeclarationKind) (ds : Declarators) → sound_declaration k ds ≡ true → values_fit k (decl_survey (declarators_row ds)).bare ≡ true
values_fit_of Var ds h = refl
values_fit_of Let ds h = refl
values_fit_of Const ds h = eq-eqb _ _ (none_bare ds h)

declaration_shaped : (k : DeclarationKind) (ds : Declarators) → SoundDeclaration k ds → (w : Row) → ShapedStmts w → ShapedStmts (stmt_row (declaration k ds) w)
declaration_shaped k ds h w g =
    (join _ _ (le-leb _ _ (omega (arith, declarators_row_count ds))) (values_fit_of k ds h.1), tt, tt, declarators_row_shaped ds h.2, g)

-- the surveys of lists
no_cases_there : (ss : Stmts) → (survey (stmts_row ss)).cases ≡ 0
no_cases_there no_stmts = refl
no_cases_there (stmt_then s ss) = omega (arith, stmt_row_cases s (stmts_row ss), no_cases_there ss)

cases_row_count : (cs : Cases) → (survey (cases_row cs)).count ≡ count_cases cs
cases_row_count no_cases = refl
cases_row_count (case_then t ss cs) = omega (arith, cases_row_count cs)

cases_row_cases : (cs : Cases) → (survey (cases_row cs)).cases ≡ count_cases cs
cases_row_cases no_cases = refl
cases_row_cases (case_then t ss cs) = omega (arith, cases_row_cases cs)

cases_row_defaults : (cs : Cases) → (survey (cases_row cs)).defaults ≡ defaults cs
cases_row_defaults no_cases = refl
cases_row_defaults (case_then absent ss cs) = omega (arith, cases_row_defaults cs)
cases_row_defaults (case_then (present e) ss cs) = rw (optional_bare (present e)) (omega (arith, cases_row_defaults cs))

some_cases : (cs : Cases) → some_case cs ≡ true → 1 ≤ count_cases cs
some_cases no_cases h = absurd (clash h)
some_cases (case_then t ss cs) h = omega arith

switch_fits_of : (cs : Cases) → sound_cases cs ≡ true → switch_fits (survey (cases_row cs)) (decl_survey end) ≡ true
switch_fits_of cs h =
    let b = both (some_case cs) _ h in
    let some = some_cases cs b.0 in
    let few = leb-true _ _ b.1 in
    join _ _ (le-leb _ _ (omega (arith, cases_row_count cs)))
    (join _ _ (eq-eqb _ _ (cases_row_cases cs ∙ sym (cases_row_count cs)))
    (join _ _ (le-leb _ _ (omega (arith, cases_row_defaults cs))) refl))

-- a branch or a loop's body
branch_lexicals : (s : Stmt) (w : Row) → lexical_declaration s ≡ false → (survey (stmt_row s w)).lexicals ≡ (survey w).lexicals
branch_lexicals s w plain = let none : flag (lexical_declaration s) ≡ 0 = ap flag plain in omega (arith, stmt_row_lexicals s w)

branches_of : (y : Row) → (survey y).cases ≡ 0 → (survey y).lexicals ≡ 0 → branches (survey y) (decl_survey end) ≡ true
branches_of y c l = join _ _ (eq-eqb _ _ c) (join _ _ (eq-eqb _ _ l) refl)

body_fits : (s : Stmt) → lexical_declaration s ≡ false → (eqb (survey (stmt_row s end)).count 1 && branches (survey (stmt_row s end)) (decl_survey end)) ≡ true
body_fits s plain =
    join _ _ (eq-eqb _ _ (stmt_row_count s end)) (branches_of (stmt_row s end) (stmt_row_cases s end) (branch_lexicals s end plain))

record AlternateSurvey (a : Alternate) : Type 0 where
  count : (survey (alternate_row a)).count ≤ 1
  cases : (survey (alternate_row a)).cases ≡ 0
  lexicals : (survey (alternate_row a)).lexicals ≡ 0

alternate_survey : (a : Alternate) → SoundAlternate a → AlternateSurvey a
alternate_survey no_alternate h = record { count = omega arith; cases = refl; lexicals = refl }
alternate_survey (alternate s) h =
    record { count = omega (arith, stmt_row_count s end); cases = stmt_row_cases s end; lexicals = branch_lexicals s end h.0 }

if_fits : (c : Stmt) (a : Alternate) → lexical_declaration c ≡ false → SoundAlternate a →
    (leb 1 (survey (stmt_row c (alternate_row a))).count
    && (leb (survey (stmt_row c (alternate_row a))).count 2 && branches (survey (stmt_row c (alternate_row a))) (decl_survey end))) ≡ true
if_fits c a plain h =
    let v = alternate_survey a h in
    let w = alternate_row a in
    let some : 1 ≤ (survey (stmt_row c w)).count = omega (arith, stmt_row_count c w) in
    let few : (survey (stmt_row c w)).count ≤ 2 = omega (arith, stmt_row_count c w) in
    join _ _ (le-leb _ _ some)
    (join _ _ (le-leb _ _ few)
    (branches_of (stmt_row c w) (omega (arith, stmt_row_cases c w)) (omega (arith, branch_lexicals c w plain))))

-- what a for begins with
init_exprs_length : (i : Init) (w : Row) → row_length (init_exprs i w) ≡ init_expressions (init_kind i) + row_length w
init_exprs_length no_init w = omega arith
init_exprs_length (init_expression e) w = omega (arith, expr_row_length e w)
init_exprs_length (init_declaration k ds) w = omega arith

head_length : (i : Init) (t u : OptionalExpr) → row_length (init_exprs i (optional_row t (optional_row u end))) ≡ head_expressions (for_head i t u)
head_length i t u =
    omega (arith, init_exprs_length i (optional_row t (optional_row u end)), optional_row_length t (optional_row u end), optional_length u)

init_exprs_shaped : (i : Init) → SoundInit i → (w : Row) → ShapedExprs w → ShapedExprs (init_exprs i w)
init_exprs_shaped no_init h w g = g
init_exprs_shaped (init_expression e) h w g = expr_shaped e h w g
init_exprs_shaped (init_declaration k ds) h w g = g

init_stmts_shaped : (i : Init) → SoundInit i → (w : Row) → ShapedStmts w → ShapedStmts (init_stmts i w)
init_stmts_shaped no_init h w g = g
init_stmts_shaped (init_expression e) h w g = g
init_stmts_shaped (init_declaration k ds) h w g = declaration_shaped k ds h w g

init_stmts_cases : (i : Init) (b : Stmt) → (survey (init_stmts i (stmt_row b end))).cases ≡ 0
init_stmts_cases no_init b = stmt_row_cases b end
init_stmts_cases (init_expression e) b = stmt_row_cases b end
init_stmts_cases (init_declaration k ds) b = omega (arith, stmt_row_cases b end)

for_fits_of : (i : Init) (b : Stmt) → lexical_declaration b ≡ false →
    for_fits (init_kind i) (survey (init_stmts i (stmt_row b end))) (first_declared (init_stmts i (stmt_row b end))) ≡ true
for_fits_of no_init b plain = join _ _ (eq-eqb _ _ (stmt_row_count b end)) (eq-eqb _ _ (branch_lexicals b end plain))
for_fits_of (init_expression e) b plain = join _ _ (eq-eqb _ _ (stmt_row_count b end)) (eq-eqb _ _ (branch_lexicals b end plain))
for_fits_of (init_declaration k ds) b plain =
    let w = stmt_row (declaration k ds) (stmt_row b end) in
    let two : (survey w).count ≡ 2 = omega (arith, stmt_row_count b end) in
    let few : (survey w).lexicals ≡ flag (lexical_kind k) = omega (arith, branch_lexicals b end plain) in
    join _ _ (eq-eqb _ _ two) (eq-eqb _ _ few)

-- statements
mutual
  stmt_shaped : (s : Stmt) → SoundStmt s → (w : Row) → ShapedStmts w → ShapedStmts (stmt_row s w)
  stmt_shaped empty h w g = (refl, tt, tt, tt, g)
  stmt_shaped (expression e) h w g = (join _ _ (eq-eqb _ _ (expr_row_length e end)) refl, expr_shaped e h end tt, tt, tt, g)
  stmt_shaped (declaration k ds) h w g = declaration_shaped k ds h w g
  stmt_shaped (return_of v) h w g = (join _ _ (optional_short v) refl, optional_shaped v h end tt, tt, tt, g)
  stmt_shaped (throw e) h w g = (join _ _ (eq-eqb _ _ (expr_row_length e end)) refl, expr_shaped e h end tt, tt, tt, g)
  stmt_shaped (if_then t c a) h w g = (
    join _ _ (eq-eqb _ _ (expr_row_length t end)) (if_fits c a h.1 h.3),
    expr_shaped t h.0 end tt,
    stmt_shaped c h.2 (alternate_row a) (alternate_shaped a h.3),
    tt,
    g,
  )
  stmt_shaped (block ss) h w g = (join _ _ (eq-eqb _ _ (no_cases_there ss)) refl, tt, stmts_shaped ss h, tt, g)
  stmt_shaped (while t b) h w g = (
    join _ _ (eq-eqb _ _ (expr_row_length t end)) (body_fits b h.1),
    expr_shaped t h.0 end tt,
    stmt_shaped b h.2 end tt,
    tt,
    g,
  )
  stmt_shaped (do_while b t) h w g = (
    join _ _ (eq-eqb _ _ (expr_row_length t end)) (body_fits b h.0),
    expr_shaped t h.2 end tt,
    stmt_shaped b h.1 end tt,
    tt,
    g,
  )
  stmt_shaped (for i t u b) h w g = (
    join _ _ (eq-eqb _ _ (head_length i t u)) (join _ _ (eq-eqb _ _ (init_stmts_cases i b)) (for_fits_of i b h.3)),
    init_exprs_shaped i h.0 (optional_row t (optional_row u end)) (optional_shaped t h.1 (optional_row u end) (optional_shaped u h.2 end tt)),
    init_stmts_shaped i h.0 (stmt_row b end) (stmt_shaped b h.4 end tt),
    tt,
    g,
  )
  stmt_shaped (switch d cs) h w g = (
    join _ _ (eq-eqb _ _ (expr_row_length d end)) (switch_fits_of cs h.1),
    expr_shaped d h.0 end tt,
    cases_shaped cs h.2,
    tt,
    g,
  )
  stmt_shaped break h w g = (refl, tt, tt, tt, g)
  stmt_shaped continue h w g = (refl, tt, tt, tt, g)

  alternate_shaped : (a : Alternate) → SoundAlternate a → ShapedStmts (alternate_row a)
  alternate_shaped no_alternate h = tt
  alternate_shaped (alternate s) h = stmt_shaped s h.1 end tt

  stmts_shaped : (ss : Stmts) → SoundStmts ss → ShapedStmts (stmts_row ss)
  stmts_shaped no_stmts h = tt
  stmts_shaped (stmt_then s ss) h = stmt_shaped s h.0 (stmts_row ss) (stmts_shaped ss h.1)

  cases_shaped : (cs : Cases) → SoundCases cs → ShapedStmts (cases_row cs)
  cases_shaped no_cases h = tt
  cases_shaped (case_then t ss cs) h = (
    join _ _ (optional_short t) (join _ _ (eq-eqb _ _ (no_cases_there ss)) refl),
    optional_shaped t h.0 end tt,
    stmts_shaped ss h.1,
    tt,
    cases_shaped cs h.2,
  )

pub items_shaped : (is : List Item) → Every SoundItem is → ShapedStmts (stmt_stack is)
items_shaped [] h = tt
items_shaped (statement s ∷ is) h = stmt_shaped s h.0 (stmt_stack is) (items_shaped is h.1)
items_shaped (case t ss ∷ is) h = (
  join _ _ (optional_short t) (join _ _ (eq-eqb _ _ (no_cases_there ss)) refl),
  optional_shaped t h.0.0 end tt,
  stmts_shaped ss h.0.1,
  tt,
  items_shaped is h.1,
)

pub body_shaped : (ss : Stmts) → SoundStmts ss → ShapedStmts (stmts_row ss) × ((survey (stmts_row ss)).cases ≡ 0)
body_shaped ss h = (stmts_shaped ss h, no_cases_there ss)
