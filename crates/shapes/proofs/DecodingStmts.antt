-- Rows of statements and cases whose parts fit are trees that break no rule.
use Rattle.std.proofs.Common.{◌≡◌, ℕ, suc, ◌+◌, ◌≤◌, Bool, true, false, ◌&&◌, eqb, leb, List, [], ◌∷◌, length, sym, refl, ap, ◌∙◌, arith, eqb-true, le-leb, leb-true}
use borrow.Author.Tests.{clash}
use Rattle.script.specs.declared.DeclarationKind.{DeclarationKind}
use Rattle.script.specs.declared.DeclarationKind.TheVariants.{Var, Let, Const}
use Rattle.script.specs.declared.StatementKind.{StatementKind}
use Rattle.script.specs.declared.StatementKind.TheVariants as kind
use Rattle.script.specs.declared.ForInit.{ForInit}
use Rattle.script.specs.declared.ForInit.TheVariants as init
use Rattle.script.specs.Tree.{Expr, OptionalExpr, absent, present}
use Rattle.script.specs.Tree.{Init, no_init, init_expression, init_declaration, Alternate, no_alternate, alternate}
use Rattle.script.specs.Tree.{Stmt, empty, expression, declaration, return_of, throw, if_then, block, while, do_while, for, switch, break, continue}
use Rattle.script.specs.Tree.{Stmts, no_stmts, stmt_then, Cases, no_cases, case_then}
use Rattle.script.specs.Stacks.{Item, statement, case, Declarator, declarator, declarators_of, lexical_declaration, defaults, some_case}
use Rattle.script.specs.Stacks.{all_valued, sound_declaration}
use Rattle.script.specs.Sound.{count_cases, SoundExpr, SoundOptional, SoundDeclarator, SoundInit, SoundStmt, SoundAlternate}
use Rattle.script.specs.Sound.{SoundStmts, SoundCases, SoundItem, Every}
use Rattle.records.specs.Heap.{expr_label, stmt_label, decl_label}
use Rattle.records.specs.Rows.{Row, end, node, row_length}
use Rattle.records.specs.Embedding.{expr_row, optional_row, init_kind, is_present, init_exprs, init_stmts, stmt_row, alternate_row}
use Rattle.records.specs.Embedding.{stmts_row, cases_row, item_row, expr_stack, stmt_stack, decl_stack}
use Rattle.records.specs.Flags.{one_if}
use Rattle.shapes.specs.Shape.{survey, decl_survey, first_declared, values_fit, plain_stmt, branches, init_expressions, head_expressions}
use Rattle.shapes.specs.Shape.{for_fits, fits_stmt, ShapedStmts}
use Rattle.shapes.proofs.Decoding.{ExprsOf, DeclaratorsOf, decl_stack_length, decoded_length, exprs_decoded, declarators_decoded}
use Rattle.shapes.proofs.Decoding.{declarators_row_of}
use Rattle.shapes.proofs.Surveys.{both, join, flag_clear, optional_bare, stmt_row_cases, stmt_row_lexicals, item_stack_length, cases_few}
use Rattle.script.proofs.Keeping.{count_declarators_of}
use Rattle.script.proofs.Keeping.{declarators_of_sound}

-- what a row is decoded to
abbrev pub ItemsOf : Row → Type 0
ItemsOf r = (is : List Item) × (stmt_stack is ≡ r) × Every SoundItem is

-- a statement or case with its parts; what follows it in the row does not matter
abbrev ItemOf : StatementKind → List Expr → List Item → List Declarator → Type 0
ItemOf k es is ds = (i : Item) × ((w : Row) → item_row i w ≡ node (stmt_label k) (expr_stack es) (stmt_stack is) (decl_stack ds) w) × SoundItem i

same_node : {k : StatementKind} {x x' y y' z z' : Row} → x ≡ x' → y ≡ y' → z ≡ z' → (w : Row) → node (stmt_label k) x y z w ≡ node (stmt_label k) x' y' z' w
same_node {k} p q r w = λ i. node (stmt_label k) (p i) (q i) (r i) w

-- few expressions
no_exprs_there : (es : List Expr) → length es ≡ 0 → end ≡ expr_stack es
no_exprs_there [] n = refl
no_exprs_there (e ∷ es) n = absurd (omega arith)

one_expr : (es : List Expr) → Every SoundExpr es → length es ≡ 1 → (e : Expr) × (expr_row e end ≡ expr_stack es) × SoundExpr e
one_expr [] h n = absurd (omega arith)
one_expr (e ∷ []) h n = (e, refl, h.0)
one_expr (e ∷ a ∷ es) h n = absurd (omega arith)

optional_expr : (es : List Expr) → Every SoundExpr es → length es ≤ 1 → (v : OptionalExpr) × (optional_row v end ≡ expr_stack es) × SoundOptional v
optional_expr [] h n = (absent, refl, tt)
optional_expr (e ∷ []) h n = (present e, refl, h.0)
optional_expr (e ∷ a ∷ es) h n = absurd (omega arith)

-- an expression in front where a flag is set
record Taken (t : Bool) (es : List Expr) (n : ℕ) : Type 0 where
  taken : OptionalExpr
  rest : List Expr
  flag : is_present taken ≡ t
  row : optional_row taken (expr_stack rest) ≡ expr_stack es
  size : length rest ≡ n
  taken_sound : SoundOptional taken
  rest_sound : Every SoundExpr rest

take_expr : (t : Bool) (es : List Expr) (n : ℕ) → Every SoundExpr es → length es ≡ one_if t + n → Taken t es n
take_expr false es n h e = record { taken = absent; rest = es; flag = refl; row = refl; size = omega arith; taken_sound = tt; rest_sound = h }
take_expr true [] n h e = absurd (omega arith)
take_expr true (a ∷ es) n h e = record { taken = present a; rest = es; flag = refl; row = refl; size = omega arith; taken_sound = h.0; rest_sound = h.1 }

record TwoOptionals (t u : Bool) (es : List Expr) : Type 0 where
  test : OptionalExpr
  update : OptionalExpr
  test_flag : is_present test ≡ t
  update_flag : is_present update ≡ u
  row : optional_row test (optional_row update end) ≡ expr_stack es
  test_sound : SoundOptional test
  update_sound : SoundOptional update

two_optionals : (t u : Bool) (es : List Expr) → Every SoundExpr es → length es ≡ one_if t + one_if u → TwoOptionals t u es
two_optionals t u es h n =
    let p = take_expr t es (one_if u) h n in
    let q = take_expr u p.rest 0 p.rest_sound (omega (arith, p.size)) in
    let r : optional_row q.taken end ≡ expr_stack p.rest = ap (optional_row q.taken) (no_exprs_there q.rest q.size) ∙ q.row in
    record {
      test = p.taken;
      update = q.taken;
      test_flag = p.flag;
      update_flag = q.flag;
      row = ap (optional_row p.taken) r ∙ p.row;
      test_sound = p.taken_sound;
      update_sound = q.taken_sound;
    }

-- declarators
no_declarators_there : (ds : List Declarator) → (decl_survey (decl_stack ds)).count ≡ 0 → end ≡ decl_stack ds
no_declarators_there [] n = refl
no_declarators_there (declarator x v ∷ ds) n = absurd (omega arith)

all_valued_of : (ds : List Declarator) → (decl_survey (decl_stack ds)).bare ≡ 0 → all_valued (declarators_of ds) ≡ true
all_valued_of [] n = refl
all_valued_of (declarator x absent ∷ ds) n = absurd (omega arith)
all_valued_of (declarator x (present e) ∷ ds) n = all_valued_of ds (omega arith)

sound_declaration_of : (k : DeclarationKind) (ds : List Declarator) → values_fit k (decl_survey (decl_stack ds)).bare ≡ true →
    sound_declaration k (declarators_of ds) ≡ true
sound_declaration_of Var ds f = refl
sound_declaration_of Let ds f = refl
sound_declaration_of Const ds f = all_valued_of ds (eqb-true _ _ f)

-- statements
no_items_there : (is : List Item) → (survey (stmt_stack is)).count ≡ 0 → end ≡ stmt_stack is
no_items_there [] n = refl
no_items_there (i ∷ is) n = absurd (omega (arith, item_stack_length (i ∷ is)))

-- without a case they are a list of statements
stmts_of : (is : List Item) → Every SoundItem is → (survey (stmt_stack is)).cases ≡ 0 → (ss : Stmts) × (stmts_row ss ≡ stmt_stack is) × SoundStmts ss
stmts_of [] h n = (no_stmts, refl, tt)
stmts_of (statement s ∷ is) h n =
    let r = stmts_of is h.1 (omega (arith, stmt_row_cases s (stmt_stack is))) in
    (stmt_then s r.0, ap (stmt_row s) r.1, (h.0, r.2))
stmts_of (case t ss ∷ is) h n = absurd (omega arith)

-- a branch or a loop's body
record Branch (is : List Item) : Type 0 where
  body : Stmt
  row : stmt_row body end ≡ stmt_stack is
  plain : lexical_declaration body ≡ false
  body_sound : SoundStmt body

one_branch : (is : List Item) → Every SoundItem is → (survey (stmt_stack is)).count ≡ 1 → (survey (stmt_stack is)).cases ≡ 0 →
    (survey (stmt_stack is)).lexicals ≡ 0 → Branch is
one_branch [] h n c l = absurd (omega arith)
one_branch (statement s ∷ []) h n c l =
    record { body = s; row = refl; plain = flag_clear (lexical_declaration s) (omega (arith, stmt_row_lexicals s end)); body_sound = h.0 }
one_branch (statement s ∷ i ∷ is) h n c l = absurd (omega (arith, item_stack_length (statement s ∷ i ∷ is)))
one_branch (case t ss ∷ is) h n c l = absurd (omega arith)

record Branches (is : List Item) : Type 0 where
  first : Stmt
  second : Alternate
  row : stmt_row first (alternate_row second) ≡ stmt_stack is
  plain : lexical_declaration first ≡ false
  first_sound : SoundStmt first
  second_sound : SoundAlternate second

two_branches : (is : List Item) → Every SoundItem is → 1 ≤ (survey (stmt_stack is)).count → (survey (stmt_stack is)).count ≤ 2 →
    (survey (stmt_stack is)).cases ≡ 0 → (survey (stmt_stack is)).lexicals ≡ 0 → Branches is
two_branches [] h n m c l = absurd (omega arith)
two_branches (statement s ∷ []) h n m c l = record {
  first = s;
  second = no_alternate;
  row = refl;
  plain = flag_clear (lexical_declaration s) (omega (arith, stmt_row_lexicals s end));
  first_sound = h.0;
  second_sound = tt;
}
two_branches (statement s ∷ statement a ∷ []) h n m c l = record {
  first = s;
  second = alternate a;
  row = refl;
  plain = flag_clear (lexical_declaration s) (omega (arith, stmt_row_lexicals s (stmt_row a end)));
  first_sound = h.0;
  second_sound = (flag_clear (lexical_declaration a) (omega (arith, stmt_row_lexicals s (stmt_row a end), stmt_row_lexicals a end)), h.1.0);
}
two_branches (statement s ∷ statement a ∷ i ∷ is) h n m c l = absurd (omega (arith, item_stack_length (statement s ∷ statement a ∷ i ∷ is)))
two_branches (statement s ∷ case t ss ∷ is) h n m c l = absurd (omega (arith, stmt_row_cases s (stmt_stack (case t ss ∷ is))))
two_branches (case t ss ∷ is) h n m c l = absurd (omega arith)

-- the cases of a switch
record CasesOf (is : List Item) : Type 0 where
  cases : Cases
  row : cases_row cases ≡ stmt_stack is
  size : count_cases cases ≡ length is
  unlabelled : defaults cases ≡ (survey (stmt_stack is)).defaults
  cases_sound : SoundCases cases

some_case_of : (cs : Cases) → 1 ≤ count_cases cs → some_case cs ≡ true
some_case_of no_cases n = absurd (omega arith)
some_case_of (case_then t ss cs) n = refl

default_more : (t : OptionalExpr) (ss : Stmts) (cs : Cases) (n : ℕ) → defaults cs ≡ n →
    defaults (case_then t ss cs) ≡ n + one_if (eqb (row_length (optional_row t end)) 0)
default_more absent ss cs n e = omega arith
default_more (present a) ss cs n e = rw (optional_bare (present a)) (omega arith)

cases_of : (is : List Item) → Every SoundItem is → (survey (stmt_stack is)).cases ≡ length is → CasesOf is
cases_of [] h n = record { cases = no_cases; row = refl; size = refl; unlabelled = refl; cases_sound = tt }
cases_of (statement s ∷ is) h n = absurd (omega (arith, stmt_row_cases s (stmt_stack is), cases_few is))
cases_of (case t ss ∷ is) h n =
    let r = cases_of is h.1 (omega arith) in
    record {
      cases = case_then t ss r.cases;
      row = ap (node (stmt_label kind.Case) (optional_row t end) (stmts_row ss) end) r.row;
      size = ap suc r.size;
      unlabelled = default_more t ss r.cases (survey (stmt_stack is)).defaults r.unlabelled;
      cases_sound = (h.0.0, h.0.1, r.cases_sound);
    }

-- what a for begins with, and the test, update and body that are left
record Begun (i : ForInit) (es : List Expr) (is : List Item) (n : ℕ) : Type 0 where
  begin : Init
  exprs : List Expr
  items : List Item
  begin_kind : init_kind begin ≡ i
  expr_rows : init_exprs begin (expr_stack exprs) ≡ expr_stack es
  stmt_rows : init_stmts begin (stmt_stack items) ≡ stmt_stack is
  size : length exprs ≡ n
  count : (survey (stmt_stack items)).count ≡ 1
  cases : (survey (stmt_stack items)).cases ≡ 0
  lexicals : (survey (stmt_stack items)).lexicals ≡ 0
  begin_sound : SoundInit begin
  exprs_sound : Every SoundExpr exprs
  items_sound : Every SoundItem items

begun_declaration : (es : List Expr) (is : List Item) (n : ℕ) → Every SoundExpr es → Every SoundItem is → length es ≡ n → (survey (stmt_stack is)).cases ≡ 0 →
    for_fits init.Declaration (survey (stmt_stack is)) (first_declared (stmt_stack is)) ≡ true → Begun init.Declaration es is n
begun_declaration es (statement (declaration k ds) ∷ is) n h g m c f =
    let b = both (eqb (survey (stmt_stack (statement (declaration k ds) ∷ is))).count 2) _ f in
    let two = eqb-true _ _ b.0 in
    let few = eqb-true _ _ b.1 in
    record {
      begin = init_declaration k ds;
      exprs = es;
      items = is;
      begin_kind = refl;
      expr_rows = refl;
      stmt_rows = refl;
      size = m;
      count = omega arith;
      cases = omega arith;
      lexicals = omega arith;
      begin_sound = g.0;
      exprs_sound = h;
      items_sound = g.1;
    }
begun_declaration es [] n h g m c f = absurd (clash f)
begun_declaration es (case t ss ∷ is) n h g m c f = absurd (clash f)
begun_declaration es (statement empty ∷ is) n h g m c f = absurd (clash f)
begun_declaration es (statement (expression e) ∷ is) n h g m c f = absurd (clash f)
begun_declaration es (statement (return_of v) ∷ is) n h g m c f = absurd (clash f)
begun_declaration es (statement (throw e) ∷ is) n h g m c f = absurd (clash f)
begun_declaration es (statement (if_then t a b) ∷ is) n h g m c f = absurd (clash f)
begun_declaration es (statement (block ss) ∷ is) n h g m c f = absurd (clash f)
begun_declaration es (statement (while t b) ∷ is) n h g m c f = absurd (clash f)
begun_declaration es (statement (do_while b t) ∷ is) n h g m c f = absurd (clash f)
begun_declaration es (statement (for i t u b) ∷ is) n h g m c f = absurd (clash f)
begun_declaration es (statement (switch d cs) ∷ is) n h g m c f = absurd (clash f)
begun_declaration es (statement break ∷ is) n h g m c f = absurd (clash f)
begun_declaration es (statement continue ∷ is) n h g m c f = absurd (clash f)

begun : (i : ForInit) (es : List Expr) (is : List Item) (n : ℕ) → Every SoundExpr es → Every SoundItem is →
    length es ≡ init_expressions i + n → (survey (stmt_stack is)).cases ≡ 0 →
    for_fits i (survey (stmt_stack is)) (first_declared (stmt_stack is)) ≡ true → Begun i es is n
begun init.Absent es is n h g m c f =
    let b = both (eqb (survey (stmt_stack is)).count 1) _ f in
    record {
      begin = no_init;
      exprs = es;
      items = is;
      begin_kind = refl;
      expr_rows = refl;
      stmt_rows = refl;
      size = omega arith;
      count = eqb-true _ _ b.0;
      cases = c;
      lexicals = eqb-true _ _ b.1;
      begin_sound = tt;
      exprs_sound = h;
      items_sound = g;
    }
begun init.Expression [] is n h g m c f = absurd (omega arith)
begun init.Expression (e ∷ es) is n h g m c f =
    let b = both (eqb (survey (stmt_stack is)).count 1) _ f in
    record {
      begin = init_expression e;
      exprs = es;
      items = is;
      begin_kind = refl;
      expr_rows = refl;
      stmt_rows = refl;
      size = omega arith;
      count = eqb-true _ _ b.0;
      cases = c;
      lexicals = eqb-true _ _ b.1;
      begin_sound = h.0;
      exprs_sound = h.1;
      items_sound = g;
    }
begun init.Declaration es is n h g m c f = begun_declaration es is n h g (omega arith) c f

-- the parts of each kind
declaration_of : (k : DeclarationKind) (es : List Expr) (is : List Item) (ds : List Declarator) → Every SoundDeclarator ds →
    fits_stmt (kind.Declaration k) (length es) (survey (stmt_stack is)) (decl_survey (decl_stack ds)) (first_declared (stmt_stack is)) ≡ true →
    ItemOf (kind.Declaration k) es is ds
declaration_of k es is ds d f =
    let a = both (eqb (length es) 0) _ f in
    let b = both (eqb (survey (stmt_stack is)).count 0) _ a.1 in
    let c = both (leb 1 (decl_survey (decl_stack ds)).count) _ b.1 in
    let some = leb-true _ _ c.0 in (
      statement (declaration k (declarators_of ds)),
      same_node (no_exprs_there es (eqb-true _ _ a.0)) (no_items_there is (eqb-true _ _ b.0)) (declarators_row_of ds),
      (omega (arith, count_declarators_of ds, decl_stack_length ds), sound_declaration_of k ds c.1, declarators_of_sound ds d),
    )

-- no statements and no declarators
plain_rows : (is : List Item) (ds : List Declarator) → plain_stmt (survey (stmt_stack is)) (decl_survey (decl_stack ds)) ≡ true →
    (end ≡ stmt_stack is) × (end ≡ decl_stack ds)
plain_rows is ds f =
    let b = both (eqb (survey (stmt_stack is)).count 0) _ f in
    (no_items_there is (eqb-true _ _ b.0), no_declarators_there ds (eqb-true _ _ b.1))

bare_of : (k : StatementKind) (s : Stmt) → ((w : Row) → stmt_row s w ≡ node (stmt_label k) end end end w) → SoundStmt s →
    (es : List Expr) (is : List Item) (ds : List Declarator) →
    (eqb (length es) 0 && plain_stmt (survey (stmt_stack is)) (decl_survey (decl_stack ds))) ≡ true → ItemOf k es is ds
bare_of k s r sound es is ds f =
    let a = both (eqb (length es) 0) _ f in
    let b = plain_rows is ds a.1 in
    (statement s, (λ w. r w ∙ same_node (no_exprs_there es (eqb-true _ _ a.0)) b.0 b.1 w), sound)

valued_of : (k : StatementKind) (put : Expr → Stmt) → ((e : Expr) (w : Row) → stmt_row (put e) w ≡ node (stmt_label k) (expr_row e end) end end w) →
    ((e : Expr) → SoundExpr e → SoundStmt (put e)) → (es : List Expr) (is : List Item) (ds : List Declarator) → Every SoundExpr es →
    (eqb (length es) 1 && plain_stmt (survey (stmt_stack is)) (decl_survey (decl_stack ds))) ≡ true → ItemOf k es is ds
valued_of k put r sound es is ds h f =
    let a = both (eqb (length es) 1) _ f in
    let b = plain_rows is ds a.1 in
    let e = one_expr es h (eqb-true _ _ a.0) in
    (statement (put e.0), (λ w. r e.0 w ∙ same_node e.1 b.0 b.1 w), sound e.0 e.2)

return_with : (es : List Expr) (is : List Item) (ds : List Declarator) → Every SoundExpr es →
    (leb (length es) 1 && plain_stmt (survey (stmt_stack is)) (decl_survey (decl_stack ds))) ≡ true → ItemOf kind.Return es is ds
return_with es is ds h f =
    let a = both (leb (length es) 1) _ f in
    let b = plain_rows is ds a.1 in
    let v = optional_expr es h (leb-true _ _ a.0) in
    (statement (return_of v.0), same_node v.1 b.0 b.1, v.2)

-- what the tests of branches tell
record Branching (is : List Item) (ds : List Declarator) : Type 0 where
  cases : (survey (stmt_stack is)).cases ≡ 0
  lexicals : (survey (stmt_stack is)).lexicals ≡ 0
  decls : end ≡ decl_stack ds

branching : (is : List Item) (ds : List Declarator) → branches (survey (stmt_stack is)) (decl_survey (decl_stack ds)) ≡ true → Branching is ds
branching is ds f =
    let a = both (eqb (survey (stmt_stack is)).cases 0) _ f in
    let b = both (eqb (survey (stmt_stack is)).lexicals 0) _ a.1 in
    record { cases = eqb-true _ _ a.0; lexicals = eqb-true _ _ b.0; decls = no_declarators_there ds (eqb-true _ _ b.1) }

if_of : (es : List Expr) (is : List Item) (ds : List Declarator) → Every SoundExpr es → Every SoundItem is →
    fits_stmt kind.If (length es) (survey (stmt_stack is)) (decl_survey (decl_stack ds)) (first_declared (stmt_stack is)) ≡ true → ItemOf kind.If es is ds
if_of es is ds h g f =
    let a = both (eqb (length es) 1) _ f in
    let b = both (leb 1 (survey (stmt_stack is)).count) _ a.1 in
    let c = both (leb (survey (stmt_stack is)).count 2) _ b.1 in
    let r = branching is ds c.1 in
    let e = one_expr es h (eqb-true _ _ a.0) in
    let s = two_branches is g (leb-true _ _ b.0) (leb-true _ _ c.0) r.cases r.lexicals in (
      statement (if_then e.0 s.first s.second),
      same_node e.1 s.row r.decls,
      (e.2, s.plain, s.first_sound, s.second_sound),
    )

loop_of : (k : StatementKind) (put : Expr → Stmt → Stmt) →
    ((e : Expr) (s : Stmt) (w : Row) → stmt_row (put e s) w ≡ node (stmt_label k) (expr_row e end) (stmt_row s end) end w) →
    ((e : Expr) (s : Stmt) → SoundExpr e → lexical_declaration s ≡ false → SoundStmt s → SoundStmt (put e s)) →
    (es : List Expr) (is : List Item) (ds : List Declarator) → Every SoundExpr es → Every SoundItem is →
    (eqb (length es) 1 && (eqb (survey (stmt_stack is)).count 1 && branches (survey (stmt_stack is)) (decl_survey (decl_stack ds)))) ≡ true →
    ItemOf k es is ds
loop_of k put row sound es is ds h g f =
    let a = both (eqb (length es) 1) _ f in
    let b = both (eqb (survey (stmt_stack is)).count 1) _ a.1 in
    let r = branching is ds b.1 in
    let e = one_expr es h (eqb-true _ _ a.0) in
    let s = one_branch is g (eqb-true _ _ b.0) r.cases r.lexicals in (
      statement (put e.0 s.body),
      (λ w. row e.0 s.body w ∙ same_node e.1 s.row r.decls w),
      sound e.0 s.body e.2 s.plain s.body_sound,
    )

block_of : (es : List Expr) (is : List Item) (ds : List Declarator) → Every SoundItem is →
    fits_stmt kind.Block (length es) (survey (stmt_stack is)) (decl_survey (decl_stack ds)) (first_declared (stmt_stack is)) ≡ true → ItemOf kind.Block es is ds
block_of es is ds g f =
    let a = both (eqb (length es) 0) _ f in
    let b = both (eqb (survey (stmt_stack is)).cases 0) _ a.1 in
    let s = stmts_of is g (eqb-true _ _ b.0) in (
      statement (block s.0),
      same_node (no_exprs_there es (eqb-true _ _ a.0)) s.1 (no_declarators_there ds (eqb-true _ _ b.1)),
      s.2,
    )

case_of : (es : List Expr) (is : List Item) (ds : List Declarator) → Every SoundExpr es → Every SoundItem is →
    fits_stmt kind.Case (length es) (survey (stmt_stack is)) (decl_survey (decl_stack ds)) (first_declared (stmt_stack is)) ≡ true → ItemOf kind.Case es is ds
case_of es is ds h g f =
    let a = both (leb (length es) 1) _ f in
    let b = both (eqb (survey (stmt_stack is)).cases 0) _ a.1 in
    let v = optional_expr es h (leb-true _ _ a.0) in
    let s = stmts_of is g (eqb-true _ _ b.0) in
    (case v.0 s.0, same_node v.1 s.1 (no_declarators_there ds (eqb-true _ _ b.1)), (v.2, s.2))

switch_of : (es : List Expr) (is : List Item) (ds : List Declarator) → Every SoundExpr es → Every SoundItem is →
    fits_stmt kind.Switch (length es) (survey (stmt_stack is)) (decl_survey (decl_stack ds)) (first_declared (stmt_stack is)) ≡ true → ItemOf kind.Switch es is ds
switch_of es is ds h g f =
    let a = both (eqb (length es) 1) _ f in
    let b = both (leb 1 (survey (stmt_stack is)).count) _ a.1 in
    let c = both (eqb (survey (stmt_stack is)).cases (survey (stmt_stack is)).count) _ b.1 in
    let d = both (leb (survey (stmt_stack is)).defaults 1) _ c.1 in
    let some = leb-true _ _ b.0 in
    let few = leb-true _ _ d.0 in
    let e = one_expr es h (eqb-true _ _ a.0) in
    let s = cases_of is g (eqb-true _ _ c.0 ∙ item_stack_length is) in (
      statement (switch e.0 s.cases),
      same_node e.1 s.row (no_declarators_there ds (eqb-true _ _ d.1)),
      (e.2, join _ _ (some_case_of s.cases (omega (arith, s.size, item_stack_length is))) (le-leb _ _ (omega (arith, s.unlabelled))), s.cases_sound),
    )

for_from : (i : ForInit) (t u : Bool) (es : List Expr) (is : List Item) (ds : List Declarator) → Begun i es is (one_if t + one_if u) → end ≡ decl_stack ds →
    ItemOf (kind.For (record { init = i; test = t; update = u })) es is ds
for_from i t u es is ds p z =
    let v = two_optionals t u p.exprs p.exprs_sound p.size in
    let s = one_branch p.items p.items_sound p.count p.cases p.lexicals in
    let x = ap (init_exprs p.begin) v.row ∙ p.expr_rows in
    let y = ap (init_stmts p.begin) s.row ∙ p.stmt_rows in (
      statement (for p.begin v.test v.update s.body),
      (λ w j. node (stmt_label (kind.For (record { init = p.begin_kind j; test = v.test_flag j; update = v.update_flag j }))) (x j) (y j) (z j) w),
      (p.begin_sound, v.test_sound, v.update_sound, s.plain, s.body_sound),
    )

for_of : (i : ForInit) (t u : Bool) (es : List Expr) (is : List Item) (ds : List Declarator) → Every SoundExpr es → Every SoundItem is →
    fits_stmt (kind.For (record { init = i; test = t; update = u })) (length es) (survey (stmt_stack is)) (decl_survey (decl_stack ds)) (first_declared (stmt_stack is)) ≡ true →
    ItemOf (kind.For (record { init = i; test = t; update = u })) es is ds
for_of i t u es is ds h g f =
    let a = both (eqb (length es) (head_expressions (record { init = i; test = t; update = u }))) _ f in
    let b = both (eqb (survey (stmt_stack is)).cases 0) _ a.1 in
    let c = both (eqb (decl_survey (decl_stack ds)).count 0) _ b.1 in
    for_from i t u es is ds
    (begun i es is (one_if t + one_if u) h g (eqb-true _ _ a.0) (eqb-true _ _ b.0) c.1)
    (no_declarators_there ds (eqb-true _ _ c.0))

item_of : (k : StatementKind) (es : List Expr) (is : List Item) (ds : List Declarator) → Every SoundExpr es → Every SoundItem is → Every SoundDeclarator ds →
    fits_stmt k (length es) (survey (stmt_stack is)) (decl_survey (decl_stack ds)) (first_declared (stmt_stack is)) ≡ true → ItemOf k es is ds
item_of kind.Empty es is ds h g d f = bare_of kind.Empty empty (λ w. refl) tt es is ds f
item_of kind.Expression es is ds h g d f = valued_of kind.Expression expression (λ e w. refl) (λ e s. s) es is ds h f
item_of (kind.Declaration k) es is ds h g d f = declaration_of k es is ds d f
item_of kind.Return es is ds h g d f = return_with es is ds h f
item_of kind.Throw es is ds h g d f = valued_of kind.Throw throw (λ e w. refl) (λ e s. s) es is ds h f
item_of kind.If es is ds h g d f = if_of es is ds h g f
item_of kind.Block es is ds h g d f = block_of es is ds g f
item_of kind.While es is ds h g d f = loop_of kind.While while (λ e s w. refl) (λ e s p q r. (p, q, r)) es is ds h g f
item_of kind.DoWhile es is ds h g d f = loop_of kind.DoWhile (λ e s. do_while s e) (λ e s w. refl) (λ e s p q r. (q, r, p)) es is ds h g f
item_of (kind.For x) es is ds h g d f = for_of x.init x.test x.update es is ds h g f
item_of kind.Switch es is ds h g d f = switch_of es is ds h g f
item_of kind.Case es is ds h g d f = case_of es is ds h g f
item_of kind.Break es is ds h g d f = bare_of kind.Break break (λ w. refl) tt es is ds f
item_of kind.Continue es is ds h g d f = bare_of kind.Continue continue (λ w. refl) tt es is ds f

-- one record more in front of a row
item_more : (k : StatementKind) (x y z w : Row) → fits_stmt k (row_length x) (survey y) (decl_survey z) (first_declared y) ≡ true →
    ExprsOf x → ItemsOf y → DeclaratorsOf z → ItemsOf w → ItemsOf (node (stmt_label k) x y z w)
item_more k x y z w f p q r v =
    let size = decoded_length p in
    let same : fits_stmt k (row_length x) (survey y) (decl_survey z) (first_declared y)
    ≡ fits_stmt k (length p.0) (survey (stmt_stack q.0)) (decl_survey (decl_stack r.0)) (first_declared (stmt_stack q.0))
    = λ i. fits_stmt k (size i) (survey (sym q.1 i)) (decl_survey (sym r.1 i)) (first_declared (sym q.1 i)) in
    let a = item_of k p.0 q.0 r.0 p.2 q.2 r.2 (sym same ∙ f) in (
      a.0 ∷ v.0,
      a.1 (stmt_stack v.0) ∙ (λ i. node (stmt_label k) (p.1 i) (q.1 i) (r.1 i) (v.1 i)),
      (a.2, v.2),
    )

pub items_decoded : (r : Row) → ShapedStmts r → (is : List Item) × (stmt_stack is ≡ r) × Every SoundItem is
items_decoded end h = ([], refl, tt)
items_decoded (node (expr_label k) x y z w) h = absurd h
items_decoded (node (stmt_label k) x y z w) h =
    item_more k x y z w h.0 (exprs_decoded x h.1) (items_decoded y h.2) (declarators_decoded z h.3) (items_decoded w h.4)
items_decoded (node (decl_label n) x y z w) h = absurd h

pub body_decoded : (r : Row) → ShapedStmts r → (survey r).cases ≡ 0 → (ss : Stmts) × (stmts_row ss ≡ r) × SoundStmts ss
body_decoded r h n =
    let p = items_decoded r h in
    let s = stmts_of p.0 p.2 (ap (λ (x : Row). (survey x).cases) p.1 ∙ n) in
    (s.0, s.1 ∙ p.1, s.2)
