-- Surveys of the rows that trees make: how a statement, a case or a declarator adds to the survey of what follows it.
use Rattle.std.proofs.Common.{◌≡◌, ℕ, ◌+◌, ◌≤◌, Bool, true, false, not as negated, ◌&&◌, eqb, List, [], ◌∷◌, length, refl, ap, arith}
use Rattle.script.specs.Tree.{OptionalExpr, absent, present}
use Rattle.script.specs.Tree.{Stmt, empty, expression, declaration, return_of, throw, if_then, block, while, do_while, for, switch, break, continue}
use Rattle.script.specs.Stacks.{Item, statement, case, lexical_declaration}
use Rattle.shapes.specs.declared.rule.StmtSurvey.{StmtSurvey}
use Rattle.records.specs.Rows.{Row, end, row_length}
use Rattle.records.specs.Embedding.{optional_row, is_present, stmt_row, stmt_stack}
use Rattle.records.specs.Flags.{one_if}
use Rattle.shapes.specs.Shape.{survey}
use Rattle.records.proofs.RowLengths.{expr_row_length}

-- tests that hold together
pub both : (a b : Bool) → (a && b) ≡ true → (a ≡ true) × (b ≡ true)
both true b e = (refl, e)
both false b e = let z : ◌≡◌ {A = ℕ} 0 1 = cc in absurd (omega arith)

pub join : (a b : Bool) → a ≡ true → b ≡ true → (a && b) ≡ true
join true b p q = q
join false b p q = p

pub flag_clear : (b : Bool) → one_if b ≡ 0 → b ≡ false
flag_clear true e = absurd (omega arith)
flag_clear false e = refl

-- a row of one expression or none
pub optional_length : (v : OptionalExpr) → row_length (optional_row v end) ≡ one_if (is_present v)
optional_length absent = refl
optional_length (present e) = expr_row_length e end

pub optional_bare : (v : OptionalExpr) → eqb (row_length (optional_row v end)) 0 ≡ negated (is_present v)
optional_bare absent = refl
optional_bare (present e) = ap (λ (n : ℕ). eqb n 0) (expr_row_length e end)

-- one statement more
abbrev with_statement : Stmt → StmtSurvey → StmtSurvey
with_statement s v = record { count = v.count + 1; cases = v.cases + 0; defaults = v.defaults + 0; lexicals = v.lexicals + one_if (lexical_declaration s) }

stmt_row_survey : (s : Stmt) (w : Row) → survey (stmt_row s w) ≡ with_statement s (survey w)
stmt_row_survey empty w = refl
stmt_row_survey (expression e) w = refl
stmt_row_survey (declaration k ds) w = refl
stmt_row_survey (return_of v) w = refl
stmt_row_survey (throw e) w = refl
stmt_row_survey (if_then t c a) w = refl
stmt_row_survey (block ss) w = refl
stmt_row_survey (while t b) w = refl
stmt_row_survey (do_while b t) w = refl
stmt_row_survey (for i t u b) w = refl
stmt_row_survey (switch d cs) w = refl
stmt_row_survey break w = refl
stmt_row_survey continue w = refl

pub stmt_row_count : (s : Stmt) (w : Row) → (survey (stmt_row s w)).count ≡ (survey w).count + 1
stmt_row_count s w = ap (λ (v : StmtSurvey). v.count) (stmt_row_survey s w)

pub stmt_row_cases : (s : Stmt) (w : Row) → (survey (stmt_row s w)).cases ≡ (survey w).cases + 0
stmt_row_cases s w = ap (λ (v : StmtSurvey). v.cases) (stmt_row_survey s w)

pub stmt_row_defaults : (s : Stmt) (w : Row) → (survey (stmt_row s w)).defaults ≡ (survey w).defaults + 0
stmt_row_defaults s w = ap (λ (v : StmtSurvey). v.defaults) (stmt_row_survey s w)

pub stmt_row_lexicals : (s : Stmt) (w : Row) → (survey (stmt_row s w)).lexicals ≡ (survey w).lexicals + one_if (lexical_declaration s)
stmt_row_lexicals s w = ap (λ (v : StmtSurvey). v.lexicals) (stmt_row_survey s w)

-- rows of items
pub item_stack_length : (is : List Item) → (survey (stmt_stack is)).count ≡ length is
item_stack_length [] = refl
item_stack_length (statement s ∷ is) = omega (arith, stmt_row_count s (stmt_stack is), item_stack_length is)
item_stack_length (case t ss ∷ is) = omega (arith, item_stack_length is)

pub cases_few : (is : List Item) → (survey (stmt_stack is)).cases ≤ length is
cases_few [] = omega arith
cases_few (statement s ∷ is) = omega (arith, stmt_row_cases s (stmt_stack is), cases_few is)
cases_few (case t ss ∷ is) = omega (arith, cases_few is)
