-- Counts of a row that go on from counts of what stood before it.
use Rattle.std.proofs.Common.{◌≡◌, ℕ, ◌+◌, ◌≤◌, Bool, true, false, ◌&&◌, eqb, ◌∙◌, arith}
use Rattle.shapes.specs.declared.rule.StmtSurvey.{StmtSurvey}
use Rattle.shapes.specs.declared.rule.DeclSurvey.{DeclSurvey}
use Rattle.script.specs.declared.StatementKind.{StatementKind}
use Rattle.records.specs.Heap.{expr_label, stmt_label, decl_label}
use Rattle.records.specs.Rows.{Row, end, node, row_length}
use Rattle.records.specs.Flags.{one_if}
use Rattle.shapes.specs.Shape.{is_case, lexical_option, kind_declared, surveyed, no_survey, survey, decl_survey}
use Rattle.lending.specs.Marked.{length_from, with_declarator, declarators_from, survey_from, no_declarators}

pub length_from_is : (n : ℕ) (x : Row) → length_from n x ≡ n + row_length x
length_from_is n end = omega arith
length_from_is n (node l x y z w) = let e = length_from_is (n + 1) w in omega arith

pub length_is : (x : Row) → length_from 0 x ≡ row_length x
length_is x = let e = length_from_is 0 x in omega arith

pub same_decls : {s t : DeclSurvey} → s.count ≡ t.count → s.bare ≡ t.bare → s ≡ t
same_decls a b = λ i. record { count = a i; bare = b i }

pub same_stmts : {s t : StmtSurvey} → s.count ≡ t.count → s.cases ≡ t.cases → s.defaults ≡ t.defaults → s.lexicals ≡ t.lexicals → s ≡ t
same_stmts a b c d = λ i. record { count = a i; cases = b i; defaults = c i; lexicals = d i }

abbrev decls_added : DeclSurvey → DeclSurvey → DeclSurvey
decls_added s t = record { count = s.count + t.count; bare = s.bare + t.bare }

abbrev added : StmtSurvey → StmtSurvey → StmtSurvey
added s t = record { count = s.count + t.count; cases = s.cases + t.cases; defaults = s.defaults + t.defaults; lexicals = s.lexicals + t.lexicals }

declarators_from_is : (s : DeclSurvey) (x : Row) → declarators_from s x ≡ decls_added s (decl_survey x)
declarators_from_is s end = same_decls (omega arith) (omega arith)
declarators_from_is s (node l x y z w) =
    declarators_from_is (with_declarator (row_length x) s) w ∙ same_decls (omega arith) (omega arith)

pub declarators_are : (x : Row) → declarators_from no_declarators x ≡ decl_survey x
declarators_are x = declarators_from_is no_declarators x ∙ same_decls (omega arith) (omega arith)

survey_from_is : (s : StmtSurvey) (x : Row) → survey_from s x ≡ added s (survey x)
survey_from_is s end = same_stmts (omega arith) (omega arith) (omega arith) (omega arith)
survey_from_is s (node (expr_label k) x y z w) = survey_from_is s w
survey_from_is s (node (stmt_label k) x y z w) =
    survey_from_is (surveyed k (row_length x) s) w ∙ same_stmts (omega arith) (omega arith) (omega arith) (omega arith)
survey_from_is s (node (decl_label n) x y z w) = survey_from_is s w

pub survey_is : (x : Row) → survey_from no_survey x ≡ survey x
survey_is x = survey_from_is no_survey x ∙ same_stmts (omega arith) (omega arith) (omega arith) (omega arith)

number_few : (b : Bool) → one_if b ≤ 1
number_few true = omega arith
number_few false = omega arith

pub declarator_few : (n : ℕ) (s : DeclSurvey) → s.bare ≤ s.count → (with_declarator n s).bare ≤ (with_declarator n s).count
declarator_few n s h = let a = number_few (eqb n 0) in omega arith

pub record Few (s : StmtSurvey) : Type 0 where
  pub cases : s.cases ≤ s.count
  pub defaults : s.defaults ≤ s.count
  pub lexicals : s.lexicals ≤ s.count

pub surveyed_few : (k : StatementKind) (n : ℕ) (s : StmtSurvey) → Few s → Few (surveyed k n s)
surveyed_few k n s f =
    let a = number_few (is_case k) in
    let b = number_few (is_case k && eqb n 0) in
    let d = number_few (lexical_option (kind_declared k)) in
    let x = f.cases in
    let y = f.defaults in
    let z = f.lexicals in
    record { cases = omega arith; defaults = omega arith; lexicals = omega arith }
