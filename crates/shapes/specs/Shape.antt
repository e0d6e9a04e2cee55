-- The rules of feeding on rows of records: which parts a record may have.
use Rattle.std.specs.Prelude.{◌≡◌, ℕ, ◌+◌, ◌<◌, ◌≤◌, Bool, true, false, ◌&&◌, Some, None, Option, ◌==◌, nat_le}
use Rattle.pool.specs.Chain.{nowhere}
use Rattle.script.specs.declared.DeclarationKind.{DeclarationKind}
use Rattle.script.specs.declared.DeclarationKind.TheVariants.{Var, Let, Const}
use Rattle.script.specs.declared.ExpressionKind.{ExpressionKind}
use Rattle.script.specs.declared.ExpressionKind.TheVariants as expression
use Rattle.script.specs.declared.StatementKind.{StatementKind}
use Rattle.script.specs.declared.StatementKind.TheVariants as kind
use Rattle.script.specs.declared.ForInit.{ForInit}
use Rattle.script.specs.declared.ForInit.TheVariants as init
use Rattle.script.specs.declared.ForHead.{ForHead}
use Rattle.script.specs.Stacks.{lexical_kind}
use Rattle.shapes.specs.declared.rule.StmtSurvey.{StmtSurvey}
use Rattle.shapes.specs.declared.rule.DeclSurvey.{DeclSurvey}
use Rattle.records.specs.Flags.{one_if}
use Rattle.records.specs.Heap.{expr_label, stmt_label, decl_label}
use Rattle.records.specs.Rows.{Row, end, node, row_length}

-- an expression of this kind has so many parts
abbrev pub fits_expr : ExpressionKind → ℕ → Bool
fits_expr (expression.Number b) n = n == 0
fits_expr (expression.Word w) n = n == 0
fits_expr (expression.Name x) n = n == 0
fits_expr (expression.Assignment x) n = n == 1
fits_expr (expression.Call x) n = nat_le n 255
fits_expr expression.Sequence n = nat_le 2 n
fits_expr expression.Conditional n = n == 3
fits_expr (expression.Logical o) n = n == 2
fits_expr expression.Not n = n == 1
fits_expr expression.Void n = n == 1
fits_expr expression.StrictEquality n = n == 2

abbrev pub no_survey : StmtSurvey
no_survey = record { count = 0; cases = 0; defaults = 0; lexicals = 0 }

abbrev pub is_case : StatementKind → Bool
is_case kind.Empty = false
is_case kind.Expression = false
is_case (kind.Declaration k) = false
is_case kind.Return = false
is_case kind.Throw = false
is_case kind.If = false
is_case kind.Block = false
is_case kind.While = false
is_case kind.DoWhile = false
is_case (kind.For h) = false
is_case kind.Switch = false
is_case kind.Case = true
is_case kind.Break = false
is_case kind.Continue = false

-- how a statement is declared, if it is a declaration
abbrev pub kind_declared : StatementKind → Option DeclarationKind
kind_declared kind.Empty = None
kind_declared kind.Expression = None
kind_declared (kind.Declaration k) = Some k
kind_declared kind.Return = None
kind_declared kind.Throw = None
kind_declared kind.If = None
kind_declared kind.Block = None
kind_declared kind.While = None
kind_declared kind.DoWhile = None
kind_declared (kind.For h) = None
kind_declared kind.Switch = None
kind_declared kind.Case = None
kind_declared kind.Break = None
kind_declared kind.Continue = None

abbrev pub lexical_option : Option DeclarationKind → Bool
lexical_option None = false
lexical_option (Some k) = lexical_kind k

-- there is room to count one statement more: no count is above that of all
abbrev pub RoomForOne : StmtSurvey → Type 0
RoomForOne s = (s.count < nowhere) × (s.cases ≤ s.count) × (s.defaults ≤ s.count) × (s.lexicals ≤ s.count)

-- one statement more, of this kind and with so many expressions of its own
abbrev pub surveyed : StatementKind → ℕ → StmtSurvey → StmtSurvey
surveyed k n s = record {
  count = s.count + 1;
  cases = s.cases + one_if (is_case k);
  defaults = s.defaults + one_if (is_case k && n == 0);
  lexicals = s.lexicals + one_if (lexical_option (kind_declared k));
}

abbrev pub survey : Row → StmtSurvey
survey end = no_survey
survey (node (expr_label k) x y z w) = survey w
survey (node (stmt_label k) x y z w) = surveyed k (row_length x) (survey w)
survey (node (decl_label n) x y z w) = survey w

abbrev pub decl_survey : Row → DeclSurvey
decl_survey end = record { count = 0; bare = 0 }
decl_survey (node l x y z w) = record { count = (decl_survey w).count + 1; bare = (decl_survey w).bare + one_if (row_length x == 0) }

-- how the first statement of a row is declared
abbrev pub first_declared : Row → Option DeclarationKind
first_declared end = None
first_declared (node (expr_label k) x y z w) = None
first_declared (node (stmt_label k) x y z w) = kind_declared k
first_declared (node (decl_label n) x y z w) = None

-- a const has values
abbrev pub values_fit : DeclarationKind → ℕ → Bool
values_fit Var bare = true
values_fit Let bare = true
values_fit Const bare = bare == 0

-- no statements and no declarators beside the expressions
abbrev pub plain_stmt : StmtSurvey → DeclSurvey → Bool
plain_stmt s d = s.count == 0 && d.count == 0

-- statements that are branches or loop bodies: no case, let or const
abbrev pub branches : StmtSurvey → DeclSurvey → Bool
branches s d = s.cases == 0 && (s.lexicals == 0 && d.count == 0)

-- how many expressions a for has
abbrev pub init_expressions : ForInit → ℕ
init_expressions init.Absent = 0
init_expressions init.Expression = 1
init_expressions init.Declaration = 0

abbrev pub head_expressions : ForHead → ℕ
head_expressions h = init_expressions h.init + (one_if h.test + one_if h.update)

-- how many statements it has before its body
abbrev pub init_statements : ForInit → ℕ
init_statements init.Absent = 0
init_statements init.Expression = 0
init_statements init.Declaration = 1

-- a for's statements: a declaration if it begins with one, and its body
abbrev pub for_fits : ForInit → StmtSurvey → Option DeclarationKind → Bool
for_fits init.Absent s first = s.count == 1 && s.lexicals == 0
for_fits init.Expression s first = s.count == 1 && s.lexicals == 0
for_fits init.Declaration s None = false
for_fits init.Declaration s (Some k) = s.count == 2 && s.lexicals == one_if (lexical_kind k)

-- a switch has a case at least, nothing else, and one default at most
abbrev pub switch_fits : StmtSurvey → DeclSurvey → Bool
switch_fits s d = nat_le 1 s.count && (s.cases == s.count && (nat_le s.defaults 1 && d.count == 0))

-- a statement of this kind has so many expressions, such statements, such declarators, and its first statement declares so
abbrev pub fits_stmt : StatementKind → ℕ → StmtSurvey → DeclSurvey → Option DeclarationKind → Bool
fits_stmt kind.Empty n s d first = n == 0 && plain_stmt s d
fits_stmt kind.Expression n s d first = n == 1 && plain_stmt s d
fits_stmt (kind.Declaration k) n s d first = n == 0 && (s.count == 0 && (nat_le 1 d.count && values_fit k d.bare))
fits_stmt kind.Return n s d first = nat_le n 1 && plain_stmt s d
fits_stmt kind.Throw n s d first = n == 1 && plain_stmt s d
fits_stmt kind.If n s d first = n == 1 && (nat_le 1 s.count && (nat_le s.count 2 && branches s d))
fits_stmt kind.Block n s d first = n == 0 && (s.cases == 0 && d.count == 0)
fits_stmt kind.While n s d first = n == 1 && (s.count == 1 && branches s d)
fits_stmt kind.DoWhile n s d first = n == 1 && (s.count == 1 && branches s d)
fits_stmt (kind.For h) n s d first = n == head_expressions h && (s.cases == 0 && (d.count == 0 && for_fits h.init s first))
fits_stmt kind.Switch n s d first = n == 1 && switch_fits s d
fits_stmt kind.Case n s d first = nat_le n 1 && (s.cases == 0 && d.count == 0)
fits_stmt kind.Break n s d first = n == 0 && plain_stmt s d
fits_stmt kind.Continue n s d first = n == 0 && plain_stmt s d

abbrev pub Ended : Row → Type 0
Ended end = Unit {0}
Ended (node l x y z w) = ⊥

-- every record of the row and of its parts fits
abbrev pub ShapedExprs : Row → Type 0
ShapedExprs end = Unit {0}
ShapedExprs (node (expr_label k) x y z w) = (fits_expr k (row_length x) ≡ true) × ShapedExprs x × Ended y × Ended z × ShapedExprs w
ShapedExprs (node (stmt_label k) x y z w) = ⊥
ShapedExprs (node (decl_label n) x y z w) = ⊥

abbrev pub ShapedDecls : Row → Type 0
ShapedDecls end = Unit {0}
ShapedDecls (node (expr_label k) x y z w) = ⊥
ShapedDecls (node (stmt_label k) x y z w) = ⊥
ShapedDecls (node (decl_label n) x y z w) = (nat_le (row_length x) 1 ≡ true) × ShapedExprs x × Ended y × Ended z × ShapedDecls w

abbrev pub ShapedStmts : Row → Type 0
ShapedStmts end = Unit {0}
ShapedStmts (node (expr_label k) x y z w) = ⊥
ShapedStmts (node (stmt_label k) x y z w) =
    (fits_stmt k (row_length x) (survey y) (decl_survey z) (first_declared y) ≡ true) × ShapedExprs x × ShapedStmts y × ShapedDecls z × ShapedStmts w
ShapedStmts (node (decl_label n) x y z w) = ⊥
