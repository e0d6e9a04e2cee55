-- Looking over the topmost items of a stack without taking them.
use Rattle.std.specs.Prelude.{◌≡◌, ℕ, ◌≤◌, Bool, true, false, List, None}
use Rattle.shapes.specs.declared.rule.DeclSurvey.{DeclSurvey}
use Rattle.reading.specs.declared.build.Surveyed.{Surveyed}
use Rattle.reading.specs.declared.making.Parts.{Parts}
use Rattle.records.specs.declared.record.Draft.{Draft}
use Rattle.records.specs.declared.record.ExprRecord.{ExprRecord}
use Rattle.records.specs.declared.record.StmtRecord.{StmtRecord}
use Rattle.records.specs.declared.record.DeclRecord.{DeclRecord}
use Rattle.records.specs.Heap.{stmt_at, decl_at}
use Rattle.records.specs.Rows.{Row, At, row_length}
use Rattle.records.specs.Owned.{Short}
use Rattle.shapes.specs.Shape.{no_survey, survey, first_declared, decl_survey}

-- a table is a list of its records
abbrev pub ExprTable : Type 0
ExprTable = List ExprRecord

abbrev pub StmtTable : Type 0
StmtTable = List StmtRecord

abbrev pub DeclTable : Type 0
DeclTable = List DeclRecord

abbrev pub nothing_seen : Surveyed
nothing_seen = record { survey = no_survey; first = None }

abbrev pub no_decls_seen : DeclSurvey
no_decls_seen = record { count = 0; bare = 0 }

-- what was seen is what a row tells
pub record SurveyedAs (seen : Surveyed) (r : Row) : Type 0 where
  pub survey : seen.survey ≡ survey r
  pub first : seen.first ≡ first_declared r

-- from the place on there is a row with so many records, and what was seen is another row
pub record Surveys (es : List ExprRecord) (ss : List StmtRecord) (ds : List DeclRecord) (at n : ℕ) (s acc : Row) (seen : Surveyed) : Type 0 where
  pub short : Short (record { exprs = es; stmts = ss; decls = ds })
  pub held : At (record { exprs = es; stmts = ss; decls = ds }) (stmt_at at) s
  pub long : n ≤ row_length s
  pub seen_as : SurveyedAs seen acc

pub record DeclSurveys (es : List ExprRecord) (ss : List StmtRecord) (ds : List DeclRecord) (at n : ℕ) (s acc : Row) (seen : DeclSurvey) : Type 0 where
  pub short : Short (record { exprs = es; stmts = ss; decls = ds })
  pub held : At (record { exprs = es; stmts = ss; decls = ds }) (decl_at at) s
  pub long : n ≤ row_length s
  pub seen_as : seen ≡ decl_survey acc

-- whether there is a case among so many, as a flag says
abbrev pub HasCase : Bool → ℕ → Type 0
HasCase true n = n ≡ 0 → ⊥
HasCase false n = n ≡ 0

-- the stacks of statements and declarators are rows with as many records as a statement takes
pub record Stacked (es : List ExprRecord) (ss : List StmtRecord) (ds : List DeclRecord) (d : Draft) (n : Parts) (s r : Row) : Type 0 where
  pub short : Short (record { exprs = es; stmts = ss; decls = ds })
  pub stmts : At (record { exprs = es; stmts = ss; decls = ds }) (stmt_at d.stmts.top) s
  pub stmts_long : n.stmts ≤ row_length s
  pub decls : At (record { exprs = es; stmts = ss; decls = ds }) (decl_at d.decls.top) r
  pub decls_long : n.decls ≤ row_length r
