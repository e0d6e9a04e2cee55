-- Marks on records: what marking a row, a chain of spares or whole tables finds, exactly.
use Rattle.std.specs.Prelude.{◌≡◌, ℕ, ◌+◌, ◌-◌, ◌<◌, ◌≤◌, Bool, true, false, cond, ◌&&◌, List, [], ◌∷◌, length, Some, None, Option, ◌==◌, ◌≢◌, nat_lt, slice_index, slice_index_or, slice_set}
use Rattle.pool.specs.Chain.{nowhere, Chain, places, occurrences}
use Rattle.script.specs.declared.DeclarationKind.{DeclarationKind}
use Rattle.script.specs.Tree.{Stmts}
use Rattle.script.specs.Judge.{Model}
use Rattle.records.specs.declared.record.ExprRecord.{ExprRecord}
use Rattle.records.specs.declared.record.StmtRecord.{StmtRecord}
use Rattle.records.specs.declared.record.DeclRecord.{DeclRecord}
use Rattle.records.specs.declared.record.Pools.{Pools}
use Rattle.records.specs.declared.record.Stage.{Stage}
use Rattle.records.specs.declared.record.Stage.TheVariants.{Reading, Complete}
use Rattle.records.specs.declared.record.Draft.{Draft}
use Rattle.records.specs.declared.record.Whole.{Whole}
use Rattle.shapes.specs.declared.rule.StmtSurvey.{StmtSurvey}
use Rattle.shapes.specs.declared.rule.DeclSurvey.{DeclSurvey}
use Rattle.lending.specs.declared.check.Parts.{Parts}
use Rattle.lending.specs.declared.check.Roots.{Roots}
use Rattle.records.specs.Heap.{Heap, Place, expr_at, stmt_at, decl_at, expr_label, stmt_label, decl_label, blank_stmt, Within, spare}
use Rattle.records.specs.Rows.{Row, end, node, At, uses, row_length}
use Rattle.records.specs.Owned.{Short, Chains, Owns}
use Rattle.records.specs.Flags.{one_if}
use Rattle.shapes.specs.Shape.{surveyed, survey, decl_survey, kind_declared, fits_stmt, ShapedExprs, ShapedStmts, ShapedDecls}
use Rattle.records.specs.Readable.{tables}
use Rattle.records.specs.Holds.{Holds, HoldsWhole}

-- the mark of a place, by the marks of each table
abbrev pub marks_of : List ℕ → List ℕ → List ℕ → Place → ℕ
marks_of me ms md (expr_at i) = slice_index me i
marks_of me ms md (stmt_at i) = slice_index ms i
marks_of me ms md (decl_at i) = slice_index md i

-- a mark for each record
pub record Sized (h : Heap) (me ms md : List ℕ) : Type 0 where
  pub exprs : length me ≡ length h.exprs
  pub stmts : length ms ≡ length h.stmts
  pub decls : length md ≡ length h.decls

-- how many places are not marked
abbrev pub unmarked : List ℕ → ℕ
unmarked [] = 0
unmarked (x ∷ xs) = (1 - x) + unmarked xs

-- the row is there, and with the marks each record is met once at most
pub record Fits (m : Place → ℕ) (h : Heap) (k : Place) (x : Row) : Type 0 where
  pub held : At h k x
  pub once : (q : Place) → m q + uses q h k x ≤ 1

-- the row is there, and its records are those that were marked
pub record Found (m : Place → ℕ) (h : Heap) (k : Place) (m' : Place → ℕ) (x : Row) : Type 0 where
  pub held : At h k x
  pub met : (q : Place) → m' q ≡ m q + uses q h k x

-- whether a place is marked now: it lies within and was not marked
abbrev pub Claims : Bool → List ℕ → ℕ → ℕ → List ℕ → Type 0
Claims true marks at n after = (at < n) × (slice_index marks at ≡ 0) × (after ≡ slice_set marks at 1)
Claims false marks at n after = (after ≡ marks) × (at < n → slice_index marks at ≢ 0)

-- counts of a row that go on from counts of what stood before it
abbrev pub length_from : ℕ → Row → ℕ
length_from n end = n
length_from n (node l x y z w) = length_from (n + 1) w

abbrev pub with_declarator : ℕ → DeclSurvey → DeclSurvey
with_declarator n s = record { count = s.count + 1; bare = s.bare + one_if (n == 0) }

abbrev pub declarators_from : DeclSurvey → Row → DeclSurvey
declarators_from s end = s
declarators_from s (node l x y z w) = declarators_from (with_declarator (row_length x) s) w

abbrev pub survey_from : StmtSurvey → Row → StmtSurvey
survey_from s end = s
survey_from s (node (expr_label k) x y z w) = survey_from s w
survey_from s (node (stmt_label k) x y z w) = survey_from (surveyed k (row_length x) s) w
survey_from s (node (decl_label n) x y z w) = survey_from s w

abbrev pub no_declarators : DeclSurvey
no_declarators = record { count = 0; bare = 0 }

-- what marking a row of expressions answers: it is there, shaped, and so long; or no such row fits
abbrev pub ExprsMarked : Option ℕ → (Place → ℕ) → Heap → ℕ → ℕ → (Place → ℕ) → Type 0
ExprsMarked (Some n) m h at count m' = (x : Row) × Found m h (expr_at at) m' x × ShapedExprs x × (n ≡ length_from count x)
ExprsMarked None m h at count m' = (x : Row) → Fits m h (expr_at at) x → ShapedExprs x → ⊥

abbrev pub DeclsMarked : Option DeclSurvey → (Place → ℕ) → Heap → ℕ → DeclSurvey → (Place → ℕ) → Type 0
DeclsMarked (Some n) m h at s m' = (x : Row) × Found m h (decl_at at) m' x × ShapedDecls x × (n ≡ declarators_from s x)
DeclsMarked None m h at s m' = (x : Row) → Fits m h (decl_at at) x → ShapedDecls x → ⊥

abbrev pub StmtsMarked : Option StmtSurvey → (Place → ℕ) → Heap → ℕ → StmtSurvey → (Place → ℕ) → Type 0
StmtsMarked (Some n) m h at s m' = (x : Row) × Found m h (stmt_at at) m' x × ShapedStmts x × (n ≡ survey_from s x)
StmtsMarked None m h at s m' = (x : Row) → Fits m h (stmt_at at) x → ShapedStmts x → ⊥

-- a row of expressions, then one of declarators
pub record PartsFound (m : Place → ℕ) (h : Heap) (es ds : ℕ) (m' : Place → ℕ) (n : Parts) : Type 0 where
  pub exprs : Row
  pub decls : Row
  pub between : Place → ℕ
  pub exprs_found : Found m h (expr_at es) between exprs
  pub decls_found : Found between h (decl_at ds) m' decls
  pub exprs_shaped : ShapedExprs exprs
  pub decls_shaped : ShapedDecls decls
  pub exprs_count : n.exprs ≡ length_from 0 exprs
  pub decls_count : n.decls ≡ declarators_from no_declarators decls

pub record PartsFit (m : Place → ℕ) (h : Heap) (es ds : ℕ) (x z : Row) : Type 0 where
  pub exprs : At h (expr_at es) x
  pub decls : At h (decl_at ds) z
  pub once : (q : Place) → m q + (uses q h (expr_at es) x + uses q h (decl_at ds) z) ≤ 1
  pub exprs_shaped : ShapedExprs x
  pub decls_shaped : ShapedDecls z

abbrev pub PartsMarked : Option Parts → (Place → ℕ) → Heap → ℕ → ℕ → (Place → ℕ) → Type 0
PartsMarked (Some n) m h es ds m' = PartsFound m h es ds m' n
PartsMarked None m h es ds m' = (x z : Row) → PartsFit m h es ds x z → ⊥

-- how the statement at a place is declared, if it stands within
abbrev pub declared_at : List StmtRecord → ℕ → Option DeclarationKind
declared_at ss at = cond (nat_lt at (length ss)) (kind_declared (slice_index_or ss at blank_stmt).kind) None

-- one statement more, if it fits
abbrev pub weighed : List StmtRecord → StmtRecord → Parts → StmtSurvey → StmtSurvey → Option StmtSurvey
weighed ss r n inner s =
    cond (fits_stmt r.kind n.exprs inner n.decls (declared_at ss r.stmts)) (Some (surveyed r.kind n.exprs s)) None

-- the counts that a sheet tells are those found, and its body has no case
abbrev pub told : Roots → Parts → StmtSurvey → StmtSurvey → Bool
told r n items body =
    (n.exprs == r.exprs.count) && (n.decls.count == r.decls.count && (items.count == r.stmts.count && body.cases == 0))

-- four rows: three stacks and a body, each shaped and as long as told
pub record ShapedRoots (r : Roots) (x y z b : Row) : Type 0 where
  pub exprs : ShapedExprs x
  pub stmts : ShapedStmts y
  pub decls : ShapedDecls z
  pub body : ShapedStmts b
  pub exprs_count : row_length x ≡ r.exprs.count
  pub stmts_count : (survey y).count ≡ r.stmts.count
  pub decls_count : (decl_survey z).count ≡ r.decls.count
  pub no_case : (survey b).cases ≡ 0

pub record FourFit (m : Place → ℕ) (h : Heap) (kx ky kz kw : Place) (x y z w : Row) : Type 0 where
  pub exprs : At h kx x
  pub stmts : At h ky y
  pub decls : At h kz z
  pub next : At h kw w
  pub once : (q : Place) → m q + (uses q h kx x + (uses q h ky y + (uses q h kz z + uses q h kw w))) ≤ 1

pub record FourFound (m : Place → ℕ) (h : Heap) (kx ky kz kw : Place) (m' : Place → ℕ) (x y z w : Row) : Type 0 where
  pub exprs : At h kx x
  pub stmts : At h ky y
  pub decls : At h kz z
  pub next : At h kw w
  pub met : (q : Place) → m' q ≡ m q + (uses q h kx x + (uses q h ky y + (uses q h kz z + uses q h kw w)))

abbrev pub RootsMarked : Bool → (Place → ℕ) → Heap → Roots → (Place → ℕ) → Type 0
RootsMarked true m h r m' =
    (x y z b : Row) × ShapedRoots r x y z b × FourFound m h (expr_at r.exprs.top) (stmt_at r.stmts.top) (decl_at r.decls.top) (stmt_at r.body) m' x y z b
RootsMarked false m h r m' =
    (x y z b : Row) → ShapedRoots r x y z b → FourFit m h (expr_at r.exprs.top) (stmt_at r.stmts.top) (decl_at r.decls.top) (stmt_at r.body) x y z b → ⊥

-- a chain of spares, each met once at most with the marks
pub record ChainFits (marks links : List ℕ) (at n : ℕ) : Type 0 where
  pub chain : Chain links at n
  pub once : (k : ℕ) → slice_index marks k + occurrences k (places links at n) ≤ 1

pub record ChainFound (marks links : List ℕ) (at n : ℕ) (after : List ℕ) : Type 0 where
  pub chain : Chain links at n
  pub met : (k : ℕ) → slice_index after k ≡ slice_index marks k + occurrences k (places links at n)

abbrev pub ChainMarked : Bool → List ℕ → List ℕ → ℕ → ℕ → List ℕ → Type 0
ChainMarked true marks links at n after = ChainFound marks links at n after
ChainMarked false marks links at n after = ChainFits marks links at n → ⊥

-- whether the first n places are all marked
abbrev pub AllMarked : Bool → List ℕ → ℕ → Type 0
AllMarked true marks n = (k : ℕ) → k < n → slice_index marks k ≡ 1
AllMarked false marks n = ((k : ℕ) → k < n → slice_index marks k ≡ 1) → ⊥

-- whether every record is marked
abbrev pub Reached : Bool → Heap → (Place → ℕ) → Type 0
Reached true h m = (q : Place) → Within h q → m q ≡ 1
Reached false h m = ((q : Place) → Within h q → m q ≡ 1) → ⊥

abbrev pub Blank : List ℕ → Type 0
Blank marks = (k : ℕ) → slice_index marks k ≡ 0

-- the tables hold the rows of these roots and these spares, each record once
pub record RowsHeld (h : Heap) (p : Pools) (r : Roots) : Type 0 where
  pub exprs : Row
  pub stmts : Row
  pub decls : Row
  pub body : Row
  pub shaped : ShapedRoots r exprs stmts decls body
  pub owned : Owns h p [] ((expr_at r.exprs.top, exprs) ∷ (stmt_at r.stmts.top, stmts) ∷ (decl_at r.decls.top, decls) ∷ (stmt_at r.body, body) ∷ [])

abbrev pub Decides : Bool → Type 0 → Type 0
Decides true A = A
Decides false A = A → ⊥

-- what is looked for in a draft: its stacks, and its body if it is complete
abbrev pub body_place : Stage → ℕ
body_place (Reading a) = nowhere
body_place (Complete at) = at

abbrev pub draft_roots : Draft → Roots
draft_roots d = record { exprs = d.exprs; stmts = d.stmts; decls = d.decls; body = body_place d.stage }

abbrev pub whole_roots : Whole → Roots
whole_roots w = record {
  exprs = record { top = nowhere; count = 0 };
  stmts = record { top = nowhere; count = 0 };
  decls = record { top = nowhere; count = 0 };
  body = w.body;
}

-- whether nothing is on the stacks where the body is complete
abbrev pub CountedAlone : Stage → Draft → Type 0
CountedAlone (Reading a) d = Unit {0}
CountedAlone (Complete at) d = (d.exprs.count ≡ 0) × (d.stmts.count ≡ 0) × (d.decls.count ≡ 0)

abbrev pub ToldAlone : Bool → Draft → Type 0
ToldAlone true d = CountedAlone d.stage d
ToldAlone false d = CountedAlone d.stage d → ⊥

-- whether tables hold a draft, exactly
abbrev pub DecidesDraft : Bool → Heap → Draft → Type 0
DecidesDraft true h d = (m : Model) × Holds h d m
DecidesDraft false h d = (m : Model) → Holds h d m → ⊥

-- whether tables hold a whole sheet, exactly
abbrev pub DecidesWhole : Bool → Heap → Whole → Type 0
DecidesWhole true h w = (body : Stmts) × HoldsWhole h w body
DecidesWhole false h w = (body : Stmts) → HoldsWhole h w body → ⊥

-- the same over whatever stands in the tables that a function does not see
abbrev pub MarksExprs : Option ℕ → List ExprRecord → List ℕ → ℕ → List ℕ → Type 0
MarksExprs r es me at me' =
    (ss : List StmtRecord) (ds : List DeclRecord) (ms md : List ℕ) → Short (tables es ss ds) → ExprsMarked r (marks_of me ms md) (tables es ss ds) at 0 (marks_of me' ms md)

abbrev pub MarksDecls : Option DeclSurvey → List ExprRecord → List DeclRecord → List ℕ → List ℕ → ℕ → List ℕ → List ℕ → Type 0
MarksDecls r es ds me md at me' md' =
    (ss : List StmtRecord) (ms : List ℕ) → Short (tables es ss ds) → DeclsMarked r (marks_of me ms md) (tables es ss ds) at no_declarators (marks_of me' ms md')

abbrev pub MarksParts : Option Parts → List ExprRecord → List DeclRecord → List ℕ → List ℕ → ℕ → ℕ → List ℕ → List ℕ → Type 0
MarksParts r es ds me md at_exprs at_decls me' md' =
    (ss : List StmtRecord) (ms : List ℕ) → Short (tables es ss ds) → PartsMarked r (marks_of me ms md) (tables es ss ds) at_exprs at_decls (marks_of me' ms md')

-- the spares of each table
pub record SparesFit (m : Place → ℕ) (h : Heap) (p : Pools) : Type 0 where
  pub chains : Chains h p
  pub once : (q : Place) → m q + spare q h p ≤ 1

pub record SparesFound (m : Place → ℕ) (h : Heap) (p : Pools) (m' : Place → ℕ) : Type 0 where
  pub chains : Chains h p
  pub met : (q : Place) → m' q ≡ m q + spare q h p

abbrev pub SparesMarked : Bool → (Place → ℕ) → Heap → Pools → (Place → ℕ) → Type 0
SparesMarked true m h p m' = SparesFound m h p m'
SparesMarked false m h p m' = SparesFit m h p → ⊥
