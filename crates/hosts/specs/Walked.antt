-- What the walks over the table answer on their way to a fact.
use Rattle.std.specs.Prelude.{◌≡◌, ℕ, suc, ◌-◌, ◌<◌, ◌≤◌, Bool, true, false, List, length, Some, None, Option}
use Rattle.std.specs.declared.ops.ControlFlow.{ControlFlow}
use Rattle.std.specs.declared.ops.ControlFlow.TheVariants.{Break, Continue}
use Rattle.script.specs.declared.ExpressionKind.{ExpressionKind}
use Rattle.script.specs.declared.ExpressionKind.TheVariants as expression
use Rattle.script.specs.Tree.{Expr, Exprs}
use Rattle.script.specs.Sound.{records_expr, records_exprs}
use Rattle.records.specs.declared.record.ExprRecord.{ExprRecord}
use Rattle.records.specs.declared.record.StmtRecord.{StmtRecord}
use Rattle.records.specs.declared.record.DeclRecord.{DeclRecord}
use Rattle.records.specs.Heap.{expr_at}
use Rattle.records.specs.Rows.{Row, At}
use Rattle.records.specs.Owned.{Short}
use Rattle.records.specs.Readable.{tables}
use Rattle.records.specs.Embedding.{expr_row, exprs_row}
use Rattle.hosts.specs.declared.reader.Decided.{Decided}
use Rattle.hosts.specs.declared.reader.Decided.TheVariants.{Always, ByParts, Never}
use Rattle.hosts.specs.Known.{number_truth, word_truth, reader_harmless, all_harmless, last_undefined, turned, reader_truth}

-- the truth of a literal by its kind
abbrev pub kind_truth : ExpressionKind → Option Bool
kind_truth (expression.Number b) = Some (number_truth b)
kind_truth (expression.Word w) = Some (word_truth w)
kind_truth (expression.Name n) = None
kind_truth (expression.Assignment n) = None
kind_truth (expression.Call n) = None
kind_truth expression.Sequence = None
kind_truth expression.Conditional = None
kind_truth (expression.Logical o) = None
kind_truth expression.Not = None
kind_truth expression.Void = None
kind_truth expression.StrictEquality = None

-- what decides whether an expression of a kind is harmless
abbrev pub decision : ExpressionKind → Decided
decision (expression.Number b) = Always
decision (expression.Word w) = Always
decision (expression.Name n) = Never
decision (expression.Assignment n) = Never
decision (expression.Call n) = Never
decision expression.Sequence = ByParts
decision expression.Conditional = ByParts
decision (expression.Logical o) = ByParts
decision expression.Not = ByParts
decision expression.Void = ByParts
decision expression.StrictEquality = ByParts

-- a walk spends one of its budget at each record, and stops where something is not harmless
abbrev pub spent : Bool → ℕ → ℕ → Option ℕ
spent true budget used = Some (budget - used)
spent false budget used = None

abbrev pub LeftBelow : ℕ → Option ℕ → Type 0
LeftBelow n None = Unit {0}
LeftBelow n (Some left) = left < n

pub record WalksOne (exprs : List ExprRecord) (at : ℕ) (budget : ℕ) (r : Option ℕ) : Type 0 where
  pub falls : LeftBelow budget r
  pub answer : (ss : List StmtRecord) (ds : List DeclRecord) (e : Expr) (w : Row) → Short (tables exprs ss ds)
      → At (tables exprs ss ds) (expr_at at) (expr_row e w) → records_expr e ≤ budget → r ≡ spent (reader_harmless e) budget (records_expr e)

pub record WalksRow (exprs : List ExprRecord) (row : ℕ) (budget : ℕ) (r : Option ℕ) : Type 0 where
  pub falls : LeftBelow (suc budget) r
  pub answer : (ss : List StmtRecord) (ds : List DeclRecord) (es : Exprs) → Short (tables exprs ss ds)
      → At (tables exprs ss ds) (expr_at row) (exprs_row es) → records_exprs es ≤ budget → r ≡ spent (all_harmless es) budget (records_exprs es)

-- one step towards the last item: the answer, or where to go on
abbrev pub LastStepped : List ExprRecord → List StmtRecord → List DeclRecord → Exprs → ControlFlow Bool ℕ → Type 0
LastStepped exprs ss ds es (Break b) = b ≡ last_undefined es
LastStepped exprs ss ds es (Continue to) =
    (fs : Exprs) × At (tables exprs ss ds) (expr_at to) (exprs_row fs) × (records_exprs fs < records_exprs es) × (last_undefined fs ≡ last_undefined es)

abbrev pub StepsLast : List ExprRecord → ℕ → ControlFlow Bool ℕ → Type 0
StepsLast exprs at r =
    (ss : List StmtRecord) (ds : List DeclRecord) (es : Exprs) → Short (tables exprs ss ds)
    → At (tables exprs ss ds) (expr_at at) (exprs_row es) → LastStepped exprs ss ds es r

-- one step towards what stands under every not
abbrev pub TruthStepped : List ExprRecord → List StmtRecord → List DeclRecord → Expr → ControlFlow (Option Bool) ℕ → Type 0
TruthStepped exprs ss ds e (Break o) = o ≡ reader_truth e
TruthStepped exprs ss ds e (Continue to) =
    (f : Expr) × (w : Row) × At (tables exprs ss ds) (expr_at to) (expr_row f w) × (records_expr f < records_expr e)
    × (turned (reader_truth f) ≡ reader_truth e)

abbrev pub StepsTruth : List ExprRecord → ℕ → ControlFlow (Option Bool) ℕ → Type 0
StepsTruth exprs at r =
    (ss : List StmtRecord) (ds : List DeclRecord) (e : Expr) (w : Row) → Short (tables exprs ss ds)
    → At (tables exprs ss ds) (expr_at at) (expr_row e w) → records_expr e ≤ length exprs → TruthStepped exprs ss ds e r
