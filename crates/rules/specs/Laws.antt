-- What is proved of fusing.
use Rattle.std.specs.Prelude.{◌≡◌, ℕ, ◌*◌, ◌≤◌, true, false, ◌⊎◌, ◌≢◌}
use Rattle.script.specs.Judge.{Spares}
use Rattle.script.specs.Sound.{SoundStmts, plus, records_stmts}
use Rattle.script.specs.Tree.{Stmts}
use Rattle.script.specs.Written.{body_bytes}
use Rattle.run.specs.Environment.{among}
use Rattle.run.specs.Names.{lexically_declared_list, var_declared_list}
use Rattle.run.specs.Run.{run}
use Rattle.run.specs.World.{World}
use Rattle.hosts.specs.Meaning.{Lawful}
use Rattle.rules.specs.Holder.{Holder}
use Rattle.rules.specs.Folding.{Context}
use Rattle.rules.specs.Minimize.{minimize_statements, minimize_onto}
use Rattle.rules.specs.JumpCount.{jumps_list}
use Rattle.rules.specs.Fuse.{Setting, fuse_body, minimize_list, fuse_list}
use Rattle.rules.specs.Opened.{opened_by_statements, opened_in_body}
use Rattle.rules.specs.Neighbours.{Apart}
use Rattle.rules.specs.Weight.{Lighter, measures}
use Rattle.rules.specs.Altered.{altered}
use Rattle.rules.specs.Budget.{AtMost, budget_stmts, most_weight, weight_stmts}
use Rattle.rules.specs.Moves.{Succeeds, perform}
use Rattle.rules.specs.ListMoves.{moves_of_fusing}
use Rattle.rules.specs.Marked.{AllFuse, marked}
use Rattle.rules.specs.Opening.{AllOpen, marked_block}
use Rattle.rules.specs.Wrong.{AllAlterRuns, dropped_lets, wrong_readings}

-- whatever the host, the options, the world and the turns, a fused body runs as before: the same events in the same order, and the same completion
abbrev pub FusingKeepsRuns : Type 0
FusingKeepsRuns =
    (m : Setting) → Lawful m.host → (w : World) (turns : ℕ) (body : Stmts) → run w turns (fuse_body m body) ≡ run w turns body

-- whatever holds a list, its let and const names are kept in their order, and its var names as a set
abbrev pub FusingKeepsNames : Type 0
FusingKeepsNames =
    (m : Setting) → Lawful m.host → (h : Holder) (xs : Stmts)
    → (lexically_declared_list (minimize_list m h (fuse_list m xs)) ≡ lexically_declared_list xs)
    × ((n : ℕ) → among n (var_declared_list (minimize_list m h (fuse_list m xs))) ≡ among n (var_declared_list xs))

-- a body that breaks no rule of feeding is fused to one that breaks none
abbrev pub FusingKeepsTheRules : Type 0
FusingKeepsTheRules = (m : Setting) → Lawful m.host → (body : Stmts) → SoundStmts body → SoundStmts (fuse_body m body)

-- an `if` folds or splits only by spending a jump, and no rule makes one
abbrev pub DepthIsEnough : Type 0
DepthIsEnough =
    (c : Context) (n : ℕ) (xs : Stmts) → jumps_list xs ≤ n → minimize_statements n c xs ≡ minimize_statements (jumps_list xs) c xs

-- the same depth is enough for the count of opened blocks
abbrev pub OpenedDepthIsEnough : Type 0
OpenedDepthIsEnough =
    (c : Context) (n : ℕ) (xs : Stmts) → jumps_list xs ≤ n → opened_by_statements n c xs ≡ opened_by_statements (jumps_list xs) c xs

-- with sequences on, only a block that was opened can leave two expression statements side by side
abbrev pub NoNeighbours : Type 0
NoNeighbours = (m : Setting) → m.sequences ≡ true → (body : Stmts) → opened_in_body m body ≡ 0 → Apart (fuse_body m body)

-- whatever the host and the options, a body stays as it is or becomes lighter
abbrev pub FusingLightens : Type 0
FusingLightens = (m : Setting) (body : Stmts) → (fuse_body m body ≡ body) ⊎ Lighter (fuse_body m body) body

-- a body is altered just where the two measures of its fused body are other ones
abbrev pub AlteredIsLighter : Type 0
AlteredIsLighter =
    (m : Setting) (body : Stmts)
    → (altered m body ≡ true → measures (fuse_body m body) ≢ measures body)
    × ((measures (fuse_body m body) ≢ measures body) → altered m body ≡ true)

-- a body that breaks no rule of feeding is altered just where its fused body is written with other bytes
abbrev pub AlteredIsBytesDiffer : Type 0
AlteredIsBytesDiffer =
    (m : Setting) → Lawful m.host → (body : Stmts) → SoundStmts body
    → (altered m body ≡ true → body_bytes (fuse_body m body) ≢ body_bytes body)
    × (altered m body ≡ false → body_bytes (fuse_body m body) ≡ body_bytes body)

-- records and weight together never grow, table by table, by the work on a list, with any results before it, nor by fusing a body
abbrev pub FusingKeepsTheBudget : Type 0
FusingKeepsTheBudget =
    ((n : ℕ) (c : Context) (todo r : Stmts) → AtMost (budget_stmts (minimize_onto n c todo r)) (plus (budget_stmts todo) (budget_stmts r)))
    × ((n : ℕ) (c : Context) (xs : Stmts) → AtMost (budget_stmts (minimize_statements n c xs)) (budget_stmts xs))
    × ((m : Setting) (body : Stmts) → AtMost (budget_stmts (fuse_body m body)) (budget_stmts body))

-- of a body of S statements and cases, fusing makes at most 2 S expressions more, S statements more, and no more declarators
abbrev pub FusedRecordsAreBounded : Type 0
FusedRecordsAreBounded =
    (m : Setting) (body : Stmts)
    → AtMost (records_stmts (fuse_body m body)) (plus (records_stmts body) (most_weight (records_stmts body).stmts))

-- with spares of the weight of a body, fusing finds a spare record wherever a rule takes one, in the order in which the rules take and
-- give back, and loses none
abbrev pub WeightSuffices : Type 0
WeightSuffices =
    (m : Setting) (body : Stmts) (spares : Spares) → AtMost (weight_stmts body) spares
    → Succeeds (perform (moves_of_fusing m body) spares) spares (records_stmts body) (records_stmts (fuse_body m body))

-- so it does with 10 spare expressions, 4 spare statements and 1 spare declarator for each statement and case
abbrev pub RecordsSuffice : Type 0
RecordsSuffice =
    (m : Setting) (body : Stmts) (spares : Spares)
    → 10 * (records_stmts body).stmts ≤ spares.exprs → 4 * (records_stmts body).stmts ≤ spares.stmts
    → (records_stmts body).stmts ≤ spares.decls
    → Succeeds (perform (moves_of_fusing m body) spares) spares (records_stmts body) (records_stmts (fuse_body m body))

abbrev pub MarkedCasesHold : Type 0
MarkedCasesHold = AllFuse marked

-- none of the marked bodies opens a block, but for the one that is a block
abbrev pub MarkedCasesOpen : Type 0
MarkedCasesOpen = AllOpen 0 marked × AllFuse marked_block × AllOpen 1 marked_block

abbrev pub WrongReadingsAlterRuns : Type 0
WrongReadingsAlterRuns = AllAlterRuns wrong_readings

abbrev pub DroppedLetsAlterRuns : Type 0
DroppedLetsAlterRuns = AllAlterRuns dropped_lets
