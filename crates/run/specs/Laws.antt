-- What is true of running.
use Rattle.std.specs.Prelude.{◌≡◌, true, List, [], ◌∷◌, ◌++◌, ℕ, zero, suc, ◌+◌, ◌≤◌, length, take}
use Rattle.std.proofs.Math.Option.{Option, none, some}
use Rattle.script.specs.Tree.{Expr, OptionalExpr, Stmt, Stmts, block}
use Rattle.script.specs.Sound.{SoundStmts}
use Rattle.run.specs.Values.{Value, undefined, boolean, is_strictly_equal}
use Rattle.run.specs.Environment.{mutable, immutable, Binding, unbound, uninitialised, initialised, Environment, lookup}
use Rattle.run.specs.World.{Event, Answer, World}
use Rattle.run.specs.Completion.{State, with_turns, cut, Completion, normal, abrupt}
use Rattle.run.specs.Evaluate.{event_at, call_world, evaluate, evaluate_optional}
use Rattle.run.specs.Names.{lexically_declared_list}
use Rattle.run.specs.Execute.{Step, discard_value, enter_record, leave_record, repeat, execute, execute_list}
use Rattle.run.specs.Run.{run}
use Rattle.run.specs.EveryList.{run_entering}
use Rattle.run.specs.Fits.{FitsEvents, FitsWorld, FitsAbrupt, FitsStmts}
use Rattle.run.specs.Examples.{examples, AllHold}

abbrev pub state_after : {A : Type 0} → Completion A → State
state_after (normal a s) = s
state_after (abrupt j s) = s

-- events only grow: with the last one first, those before are the end of those after
abbrev pub EndsWith : List Event → List Event → Type 0
EndsWith after before = (newer : List Event) × (after ≡ newer ++ before)

pub record EventsOnlyGrow : Type 0 where
  pub in_expressions : (e : Expr) (s : State) → EndsWith (state_after (evaluate e s)).events s.events
  pub in_statements : (x : Stmt) (s : State) → EndsWith (state_after (execute x s)).events s.events
  pub in_lists : (xs : Stmts) (s : State) → EndsWith (state_after (execute_list xs s)).events s.events

-- a run spends turns that it was given, and no others
pub record TurnsNeverGrow : Type 0 where
  pub in_expressions : (e : Expr) (s : State) → (state_after (evaluate e s)).turns ≤ s.turns
  pub in_statements : (x : Stmt) (s : State) → (state_after (execute x s)).turns ≤ s.turns
  pub in_lists : (xs : Stmts) (s : State) → (state_after (execute_list xs s)).turns ≤ s.turns

-- a run is cut only where no turn is left
abbrev pub CutWhenSpent : {A : Type 0} → Completion A → Type 0
CutWhenSpent (normal a s) = Unit {0}
CutWhenSpent (abrupt j s) = j ≡ cut → s.turns ≡ 0

abbrev pub CutOnlyWhenSpent : Type 0
CutOnlyWhenSpent = (x : Stmt) (s : State) → CutWhenSpent (execute x s)

-- a loop, from a start of its body on, with any bound for its recursion
abbrev pub loop_within : ℕ → OptionalExpr → OptionalExpr → Stmt → Step
loop_within bound test update body s =
    repeat bound (λ s₁. evaluate_optional (boolean true) test s₁) (λ s₁. execute body s₁)
    (λ s₁. discard_value (evaluate_optional undefined update s₁)) s

-- the bound of a loop is the turns and nothing else: any larger one gives the same
abbrev pub LoopBoundIsTheTurns : Type 0
LoopBoundIsTheTurns = (test update : OptionalExpr) (body : Stmt) (bound : ℕ) (s : State) → s.turns ≤ bound →
    loop_within bound test update body s ≡ loop_within s.turns test update body s

-- the binding of a name in the record at a depth, the innermost at 0
abbrev pub binding_at : ℕ → Environment → ℕ → Binding
binding_at depth [] n = unbound
binding_at zero (r ∷ outer) n = r n
binding_at (suc depth) (r ∷ outer) n = binding_at depth outer n

-- what settings do to one binding: it changes only where it is in sight, initialised, not const, and named by a setting
pub record Setting (settings : ℕ → Option Value) (before after : Environment) (depth n : ℕ) : Type 0 where
  -- a binding further in hides it
  pub out_of_sight : ¬ (lookup (take depth before) n ≡ unbound) → binding_at depth after n ≡ binding_at depth before n
  pub none_there : binding_at depth before n ≡ unbound → binding_at depth after n ≡ unbound
  pub not_initialised : binding_at depth before n ≡ uninitialised → binding_at depth after n ≡ uninitialised
  pub const_kept : (v : Value) → binding_at depth before n ≡ initialised immutable v → binding_at depth after n ≡ initialised immutable v
  pub not_named : settings n ≡ none → binding_at depth after n ≡ binding_at depth before n
  pub is_set : (v u : Value) → lookup (take depth before) n ≡ unbound → binding_at depth before n ≡ initialised mutable v → settings n ≡ some u →
      binding_at depth after n ≡ initialised mutable u

-- the answer of the world to a call in this state
abbrev pub answer_to : ℕ → List Value → State → Answer
answer_to number arguments s = s.world (event_at number arguments s ∷ s.events)

-- after a call each binding of each record is as the answer's settings make it, and the records are as many as before
pub record SettingsStayInSight : Type 0 where
  pub bindings : (number : ℕ) (arguments : List Value) (s : State) (depth n : ℕ) →
      Setting (answer_to number arguments s).settings s.environment (state_after (call_world number arguments s)).environment depth n
  pub records : (number : ℕ) (arguments : List Value) (s : State) →
      length (state_after (call_world number arguments s)).environment ≡ length s.environment

-- two values are strictly equal when they are the same, and only then
pub record StrictEqualityIsEquality : Type 0 where
  pub equal : (u v : Value) → is_strictly_equal u v ≡ true → u ≡ v
  pub same : (v : Value) → is_strictly_equal v v ≡ true

-- a body of 32-bit numbers and one-byte names, in a world that answers with 32-bit values, meets 32-bit values only,
-- and has no other name in sight
pub record ValuesFit : Type 0 where
  pub events : (world : World) (turns : ℕ) (body : Stmts) → FitsWorld world → FitsStmts body → FitsEvents (run world turns body).events
  pub completion : (world : World) (turns : ℕ) (body : Stmts) → FitsWorld world → FitsStmts body → FitsAbrupt (run world turns body).completion

-- with more turns, what was not cut is the same, and has as many more left
abbrev pub with_more_turns : ℕ → State → State
with_more_turns more s = with_turns (s.turns + more) s

abbrev pub in_changed_state : {A : Type 0} → (State → State) → Completion A → Completion A
in_changed_state change (normal a s) = normal a (change s)
in_changed_state change (abrupt j s) = abrupt j (change s)

abbrev pub NotCut : {A : Type 0} → Completion A → Type 0
NotCut (normal a s) = Unit {0}
NotCut (abrupt j s) = ¬ (j ≡ cut)

pub record MoreTurnsChangeNothing : Type 0 where
  pub in_statements : (x : Stmt) (s : State) (more : ℕ) → NotCut (execute x s) →
      execute x (with_more_turns more s) ≡ in_changed_state (with_more_turns more) (execute x s)
  pub in_runs : (world : World) (turns more : ℕ) (body : Stmts) → ¬ ((run world turns body).completion ≡ cut) →
      run world (turns + more) body ≡ run world turns body

-- a list that declares no let or const does the same in a record of its own as in none
abbrev pub EmptyRecordChangesNothing : Type 0
EmptyRecordChangesNothing = (xs : Stmts) → SoundStmts xs → lexically_declared_list xs ≡ [] → (s : State) →
    leave_record (execute_list xs (enter_record [] s)) ≡ execute (block xs) s

-- so a run that enters a record for every list, cases and loop head is the same run
abbrev pub RecordsForAllLists : Type 0
RecordsForAllLists = (body : Stmts) → SoundStmts body → (world : World) (turns : ℕ) → run_entering world turns body ≡ run world turns body

-- every worked example does what it tells
abbrev pub ExamplesHold : Type 0
ExamplesHold = AllHold examples
