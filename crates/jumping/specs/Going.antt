-- The mergers as loops: the jump in hand takes in the newest result, or the loop ends.
use Rattle.std.specs.Prelude.{◌≡◌, ℕ, ◌<◌, Bool, cond, List, ◌∷◌}
use Rattle.std.specs.declared.ops.ControlFlow.{ControlFlow}
use Rattle.std.specs.declared.ops.ControlFlow.TheVariants.{Break, Continue}
use Rattle.script.specs.Sound.{records_stmts}
use Rattle.script.specs.Tree.{Expr, OptionalExpr, Stmt, Stmts, present, return_of, stmt_then, throw}
use Rattle.records.specs.declared.record.Pools.{Pools}
use Rattle.records.specs.Embedding.{optional_row, stmts_row}
use Rattle.records.specs.Heap.{Heap, Place, expr_at, stmt_at}
use Rattle.records.specs.Owned.{Owns, Root}
use Rattle.records.specs.Rows.{end}
use Rattle.rules.specs.Holder.{Holder}
use Rattle.rules.specs.Returns.{return_loop}
use Rattle.rules.specs.Throws.{throw_loop}
use Rattle.moves.specs.Moved.{Moved}
use Rattle.joining.specs.Needs.{EnoughFor}
use Rattle.merging.specs.declared.worked.Worked.{Worked}
use Rattle.predicates.specs.Held.{holder_of}
use Rattle.jumping.specs.declared.jump.Jump.{Jump}
use Rattle.jumping.specs.declared.jump.Jump.TheVariants.{Return, Throw}

-- the rule on a jump by its argument: what there is of it, the statement, and the rule's loop over the results before it
pub record Rule (A : Type 0) : Type 0 where
  pub argument : A → OptionalExpr
  pub stmt : A → Stmt
  pub loop : Stmts → A → Stmts

abbrev pub throws : Rule Expr
throws = record { argument = λ e. present e; stmt = λ e. throw e; loop = λ r e. throw_loop r e }

abbrev pub returns : Holder → Rule OptionalExpr
returns holder = record { argument = λ v. v; stmt = λ v. return_of v; loop = λ r v. return_loop holder r v }

-- only a return's argument may be missing
abbrev pub Argument : Jump → Type 0
Argument Throw = Expr
Argument (Return holder) = OptionalExpr

abbrev pub rule : (jump : Jump) → Rule (Argument jump)
rule Throw = throws
rule (Return holder) = returns (holder_of holder)

-- sequences on or off
abbrev pub merged : {A : Type 0} → Rule A → Bool → A → Stmts → Stmts
merged j q a r = cond q (j.loop r a) (stmt_then (j.stmt a) r)

-- the argument and the results before it
abbrev pub in_hand : {A : Type 0} → Rule A → ℕ → ℕ → A → Stmts → List Root → List Root
in_hand j value results a r rest = (expr_at value, optional_row (j.argument a) end) ∷ (stmt_at results, stmts_row r) ∷ rest

-- what there is now: an argument and results
pub record Now {A : Type 0} (j : Rule A) (h h' : Heap) (p' : Pools) (loose : List Place) (rest : List Root) (w : Worked) : Type 0 where
  pub argument : A
  pub results : Stmts
  pub moved : Moved h h' p' loose (in_hand j w.target w.results argument results rest)

-- the loop ends with the jump in front of the results
pub record Ends {A : Type 0} (j : Rule A) (h h' : Heap) (p' : Pools) (loose : List Place) (rest : List Root) (w : Worked) (whole : Stmts) : Type 0 where
  pub here : Now j h h' p' loose rest w
  pub same : whole ≡ stmt_then (j.stmt here.argument) here.results

-- the loop goes on to the same, with fewer than n statements before the jump, and there is enough for it
pub record GoesOn {A : Type 0} (j : Rule A) (h h' : Heap) (p' : Pools) (loose : List Place) (rest : List Root) (w : Worked) (whole : Stmts)
    (n : ℕ) : Type 0 where
  pub here : Now j h h' p' loose rest w
  pub same : whole ≡ j.loop here.results here.argument
  pub fewer : (records_stmts here.results).stmts < n
  pub enough : EnoughFor (j.stmt here.argument) here.results p'

abbrev pub AfterTurn : {A : Type 0} → Rule A → Heap → Heap → Pools → List Place → List Root → ControlFlow Worked Worked → Stmts → ℕ → Type 0
AfterTurn j h h' p' loose rest (Break w) whole n = Ends j h h' p' loose rest w whole
AfterTurn j h h' p' loose rest (Continue w) whole n = GoesOn j h h' p' loose rest w whole n

-- one turn of the loop, for whoever owns an argument and results
abbrev pub TakesTurn : {A : Type 0} → Rule A → Heap → Pools → Heap → Pools → ℕ → ℕ → ControlFlow Worked Worked → Type 0
TakesTurn {A} j h p h' p' value results t =
    (a : A) (r : Stmts) → EnoughFor (j.stmt a) r p → (loose : List Place) (rest : List Root) → Owns h p loose (in_hand j value results a r rest)
    → AfterTurn j h h' p' loose rest t (j.loop r a) (records_stmts r).stmts
