-- A run that is not cut is the same with more turns.
use mathlib.Core.Path.{◌≡◌, refl, ap, ◌∙◌}
use mathlib.Core.Logic.{inl}
use Prim.Native.Nat.{ℕ, suc, ◌+◌}
use native.Mathlib.Omega.{arith}
use Rattle.script.specs.Tree.{Stmt, block}
use Rattle.run.specs.Values.{Value}
use Rattle.run.specs.World.{Reply, gives, throws}
use Rattle.run.specs.Completion.{State, cut, Completion, normal, abrupt}
use Rattle.run.specs.Evaluate.{reply_completion}
use Rattle.run.specs.Execute.{spend_turn, execute}
use Rattle.run.specs.Run.{at_start, ended}
use Rattle.run.specs.Laws.{in_changed_state, with_more_turns, NotCut, MoreTurnsChangeNothing}
use Rattle.run.proofs.Following.{Follows, normally, abruptly, was_cut, Carried, execute_follows}

reply_follows : (more : ℕ) (r : Reply) (s : State)
    → Follows (Unit {0}) (with_more_turns more) Value (reply_completion r s) (reply_completion r (with_more_turns more s))
reply_follows more (gives v) s = normally v s
reply_follows more (throws v) s = abruptly _ s

more_carried : (more : ℕ) → Carried (Unit {0}) (λ k. with_more_turns more)
more_carried more = record {
  looks = λ k s n. refl;
  sets = λ k n b s. refl;
  calls = λ k n vs s. reply_follows more _ _;
  initialises = λ k n b s. refl;
  enters = λ k names s. refl;
  leaves = λ k s. refl;
  covers = λ k s. omega arith;
  spends = λ k left s e step.
      let one_more : s.turns + more ≡ suc (left + more) = omega arith in
      ap (λ n. spend_turn n step (with_more_turns more s)) one_more;
  cuts = λ k s e. inl tt;
}

uncut : {A : Type 0} (more : ℕ) {r r' : Completion A} → Follows (Unit {0}) (with_more_turns more) A r r' → NotCut r
    → r' ≡ in_changed_state (with_more_turns more) r
uncut more (normally a s) h = refl
uncut more (abruptly j s) h = refl
uncut more (was_cut x s r) h = absurd (h refl)

in_statements : (x : Stmt) (s : State) (more : ℕ) → NotCut (execute x s)
    → execute x (with_more_turns more s) ≡ in_changed_state (with_more_turns more) (execute x s)
in_statements x s more h = uncut more (execute_follows (Unit {0}) _ (more_carried more) x 1 tt s) h

not_cut : (r : Completion (Unit {0})) → ¬ ((ended r).completion ≡ cut) → NotCut r
not_cut (normal a s) h = tt
not_cut (abrupt j s) h = h

ended_same : (more : ℕ) (r : Completion (Unit {0})) → ended (in_changed_state (with_more_turns more) r) ≡ ended r
ended_same more (normal a s) = refl
ended_same more (abrupt j s) = refl

pub more_turns_change_nothing : MoreTurnsChangeNothing
more_turns_change_nothing = record {
  in_statements = in_statements;
  in_runs = λ world turns more body h.
      let r : Completion (Unit {0}) = execute (block body) (at_start world turns body) in
      ap ended (in_statements (block body) (at_start world turns body) more (not_cut r h)) ∙ ended_same more r;
}
