-- Turns never grow.
use Prim.Native.Nat.{◌≤◌}
use native.Mathlib.Omega.{arith}
use Rattle.run.specs.Completion.{State, Completion, normal, abrupt}
use Rattle.run.specs.Evaluate.{evaluate}
use Rattle.run.specs.Execute.{execute, execute_list}
use Rattle.run.specs.Laws.{state_after, TurnsNeverGrow}
use Rattle.run.proofs.Reaching.{Kept, Reaches, evaluate_reaches, execute_reaches, list_reaches}

-- no more turns are left than before
pub record Fewer (before after : State) : Type 0 where
  pub left : after.turns ≤ before.turns

pub fewer_kept : Kept Fewer
fewer_kept = record {
  stays = λ s. record { left = omega arith };
  joins = λ s t u h k. record { left = omega arith };
  binds = λ e s. record { left = omega arith };
  calls = λ event e s. record { left = omega arith };
  spends = λ left s e. record { left = omega arith };
}

at_end : {A : Type 0} (s : State) (r : Completion A) → Reaches Fewer s r → (state_after r).turns ≤ s.turns
at_end s (normal a t) h = h.left
at_end s (abrupt j t) h = h.left

pub turns_never_grow : TurnsNeverGrow
turns_never_grow = record {
  in_expressions = λ e s. at_end s (evaluate e s) (evaluate_reaches Fewer fewer_kept e s);
  in_statements = λ x s. at_end s (execute x s) (execute_reaches Fewer fewer_kept x s);
  in_lists = λ xs s. at_end s (execute_list xs s) (list_reaches Fewer fewer_kept xs s);
}
