-- Events only grow.
use mathlib.Core.Path.{◌≡◌, refl, sym, ap, ◌∙◌}
use mathlib.Core.List.{List, [], ◌∷◌, ◌++◌, append_assoc}
use Rattle.run.specs.World.{Event}
use Rattle.run.specs.Completion.{State, Completion, normal, abrupt}
use Rattle.run.specs.Evaluate.{evaluate}
use Rattle.run.specs.Execute.{execute, execute_list}
use Rattle.run.specs.Laws.{state_after, EndsWith, EventsOnlyGrow}
use Rattle.run.proofs.Reaching.{Kept, Reaches, evaluate_reaches, execute_reaches, list_reaches}

-- the events of the second state end with those of the first
pub record Later (before after : State) : Type 0 where
  pub newer : List Event
  pub together : after.events ≡ newer ++ before.events

later_kept : Kept Later
later_kept = record {
  stays = λ s. record { newer = []; together = refl };
  joins = λ s t u h k. record {
    newer = k.newer ++ h.newer;
    together = k.together ∙ ap (λ es. k.newer ++ es) h.together ∙ sym (append_assoc k.newer h.newer s.events);
  };
  binds = λ e s. record { newer = []; together = refl };
  calls = λ event e s. record { newer = event ∷ []; together = refl };
  spends = λ left s h. record { newer = []; together = refl };
}

at_end : {A : Type 0} (s : State) (r : Completion A) → Reaches Later s r → EndsWith (state_after r).events s.events
at_end s (normal a t) h = (h.newer, h.together)
at_end s (abrupt j t) h = (h.newer, h.together)

pub events_only_grow : EventsOnlyGrow
events_only_grow = record {
  in_expressions = λ e s. at_end s (evaluate e s) (evaluate_reaches Later later_kept e s);
  in_statements = λ x s. at_end s (execute x s) (execute_reaches Later later_kept x s);
  in_lists = λ xs s. at_end s (execute_list xs s) (list_reaches Later later_kept xs s);
}
