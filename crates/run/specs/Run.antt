-- What a whole body does.
use Rattle.std.specs.Prelude.{List, [], ◌∷◌, reverse, ℕ}
use Rattle.script.specs.Tree.{Stmts, block}
use Rattle.run.specs.Values.{undefined}
use Rattle.run.specs.Environment.{mutable, initialised, new_record}
use Rattle.run.specs.World.{Event, World}
use Rattle.run.specs.Completion.{State, Abrupt, returned, Completion, normal, abrupt}
use Rattle.run.specs.Names.{var_declared_list}
use Rattle.run.specs.Execute.{execute}

-- the events, the oldest first, and the completion: returned, thrown, cut, or a stray break or continue
pub record Run : Type 0 where
  pub events : List Event
  pub completion : Abrupt

-- running off the end returns undefined
abbrev pub ended : Completion (Unit {0}) → Run
ended (normal a s) = record { events = reverse s.events; completion = returned undefined }
ended (abrupt j s) = record { events = reverse s.events; completion = j }

-- "FunctionDeclarationInstantiation": the var names lie in a record outside all lists, undefined at first
abbrev pub at_start : World → ℕ → Stmts → State
at_start world turns body =
    record { world = world; events = []; environment = new_record (initialised mutable undefined) (var_declared_list body) ∷ []; turns = turns }

-- the body in this world, with so many turns
abbrev pub run : World → ℕ → Stmts → Run
run world turns body = ended (execute (block body) (at_start world turns body))
