-- The plain reading of a body's bytes is that body, since they are taken and taken bytes spell what is made of them.
use mathlib.Core.Path.{refl, sym, subst}
use Rattle.script.specs.Stacks.{no_items}
use Rattle.script.specs.Judge.{complete, Model, fresh}
use Rattle.script.specs.Reading.{nothing_read, plain_reading}
use Rattle.script.specs.Sound.{plus, none_used, records_stmts}
use Rattle.script.specs.Written.{body_bytes}
use Rattle.script.specs.Laws.{Agrees, AfterFeeding, AcceptedBytesSpell, WrittenIsTaken, WrittenSpells}

pub written_spells : AcceptedBytesSpell → WrittenIsTaken → WrittenSpells
written_spells spells takes body ok = λ i. record { begun = same.stage.0 i; stacks = sym same.stacks i; body = same.stage.1 i }
  where
    start : Model
    start = fresh (plus (records_stmts body) none_used)

    made : Model
    made = record { stage = complete body; stacks = no_items; spares = none_used }

    same : Agrees made (plain_reading (body_bytes body))
    same = subst (λ fed. AfterFeeding fed (body_bytes body) nothing_read) (takes body none_used ok)
        (spells start nothing_read (body_bytes body) (record { stage = (refl, refl); stacks = refl }))
