-- What holds a list of statements, and what a completion of the list comes to for it.
use Rattle.run.specs.Values.{undefined}
use Rattle.run.specs.Completion.{Abrupt, State, Completion, abrupt, returned, thrown, broke, continued, normal, cut}

-- the body; anything that no word below is for; the block that is a loop's body; the same of a do-while whose test is known to be false
pub data Holder : Type 0 where
  body_list other_list loop_block once_block : Holder

-- what a completion comes to, by what holds the list
abbrev pub settle_abrupt : Holder → Abrupt → State → Completion (Unit {0})
settle_abrupt body_list j s = abrupt j s
settle_abrupt other_list j s = abrupt j s
settle_abrupt loop_block (returned v) s = abrupt (returned v) s
settle_abrupt loop_block (thrown v) s = abrupt (thrown v) s
settle_abrupt loop_block broke s = abrupt broke s
settle_abrupt loop_block continued s = normal tt s
settle_abrupt loop_block cut s = abrupt cut s
settle_abrupt once_block (returned v) s = abrupt (returned v) s
settle_abrupt once_block (thrown v) s = abrupt (thrown v) s
settle_abrupt once_block broke s = normal tt s
settle_abrupt once_block continued s = normal tt s
settle_abrupt once_block cut s = abrupt cut s

abbrev pub settle_end : Holder → State → Completion (Unit {0})
settle_end body_list s = abrupt (returned undefined) s
settle_end other_list s = normal tt s
settle_end loop_block s = normal tt s
settle_end once_block s = normal tt s

abbrev pub settle : Holder → Completion (Unit {0}) → Completion (Unit {0})
settle h (normal a s) = settle_end h s
settle h (abrupt j s) = settle_abrupt h j s
