-- What holds a list of statements, as the rules have it.
use Rattle.rules.specs.Holder.{Holder as RuleHolder, body_list, loop_block, once_block, other_list}
use Rattle.predicates.specs.declared.held.Holder.{Holder}
use Rattle.predicates.specs.declared.held.Holder.TheVariants.{Body, LoopBlock, OnceBlock, Other}

abbrev pub holder_of : Holder → RuleHolder
holder_of Body = body_list
holder_of Other = other_list
holder_of LoopBlock = loop_block
holder_of OnceBlock = once_block
