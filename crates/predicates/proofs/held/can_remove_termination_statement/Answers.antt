use Rattle.std.proofs.Common.{◌≡◌, refl, ◌∙◌}
use denote.Enum.Bare.{sameb}
use Rattle.records.specs.Readable.{tables}
use Rattle.rules.specs.Jumps.{drops_return}
use Rattle.predicates.specs.Held.{holder_of}
use Rattle.predicates.specs.declared.held.Holder.{Holder}
use Rattle.predicates.specs.declared.held.Holder.TheVariants.{Body, LoopBlock, OnceBlock, Other}
use Rattle.predicates.specs.contracts.held.Holder.{the_type}
use Rattle.predicates.proofs.Parts.{return_goes}
use Rattle.predicates.proofs.held.can_remove_termination_statement.Goals as goal

only_body : (h : Holder) → sameb the_type h Body ≡ drops_return (holder_of h)
only_body Body = refl
only_body Other = refl
only_body LoopBlock = refl
only_body OnceBlock = refl

pub returns-then-stmt : goal.returns-then-stmt
returns-then-stmt c es ds x w s a n =
    c.eq.ensures ∙ only_body c.args.holder
    ∙ return_goes (holder_of c.args.holder) (tables es c.args.stmts.now ds) c.args.at c.record_at-stmt.result c.record_at-stmt.ensures x w s a
    c.in-Return.is c.if-stmt.true
