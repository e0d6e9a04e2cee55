use Rattle.std.proofs.Common.{Bool, sym, subst}
use Rattle.records.specs.Lent.{heap}
use Rattle.lending.specs.Marked.{DecidesDraft}
use Rattle.lending.proofs.SheetsHeld.{draft_refuted, draft_decided}
use Rattle.lending.proofs.check.draft_held.Goals as goal

pub returns-then-rows_held-clause-held : goal.returns-then-rows_held-clause-held
returns-then-rows_held-clause-held c =
    draft_decided (heap c.args.tables) c.args.draft.now c.body_place.result c.body_place.ensures c.if-rows_held.ensures.held c.stands_alone.result
    c.stands_alone.ensures

pub returns-else-rows_held-clause-held : goal.returns-else-rows_held-clause-held
returns-else-rows_held-clause-held c =
    subst (λ (b : Bool). DecidesDraft b (heap c.args.tables) c.args.draft.now) (sym c.if-rows_held.false)
    (draft_refuted (heap c.args.tables) c.args.draft.now c.body_place.result c.body_place.ensures c.if-rows_held.ensures.held)
