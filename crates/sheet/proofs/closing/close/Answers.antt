use Rattle.std.proofs.Common.{Bool, Ok, Err, sym, refl, subst}
use Rattle.records.specs.declared.record.Whole.{Whole}
use Rattle.faults.specs.declared.fault.SheetFault.TheVariants.{Sizes, NotHeld, NoBody}
use Rattle.records.specs.declared.record.Stage.{Stage}
use Rattle.records.specs.Lent.{heap}
use Rattle.sheet.specs.Calls.{sizes_of, Closes, ClosesFrom}
use Rattle.sheet.proofs.Promises.{closed_from}
use Rattle.sheet.proofs.closing.close.Goals as goal

pub returns-in-Complete : goal.returns-in-Complete
returns-in-Complete c =
    let h = heap c.args.tables in
    let d = c.args.draft in
    let held = c.if-not-draft_held.ensures.held in
    subst (λ (r : Whole). Closes (sizes_of h c.args.marks.now) h d c.args.marks.now (Ok r) c.draft_held.new.marks) (sym c.whole_of.ensures)
    (subst (λ (v : Bool). Closes v h d c.args.marks.now (Ok (record { body = c.in-Complete.body; pools = d.pools })) c.draft_held.new.marks) c.if-not-sizes_fit.ensures
    ((λ m o. closed_from h d m o c.in-Complete.body c.in-Complete.is), (λ none. absurd (none held.0 held.1)), c.if-not-draft_held.ensures.cleared))

pub returns-in-Reading : goal.returns-in-Reading
returns-in-Reading c =
    let h = heap c.args.tables in
    let d = c.args.draft in
    let held = c.if-not-draft_held.ensures.held in
    subst (λ (v : Bool). Closes v h d c.args.marks.now (Err (record { draft = d; fault = NoBody })) c.draft_held.new.marks) c.if-not-sizes_fit.ensures
    ((λ m o. subst (λ (s : Stage). ClosesFrom s m.stage d (Err (record { draft = d; fault = NoBody })) h) (sym c.in-Reading.is) refl), (λ none. absurd (none held.0 held.1)), c.if-not-draft_held.ensures.cleared)

pub returns-then-not-draft_held : goal.returns-then-not-draft_held
returns-then-not-draft_held c =
    let h = heap c.args.tables in
    let d = c.args.draft in
    let refuted = c.if-not-draft_held.ensures.held in
    subst (λ (v : Bool). Closes v h d c.args.marks.now (Err (record { draft = d; fault = NotHeld })) c.draft_held.new.marks) c.if-not-sizes_fit.ensures
    ((λ m o. absurd (refuted m o)), (λ none. refl), c.if-not-draft_held.ensures.cleared)

pub returns-then-not-sizes_fit : goal.returns-then-not-sizes_fit
returns-then-not-sizes_fit c =
    let h = heap c.args.tables in
    let d = c.args.draft in
    subst (λ (v : Bool). Closes v h d c.args.marks.now (Err (record { draft = d; fault = Sizes })) c.args.marks.now) c.if-not-sizes_fit.ensures (refl, refl)
