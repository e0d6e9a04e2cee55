use Rattle.std.proofs.Common.{Bool, length, Err, refl, subst}
use Rattle.script.proofs.Agreement.{accepted_bytes_spell}
use Rattle.records.specs.Readable.{tables}
use Rattle.sheet.specs.Calls.{Feeds}
use Rattle.sheet.proofs.Promises.{fitting_sizes}
use Rattle.sheet.proofs.feeding.feed.Goals as goal

pub returns-then-not-sizes_fit : goal.returns-then-not-sizes_fit
returns-then-not-sizes_fit c =
    let h = tables c.args.exprs.now c.args.stmts.now c.args.decls.now in
    record {
      fed = subst (λ (v : Bool). Feeds v h c.args.draft c.args.marks.now c.args.bytes.now (record { draft = c.args.draft; taken = 0; answer = Err c.from.result }) h c.args.marks.now) c.if-not-sizes_fit.ensures
          ((λ i. record { draft = c.args.draft; taken = 0; answer = Err (c.from.ensures i) }), refl, refl);
      spelled = λ m r holds agrees. accepted_bytes_spell m r c.args.bytes.now agrees;
    }

pub returns-then-not-draft_held : goal.returns-then-not-draft_held
returns-then-not-draft_held c =
    let h = tables c.args.exprs.now c.args.stmts.now c.args.decls.now in
    let refuted = c.if-not-draft_held.ensures.held in
    record {
      fed = subst (λ (v : Bool). Feeds v h c.args.draft c.args.marks.now c.args.bytes.now (record { draft = c.args.draft; taken = 0; answer = Err c.from-then-not-draft_held.result }) h c.draft_held.new.marks) c.if-not-sizes_fit.ensures
          ((λ m holds. absurd (refuted m holds)), (λ none. ((λ i. record { draft = c.args.draft; taken = 0; answer = Err (c.from-then-not-draft_held.ensures i) }), refl)), c.if-not-draft_held.ensures.cleared);
      spelled = λ m r holds agrees. accepted_bytes_spell m r c.args.bytes.now agrees;
    }

pub feed_bytes-count-requires : goal.feed_bytes-count-requires
feed_bytes-count-requires c =
    let fit = fitting_sizes (length c.args.exprs.now) (length c.args.stmts.now) (length c.args.decls.now) (length c.args.marks.now) c.if-not-sizes_fit.ensures in
    record { held = c.if-not-draft_held.ensures.held; limited = record { exprs = fit.0; stmts = fit.1; decls = fit.2 } }

pub returns : goal.returns
returns c =
    let h = tables c.args.exprs.now c.args.stmts.now c.args.decls.now in
    let held = c.if-not-draft_held.ensures.held in
    record {
      fed = subst (λ (v : Bool). Feeds v h c.args.draft c.args.marks.now c.args.bytes.now (record { draft = c.feed_bytes-count.new.draft; taken = c.feed_bytes-count.result.count; answer = c.feed_bytes-count.result.answer }) (tables c.feed_bytes-count.new.exprs c.feed_bytes-count.new.stmts c.feed_bytes-count.new.decls) c.draft_held.new.marks) c.if-not-sizes_fit.ensures
          ((λ m holds. c.feed_bytes-count.ensures m holds), (λ none. absurd (none held.0 held.1)), c.if-not-draft_held.ensures.cleared);
      spelled = λ m r holds agrees. accepted_bytes_spell m r c.args.bytes.now agrees;
    }
