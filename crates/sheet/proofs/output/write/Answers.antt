use Rattle.std.proofs.Common.{Bool, length, Ok, Err, refl, subst}
use Rattle.faults.specs.declared.fault.SheetFault.TheVariants.{Sizes, NotHeld, ShortOutput}
use Rattle.records.specs.Lent.{heap}
use Rattle.sheet.specs.Calls.{WritesSheet}
use Rattle.script.specs.Written.{body_bytes}
use Rattle.records.proofs.Sizes.{owned_readable}
use Rattle.sheet.proofs.Promises.{fitting_sizes, read_back, wrote, wrote_none}
use Rattle.sheet.proofs.output.write.Goals as goal

pub returns-then-not-sizes_fit : goal.returns-then-not-sizes_fit
returns-then-not-sizes_fit c =
    let h = heap c.args.tables in
    record {
      written = subst (λ (v : Bool). WritesSheet v h c.args.whole c.args.marks.now c.args.out.now (record { whole = c.args.whole; answer = Err Sizes }) c.args.marks.now c.args.out.now) c.if-not-sizes_fit.ensures (refl, refl, refl);
      again = read_back h c.args.whole;
    }

pub returns-then-not-whole_held : goal.returns-then-not-whole_held
returns-then-not-whole_held c =
    let h = heap c.args.tables in
    let refuted = c.if-not-whole_held.ensures.held in
    record {
      written = subst (λ (v : Bool). WritesSheet v h c.args.whole c.args.marks.now c.args.out.now (record { whole = c.args.whole; answer = Err NotHeld }) c.whole_held.new.marks c.args.out.now) c.if-not-sizes_fit.ensures
          ((λ body holds. absurd (refuted body holds)), (λ none. (refl, refl)), c.if-not-whole_held.ensures.cleared);
      again = read_back h c.args.whole;
    }

pub write_body-requires : goal.write_body-requires
write_body-requires c =
    let fit = fitting_sizes (length c.args.tables.exprs.now) (length c.args.tables.stmts.now) (length c.args.tables.decls.now) (length c.args.marks.now) c.if-not-sizes_fit.ensures in
    record { readable = owned_readable c.if-not-whole_held.ensures.held.1.owned; limited = record { exprs = fit.0; stmts = fit.1; decls = fit.2 } }

pub returns-in-Some : goal.returns-in-Some
returns-in-Some c =
    let h = heap c.args.tables in
    let held = c.if-not-whole_held.ensures.held in
    record {
      written = subst (λ (v : Bool). WritesSheet v h c.args.whole c.args.marks.now c.args.out.now (record { whole = c.args.whole; answer = Ok c.in-Some.count }) c.whole_held.new.marks c.write_body.new.out) c.if-not-sizes_fit.ensures
          ((λ body o. wrote c.args.whole (body_bytes body) c.args.out.now c.write_body.new.out c.in-Some.count (c.in-Some.ensures body o.owned.held.0 o.sound)), (λ none. absurd (none held.0 held.1)), c.if-not-whole_held.ensures.cleared);
      again = read_back h c.args.whole;
    }

pub returns-in-None : goal.returns-in-None
returns-in-None c =
    let h = heap c.args.tables in
    let held = c.if-not-whole_held.ensures.held in
    record {
      written = subst (λ (v : Bool). WritesSheet v h c.args.whole c.args.marks.now c.args.out.now (record { whole = c.args.whole; answer = Err ShortOutput }) c.whole_held.new.marks c.write_body.new.out) c.if-not-sizes_fit.ensures
          ((λ body o. wrote_none c.args.whole (body_bytes body) c.args.out.now c.write_body.new.out (c.in-None.ensures body o.owned.held.0 o.sound)), (λ none. absurd (none held.0 held.1)), c.if-not-whole_held.ensures.cleared);
      again = read_back h c.args.whole;
    }
