use Rattle.std.proofs.Common.{ℕ, replicate, ap, ◌∙◌}
use Rattle.records.specs.Lent.{heap}
use Rattle.sheet.proofs.Copies.{close_copies, close_refuses, close_clears}
use Rattle.sheet.proofs.copying.close_and_write.Goals as goal

pub returns-in-Ok : goal.returns-in-Ok
returns-in-Ok c =
    let h = heap c.args.tables in
    record {
      copied = close_copies h c.args.draft c.args.taken c.args.out.now c.args.marks.now c.close.new.marks _ c.requires c.in-Ok.whole c.in-Ok.ensures c.write_and_end.result c.write_and_end.new.out c.write_and_end.ensures.copied;
      cleared = c.write_and_end.ensures.cleared ∙ ap (λ (n : ℕ). replicate n 0) c.close.auto.marks;
    }

pub returns-in-Err : goal.returns-in-Err
returns-in-Err c =
    let h = heap c.args.tables in
    let closed = c.in-Err.ensures in
    record {
      copied = close_refuses h c.args.draft c.args.taken c.args.out.now c.args.marks.now c.close.new.marks _ c.requires c.in-Err.field-0 closed;
      cleared = close_clears h c.args.draft c.args.taken c.args.out.now c.args.marks.now c.close.new.marks _ c.requires _ closed;
    }
