use Rattle.records.specs.Readable.{tables}
use Rattle.sheet.proofs.Copies.{SameLengths, start_refuses, still_fit, fits, fed_refuses, fed_copies, fed_spells}
use Rattle.sheet.proofs.copying.copy.Goals as goal

pub returns-in-Err : goal.returns-in-Err
returns-in-Err c =
    let h = tables c.args.exprs.now c.args.stmts.now c.args.decls.now in
    let h₁ = tables c.start.new.exprs c.start.new.stmts c.start.new.decls in
    record {
      copied = start_refuses _ c.in-Err.fault h h₁ c.args.bytes.now c.args.marks.now c.start.new.marks c.args.out.now c.in-Err.ensures;
      spelled = tt;
    }

pub returns-in-Err-answer : goal.returns-in-Err-answer
returns-in-Err-answer c =
    let h = tables c.args.exprs.now c.args.stmts.now c.args.decls.now in
    let h₁ = tables c.start.new.exprs c.start.new.stmts c.start.new.decls in
    let h₂ = tables c.feed-taken.new.exprs c.feed-taken.new.stmts c.feed-taken.new.decls in
    let same : SameLengths h c.args.marks.now h₁ c.start.new.marks = (c.start.auto.exprs, c.start.auto.stmts, c.start.auto.decls, c.start.auto.marks) in
    record {
      copied = fed_refuses h h₁ h₂ c.args.marks.now c.start.new.marks c.feed-taken.new.marks c.args.bytes.now c.args.out.now c.in-Ok.draft c.feed-taken.result c.in-Ok.ensures same c.feed-taken.ensures.fed c.in-Err-answer.fault c.in-Err-answer.is;
      spelled = tt;
    }

pub close_and_write-requires : goal.close_and_write-requires
close_and_write-requires c =
    let h = tables c.args.exprs.now c.args.stmts.now c.args.decls.now in
    let h₁ = tables c.start.new.exprs c.start.new.stmts c.start.new.decls in
    let h₂ = tables c.feed-taken.new.exprs c.feed-taken.new.stmts c.feed-taken.new.decls in
    let same : SameLengths h c.args.marks.now h₁ c.start.new.marks = (c.start.auto.exprs, c.start.auto.stmts, c.start.auto.decls, c.start.auto.marks) in
    let again : SameLengths h₁ c.start.new.marks h₂ c.feed-taken.new.marks = (c.feed-taken.auto.exprs, c.feed-taken.auto.stmts, c.feed-taken.auto.decls, c.feed-taken.auto.marks) in
    still_fit h₁ c.start.new.marks h₂ c.feed-taken.new.marks again
    (still_fit h c.args.marks.now h₁ c.start.new.marks same
    (fits h h₁ h₂ c.args.marks.now c.start.new.marks c.feed-taken.new.marks c.args.bytes.now c.args.out.now c.in-Ok.draft c.feed-taken.result c.in-Ok.ensures same c.feed-taken.ensures.fed))

pub returns-in-Ok-answer : goal.returns-in-Ok-answer
returns-in-Ok-answer c =
    let h = tables c.args.exprs.now c.args.stmts.now c.args.decls.now in
    let h₁ = tables c.start.new.exprs c.start.new.stmts c.start.new.decls in
    let h₂ = tables c.feed-taken.new.exprs c.feed-taken.new.stmts c.feed-taken.new.decls in
    let same : SameLengths h c.args.marks.now h₁ c.start.new.marks = (c.start.auto.exprs, c.start.auto.stmts, c.start.auto.decls, c.start.auto.marks) in
    record {
      copied = fed_copies h h₁ h₂ c.args.marks.now c.start.new.marks c.feed-taken.new.marks c.args.bytes.now c.args.out.now c.in-Ok.draft c.feed-taken.result c.in-Ok.ensures same c.feed-taken.ensures.fed c.in-Ok-answer.is c.close_and_write.result c.close_and_write.new.out c.close_and_write.ensures.copied c.close_and_write.new.marks c.close_and_write.ensures.cleared c.feed-taken.auto.marks;
      spelled = fed_spells h h₁ h₂ c.args.marks.now c.start.new.marks c.feed-taken.new.marks c.args.bytes.now c.args.out.now c.in-Ok.draft c.feed-taken.result c.in-Ok.ensures same c.feed-taken.ensures.fed c.in-Ok-answer.is c.close_and_write.result c.close_and_write.new.out c.close_and_write.ensures.copied;
    }
