use Rattle.records.specs.Lent.{heap}
use Rattle.sheet.proofs.Copies.{write_copies, write_refuses, write_clears}
use Rattle.sheet.proofs.copying.write_and_end.Goals as goal

pub returns-in-Ok : goal.returns-in-Ok
returns-in-Ok c =
    let h = heap c.args.tables in
    let wrote = c.write-answer.ensures.written in
    record {
      copied = write_copies c.args.whole c.write-answer.result c.args.taken c.args.out.now c.write-answer.new.out h c.args.marks.now c.write-answer.new.marks _ c.requires wrote c.in-Ok.written c.in-Ok.is;
      cleared = write_clears c.args.whole c.write-answer.result c.args.taken c.args.out.now c.write-answer.new.out h c.args.marks.now c.write-answer.new.marks _ c.requires wrote;
    }

pub returns-in-Err : goal.returns-in-Err
returns-in-Err c =
    let h = heap c.args.tables in
    let wrote = c.write-answer.ensures.written in
    record {
      copied = write_refuses c.args.whole c.write-answer.result c.args.taken c.args.out.now c.write-answer.new.out h c.args.marks.now c.write-answer.new.marks _ c.requires wrote c.in-Err.fault c.in-Err.is;
      cleared = write_clears c.args.whole c.write-answer.result c.args.taken c.args.out.now c.write-answer.new.out h c.args.marks.now c.write-answer.new.marks _ c.requires wrote;
    }
