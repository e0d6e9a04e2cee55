use Rattle.std.proofs.Common.{rules, arith}
use Rattle.unreachable.proofs.Notes.{noted_new, room_left}
use Rattle.unreachable.proofs.noting.note_name.Goals as goal

pub returns : goal.returns
returns c l q =
    let b = room_left {noted = c.args.noted.now} {n = c.args.name} {l = l} (omega arith) c.if-noted-name.false q in
    noted_new {noted = c.args.noted.now} {n = c.args.name} {l = l} (omega arith) c.if-noted-name.false q _ (search rules)
