use Rattle.std.proofs.Common.{length, arith}
use Rattle.lending.proofs.RootsMarked.{blank_cleared}
use Rattle.lending.proofs.check.rows_held.Goals as goal

pub mark_tables-held-requires : goal.mark_tables-held-requires
mark_tables-held-requires c = record {
  short = c.requires.short;
  enough = let k = c.clear.auto.marks in let e = c.requires.enough in omega arith;
  blank = blank_cleared c.clear.new.marks (length c.args.marks.now) c.clear.ensures;
}
