use Rattle.std.proofs.Common.{rules, arith}
use Rattle.moves.specs.Lent.{heap}
use Rattle.unreachable.proofs.Rows.{none_counted, none_from_nowhere, row_counted}
use Rattle.unreachable.proofs.Sifting.{all_sifted, one_sifted}
use Rattle.unreachable.proofs.keeping.sift_row.Goals as goal

pub returns-then-at-clause-makes : goal.returns-then-at-clause-makes
returns-then-at-clause-makes c xs r loose others o =
    let t = c.loop-i.invariant.sifting xs r loose others o in all_sifted t (none_from_nowhere t.left c.if-at.true t.moved.owned)

pub loop-i-preserved : goal.loop-i-preserved
loop-i-preserved c = record {
  lent = search rules;
  sifting = one_sifted (heap c.args.tables.now) (heap c.loop-i.tables) (heap c.sift_stmt-sifted.new.tables) c.args.tables.now.pools
      c.loop-i.tables.pools c.sift_stmt-sifted.new.tables.pools c.args.row c.args.results c.loop-i.pushed c.loop-i.at
      c.sift_stmt-sifted.result.results c.sift_stmt-sifted.result.rest c.loop-i._i c.if-at.false c.loop-i.invariant.sifting
      c.sift_stmt-sifted.ensures.makes;
}

pub returns-clause-makes : goal.returns-clause-makes
returns-clause-makes c xs r loose others o =
    let t = c.loop-i.invariant.sifting xs r loose others o in
    let n = t.counted in
    let f = row_counted xs o in
    all_sifted t (none_counted t.left (omega arith))
