use Rattle.std.proofs.Common.{◌∙◌, sym, fold, ap}
use Rattle.records.specs.Turning.{stmt_next}
use Rattle.records.specs.Walked.{ahead}
use Rattle.reading.specs.Surveying.{nothing_seen}
use Rattle.reading.proofs.Looking.{counted_more, none_taken, one_taken, sees, stmts_seen}
use Rattle.reading.proofs.build.survey_top.Goals as goal

pub returns : goal.returns
returns c es ds s h =
    let all = rw (none_taken c.loop-record.record-iterator.n (ahead stmt_next c.loop-record.record-iterator.iter) (λ e. (c.in-None.ensures.steps e).0))
    at c.loop-record.invariant.seen in
    rw all (stmts_seen es c.args.stmts.now ds c.args.top c.args.count s _ nothing_seen h)

pub loop-record-preserved : goal.loop-record-preserved
loop-record-preserved c =
    let l = c.loop-record in
    let e = c.in-Some.ensures.steps in
    rw c.surveyed.ensures (rw c.kind_declared.ensures (record {
      counted = counted_more l.record-iterator.n _ c.args.count c.in-Some.record.kind c.from-tests.result l.seen.survey l.invariant.counted e.1;
      seen = rw c.from-tests.ensures (sym (ap (fold sees l.seen) (one_taken l.record-iterator.n _ _ _ _ e.0 e.1)) ∙ l.invariant.seen);
    }))
