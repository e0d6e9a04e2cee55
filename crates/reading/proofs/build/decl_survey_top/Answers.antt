use Rattle.std.proofs.Common.{◌∙◌, sym, fold, ap, eqb, arith}
use Rattle.pool.specs.Chain.{nowhere}
use Rattle.records.specs.Turning.{decl_next}
use Rattle.records.specs.Walked.{ahead}
use Rattle.reading.specs.Surveying.{no_decls_seen}
use Rattle.reading.proofs.Looking.{byte_at_most, decl_sees, decls_seen, none_taken, one_taken}
use Rattle.reading.proofs.build.decl_survey_top.Goals as goal

pub returns : goal.returns
returns c es ss s h =
    let all = rw (none_taken c.loop-record.record-iterator.n (ahead decl_next c.loop-record.record-iterator.iter) (λ e. (c.in-None.ensures.steps e).0))
    at c.loop-record.invariant.seen in
    all ∙ decls_seen es ss c.args.decls.now c.args.top c.args.count s _ no_decls_seen h

pub loop-record-preserved : goal.loop-record-preserved
loop-record-preserved c =
    let l = c.loop-record in
    let e = c.in-Some.ensures.steps in
    let f = e.1 in
    rw c.from.ensures (record {
      count = omega arith;
      bare = (let one = byte_at_most (eqb c.in-Some.record.value nowhere) in omega arith);
      seen = sym (ap (fold decl_sees l.seen) (one_taken l.record-iterator.n _ _ _ _ e.0 e.1)) ∙ l.invariant.seen;
    })
