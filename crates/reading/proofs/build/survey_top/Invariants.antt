use Rattle.std.proofs.Common.{◌≡◌, fold, take, length}
use Rattle.records.specs.Turning.{stmt_next}
use Rattle.records.specs.Walked.{ahead, walked}
use Rattle.reading.specs.Surveying.{nothing_seen}
use Rattle.reading.proofs.Looking.{Counted, sees}
use Rattle.reading.proofs.build.survey_top.Given as goal

abbrev pub invariant-loop-record : goal.invariant-loop-record
invariant-loop-record l = record {
  counted : Counted l.record-iterator.n l.count l.seen.survey;
  seen : fold sees l.seen (take l.record-iterator.n (ahead stmt_next l.record-iterator.iter))
      ≡ fold sees nothing_seen (take l.count (walked stmt_next l.stmts l.top (length l.stmts)));
}
