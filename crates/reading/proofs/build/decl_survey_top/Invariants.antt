use Rattle.std.proofs.Common.{◌≡◌, ◌+◌, ◌≤◌, fold, take, length}
use Rattle.records.specs.Turning.{decl_next}
use Rattle.records.specs.Walked.{ahead, walked}
use Rattle.reading.specs.Surveying.{no_decls_seen}
use Rattle.reading.proofs.Looking.{decl_sees}
use Rattle.reading.proofs.build.decl_survey_top.Given as goal

abbrev pub invariant-loop-record : goal.invariant-loop-record
invariant-loop-record l = record {
  count : l.seen.count + l.record-iterator.n ≤ l.count;
  bare : l.seen.bare ≤ l.seen.count;
  seen : fold decl_sees l.seen (take l.record-iterator.n (ahead decl_next l.record-iterator.iter))
      ≡ fold decl_sees no_decls_seen (take l.count (walked decl_next l.decls l.top (length l.decls)));
}
