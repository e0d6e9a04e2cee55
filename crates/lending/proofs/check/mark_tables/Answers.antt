use Rattle.std.proofs.Common.{subst}
use Rattle.lending.specs.Marked.{Blank}
use Rattle.lending.proofs.RootsMarked.{blank_front, blank_back}
use Rattle.lending.proofs.check.mark_tables.Goals as goal

pub mark_all-requires : goal.mark_all-requires
mark_all-requires c =
    let e = c.split_at_mut-marks_exprs in
    let s = c.split_at_mut-marks_stmts in
    let d = c.split_at_mut-marks_decls in
    let b = subst Blank e.ensures.value c.requires.blank in
    let b₁ = subst Blank s.ensures.value (blank_back e.result.0.now e.result.1.now b) in
    let b₂ = subst Blank d.ensures.value (blank_back s.result.0.now s.result.1.now b₁) in
    record {
      short = c.requires.short;
      sized = record { exprs = e.ensures.front_len; stmts = s.ensures.front_len; decls = d.ensures.front_len };
      blank = (blank_front e.result.0.now e.result.1.now b, blank_front s.result.0.now s.result.1.now b₁, blank_front d.result.0.now d.result.1.now b₂);
    }
