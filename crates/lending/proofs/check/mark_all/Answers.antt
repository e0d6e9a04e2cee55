use Rattle.std.proofs.Common.{◌≡◌, Bool, true, false, sym, ◌∙◌, arith}
use Rattle.records.specs.Lent.{heap}
use Rattle.lending.specs.Marked.{marks_of, Sized}
use Rattle.lending.proofs.RootsMarked.{blank_marks, rows_refuted, spares_refuted, all_decided}
use Rattle.lending.proofs.check.mark_all.Goals as goal
use Rattle.lending.proofs.check.mark_all.Goals.{then-is_some, else-is_some}

pub returns-then-mark_pools : goal.returns-then-mark_pools
returns-then-mark_pools c =
    let h = heap c.args.tables in
    let m = marks_of c.args.marks_exprs.now c.args.marks_stmts.now c.args.marks_decls.now in
    let m₁ = marks_of c.mark_roots.new.marks_exprs c.mark_roots.new.marks_stmts c.mark_roots.new.marks_decls in
    let m' = marks_of c.if-is_some.marks_exprs c.if-is_some.marks_stmts c.if-is_some.marks_decls in
    let blank = blank_marks c.args.marks_exprs.now c.args.marks_stmts.now c.args.marks_decls.now c.requires.blank.0 c.requires.blank.1 c.requires.blank.2 in
    let k = c.mark_roots.auto in
    let l = c.if-is_some.auto in
    let s = c.requires.sized in
    let sized : Sized h c.if-is_some.marks_exprs c.if-is_some.marks_stmts c.if-is_some.marks_decls = record {
      exprs = omega arith;
      stmts = omega arith;
      decls = omega arith;
    } in
    elim c.if-is_some.branch [
      | then-is_some w ↦
          all_decided h c.requires.short c.args.pools.now c.args.roots m blank c.all_reached.result m₁
          (marks_of w.mark_pools.new.marks_exprs w.mark_pools.new.marks_stmts w.mark_pools.new.marks_decls) m'
          (sym c.is_some.ensures ∙ w.if-is_some.true) c.mark_roots.ensures (sym w.value-is ∙ c.if-mark_pools.true) w.mark_pools.ensures
          (λ i. marks_of (w.marks_exprs-is i) (w.marks_stmts-is i) (w.marks_decls-is i)) (c.all_reached.ensures h sized)
      | else-is_some w ↦ absurd (let z : ◌≡◌ {A = Bool} false true = sym w.if-is_some.false ∙ sym w.value-is ∙ c.if-mark_pools.true in cc)
    ]

pub returns-else-mark_pools : goal.returns-else-mark_pools
returns-else-mark_pools c =
    let h = heap c.args.tables in
    let m = marks_of c.args.marks_exprs.now c.args.marks_stmts.now c.args.marks_decls.now in
    let m₁ = marks_of c.mark_roots.new.marks_exprs c.mark_roots.new.marks_stmts c.mark_roots.new.marks_decls in
    let blank = blank_marks c.args.marks_exprs.now c.args.marks_stmts.now c.args.marks_decls.now c.requires.blank.0 c.requires.blank.1 c.requires.blank.2 in
    elim c.if-is_some.branch [
      | then-is_some w ↦
          spares_refuted h c.requires.short c.args.pools.now c.args.roots m blank m₁
          (marks_of w.mark_pools.new.marks_exprs w.mark_pools.new.marks_stmts w.mark_pools.new.marks_decls)
          c.if-mark_pools.false (sym c.is_some.ensures ∙ w.if-is_some.true) c.mark_roots.ensures (sym w.value-is ∙ c.if-mark_pools.false) w.mark_pools.ensures
      | else-is_some w ↦
          rows_refuted h c.requires.short c.args.pools.now c.args.roots m blank m₁ c.if-mark_pools.false
          (sym c.is_some.ensures ∙ w.if-is_some.false) c.mark_roots.ensures
    ]
