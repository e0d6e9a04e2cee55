use Rattle.std.proofs.Common.{◌≡◌, ℕ, Bool, true, false, List, sym, ◌∙◌, subst}
use Rattle.records.specs.Heap.{stmt_links}
use Rattle.records.specs.Lent.{heap}
use Rattle.lending.specs.Marked.{marks_of, ChainMarked}
use Rattle.lending.proofs.PartsMarked.{unspared_exprs, unspared_stmts, spares_marked}
use Rattle.lending.proofs.check.mark_pools.Goals as goal
use Rattle.lending.proofs.check.mark_pools.Goals.{then-mark_spares, else-mark_spares}

pub returns-then-mark_spares-2 : goal.returns-then-mark_spares-2
returns-then-mark_spares-2 c =
    let h = heap c.args.tables in
    let p = c.args.pools.now in
    let ms = c.args.marks_stmts.now in
    elim c.if-mark_spares.branch [
      | then-mark_spares w ↦
          spares_marked h p c.args.marks_exprs.now ms c.args.marks_decls.now c.mark_spares-then-mark_spares-2.result c.mark_spares.new.marks
          c.if-mark_spares.marks_stmts c.mark_spares-then-mark_spares-2.new.marks
          w.if-mark_spares.true (sym w.value-is ∙ c.if-mark_spares-2.true) c.mark_spares.ensures
          (subst (λ (l : List ℕ). ChainMarked w.mark_spares-then-mark_spares.result ms (stmt_links h.stmts) p.stmts.head p.stmts.count l)
          (sym w.marks_stmts-is) w.mark_spares-then-mark_spares.ensures)
          c.mark_spares-then-mark_spares-2.ensures
      | else-mark_spares w ↦ let z : ◌≡◌ {A = Bool} false true = sym w.if-mark_spares.false ∙ sym w.value-is ∙ c.if-mark_spares-2.true in cc
    ]

pub returns-else-mark_spares-2 : goal.returns-else-mark_spares-2
returns-else-mark_spares-2 c =
    let h = heap c.args.tables in
    let p = c.args.pools.now in
    let m' = marks_of c.mark_spares.new.marks c.if-mark_spares.marks_stmts c.args.marks_decls.now in
    elim c.if-mark_spares.branch [
      | then-mark_spares w ↦ unspared_stmts h p c.args.marks_exprs.now c.args.marks_stmts.now c.args.marks_decls.now _ m' c.if-mark_spares-2.false
          (sym w.value-is ∙ c.if-mark_spares-2.false) w.mark_spares-then-mark_spares.ensures
      | else-mark_spares w ↦ unspared_exprs h p c.args.marks_exprs.now c.args.marks_stmts.now c.args.marks_decls.now _ m' c.if-mark_spares-2.false
          w.if-mark_spares.false c.mark_spares.ensures
    ]
