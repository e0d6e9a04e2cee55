use Rattle.std.proofs.Common.{◌≡◌, Bool, Ok, subst}
use Rattle.script.specs.Judge.{Spares, fresh}
use Rattle.records.specs.declared.record.Pools.{Pools}
use Rattle.records.specs.Readable.{tables}
use Rattle.records.specs.Holds.{Holds}
use Rattle.sheet.specs.Calls.{lengths, Starts}
use Rattle.sheet.proofs.Promises.{started, fresh_held, fresh_spare}
use Rattle.sheet.proofs.starting.start.Goals as goal

pub returns : goal.returns
returns c =
    let es = c.start.new.table in
    let ss = c.start-2.new.table in
    let ds = c.start-3.new.table in
    let p : Pools = record { exprs = c.in_ok-for_exprs.for_exprs; stmts = c.in_ok-for_stmts.for_stmts; decls = c.in_ok-for_decls.for_decls } in
    let a = c.in_ok-for_exprs.ensures in
    let b = c.in_ok-for_stmts.ensures in
    let d = c.in_ok-for_decls.ensures in
    let same : lengths (tables es ss ds) ≡ lengths (tables c.args.exprs.now c.args.stmts.now c.args.decls.now) = λ i. record { exprs = c.start.auto.table i; stmts = c.start-2.auto.table i; decls = c.start-3.auto.table i } in
    let held = subst (λ (n : Spares). Holds (tables es ss ds) (started es ss ds p a b d) (fresh n)) same (fresh_held es ss ds p a b d) in
    subst (λ (v : Bool). Starts v (Ok (started es ss ds p a b d)) (tables c.args.exprs.now c.args.stmts.now c.args.decls.now) c.args.marks.now (tables es ss ds) c.clear.new.marks) c.if-not-sizes_fit.ensures
    (held, fresh_spare es ss ds p a b d, c.clear.ensures)
