use Rattle.std.proofs.Common.{◌≡◌, sym, arith}
use Rattle.records.specs.Readable.{tables}
use Rattle.records.proofs.Tallies.{lengths}
use Rattle.jumping.proofs.OneJump.{ends_bare, ends_other, ends_stop, goes_on, not_both, told_around, told_may}
use Rattle.jumping.proofs.merger.merge_jump.Goals as goal

pub returns-then-not-is_if_jump : goal.returns-then-not-is_if_jump
returns-then-not-is_if_jump c ds a r g loose rest o =
    ends_other c.args.jump a r (told_around c.args.jump a r c.if-not-is_if_jump.true c.is_if_jump.ensures o) o

pub returns-then-inner : goal.returns-then-inner
returns-then-inner c ds a r g loose rest o =
    ends_bare c.args.jump c.leave_test-left.result a r (told_around c.args.jump a r c.if-not-is_if_jump.false c.is_if_jump.ensures o)
    c.if-value-eq-NOWHERE.true (rw (← c.record_at-last.ensures, ← c.record_at-inner.ensures) c.if-inner.true)
    (λ t s n k. rw (← c.record_at-last.ensures) (c.leave_test-left.ensures ds t s n k)) g o

pub returns-then-not-may_merge : goal.returns-then-not-may_merge
returns-then-not-may_merge c ds a r g loose rest o =
    ends_stop c.args.jump a r (told_around c.args.jump a r c.if-not-is_if_jump.false c.is_if_jump.ensures o)
    (rw (← c.record_at-last.ensures, ← c.record_at-inner.ensures) (not_both c.else-value-eq-NOWHERE.either))
    (told_may c.args.jump a r c.if-not-may_merge.true c.may_merge.ensures o) o

pub returns : goal.returns
returns c ds a r g loose rest o =
    let t = tables c.args.exprs.now c.args.stmts.now ds in
    let same : lengths (tables c.join_values.new.exprs c.join_values.new.stmts ds) ≡ lengths t =
    λ i. record { exprs = c.join_values.auto.exprs i; stmts = c.join_values.auto.stmts i; decls = (lengths t).decls } in
    rw c.record_at-last.ensures
    (goes_on c.args.jump a r (told_around c.args.jump a r c.if-not-is_if_jump.false c.is_if_jump.ensures o)
    (rw (← c.record_at-last.ensures, ← c.record_at-inner.ensures) (not_both c.else-value-eq-NOWHERE.either))
    (told_may c.args.jump a r c.if-not-may_merge.false c.may_merge.ensures o) (sym same) (rw c.record_at-last.ensures at (c.join_values.ensures ds))
    (grind arith) (grind arith) g o)
