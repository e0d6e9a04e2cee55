use Rattle.std.proofs.Common.{◌≡◌, sym}
use Rattle.records.specs.Readable.{tables}
use Rattle.records.proofs.Tallies.{lengths}
use Rattle.jumping.proofs.Optional.{values_joined}
use Rattle.jumping.proofs.arguments.join_values.Goals as goal

pub returns : goal.returns
returns c ds t v u n loose rest o =
    let ss = c.args.stmts.now in
    let l = lengths (tables c.args.exprs.now ss ds) in
    let first : lengths (tables c.value_or_void_0-x.new.exprs ss ds) ≡ l =
    λ i. record { exprs = c.value_or_void_0-x.auto.exprs i; stmts = l.stmts; decls = l.decls } in
    let second : lengths (tables c.value_or_void_0-y.new.exprs ss ds) ≡ lengths (tables c.value_or_void_0-x.new.exprs ss ds) =
    λ i. record { exprs = c.value_or_void_0-y.auto.exprs i; stmts = l.stmts; decls = l.decls } in
    values_joined t v u n (sym first) (sym second) (c.value_or_void_0-x.ensures ss ds v) (c.value_or_void_0-y.ensures ss ds u)
    (λ e₁ e₂ k. c.join_arguments.ensures ds t e₁ e₂ k) o
