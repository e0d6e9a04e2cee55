use mathlib.Core.Path.{◌∙◌, sym}
use native.Mathlib.Omega.{arith}
use Rattle.records.specs.Embedding.{alternate_row}
use Rattle.rules.specs.Ifs.{empty?}
use Rattle.branching.proofs.Rules.{when_nothing, when_something}
use Rattle.branching.proofs.Spares.{fewer}
use Rattle.branching.proofs.minimize.try_minimize_if.Goals as goal

pub returns-then-is_empty-clause-makes : goal.returns-then-is_empty-clause-makes
returns-then-is_empty-clause-makes g c t x a n loose rest o =
    let l = c.args.tables.now in
    let b = (rw c.stmts.ensures at c.is_empty.ensures) l.exprs.now l.decls.now x (alternate_row a) o.short o.held.1.0 in
    let z = sym b ∙ c.if-is_empty.true in
    rw (sym (when_nothing (g.H.Host.meaning c.args.host.now) t (empty? x) a z))
    (c.minimize_empty_if.ensures l.decls.now t x a z (fewer n 3 1 (omega arith) (omega arith)) loose rest o)

pub returns-else-is_empty-clause-makes : goal.returns-else-is_empty-clause-makes
returns-else-is_empty-clause-makes g c t x a n loose rest o =
    let l = c.args.tables.now in
    let b = (rw c.stmts.ensures at c.is_empty.ensures) l.exprs.now l.decls.now x (alternate_row a) o.short o.held.1.0 in
    rw (sym (when_something (g.H.Host.meaning c.args.host.now) t (empty? x) a (sym b ∙ c.if-is_empty.false)))
    (c.minimize_full_if.ensures l.decls.now t x a (fewer n 2 1 (omega arith) (omega arith)) loose rest o)
