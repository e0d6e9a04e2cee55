use Rattle.std.proofs.Common.{◌≡◌, sym}
use Rattle.records.specs.Heap.{Heap}
use Rattle.records.specs.Readable.{tables}
use Rattle.records.proofs.Tallies.{lengths}
use Rattle.moves.specs.Lent.{heap}
use Rattle.predicates.specs.Held.{holder_of}
use Rattle.jumping.proofs.WorkedReturn.{return_handled}
use Rattle.jumping.proofs.returns.handle_return_statement.Goals as goal

pub returns-clause-makes : goal.returns-clause-makes
returns-clause-makes g c v r n loose rest o =
    let t = c.args.tables.now in
    let first = c.merge_leading_into_declaration-merged in
    let second = c.drop_undefined_argument-worked in
    let h₁ : Heap = tables first.new.exprs t.stmts.now first.new.decls in
    let h₂ : Heap = tables second.new.exprs second.new.stmts first.new.decls in
    let same : lengths h₁ ≡ lengths (heap t) = λ i. record { exprs = first.auto.exprs i; stmts = (lengths (heap t)).stmts; decls = first.auto.decls i } in
    let same₂ : lengths h₂ ≡ lengths h₁ = λ i. record { exprs = second.auto.exprs i; stmts = second.auto.stmts i; decls = (lengths h₁).decls } in
    return_handled c.args.sequences (g.H.Host.meaning c.args.host.now) (holder_of c.args.holder) v r (sym same) (sym same₂) (first.ensures v r)
    (λ u x a b. second.ensures first.new.decls u x a b) (λ u x a. c.merge_jumps.ensures first.new.decls u x a) n o
