use Rattle.std.proofs.Common.{◌∷◌}
use Rattle.moves.specs.Lent.{heap}
use Rattle.records.specs.Embedding.{stmts_row}
use Rattle.records.specs.Heap.{stmt_at}
use Rattle.records.specs.Readable.{tables}
use Rattle.rules.specs.Statements.{push_all}
use Rattle.rules.specs.Unreachable.{lexical_declarations}
use Rattle.unreachable.proofs.KeptVars.{names_kept, noted_of}
use Rattle.unreachable.proofs.keeping.keep_declarations.Goals as goal

pub returns-clause-makes : goal.returns-clause-makes
returns-clause-makes c xs r loose rest o =
    let t = c.sift_row-kept.new.tables in
    let k = c.sift_row-kept.ensures.lent in
    names_kept (heap c.args.tables.now) (heap t) (tables t.exprs.now c.push_noted.new.stmts c.push_noted.new.decls) xs r k.3 k.4 k.5 o
    (c.sift_row-kept.ensures.makes xs r loose rest o)
    (λ e. c.push_noted.ensures t.exprs.now (noted_of xs) (push_all (lexical_declarations xs) r)
    (c.noted_names-noted.ensures loose xs ((stmt_at c.args.results, stmts_row r) ∷ rest) o) e.decls e.stmts)
