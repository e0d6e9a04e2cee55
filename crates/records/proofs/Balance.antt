-- Every record of the tables is loose, or one of the roots' rows, or spare.
use Rattle.std.proofs.Common.{◌≡◌, ◌+◌, List, [], ◌∷◌, length, sym, ◌∙◌}
use Rattle.script.specs.Judge.{Spares}
use Rattle.script.specs.Sound.{none_used, plus}
use Rattle.records.specs.declared.record.Pools.{Pools}
use Rattle.records.specs.Heap.{Heap, Place, Within, decl_at, expr_at, same, spare, stmt_at}
use Rattle.records.specs.Owned.{Inside, Owns, Root, loose_at, uses_all}
use Rattle.records.specs.Holds.{counted}
use Rattle.records.proofs.Sizes.{total_none, total_same}
use Rattle.records.proofs.Tallies.{both, equal, lengths, records_roots, sums, sums_add, sums_none, sums_ones, sums_roots, sums_spare}

-- the records of loose places, by their tables
abbrev pub of_place : Place → Spares
of_place (expr_at i) = record { exprs = 1; stmts = 0; decls = 0 }
of_place (stmt_at i) = record { exprs = 0; stmts = 1; decls = 0 }
of_place (decl_at i) = record { exprs = 0; stmts = 0; decls = 1 }

abbrev pub records_loose : List Place → Spares
records_loose [] = none_used
records_loose (k ∷ ks) = plus (of_place k) (records_loose ks)

sums_place : (h : Heap) (k : Place) → Within h k → sums h (λ q. same q k) ≡ of_place k
sums_place h (expr_at i) v =
    equal (record { exprs = total_same (length h.exprs) i v; stmts = total_none (length h.stmts); decls = total_none (length h.decls) })
sums_place h (stmt_at i) v =
    equal (record { exprs = total_none (length h.exprs); stmts = total_same (length h.stmts) i v; decls = total_none (length h.decls) })
sums_place h (decl_at i) v =
    equal (record { exprs = total_none (length h.exprs); stmts = total_none (length h.stmts); decls = total_same (length h.decls) i v })

sums_loose : (h : Heap) (ks : List Place) → Inside h ks → sums h (λ q. loose_at q ks) ≡ records_loose ks
sums_loose h [] i = sums_none h
sums_loose h (k ∷ ks) i = sums_add h (λ q. same q k) (λ q. loose_at q ks) ∙ both (sums_place h k i.0) (sums_loose h ks i.1)

pub balance : {h : Heap} {p : Pools} {loose : List Place} {roots : List Root} → Owns h p loose roots
    → lengths h ≡ plus (records_loose loose) (plus (records_roots roots) (counted p))
balance {h} {p} {loose} {roots} o =
    sym (sums_ones h (λ q. loose_at q loose + (uses_all q h roots + spare q h p)) (λ q v. o.once q v))
    ∙ sums_add h (λ q. loose_at q loose) (λ q. uses_all q h roots + spare q h p)
    ∙ both (sums_loose h loose o.inside)
    (sums_add h (λ q. uses_all q h roots) (λ q. spare q h p) ∙ both (sums_roots h roots o.held) (sums_spare h p loose roots o))
