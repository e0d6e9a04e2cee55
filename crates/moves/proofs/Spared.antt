-- How many records are spare after a move: those before it, and the difference of the rows before and after.
use Rattle.std.proofs.Common.{◌≡◌, List, [], ◌∷◌, ◌++◌, ap, arith}
use Rattle.script.specs.Judge.{Spares}
use Rattle.script.specs.Sound.{plus}
use Rattle.records.specs.declared.record.Pools.{Pools}
use Rattle.records.specs.Heap.{Heap, Place}
use Rattle.records.specs.Holds.{counted}
use Rattle.records.specs.Owned.{Owns, Root}
use Rattle.records.proofs.Balance.{balance, records_loose}
use Rattle.records.proofs.Tallies.{Equals, lengths, records_roots}

roots_both : (xs ys : List Root) → Equals (records_roots (xs ++ ys)) (plus (records_roots xs) (records_roots ys))
roots_both [] ys = record { exprs = omega arith; stmts = omega arith; decls = omega arith }
roots_both (x ∷ xs) ys =
    let e = roots_both xs ys in
    record { exprs = (let a = e.exprs in omega arith); stmts = (let a = e.stmts in omega arith); decls = (let a = e.decls in omega arith) }

loose_both : (xs ys : List Place) → Equals (records_loose (xs ++ ys)) (plus (records_loose xs) (records_loose ys))
loose_both [] ys = record { exprs = omega arith; stmts = omega arith; decls = omega arith }
loose_both (x ∷ xs) ys =
    let e = loose_both xs ys in
    record { exprs = (let a = e.exprs in omega arith); stmts = (let a = e.stmts in omega arith); decls = (let a = e.decls in omega arith) }

-- whatever else is loose and owned
pub spared : {h h' : Heap} {p p' : Pools} (loose : List Place) (rest : List Root) (cells : List Place) (before after : List Root)
    → lengths h ≡ lengths h' → Owns h p (cells ++ loose) (before ++ rest) → Owns h' p' loose (after ++ rest)
    → Equals (plus (counted p') (records_roots after)) (plus (counted p) (plus (records_loose cells) (records_roots before)))
spared loose rest cells before after l o o' =
    let b = balance o in
    let b' = balance o' in
    let r = roots_both before rest in
    let r' = roots_both after rest in
    let c = loose_both cells loose in
    record {
      exprs =
          let x = ap (λ (s : Spares). s.exprs) b in
          let x' = ap (λ (s : Spares). s.exprs) b' in
          let y = ap (λ (s : Spares). s.exprs) l in
          let u = r.exprs in let u' = r'.exprs in let v = c.exprs in omega arith;
      stmts =
          let x = ap (λ (s : Spares). s.stmts) b in
          let x' = ap (λ (s : Spares). s.stmts) b' in
          let y = ap (λ (s : Spares). s.stmts) l in
          let u = r.stmts in let u' = r'.stmts in let v = c.stmts in omega arith;
      decls =
          let x = ap (λ (s : Spares). s.decls) b in
          let x' = ap (λ (s : Spares). s.decls) b' in
          let y = ap (λ (s : Spares). s.decls) l in
          let u = r.decls in let u' = r'.decls in let v = c.decls in omega arith;
    }
