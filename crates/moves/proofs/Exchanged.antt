-- Two lists of roots exchanged behind a first root.
use Rattle.std.proofs.Common.{◌≡◌, ◌+◌, List, [], ◌∷◌, ◌++◌, arith}
use Rattle.records.specs.declared.record.Pools.{Pools}
use Rattle.records.specs.Heap.{Heap, Place}
use Rattle.records.specs.Owned.{Held, Owns, Root, uses_all}

held_both : (h : Heap) (xs ys : List Root) → Held h xs → Held h ys → Held h (xs ++ ys)
held_both h [] ys a b = b
held_both h (x ∷ xs) ys a b = (a.0, held_both h xs ys a.1 b)

held_left : (h : Heap) (xs ys : List Root) → Held h (xs ++ ys) → Held h xs
held_left h [] ys a = tt
held_left h (x ∷ xs) ys a = (a.0, held_left h xs ys a.1)

held_right : (h : Heap) (xs ys : List Root) → Held h (xs ++ ys) → Held h ys
held_right h [] ys a = a
held_right h (x ∷ xs) ys a = held_right h xs ys a.1

uses_both : (q : Place) (h : Heap) (xs ys : List Root) → uses_all q h (xs ++ ys) ≡ uses_all q h xs + uses_all q h ys
uses_both q h [] ys = omega arith
uses_both q h (x ∷ xs) ys = let e = uses_both q h xs ys in omega arith

pub exchange : {h : Heap} {p : Pools} {loose : List Place} {r : Root} (xs ys : List Root) → Owns h p loose (r ∷ (xs ++ ys))
    → Owns h p loose (r ∷ (ys ++ xs))
exchange {h} {p} {loose} {r} xs ys o = record {
  short = o.short;
  inside = o.inside;
  held = (o.held.0, held_both h ys xs (held_right h xs ys o.held.1) (held_left h xs ys o.held.1));
  chains = o.chains;
  once = λ q v. let n = o.once q v in let a = uses_both q h xs ys in let b = uses_both q h ys xs in omega arith;
}
