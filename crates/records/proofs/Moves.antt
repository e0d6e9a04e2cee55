-- Moves of ownership: open a row into its first place and its parts, close it again, bring a root to the front.
use Rattle.std.proofs.Common.{◌≡◌, ℕ, zero, suc, ◌+◌, List, [], ◌∷◌, sym, refl, ap, ◌∙◌, subst, arith}
use Rattle.pool.proofs.Chains.{same_place_self}
use Rattle.records.specs.declared.record.Pools.{Pools}
use Rattle.records.specs.Heap.{Heap, Place, expr_at, stmt_at, decl_at, Label, Cell, cell, Within, Nowhere, same, spare}
use Rattle.records.specs.Rows.{Row, end, node, At, uses}
use Rattle.records.specs.Owned.{Root, Held, uses_all, Inside, Short, Chains, Owns}

pub same_self : (k : Place) → same k k ≡ 1
same_self (expr_at i) = same_place_self i
same_self (stmt_at i) = same_place_self i
same_self (decl_at i) = same_place_self i

-- two heaps agree but for one place
pub record Off (q : Place) (h h' : Heap) : Type 0 where
  pub cells : (k : Place) → same q k ≡ 0 → cell h' k ≡ cell h k
  pub within : (k : Place) → Within h k → Within h' k
  pub back : (k : Place) → Within h' k → Within h k

module _ {q : Place} {h h' : Heap} (off : Off q h h') where
  pub at_off : (k : Place) (x : Row) → At h k x → uses q h k x ≡ 0 → At h' k x
  at_off k end a u = a
  at_off k (node l x y z w) a u =
      let n₁ = uses q h (cell h k).exprs x in
      let n₂ = uses q h (cell h k).stmts y in
      let n₃ = uses q h (cell h k).decls z in
      let n₄ = uses q h (cell h k).next w in
      let u₀ : same q k ≡ 0 = omega arith in
      let u₁ : n₁ ≡ 0 = omega arith in
      let u₂ : n₂ ≡ 0 = omega arith in
      let u₃ : n₃ ≡ 0 = omega arith in
      let u₄ : n₄ ≡ 0 = omega arith in
      let r = sym (off.cells k u₀) in (
        off.within k a.0,
        subst (λ (v : Cell). v.label ≡ l) r a.1,
        subst (λ (v : Cell). At h' v.exprs x) r (at_off (cell h k).exprs x a.2 u₁),
        subst (λ (v : Cell). At h' v.stmts y) r (at_off (cell h k).stmts y a.3 u₂),
        subst (λ (v : Cell). At h' v.decls z) r (at_off (cell h k).decls z a.4 u₃),
        subst (λ (v : Cell). At h' v.next w) r (at_off (cell h k).next w a.5 u₄),
      )

  pub uses_off : (p k : Place) (x : Row) → uses q h k x ≡ 0 → uses p h' k x ≡ uses p h k x
  uses_off p k end u = refl
  uses_off p k (node l x y z w) u =
      let n₁ = uses q h (cell h k).exprs x in
      let n₂ = uses q h (cell h k).stmts y in
      let n₃ = uses q h (cell h k).decls z in
      let n₄ = uses q h (cell h k).next w in
      let u₀ : same q k ≡ 0 = omega arith in
      let u₁ : n₁ ≡ 0 = omega arith in
      let u₂ : n₂ ≡ 0 = omega arith in
      let u₃ : n₃ ≡ 0 = omega arith in
      let u₄ : n₄ ≡ 0 = omega arith in
      let r = off.cells k u₀ in
      let v₁ : uses p h' (cell h' k).exprs x ≡ uses p h (cell h k).exprs x = ap (λ (v : Cell). uses p h' v.exprs x) r ∙ uses_off p (cell h k).exprs x u₁ in
      let v₂ : uses p h' (cell h' k).stmts y ≡ uses p h (cell h k).stmts y = ap (λ (v : Cell). uses p h' v.stmts y) r ∙ uses_off p (cell h k).stmts y u₂ in
      let v₃ : uses p h' (cell h' k).decls z ≡ uses p h (cell h k).decls z = ap (λ (v : Cell). uses p h' v.decls z) r ∙ uses_off p (cell h k).decls z u₃ in
      let v₄ : uses p h' (cell h' k).next w ≡ uses p h (cell h k).next w = ap (λ (v : Cell). uses p h' v.next w) r ∙ uses_off p (cell h k).next w u₄ in
      omega arith

  pub held_off : (rs : List Root) → Held h rs → uses_all q h rs ≡ 0 → Held h' rs
  held_off [] a u = tt
  held_off (r ∷ rs) a u =
      let u₁ : uses q h r.0 r.1 ≡ 0 = omega arith in
      let u₂ : uses_all q h rs ≡ 0 = omega arith in
      (at_off r.0 r.1 a.0 u₁, held_off rs a.1 u₂)

  pub uses_all_off : (p : Place) (rs : List Root) → uses_all q h rs ≡ 0 → uses_all p h' rs ≡ uses_all p h rs
  uses_all_off p [] u = refl
  uses_all_off p (r ∷ rs) u =
      let u₁ : uses q h r.0 r.1 ≡ 0 = omega arith in
      let u₂ : uses_all q h rs ≡ 0 = omega arith in
      let v₁ = uses_off p r.0 r.1 u₁ in
      let v₂ = uses_all_off p rs u₂ in
      omega arith

  pub inside_off : (ks : List Place) → Inside h ks → Inside h' ks
  inside_off [] i = tt
  inside_off (k ∷ ks) i = (off.within k i.0, inside_off ks i.1)

-- a loose place may be written
module _ {h : Heap} {p : Pools} {q : Place} {loose : List Place} {roots : List Root} where
  pub loose_roots : Owns h p (q ∷ loose) roots → uses_all q h roots ≡ 0
  loose_roots o = let a = o.once q o.inside.0 in let z = same_self q in omega arith

  pub loose_spare : Owns h p (q ∷ loose) roots → spare q h p ≡ 0
  loose_spare o = let a = o.once q o.inside.0 in let z = same_self q in omega arith

  pub write : {h' : Heap} → Off q h h' → Short h' → Chains h' p → ((k : Place) → spare k h' p ≡ spare k h p)
      → Owns h p (q ∷ loose) roots → Owns h' p (q ∷ loose) roots
  write off short ch sp o = record {
    short = short;
    inside = inside_off off (q ∷ loose) o.inside;
    held = held_off off roots o.held (loose_roots o);
    chains = ch;
    once = λ k v. let n = o.once k (off.back k v) in let u = uses_all_off off k roots (loose_roots o) in let z = sp k in omega arith;
  }

module _ {h : Heap} {p : Pools} {loose : List Place} {rest : List Root} where
  pub opened : {k : Place} {l : Label} {x y z w : Row} → Owns h p loose ((k, node l x y z w) ∷ rest)
      → Owns h p (k ∷ loose) (((cell h k).exprs, x) ∷ ((cell h k).stmts, y) ∷ ((cell h k).decls, z) ∷ ((cell h k).next, w) ∷ rest)
  opened {k} {l} {x} {y} {z} {w} o = record {
    short = o.short;
    inside = (o.held.0.0, o.inside);
    held = (o.held.0.2, (o.held.0.3, (o.held.0.4, (o.held.0.5, o.held.1))));
    chains = o.chains;
    once = λ q v. let n = o.once q v in omega arith;
  }

  pub closed : {k ka kb kc kn : Place} {l : Label} {x y z w : Row} → cell h k ≡ record { label = l; exprs = ka; stmts = kb; decls = kc; next = kn }
      → Owns h p (k ∷ loose) ((ka, x) ∷ (kb, y) ∷ (kc, z) ∷ (kn, w) ∷ rest) → Owns h p loose ((k, node l x y z w) ∷ rest)
  closed {k} {ka} {kb} {kc} {kn} {l} {x} {y} {z} {w} r o =
      let r' = sym r in
      record {
        short = o.short;
        inside = o.inside.1;
        held = (
          (
            o.inside.0,
            ap (λ (v : Cell). v.label) r,
            subst (λ (v : Cell). At h v.exprs x) r' o.held.0,
            subst (λ (v : Cell). At h v.stmts y) r' o.held.1.0,
            subst (λ (v : Cell). At h v.decls z) r' o.held.1.1.0,
            subst (λ (v : Cell). At h v.next w) r' o.held.1.1.1.0,
          ),
          o.held.1.1.1.1,
        );
        chains = o.chains;
        once = λ q v.
            let n = o.once q v in
            let v₁ = ap (λ (v : Cell). uses q h v.exprs x) r in
            let v₂ = ap (λ (v : Cell). uses q h v.stmts y) r in
            let v₃ = ap (λ (v : Cell). uses q h v.decls z) r in
            let v₄ = ap (λ (v : Cell). uses q h v.next w) r in
            omega arith;
      }

  pub end_in : (k : Place) → Nowhere k → Owns h p loose rest → Owns h p loose ((k, end) ∷ rest)
  end_in k a o = record { short = o.short; inside = o.inside; held = (a, o.held); chains = o.chains; once = λ q v. let n = o.once q v in omega arith }

  pub end_out : {k : Place} → Owns h p loose ((k, end) ∷ rest) → Owns h p loose rest
  end_out o = record { short = o.short; inside = o.inside; held = o.held.1; chains = o.chains; once = λ q v. let n = o.once q v in omega arith }

-- the root n places behind the first comes to the front
abbrev behind : Root → List Root → List Root
behind r [] = r ∷ []
behind r (x ∷ xs) = x ∷ r ∷ xs

abbrev pub bring : ℕ → List Root → List Root
bring zero rs = rs
bring (suc n) [] = []
bring (suc n) (r ∷ rs) = behind r (bring n rs)

held_behind : (h : Heap) (r : Root) (rs : List Root) → Held h (r ∷ rs) → Held h (behind r rs)
held_behind h r [] a = a
held_behind h r (x ∷ xs) a = (a.1.0, (a.0, a.1.1))

uses_behind : (k : Place) (h : Heap) (r : Root) (rs : List Root) → uses_all k h (behind r rs) ≡ uses_all k h (r ∷ rs)
uses_behind k h r [] = refl
uses_behind k h r (x ∷ xs) = omega arith

pub held_bring : (h : Heap) (n : ℕ) (rs : List Root) → Held h rs → Held h (bring n rs)
held_bring h zero rs a = a
held_bring h (suc n) [] a = a
held_bring h (suc n) (r ∷ rs) a = held_behind h r (bring n rs) (a.0, held_bring h n rs a.1)

pub uses_bring : (k : Place) (h : Heap) (n : ℕ) (rs : List Root) → uses_all k h (bring n rs) ≡ uses_all k h rs
uses_bring k h zero rs = refl
uses_bring k h (suc n) [] = refl
uses_bring k h (suc n) (r ∷ rs) = uses_behind k h r (bring n rs) ∙ ap (λ u. uses k h r.0 r.1 + u) (uses_bring k h n rs)

pub pick : {h : Heap} {p : Pools} {loose : List Place} {roots : List Root} (n : ℕ) → Owns h p loose roots → Owns h p loose (bring n roots)
pick {h} {p} {loose} {roots} n o =
    record { short = o.short; inside = o.inside; held = held_bring h n roots o.held; chains = o.chains; once = λ k v. rw uses_bring (o.once k v) }
