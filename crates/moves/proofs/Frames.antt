-- Moves of ownership that keep what is loose: a record written, taken or given back, a row opened and closed.
use Rattle.std.proofs.Common.{◌≡◌, ℕ, zero, suc, ◌+◌, ◌≤◌, List, [], ◌∷◌, sym, refl, ap, ◌∙◌, subst, ⊎_elim, arith}
use Rattle.pool.specs.Chain.{same_place}
use Rattle.std.proofs.lemmas.Bool.{cases_eq}
use Rattle.pool.proofs.Chains.{same_place_same, same_place_other}
use Rattle.records.specs.declared.record.Pools.{Pools}
use Rattle.records.specs.Heap.{Heap, Label, Place, Within, cell, decl_at, expr_at, same, stmt_at}
use Rattle.records.specs.Rows.{Row, node, uses}
use Rattle.records.specs.Owned.{Held, Inside, Owns, Root, loose_at, uses_all}
use Rattle.records.proofs.Moves.{Off, bring, closed, held_bring, opened, same_self, uses_bring}
use Rattle.moves.specs.Moved.{Kept, Moved}

pub kept_self : {h : Heap} {ks : List Place} → Kept h h ks
kept_self = record { cells = λ k n. refl }

pub kept_both : {h h₁ h₂ : Heap} {ks : List Place} → Kept h h₁ ks → Kept h₁ h₂ ks → Kept h h₂ ks
kept_both a b = record { cells = λ k n. b.cells k n ∙ a.cells k n }

pub kept_others : {h h' : Heap} {k : Place} {ks : List Place} → Kept h h' (k ∷ ks) → Kept h h' ks
kept_others a = record { cells = λ q n. a.cells q (omega arith) }

pub kept_first : {h h' : Heap} {k : Place} {ks : List Place} → Kept h h' (k ∷ ks) → cell h' k ≡ cell h k
kept_first {k = k} a = a.cells k (let s = same_self k in omega arith)

-- nothing was done
pub stays : {h : Heap} {p : Pools} {loose : List Place} {roots : List Root} → Owns h p loose roots → Moved h h p loose roots
stays o = record { owned = o; kept = kept_self }

-- one move and then another
pub then_move : {h h₁ h₂ : Heap} {p₁ p₂ : Pools} {loose : List Place} {roots₁ roots₂ : List Root} → Moved h h₁ p₁ loose roots₁
    → (Owns h₁ p₁ loose roots₁ → Moved h₁ h₂ p₂ loose roots₂)
    → Moved h h₂ p₂ loose roots₂
then_move m f = let n = f m.owned in record { owned = n.owned; kept = kept_both m.kept n.kept }

-- the same roots told in another way
pub regroup : {h h' : Heap} {p : Pools} {loose : List Place} {roots roots' : List Root} → Moved h h' p loose roots
    → (Owns h' p loose roots → Owns h' p loose roots')
    → Moved h h' p loose roots'
regroup m f = record { owned = f m.owned; kept = m.kept }

-- work on the parts of a row's first record, which stays as it is
pub inside : {h h' : Heap} {p p' : Pools} {loose : List Place} {rest rest' : List Root} {k : Place} {l : Label} {x y z w x' y' z' w' : Row}
    → Owns h p loose ((k, node l x y z w) ∷ rest)
    → (Owns h p (k ∷ loose) (((cell h k).exprs, x) ∷ ((cell h k).stmts, y) ∷ ((cell h k).decls, z) ∷ ((cell h k).next, w) ∷ rest)
    → Moved h h' p' (k ∷ loose) (((cell h k).exprs, x') ∷ ((cell h k).stmts, y') ∷ ((cell h k).decls, z') ∷ ((cell h k).next, w') ∷ rest'))
    → Moved h h' p' loose ((k, node l x' y' z' w') ∷ rest')
inside {h} {h'} {k = k} {l = l} o f =
    let m = f (opened o) in
    let told : cell h k ≡ record { label = l; exprs = (cell h k).exprs; stmts = (cell h k).stmts; decls = (cell h k).decls; next = (cell h k).next } =
    λ i. record { label = o.held.0.1 i; exprs = (cell h k).exprs; stmts = (cell h k).stmts; decls = (cell h k).decls; next = (cell h k).next } in
    record { owned = closed (kept_first m.kept ∙ told) m.owned; kept = kept_others m.kept }

same_place_other_way : (i j : ℕ) → same_place i j ≡ same_place j i
same_place_other_way i j =
    ⊎_elim
    (λ e. let a = same_place_same i j e in let b = same_place_same j i (sym e) in omega arith)
    (λ ne. let a = same_place_other i j ne in let b = same_place_other j i (λ e. ne (sym e)) in omega arith)
    (cases_eq i j)

same_place_is : (i j : ℕ) → 1 ≤ same_place i j → i ≡ j
same_place_is i j n = ⊎_elim (λ e. e) (λ ne. let a = same_place_other i j ne in absurd (omega arith)) (cases_eq i j)

pub same_is : (j k : Place) → 1 ≤ same j k → j ≡ k
same_is (expr_at i) (expr_at j) n = ap expr_at (same_place_is i j n)
same_is (expr_at i) (stmt_at j) n = absurd (omega arith)
same_is (expr_at i) (decl_at j) n = absurd (omega arith)
same_is (stmt_at i) (expr_at j) n = absurd (omega arith)
same_is (stmt_at i) (stmt_at j) n = ap stmt_at (same_place_is i j n)
same_is (stmt_at i) (decl_at j) n = absurd (omega arith)
same_is (decl_at i) (expr_at j) n = absurd (omega arith)
same_is (decl_at i) (stmt_at j) n = absurd (omega arith)
same_is (decl_at i) (decl_at j) n = ap decl_at (same_place_is i j n)

same_other_way : (j k : Place) → same j k ≡ same k j
same_other_way (expr_at i) (expr_at j) = same_place_other_way i j
same_other_way (expr_at i) (stmt_at j) = refl
same_other_way (expr_at i) (decl_at j) = refl
same_other_way (stmt_at i) (expr_at j) = refl
same_other_way (stmt_at i) (stmt_at j) = same_place_other_way i j
same_other_way (stmt_at i) (decl_at j) = refl
same_other_way (decl_at i) (expr_at j) = refl
same_other_way (decl_at i) (stmt_at j) = refl
same_other_way (decl_at i) (decl_at j) = same_place_other_way i j

inside_within : (h : Heap) (ks : List Place) → Inside h ks → (k : Place) → 1 ≤ loose_at k ks → Within h k
inside_within h [] i k n = absurd (omega arith)
inside_within h (q ∷ ks) i k n = by (same k q) refl (λ m. inside_within h ks i.1 k m)
  where
    by : (m : ℕ) → same k q ≡ m → (1 ≤ loose_at k ks → Within h k) → Within h k
    by zero e f = f (omega arith)
    by (suc m) e f = subst (λ (v : Place). Within h v) (sym (same_is k q (omega arith))) i.0

-- a write to a loose place leaves the other loose places
pub kept_off : {h h' : Heap} {p : Pools} {q : Place} {loose : List Place} {roots : List Root} → Off q h h' → Owns h p (q ∷ loose) roots
    → Kept h h' loose
kept_off {h} {h'} {p} {q} {loose} {roots} off o = record { cells = cells }
  where
    cells : (k : Place) → 1 ≤ loose_at k loose → cell h' k ≡ cell h k
    cells k n =
        let w = inside_within h (q ∷ loose) o.inside k (omega arith) in
        let c = o.once k w in
        let s = same_other_way k q in
        off.cells k (omega arith)

-- Roots in another order: the n-th first, then of the others the n-th by the next number, and so on; what is left stays as it is.
abbrev behind_first : (List Root → List Root) → List Root → List Root
behind_first f [] = []
behind_first f (r ∷ rs) = r ∷ f rs

abbrev pub arranged : List ℕ → List Root → List Root
arranged [] rs = rs
arranged (n ∷ ns) rs = behind_first (λ others. arranged ns others) (bring n rs)

held_behind : (h : Heap) (f : List Root → List Root) → ((rs : List Root) → Held h rs → Held h (f rs)) → (rs : List Root) → Held h rs
    → Held h (behind_first f rs)
held_behind h f g [] a = a
held_behind h f g (r ∷ rs) a = (a.0, g rs a.1)

held_arranged : (h : Heap) (ns : List ℕ) (rs : List Root) → Held h rs → Held h (arranged ns rs)
held_arranged h [] rs a = a
held_arranged h (n ∷ ns) rs a =
    held_behind h (λ others. arranged ns others) (λ others b. held_arranged h ns others b) (bring n rs) (held_bring h n rs a)

uses_behind : (k : Place) (h : Heap) (f : List Root → List Root) → ((rs : List Root) → uses_all k h (f rs) ≡ uses_all k h rs) → (rs : List Root)
    → uses_all k h (behind_first f rs) ≡ uses_all k h rs
uses_behind k h f g [] = refl
uses_behind k h f g (r ∷ rs) = ap (λ u. uses k h r.0 r.1 + u) (g rs)

uses_arranged : (k : Place) (h : Heap) (ns : List ℕ) (rs : List Root) → uses_all k h (arranged ns rs) ≡ uses_all k h rs
uses_arranged k h [] rs = refl
uses_arranged k h (n ∷ ns) rs =
    uses_behind k h (λ others. arranged ns others) (λ others. uses_arranged k h ns others) (bring n rs) ∙ uses_bring k h n rs

pub arrange : {h : Heap} {p : Pools} {loose : List Place} {roots : List Root} (ns : List ℕ) → Owns h p loose roots
    → Owns h p loose (arranged ns roots)
arrange {h} {p} {loose} {roots} ns o = record {
  short = o.short;
  inside = o.inside;
  held = held_arranged h ns roots o.held;
  chains = o.chains;
  once = λ k v. rw uses_arranged (o.once k v);
}

-- a move beside a loose place, and then one that uses it
pub then_use : {h h₁ h₂ : Heap} {p₁ p₂ : Pools} {k : Place} {loose : List Place} {roots₁ roots₂ : List Root} → Moved h h₁ p₁ (k ∷ loose) roots₁
    → (Owns h₁ p₁ (k ∷ loose) roots₁ → Moved h₁ h₂ p₂ loose roots₂)
    → Moved h h₂ p₂ loose roots₂
then_use m f = let n = f m.owned in record { owned = n.owned; kept = kept_both (kept_others m.kept) n.kept }
