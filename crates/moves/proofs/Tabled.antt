-- Rows of one table: a record taken off its row, a row behind another, a row turned round, whichever table it is.
use Rattle.std.proofs.Common.{◌≡◌, ℕ, zero, suc, ◌+◌, ◌<◌, ◌≤◌, List, [], ◌∷◌, map, length, get_or, set, sym, refl, ap, ◌∙◌, subst, arith}
use Rattle.pool.specs.Chain.{Chain, modify, nowhere}
use Rattle.records.specs.declared.record.Pools.{Pools}
use Rattle.records.specs.Heap.{Heap, Label, Place, cell}
use Rattle.records.specs.Owned.{Owns, Root}
use Rattle.records.specs.Rows.{Row, end, node, row_length}
use Rattle.records.specs.TableOf.{TableOf, Tabled}
use Rattle.records.proofs.Counted.{row_fits}
use Rattle.records.proofs.Counting.{link_there, next_there, row_chain, there}
use Rattle.records.proofs.Moves.{end_in, end_out, opened, pick}
use Rattle.records.proofs.Writes.{off, relink_first, written}
use Rattle.moves.specs.Front.{in_front, links_on, turned_onto}
use Rattle.moves.specs.Moved.{Moved, TurnsTable}
use Rattle.moves.proofs.Frames.{arrange, inside, kept_off, regroup, stays, then_move}
use Rattle.moves.proofs.Nowhere.{nothing_there}

-- a record is changed where it is written anew; past the end nothing is
changed_there : {X : Type 0} (f : X → X) (i : ℕ) (xs : List X) (d : X) → set xs i (f (get_or xs i d)) ≡ modify f i xs
changed_there f i [] d = refl
changed_there f zero (x ∷ xs) d = refl
changed_there f (suc i) (x ∷ xs) d = ap (λ l. x ∷ l) (changed_there f i xs d)

pub relinked_there : {R : Type 0} (blank : R) (relinked : R → ℕ → R) (xs xs' : List R) (i b : ℕ) (r r' : R) → r ≡ get_or xs i blank
    → r' ≡ relinked r b → xs' ≡ set xs i r' → xs' ≡ modify (λ x. relinked x b) i xs
relinked_there blank relinked xs xs' i b r r' read is_relinked is_set =
    rw (is_set, is_relinked, read) (changed_there (λ x. relinked x b) i xs blank)

-- some records of a row are in front of another already, i of them, and the others follow
pub record Pushing {R : Type 0} (t : TableOf R) (xs : List R) (row onto : ℕ) (xs' : List R) (from pushed i : ℕ) : Type 0 where
  pub others : (v w : Row) (h : Heap) (p : Pools) (loose : List Place) (rest : List Root)
      → Owns (t.with_table h xs) p loose ((t.place row, v) ∷ (t.place onto, w) ∷ rest)
      → (v' : Row) × (w' : Row) × Moved (t.with_table h xs) (t.with_table h xs') p loose ((t.place from, v') ∷ (t.place pushed, w') ∷ rest)
      × (turned_onto v' w' ≡ turned_onto v w) × (row_length v' + i ≡ row_length v)

pub pushing_none : {R : Type 0} {t : TableOf R} {xs : List R} {row onto : ℕ} → Pushing t xs row onto xs row onto 0
pushing_none = record { others = λ v w h p loose rest o. (v, w, stays o, refl, omega arith) }

module _ {R : Type 0} {t : TableOf R} {link : R → ℕ} {relinked : R → ℕ → R} (tabled : Tabled R t link relinked) where
  -- the first record of a row goes in front of another
  relinks_row : (h : Heap) (p : Pools) (loose : List Place) (rest : List Root) (i b : ℕ) (l : Label) (x y z w v : Row)
      → Owns h p loose ((t.place i, node l x y z w) ∷ (t.place b, v) ∷ rest)
      → Moved h (written tabled h i (relinked (there tabled h i) b)) p loose
      ((t.place (link (there tabled h i)), w) ∷ (t.place i, node l x y z v) ∷ rest)
  relinks_row h p loose rest i b l x y z w v o =
      record { owned = relink_first tabled i b o; kept = kept_off (off tabled h i (relinked (there tabled h i) b)) (opened o) }

  pub relinks_table : (xs xs' : List R) (i b behind : ℕ) (r r' : R) → r ≡ get_or xs i t.blank → r' ≡ relinked r b → xs' ≡ set xs i r' → behind ≡ link r
      → (l : Label) (x y z w v : Row)
      → TurnsTable t xs xs' ((t.place i, node l x y z w) ∷ (t.place b, v) ∷ []) ((t.place behind, w) ∷ (t.place i, node l x y z v) ∷ [])
  relinks_table xs xs' i b behind r r' read is_relinked is_set is_behind l x y z w v h p loose rest o =
      let H = t.with_table h xs in
      let m = relinks_row H p loose rest i b l x y z w v o in
      let m₁ =
      subst (λ (k : Heap). Moved H k p loose ((t.place (link (there tabled H i)), w) ∷ (t.place i, node l x y z v) ∷ rest)) (tabled.with_with h xs _) m in
      rw (is_set, is_relinked, is_behind, read)
      (subst (λ (ys : List R). Moved H (t.with_table h (set ys i (relinked (get_or ys i t.blank) b))) p loose
      ((t.place (link (get_or ys i t.blank)), w) ∷ (t.place i, node l x y z v) ∷ rest))
      (tabled.table_with h xs) m₁)

  -- a record goes in front of a row
  pub links_table : (xs xs' : List R) (i b behind : ℕ)
      → ((l : Label) (x y z w v : Row)
      → TurnsTable t xs xs' ((t.place i, node l x y z w) ∷ (t.place b, v) ∷ []) ((t.place behind, w) ∷ (t.place i, node l x y z v) ∷ []))
      → (l : Label) (x y z w : Row)
      → TurnsTable t xs xs' ((t.place i, node l x y z end) ∷ (t.place b, w) ∷ []) ((t.place i, node l x y z w) ∷ [])
  links_table xs xs' i b behind f l x y z w h p loose rest o = regroup (f l x y z end w h p loose rest o) (λ o₁. end_out o₁)

  -- the first record of a row is cut off
  pub detaches_table : (xs xs' : List R) (i behind : ℕ)
      → ((l : Label) (x y z w v : Row)
      → TurnsTable t xs xs' ((t.place i, node l x y z w) ∷ (t.place nowhere, v) ∷ []) ((t.place behind, w) ∷ (t.place i, node l x y z v) ∷ []))
      → (l : Label) (x y z w : Row)
      → TurnsTable t xs xs' ((t.place i, node l x y z w) ∷ []) ((t.place i, node l x y z end) ∷ (t.place behind, w) ∷ [])
  detaches_table xs xs' i behind f l x y z w h p loose rest o =
      regroup (f l x y z w end h p loose rest (pick 1 (end_in (t.place nowhere) (tabled.nowhere_in nowhere refl) o))) (λ o₁. pick 1 o₁)

  -- a row goes behind another, where the record that is last is put in front of it
  pub appends_row : (h h' : Heap) (p : Pools) (b j : ℕ)
      → ((l : Label) (x y z w : Row) (loose : List Place) (rest : List Root) → Owns h p loose ((t.place j, node l x y z end) ∷ (t.place b, w) ∷ rest)
      → Moved h h' p loose ((t.place j, node l x y z w) ∷ rest))
      → (v w : Row) (l : Label) (x y z : Row) (i : ℕ) (loose : List Place) (rest : List Root) → j ≡ links_on (map link (t.table h)) i (row_length v)
      → Owns h p loose ((t.place i, node l x y z v) ∷ (t.place b, w) ∷ rest) → Moved h h' p loose ((t.place i, node l x y z (in_front v w)) ∷ rest)
  appends_row h h' p b j f end w l x y z i loose rest e o =
      subst (λ (k : ℕ). Moved h h' p loose ((t.place k, node l x y z w) ∷ rest)) e
      (f l x y z w loose rest (subst (λ (k : ℕ). Owns h p loose ((t.place k, node l x y z end) ∷ (t.place b, w) ∷ rest)) (sym e) o))
  appends_row h h' p b j f (node l' x' y' z' v) w l x y z i loose rest e o =
      let n = next_there tabled h i in
      let k = link_there tabled h i (tabled.within_out h i o.held.0.0) in
      let c = cell h (t.place i) in
      let parts : List Root = (c.exprs, x) ∷ (c.stmts, y) ∷ (c.decls, z) ∷ rest in
      inside o (λ o₁.
      let o₂ = subst (λ (q : Place). Owns h p (t.place i ∷ loose) ((q, node l' x' y' z' v) ∷ (t.place b, w) ∷ parts)) n (arrange (3 ∷ 3 ∷ []) o₁) in
      let last = e ∙ ap (λ (q : ℕ). links_on (map link (t.table h)) q (row_length v)) k in
      let m = appends_row h h' p b j f v w l' x' y' z' (link (there tabled h i)) (t.place i ∷ loose) parts last o₂ in
      regroup (subst (λ (q : Place). Moved h h' p (t.place i ∷ loose) ((q, node l' x' y' z' (in_front v w)) ∷ parts)) (sym n) m)
      (λ o₃. arrange (1 ∷ 1 ∷ 1 ∷ []) o₃))

  pub appends_table : (xs xs' : List R) (row more last : ℕ)
      → ((n : ℕ) → n < length xs → length xs ≤ nowhere → Chain (map link xs) row (suc n) → last ≡ links_on (map link xs) row n)
      → ((l : Label) (x y z w : Row)
      → TurnsTable t xs xs' ((t.place last, node l x y z end) ∷ (t.place more, w) ∷ []) ((t.place last, node l x y z w) ∷ []))
      → (l : Label) (x y z v w : Row)
      → TurnsTable t xs xs' ((t.place row, node l x y z v) ∷ (t.place more, w) ∷ []) ((t.place row, node l x y z (in_front v w)) ∷ [])
  appends_table xs xs' row more last f g l x y z v w h p loose rest o =
      let H = t.with_table h xs in
      let e : t.table H ≡ xs = tabled.table_with h xs in
      let n = row_fits tabled row (node l x y z v) o in
      let s = tabled.short H o.short in
      let c = row_chain tabled H row (node l x y z v) o.held.0 in
      let k = row_length v in
      let q =
      subst (λ (ys : List R). k < length ys → length ys ≤ nowhere → Chain (map link ys) row (suc k) → last ≡ links_on (map link ys) row k) (sym e) (f k)
      (omega arith) s c in
      appends_row H (t.with_table h xs') p more last (λ l' x' y' z' w' loose' rest'. g l' x' y' z' w' h p loose' rest') v w l x y z row loose rest q o

  -- a row that is none goes
  pub joins_none : (xs : List R) (row more : ℕ) → row ≡ nowhere → (v w : Row)
      → TurnsTable t xs xs ((t.place row, v) ∷ (t.place more, w) ∷ []) ((t.place more, in_front v w) ∷ [])
  joins_none xs row more n v w h p loose rest o =
      let H = t.with_table h xs in
      let e = nothing_there H (t.place row) v o.short (tabled.nowhere_in row n) o.held.0 in
      stays (subst (λ (u : Row). Owns H p loose ((t.place more, in_front u w) ∷ rest)) (sym e)
      (end_out (subst (λ (u : Row). Owns H p loose ((t.place row, u) ∷ (t.place more, w) ∷ rest)) e o)))

  -- a row that is some has the other behind it
  pub joins_some : (xs xs' : List R) (row more : ℕ) → (row ≡ nowhere → ⊥)
      → ((l : Label) (x y z v w : Row)
      → TurnsTable t xs xs' ((t.place row, node l x y z v) ∷ (t.place more, w) ∷ []) ((t.place row, node l x y z (in_front v w)) ∷ []))
      → (v w : Row) → TurnsTable t xs xs' ((t.place row, v) ∷ (t.place more, w) ∷ []) ((t.place row, in_front v w) ∷ [])
  joins_some xs xs' row more ne f end w h p loose rest o = absurd (ne (tabled.nowhere_out row o.held.0))
  joins_some xs xs' row more ne f (node l x y z v) w h p loose rest o = f l x y z v w h p loose rest o

  module _ {xs xs' : List R} {row onto from pushed i : ℕ} (inv : Pushing t xs row onto xs' from pushed i) where
    pub pushing_one : {xs'' : List R} {behind : ℕ} → (from ≡ nowhere → ⊥)
        → ((l : Label) (x y z w v : Row)
        → TurnsTable t xs' xs'' ((t.place from, node l x y z w) ∷ (t.place pushed, v) ∷ []) ((t.place behind, w) ∷ (t.place from, node l x y z v) ∷ []))
        → Pushing t xs row onto xs'' behind from (i + 1)
    pushing_one {xs''} {behind} ne f =
        record { others = λ v w h p loose rest o. let q = inv.others v w h p loose rest o in by v w h p loose rest q.0 q.1 q.2 q.3 q.4 }
      where
        by : (v w : Row) (h : Heap) (p : Pools) (loose : List Place) (rest : List Root) (v' w' : Row)
            → Moved (t.with_table h xs) (t.with_table h xs') p loose ((t.place from, v') ∷ (t.place pushed, w') ∷ rest)
            → turned_onto v' w' ≡ turned_onto v w → row_length v' + i ≡ row_length v
            → (v'' : Row) × (w'' : Row) × Moved (t.with_table h xs) (t.with_table h xs'') p loose ((t.place behind, v'') ∷ (t.place from, w'') ∷ rest)
            × (turned_onto v'' w'' ≡ turned_onto v w) × (row_length v'' + (i + 1) ≡ row_length v)
        by v w h p loose rest end w' m e n = absurd (ne (tabled.nowhere_out from m.owned.held.0))
        by v w h p loose rest (node l x y z u) w' m e n =
            (u, node l x y z w', then_move m (λ o₁. f l x y z u w' h p loose rest o₁), e, omega arith)

    -- none is left, so that what was pushed is the whole
    pushed_all : (v w : Row) (h : Heap) (p : Pools) (loose : List Place) (rest : List Root) (v' w' : Row)
        → Moved (t.with_table h xs) (t.with_table h xs') p loose ((t.place from, v') ∷ (t.place pushed, w') ∷ rest)
        → turned_onto v' w' ≡ turned_onto v w → v' ≡ end
        → Moved (t.with_table h xs) (t.with_table h xs') p loose ((t.place pushed, turned_onto v w) ∷ rest)
    pushed_all v w h p loose rest v' w' m e n =
        regroup m (λ o₁.
        subst (λ (u : Row). Owns (t.with_table h xs') p loose ((t.place pushed, u) ∷ rest)) (sym (ap (λ (u : Row). turned_onto u w') n) ∙ e)
        (end_out (subst (λ (u : Row). Owns (t.with_table h xs') p loose ((t.place from, u) ∷ (t.place pushed, w') ∷ rest)) n o₁)))

    pub pushing_done : from ≡ nowhere → (v w : Row)
        → TurnsTable t xs xs' ((t.place row, v) ∷ (t.place onto, w) ∷ []) ((t.place pushed, turned_onto v w) ∷ [])
    pushing_done e v w h p loose rest o =
        let q = inv.others v w h p loose rest o in
        let m = q.2 in
        pushed_all v w h p loose rest q.0 q.1 m q.3
        (nothing_there (t.with_table h xs') (t.place from) q.0 m.owned.short (tabled.nowhere_in from e) m.owned.held.0)

    -- as many turns as there are records are enough
    pub pushing_out : length xs ≤ i → (v w : Row)
        → TurnsTable t xs xs' ((t.place row, v) ∷ (t.place onto, w) ∷ []) ((t.place pushed, turned_onto v w) ∷ [])
    pushing_out le v w h p loose rest o =
        let q = inv.others v w h p loose rest o in
        let k = row_fits tabled row v o in
        let s = ap length (tabled.table_with h xs) in
        let c = q.4 in
        pushed_all v w h p loose rest q.0 q.1 q.2 q.3 (none q.0 (omega arith))
      where
        none : (v' : Row) → row_length v' ≡ 0 → v' ≡ end
        none end e = refl
        none (node l x y z u) e = absurd (omega arith)

-- the same of trees, whose row begins with a record
module _ {R : Type 0} (t : TableOf R) {xs xs' : List R} {i : ℕ} {l : Label} {x y z : Row} (tree : Row → Row)
    (first : (w : Row) → tree w ≡ node l x y z w) where
  pub relinks_tree : {b behind : ℕ}
      → ((l : Label) (x y z w v : Row)
      → TurnsTable t xs xs' ((t.place i, node l x y z w) ∷ (t.place b, v) ∷ []) ((t.place behind, w) ∷ (t.place i, node l x y z v) ∷ []))
      → (w v : Row) → TurnsTable t xs xs' ((t.place i, tree w) ∷ (t.place b, v) ∷ []) ((t.place behind, w) ∷ (t.place i, tree v) ∷ [])
  relinks_tree {b} {behind} f w v h p loose rest o =
      subst (λ (r : Row). Moved (t.with_table h xs) (t.with_table h xs') p loose ((t.place behind, w) ∷ (t.place i, r) ∷ rest)) (sym (first v))
      (f l x y z w v h p loose rest (subst (λ (r : Row). Owns (t.with_table h xs) p loose ((t.place i, r) ∷ (t.place b, v) ∷ rest)) (first w) o))

  pub links_tree : {b : ℕ}
      → ((l : Label) (x y z w : Row) → TurnsTable t xs xs' ((t.place i, node l x y z end) ∷ (t.place b, w) ∷ []) ((t.place i, node l x y z w) ∷ []))
      → (w : Row) → TurnsTable t xs xs' ((t.place i, tree end) ∷ (t.place b, w) ∷ []) ((t.place i, tree w) ∷ [])
  links_tree {b} f w h p loose rest o =
      subst (λ (r : Row). Moved (t.with_table h xs) (t.with_table h xs') p loose ((t.place i, r) ∷ rest)) (sym (first w))
      (f l x y z w h p loose rest (subst (λ (r : Row). Owns (t.with_table h xs) p loose ((t.place i, r) ∷ (t.place b, w) ∷ rest)) (first end) o))

  pub detaches_tree : {behind : ℕ}
      → ((l : Label) (x y z w : Row)
      → TurnsTable t xs xs' ((t.place i, node l x y z w) ∷ []) ((t.place i, node l x y z end) ∷ (t.place behind, w) ∷ []))
      → (w : Row) → TurnsTable t xs xs' ((t.place i, tree w) ∷ []) ((t.place i, tree end) ∷ (t.place behind, w) ∷ [])
  detaches_tree {behind} f w h p loose rest o =
      subst (λ (r : Row). Moved (t.with_table h xs) (t.with_table h xs') p loose ((t.place i, r) ∷ (t.place behind, w) ∷ rest)) (sym (first end))
      (f l x y z w h p loose rest (subst (λ (r : Row). Owns (t.with_table h xs) p loose ((t.place i, r) ∷ rest)) (first w) o))

  pub appends_tree : {b : ℕ}
      → ((l : Label) (x y z v w : Row)
      → TurnsTable t xs xs' ((t.place i, node l x y z v) ∷ (t.place b, w) ∷ []) ((t.place i, node l x y z (in_front v w)) ∷ []))
      → (v w : Row) → TurnsTable t xs xs' ((t.place i, tree v) ∷ (t.place b, w) ∷ []) ((t.place i, tree (in_front v w)) ∷ [])
  appends_tree {b} f v w h p loose rest o =
      subst (λ (r : Row). Moved (t.with_table h xs) (t.with_table h xs') p loose ((t.place i, r) ∷ rest)) (sym (first (in_front v w)))
      (f l x y z v w h p loose rest (subst (λ (r : Row). Owns (t.with_table h xs) p loose ((t.place i, r) ∷ (t.place b, w) ∷ rest)) (first v) o))
