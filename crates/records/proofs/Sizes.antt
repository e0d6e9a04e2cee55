-- A row that a heap holds, each record used once, is no larger than the tables.
use Rattle.std.proofs.Common.{◌≡◌, ℕ, zero, suc, ◌+◌, ◌<◌, ◌≤◌, true, false, List, ◌∷◌, length, refl, ◌∙◌, ⊎_elim, arith, le-ltb, lt-ltb}
use Rattle.std.proofs.lemmas.Bool.{cases_eq}
use Rattle.pool.specs.Chain.{same_place}
use Rattle.pool.proofs.Chains.{same_place_same, same_place_other}
use Rattle.records.specs.declared.record.Pools.{Pools}
use Rattle.records.specs.Heap.{Heap, Place, expr_at, stmt_at, decl_at, cell, Within, Nowhere, same}
use Rattle.records.specs.Rows.{Row, end, node, At, uses, size, row_length}
use Rattle.records.specs.Owned.{Root, Short, Owns}
use Rattle.records.specs.Readable.{records, is_within, reach, reached, Readable}

-- the sum of g below n
abbrev pub total : ℕ → (ℕ → ℕ) → ℕ
total zero g = 0
total (suc n) g = total n g + g n

pub total_add : (n : ℕ) (f g : ℕ → ℕ) → total n (λ i. f i + g i) ≡ total n f + total n g
total_add zero f g = refl
total_add (suc n) f g = let e = total_add n f g in omega arith

pub total_none : (n : ℕ) → total n (λ i. 0) ≡ 0
total_none zero = refl
total_none (suc n) = let e = total_none n in omega arith

total_outside : (n i : ℕ) → n ≤ i → total n (λ j. same_place j i) ≡ 0
total_outside zero i h = refl
total_outside (suc n) i h = let e = total_outside n i (omega arith) in let z = same_place_other n i (omega arith) in omega arith

pub total_same : (n i : ℕ) → i < n → total n (λ j. same_place j i) ≡ 1
total_same zero i h = absurd (omega arith)
total_same (suc n) i h =
    ⊎_elim
    (λ e. let z = same_place_same n i e in let q = total_outside n i (omega arith) in omega arith)
    (λ ne. let z = same_place_other n i ne in let q = total_same n i (omega arith) in omega arith)
    (cases_eq n i)

pub total_le : (n : ℕ) (g : ℕ → ℕ) → ((i : ℕ) → i < n → g i ≤ 1) → total n g ≤ n
total_le zero g h = omega arith
total_le (suc n) g h = let a = total_le n g (λ i l. h i (omega arith)) in let b = h n (omega arith) in omega arith

-- the sum of g over the places of a heap
abbrev pub totals : Heap → (Place → ℕ) → ℕ
totals h g =
    total (length h.exprs) (λ i. g (expr_at i)) + (total (length h.stmts) (λ i. g (stmt_at i)) + total (length h.decls) (λ i. g (decl_at i)))

totals_add : (h : Heap) (f g : Place → ℕ) → totals h (λ q. f q + g q) ≡ totals h f + totals h g
totals_add h f g =
    let a = total_add (length h.exprs) (λ i. f (expr_at i)) (λ i. g (expr_at i)) in
    let b = total_add (length h.stmts) (λ i. f (stmt_at i)) (λ i. g (stmt_at i)) in
    let c = total_add (length h.decls) (λ i. f (decl_at i)) (λ i. g (decl_at i)) in
    omega arith

totals_none : (h : Heap) → totals h (λ q. 0) ≡ 0
totals_none h =
    let a = total_none (length h.exprs) in let b = total_none (length h.stmts) in let c = total_none (length h.decls) in omega arith

totals_same : (h : Heap) (k : Place) → Within h k → totals h (λ q. same q k) ≡ 1
totals_same h (expr_at i) v =
    let a = total_same (length h.exprs) i v in let b = total_none (length h.stmts) in let c = total_none (length h.decls) in omega arith
totals_same h (stmt_at i) v =
    let a = total_none (length h.exprs) in let b = total_same (length h.stmts) i v in let c = total_none (length h.decls) in omega arith
totals_same h (decl_at i) v =
    let a = total_none (length h.exprs) in let b = total_none (length h.stmts) in let c = total_same (length h.decls) i v in omega arith

totals_le : (h : Heap) (g : Place → ℕ) → ((q : Place) → Within h q → g q ≤ 1) → totals h g ≤ records h
totals_le h g u =
    let a = total_le (length h.exprs) (λ i. g (expr_at i)) (λ i l. u (expr_at i) l) in
    let b = total_le (length h.stmts) (λ i. g (stmt_at i)) (λ i l. u (stmt_at i) l) in
    let c = total_le (length h.decls) (λ i. g (decl_at i)) (λ i l. u (decl_at i) l) in
    omega arith

pub total_uses : (h : Heap) (k : Place) (r : Row) → At h k r → totals h (λ q. uses q h k r) ≡ size r
total_uses h k end a = totals_none h
total_uses h k (node l x y z w) a =
    let ux : Place → ℕ = λ q. uses q h (cell h k).exprs x in
    let uy : Place → ℕ = λ q. uses q h (cell h k).stmts y in
    let uz : Place → ℕ = λ q. uses q h (cell h k).decls z in
    let uw : Place → ℕ = λ q. uses q h (cell h k).next w in
    totals_add h (λ q. same q k) (λ q. ux q + (uy q + (uz q + uw q)))
    ∙ sums (totals h (λ q. same q k)) (totals h (λ q. ux q + (uy q + (uz q + uw q)))) (totals_same h k a.0)
    (totals_add h ux (λ q. uy q + (uz q + uw q))
    ∙ both (total_uses h (cell h k).exprs x a.2)
    (totals_add h uy (λ q. uz q + uw q)
    ∙ both (total_uses h (cell h k).stmts y a.3)
    (totals_add h uz uw ∙ both (total_uses h (cell h k).decls z a.4) (total_uses h (cell h k).next w a.5))))
  where
    both : {a b c d : ℕ} → a ≡ b → c ≡ d → a + c ≡ b + d
    both p q = omega arith

    sums : (a b : ℕ) {c : ℕ} → a ≡ 1 → b ≡ c → a + b ≡ suc c
    sums a b p q = omega arith

within_true : (h : Heap) (k : Place) → Within h k → is_within h k ≡ true
within_true h (expr_at i) v = lt-ltb i (length h.exprs) v
within_true h (stmt_at i) v = lt-ltb i (length h.stmts) v
within_true h (decl_at i) v = lt-ltb i (length h.decls) v

nowhere_false : (h : Heap) (k : Place) → Short h → Nowhere k → is_within h k ≡ false
nowhere_false h (expr_at i) s e = le-ltb i (length h.exprs) (omega (arith, s.exprs))
nowhere_false h (stmt_at i) s e = le-ltb i (length h.stmts) (omega (arith, s.stmts))
nowhere_false h (decl_at i) s e = le-ltb i (length h.decls) (omega (arith, s.decls))

pub reach_is : (h : Heap) (k : Place) (r : Row) (n : ℕ) → Short h → At h k r → size r ≤ n → reach h k n ≡ size r
reach_is h k end zero s a b = refl
reach_is h k end (suc n) s a b = rw (nowhere_false h k s a) refl
reach_is h k (node l x y z w) zero s a b = absurd (omega arith)
reach_is h k (node l x y z w) (suc n) s a b =
    let e₁ = reach_is h (cell h k).exprs x n s a.2 (omega arith) in
    let e₂ = reach_is h (cell h k).stmts y n s a.3 (omega arith) in
    let e₃ = reach_is h (cell h k).decls z n s a.4 (omega arith) in
    let e₄ = reach_is h (cell h k).next w n s a.5 (omega arith) in
    rw (within_true h k a.0) (omega arith)

module _ {h : Heap} {p : Pools} {loose : List Place} {k : Place} {r : Row} {rest : List Root} where
  pub owned_size : Owns h p loose ((k, r) ∷ rest) → size r ≤ records h
  owned_size o =
      let e = total_uses h k r o.held.0 in
      let b = totals_le h (λ q. uses q h k r) (λ q v. let n = o.once q v in omega arith) in
      omega arith

  pub owned_reach : Owns h p loose ((k, r) ∷ rest) → reached h k ≡ size r
  owned_reach o = reach_is h k r (records h) o.short o.held.0 (owned_size o)

  pub owned_readable : Owns h p loose ((k, r) ∷ rest) → Readable h k
  owned_readable o = (r, o.held.0, owned_size o, o.short)

pub row_size : (r : Row) → row_length r ≤ size r
row_size end = omega arith
row_size (node l x y z w) = let q = row_size w in omega arith
