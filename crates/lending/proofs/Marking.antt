-- Marking: a heap holds one row at a place at most, and the rows of a record are found or refuted one after another.
use Rattle.std.proofs.Common.{◌≡◌, ℕ, zero, suc, ◌+◌, ◌<◌, ◌≤◌, true, List, [], ◌∷◌, length, get_or, set, sym, refl, ap, ◌∙◌, ⊎_elim, arith, get_or-set_other, get_or-set_same}
use Rattle.std.proofs.lemmas.Bool.{cases_eq}
use Rattle.pool.specs.Chain.{same_place}
use Rattle.pool.proofs.Chains.{same_place_self, same_place_same, same_place_other}
use Rattle.records.specs.Heap.{Heap, Place, expr_at, stmt_at, decl_at, Label, cell, Within, Nowhere, same}
use Rattle.records.specs.Rows.{Row, end, node, At, uses}
use Rattle.records.specs.Owned.{Short}
use Rattle.lending.specs.Marked.{marks_of, unmarked, Claims, Fits, Found, FourFit, FourFound}
use Rattle.records.proofs.Moves.{same_self}

pub not_within : {h : Heap} → Short h → (k : Place) → Within h k → Nowhere k → ⊥
not_within s (expr_at i) w n = let a = s.exprs in omega arith
not_within s (stmt_at i) w n = let a = s.stmts in omega arith
not_within s (decl_at i) w n = let a = s.decls in omega arith

-- a heap holds one row at a place at most
pub at_same : {h : Heap} → Short h → (k : Place) (x x' : Row) → At h k x → At h k x' → x ≡ x'
at_same s k end end a b = refl
at_same s k end (node l x y z w) a b = absurd (not_within s k b.0 a)
at_same s k (node l x y z w) end a b = absurd (not_within s k a.0 b)
at_same {h} s k (node l x y z w) (node l' x' y' z' w') a b =
    let e₀ = sym a.1 ∙ b.1 in
    let e₁ = at_same s (cell h k).exprs x x' a.2 b.2 in
    let e₂ = at_same s (cell h k).stmts y y' a.3 b.3 in
    let e₃ = at_same s (cell h k).decls z z' a.4 b.4 in
    let e₄ = at_same s (cell h k).next w w' a.5 b.5 in
    cc

-- one mark more in a table
pub mark_set : (m : List ℕ) (i k : ℕ) → i < length m → get_or m i 0 ≡ 0 → get_or (set m i 1) k 0 ≡ get_or m k 0 + same_place k i
mark_set m i k h z =
    ⊎_elim
    (λ e. let s = get_or-set_same m i 1 0 h in let o = same_place_same k i e in rw e (let o' = same_place_self i in omega arith))
    (λ ne. let s = get_or-set_other m i k 1 0 ne in let o = same_place_other k i ne in omega arith)
    (cases_eq k i)

pub unmarked_set : (m : List ℕ) (i : ℕ) → i < length m → get_or m i 0 ≡ 0 → unmarked (set m i 1) + 1 ≡ unmarked m
unmarked_set [] i h z = absurd (omega arith)
unmarked_set (x ∷ xs) zero h z = omega arith
unmarked_set (x ∷ xs) (suc i) h z = let e = unmarked_set xs i (omega arith) z in omega arith

-- a claim leaves one place fewer unmarked
pub claimed_unmarked : (m : List ℕ) (i : ℕ) (m' : List ℕ) → Claims true m i (length m) m' → unmarked m' + 1 ≡ unmarked m
claimed_unmarked m i m' c = rw c.2 (unmarked_set m i c.0 c.1)

pub unmarked_length : (m : List ℕ) → unmarked m ≤ length m
unmarked_length [] = omega arith
unmarked_length (x ∷ xs) = let e = unmarked_length xs in omega arith

module _ (me ms md : List ℕ) (i : ℕ) where
  pub mark_expr : i < length me → get_or me i 0 ≡ 0 → (q : Place) → marks_of (set me i 1) ms md q ≡ marks_of me ms md q + same q (expr_at i)
  mark_expr w z (expr_at j) = mark_set me i j w z
  mark_expr w z (stmt_at j) = omega arith
  mark_expr w z (decl_at j) = omega arith

  pub mark_stmt : i < length ms → get_or ms i 0 ≡ 0 → (q : Place) → marks_of me (set ms i 1) md q ≡ marks_of me ms md q + same q (stmt_at i)
  mark_stmt w z (expr_at j) = omega arith
  mark_stmt w z (stmt_at j) = mark_set ms i j w z
  mark_stmt w z (decl_at j) = omega arith

  pub mark_decl : i < length md → get_or md i 0 ≡ 0 → (q : Place) → marks_of me ms (set md i 1) q ≡ marks_of me ms md q + same q (decl_at i)
  mark_decl w z (expr_at j) = omega arith
  mark_decl w z (stmt_at j) = omega arith
  mark_decl w z (decl_at j) = mark_set md i j w z

-- a row that is not there
pub end_found : (m : Place → ℕ) (h : Heap) (k : Place) → Nowhere k → Found m h k m end
end_found m h k n = record { held = n; met = λ q. omega arith }

-- a place outside or marked already has no row that fits
pub unclaimed : {m : Place → ℕ} {h : Heap} {k : Place} → (Nowhere k → ⊥) → (Within h k → m k ≡ 0 → ⊥) → (x : Row) → Fits m h k x → ⊥
unclaimed some out end f = some f.held
unclaimed {m} {h} {k} some out (node l x y z w) f = out f.held.0 (let a = f.once k in let b = same_self k in omega arith)

module _ {m m₀ : Place → ℕ} {h : Heap} {k : Place} (own : (q : Place) → m₀ q ≡ m q + same q k) where
  -- what fits at a place that is marked first: its rows fit then
  pub rows_fit : {l : Label} {x y z w : Row} → Fits m h k (node l x y z w) → FourFit m₀ h (cell h k).exprs (cell h k).stmts (cell h k).decls (cell h k).next x y z w
  rows_fit f = record {
    exprs = f.held.2;
    stmts = f.held.3;
    decls = f.held.4;
    next = f.held.5;
    once = λ q. let a = f.once q in let b = own q in omega arith;
  }

  pub node_found : {m₄ : Place → ℕ} {x y z w : Row} → Within h k → FourFound m₀ h (cell h k).exprs (cell h k).stmts (cell h k).decls (cell h k).next m₄ x y z w → Found m h k m₄ (node (cell h k).label x y z w)
  node_found v f = record {
    held = (v, refl, f.exprs, f.stmts, f.decls, f.next);
    met = λ q. let a = f.met q in let b = own q in omega arith;
  }

-- four rows in turn: expressions, declarators, statements, what follows
module _ {h : Heap} {m₀ m₁ m₂ m₃ m₄ : Place → ℕ} {kx ky kz kw : Place} {x y z w : Row} where
  pub four_found : Found m₀ h kx m₁ x → Found m₁ h kz m₂ z → Found m₂ h ky m₃ y → Found m₃ h kw m₄ w → FourFound m₀ h kx ky kz kw m₄ x y z w
  four_found fx fz fy fw = record {
    exprs = fx.held;
    stmts = fy.held;
    decls = fz.held;
    next = fw.held;
    met = λ q. let a = fx.met q in let b = fz.met q in let c = fy.met q in let d = fw.met q in omega arith;
  }

module _ {h : Heap} (short : Short h) {m₀ : Place → ℕ} {kx ky kz kw : Place} {x y z w : Row} (f : FourFit m₀ h kx ky kz kw x y z w) where
  pub exprs_fit : Fits m₀ h kx x
  exprs_fit = record { held = f.exprs; once = λ q. let a = f.once q in omega arith }

  module _ {m₁ : Place → ℕ} {x₁ : Row} (fx : Found m₀ h kx m₁ x₁) where
    pub exprs_same : x₁ ≡ x
    exprs_same = at_same short kx x₁ x fx.held f.exprs

    pub decls_fit : Fits m₁ h kz z
    decls_fit = record { held = f.decls; once = λ q. let a = f.once q in let b = fx.met q in let u = ap (uses q h kx) exprs_same in omega arith }

    module _ {m₂ : Place → ℕ} {z₁ : Row} (fz : Found m₁ h kz m₂ z₁) where
      pub decls_same : z₁ ≡ z
      decls_same = at_same short kz z₁ z fz.held f.decls

      pub stmts_fit : Fits m₂ h ky y
      stmts_fit = record {
        held = f.stmts;
        once = λ q.
            let a = f.once q in
            let b = fx.met q in
            let u = ap (uses q h kx) exprs_same in
            let c = fz.met q in
            let v = ap (uses q h kz) decls_same in
            omega arith;
      }

      module _ {m₃ : Place → ℕ} {y₁ : Row} (fy : Found m₂ h ky m₃ y₁) where
        pub stmts_same : y₁ ≡ y
        stmts_same = at_same short ky y₁ y fy.held f.stmts

        pub next_fit : Fits m₃ h kw w
        next_fit = record {
          held = f.next;
          once = λ q.
              let a = f.once q in
              let b = fx.met q in
              let u = ap (uses q h kx) exprs_same in
              let c = fz.met q in
              let v = ap (uses q h kz) decls_same in
              let d = fy.met q in
              let t = ap (uses q h ky) stmts_same in
              omega arith;
        }

        module _ {m₄ : Place → ℕ} {w₁ : Row} (fw : Found m₃ h kw m₄ w₁) where
          pub next_same : w₁ ≡ w
          next_same = at_same short kw w₁ w fw.held f.next
