-- Rows that are given back record by record.
use Rattle.std.proofs.Common.{◌≡◌, ◌≢◌, ℕ, ◌+◌, ◌≤◌, List, [], ◌∷◌, length, get_or, refl, ap, ◌∙◌, subst, arith}
use Rattle.pool.specs.Chain.{nowhere}
use Rattle.pool.specs.declared.Pool.{Pool}
use Rattle.script.specs.Sound.{plus}
use Rattle.records.specs.declared.record.DeclRecord.{DeclRecord}
use Rattle.records.specs.declared.record.ExprRecord.{ExprRecord}
use Rattle.records.specs.declared.record.Pools.{Pools}
use Rattle.records.specs.declared.record.StmtRecord.{StmtRecord}
use Rattle.records.specs.Heap.{Heap, Label, Place, blank_decl, blank_expr, blank_stmt, decl_at, expr_at, stmt_at}
use Rattle.records.specs.Owned.{Owns, Root}
use Rattle.records.specs.Readable.{tables}
use Rattle.records.specs.Rows.{Row, end, node}
use Rattle.records.specs.TableOf.{TableOf, Tabled}
use Rattle.records.specs.Turning.{decl_relinked, expr_relinked, stmt_relinked}
use Rattle.records.proofs.Counted.{count_fits, count_node, count_none, count_of}
use Rattle.records.proofs.Moves.{end_out, opened, pick}
use Rattle.records.proofs.Tallies.{Equals, equal, records_row}
use Rattle.moves.specs.Cells.{Gave}
use Rattle.moves.specs.Front.{in_front}
use Rattle.moves.specs.Moved.{Moved, Turns}
use Rattle.moves.proofs.Frames.{kept_both, regroup, stays, then_move, then_use}
use Rattle.moves.proofs.Nowhere.{nothing_out}
use Rattle.moves.proofs.Single.{give_decl_of, give_expr_of, give_stmt_of}

-- some records of a row are given back, n of those of the table at least, and a row of the others is pending
pub record Pending {R : Type 0} (t : TableOf R) (h : Heap) (p : Pools) (row : ℕ) (h' : Heap) (p' : Pools) (at n : ℕ) : Type 0 where
  pub others : (r : Row) (loose : List Place) (rest : List Root) → Owns h p loose ((t.place row, r) ∷ rest)
      → (r' : Row) × Moved h h' p' loose ((t.place at, r') ∷ rest) × (count_of t r' + n ≤ count_of t r)

pub pending_all : {R : Type 0} {t : TableOf R} {h : Heap} {p : Pools} {row : ℕ} → Pending t h p row h p row 0
pending_all = record { others = λ r loose rest o. (r, stays o, omega arith) }

-- the records of a row in front of another
records_in_front : (v w : Row) → Equals (records_row (in_front v w)) (plus (records_row v) (records_row w))
records_in_front end w = record { exprs = omega arith; stmts = omega arith; decls = omega arith }
records_in_front (node l x y z v) w =
    let e = records_in_front v w in
    record { exprs = (let a = e.exprs in omega arith); stmts = (let a = e.stmts in omega arith); decls = (let a = e.decls in omega arith) }

module _ {R : Type 0} {t : TableOf R} {link : R → ℕ} {relinked : R → ℕ → R} (tabled : Tabled R t link relinked) where
  pub count_in_front : (v w : Row) → count_of t (in_front v w) ≡ count_of t v + count_of t w
  count_in_front v w = ap t.count (equal (records_in_front v w)) ∙ tabled.counts_plus (records_row v) (records_row w)

  module _ {h h₁ : Heap} {p p₁ : Pools} {row at n : ℕ} (inv : Pending t h p row h₁ p₁ at n) where
    -- the first record of what is pending is given back, and what is left of its parts and of what is behind it is pending
    pub pending_fewer : {h₂ : Heap} {p₂ : Pools} {next : ℕ} → at ≢ nowhere → (left : Row → Row → Row → Row → Row)
        → ((x y z w : Row) → count_of t (left x y z w) ≤ count_of t x + (count_of t y + (count_of t z + count_of t w)))
        → ((l : Label) (x y z w : Row) → Turns h₁ p₁ h₂ p₂ [] ((t.place at, node l x y z w) ∷ []) ((t.place next, left x y z w) ∷ []))
        → Pending t h p row h₂ p₂ next (n + 1)
    pending_fewer {h₂} {p₂} {next} ne left fewer f = record { others = λ r loose rest o. let q = inv.others r loose rest o in by r loose rest q.0 q.1 q.2 }
      where
        by : (r : Row) (loose : List Place) (rest : List Root) (r₁ : Row) → Moved h h₁ p₁ loose ((t.place at, r₁) ∷ rest)
            → count_of t r₁ + n ≤ count_of t r
            → (r₂ : Row) × Moved h h₂ p₂ loose ((t.place next, r₂) ∷ rest) × (count_of t r₂ + (n + 1) ≤ count_of t r)
        by r loose rest end m c = absurd (ne (tabled.nowhere_out at m.owned.held.0))
        by r loose rest (node l x y z w) m c =
            let e = count_node tabled h₁ at l x y z w m.owned.held.0 in
            let d = fewer x y z w in
            (left x y z w, then_move m (λ o₁. f l x y z w loose rest o₁), omega arith)

    -- nothing is pending
    pub pending_none : at ≡ nowhere → (r : Row) → Turns h p h₁ p₁ [] ((t.place row, r) ∷ []) []
    pending_none e r loose rest o = regroup (inv.others r loose rest o).1 (λ o₁. nothing_out (tabled.nowhere_in at e) o₁)

    -- as many turns as the table has records are enough
    pub pending_out : length (t.table h) ≤ n → (r : Row) → Turns h p h₁ p₁ [] ((t.place row, r) ∷ []) []
    pending_out le r loose rest o =
        let q = inv.others r loose rest o in
        let m = q.1 in
        let c = q.2 in
        let f = count_fits tabled r o in
        let e = count_none tabled h₁ at q.0 m.owned.held.0 (omega arith) in
        regroup m (λ o₁. end_out (subst (λ (v : Row). Owns h₁ p₁ loose ((t.place at, v) ∷ rest)) e o₁))

-- a record of two rows has none of the others
two_rows : {h : Heap} {p : Pools} {loose : List Place} {rest : List Root} {a b : Root} {y z : Row}
    → Owns h p loose (a ∷ (stmt_at nowhere, y) ∷ (decl_at nowhere, z) ∷ b ∷ rest) → Owns h p loose (a ∷ b ∷ rest)
two_rows o = nothing_out refl (pick 1 (nothing_out refl (pick 1 o)))

-- the first record of a row of expressions
pub drop_expr : {exprs exprs₁ exprs₂ : List ExprRecord} {ss : List StmtRecord} {ds : List DeclRecord} {p : Pools} {q : Pool} {at row : ℕ} {e : ExprRecord}
    (l : Label) (x y z w : Row) → e ≡ get_or exprs at blank_expr
    → Turns (tables exprs ss ds) p (tables exprs₁ ss ds) p [] ((expr_at e.first, x) ∷ (expr_at e.next, w) ∷ []) ((expr_at row, in_front x w) ∷ [])
    → Gave expr_relinked exprs₁ p.exprs at exprs₂ q
    → Turns (tables exprs ss ds) p (tables exprs₂ ss ds) (record { exprs = q; stmts = p.stmts; decls = p.decls })
    [] ((expr_at at, node l x y z w) ∷ []) ((expr_at row, in_front x w) ∷ [])
drop_expr {exprs₂ = exprs₂} {q = q} {at = at} l x y z w read joins gives loose rest o =
    then_use (joins (expr_at at ∷ loose) rest (rw read (two_rows (opened o)))) (λ o₁. give_expr_of at exprs₂ q gives o₁)

-- the first record of a row of declarators
pub drop_decl : {exprs exprs₁ : List ExprRecord} {ss : List StmtRecord} {ds ds₂ : List DeclRecord} {p p₁ : Pools} {q : Pool} {at : ℕ} {d : DeclRecord}
    (l : Label) (x y z w : Row) → d ≡ get_or ds at blank_decl
    → Turns (tables exprs ss ds) p (tables exprs₁ ss ds) p₁ [] ((expr_at d.value, x) ∷ []) []
    → Gave decl_relinked ds p₁.decls at ds₂ q
    → Turns (tables exprs ss ds) p (tables exprs₁ ss ds₂) (record { exprs = p₁.exprs; stmts = p₁.stmts; decls = q })
    [] ((decl_at at, node l x y z w) ∷ []) ((decl_at d.next, w) ∷ [])
drop_decl {ds₂ = ds₂} {q = q} {at = at} {d = d} l x y z w read drops gives loose rest o =
    then_use (drops (decl_at at ∷ loose) ((decl_at d.next, w) ∷ rest) (rw read (two_rows (opened o)))) (λ o₁. give_decl_of at ds₂ q gives o₁)

-- the first record of a row of statements
pub drop_stmt : {exprs exprs₁ exprs₂ : List ExprRecord} {ss ss₁ ss₂ : List StmtRecord} {ds ds₁ : List DeclRecord} {p p₁ p₂ : Pools} {q : Pool}
    {at row : ℕ} {s : StmtRecord} (l : Label) (x y z w : Row) → s ≡ get_or ss at blank_stmt
    → Turns (tables exprs ss ds) p (tables exprs₁ ss ds) p₁ [] ((expr_at s.exprs, x) ∷ []) []
    → Turns (tables exprs₁ ss ds) p₁ (tables exprs₂ ss ds₁) p₂ [] ((decl_at s.decls, z) ∷ []) []
    → Turns (tables exprs₂ ss ds₁) p₂ (tables exprs₂ ss₁ ds₁) p₂ [] ((stmt_at s.stmts, y) ∷ (stmt_at s.next, w) ∷ []) ((stmt_at row, in_front y w) ∷ [])
    → Gave stmt_relinked ss₁ p₂.stmts at ss₂ q
    → Turns (tables exprs ss ds) p (tables exprs₂ ss₂ ds₁) (record { exprs = p₂.exprs; stmts = q; decls = p₂.decls })
    [] ((stmt_at at, node l x y z w) ∷ []) ((stmt_at row, in_front y w) ∷ [])
drop_stmt {ss₂ = ss₂} {q = q} {at = at} {s = s} l x y z w read drops_exprs drops_decls joins gives loose rest o =
    let inner : Root = (stmt_at s.stmts, y) in
    let next : Root = (stmt_at s.next, w) in
    let decls : Root = (decl_at s.decls, z) in
    let m = drops_exprs (stmt_at at ∷ loose) (inner ∷ decls ∷ next ∷ rest) (rw read (opened o)) in
    let n = drops_decls (stmt_at at ∷ loose) (inner ∷ next ∷ rest) (pick 1 m.owned) in
    let k = joins (stmt_at at ∷ loose) rest n.owned in
    then_use (record { owned = k.owned; kept = kept_both m.kept (kept_both n.kept k.kept) }) (λ o₁. give_stmt_of at ss₂ q gives o₁)
