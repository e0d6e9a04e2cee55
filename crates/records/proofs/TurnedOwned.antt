-- Rows of one table whose first records are turned, with who owns them.
use Rattle.std.proofs.Common.{ℕ, zero, suc, ◌<◌, ◌≤◌, List, [], ◌∷◌, map, length, get_or, set, sym, subst, arith}
use Rattle.std.proofs.lemmas.List.{get_or-map}
use Rattle.pool.specs.Chain.{modify}
use Rattle.pool.proofs.Chains.{set_modify}
use Rattle.records.specs.declared.record.Pools.{Pools}
use Rattle.records.specs.declared.record.ExprRecord.{ExprRecord}
use Rattle.records.specs.declared.record.StmtRecord.{StmtRecord}
use Rattle.records.specs.declared.record.DeclRecord.{DeclRecord}
use Rattle.records.specs.Heap.{Heap, Place, expr_at, stmt_at, decl_at, Label}
use Rattle.records.specs.Readable.{tables}
use Rattle.records.specs.Rows.{Row, end, node, row_length}
use Rattle.records.specs.Owned.{Root, Owns}
use Rattle.records.specs.TableOf.{TableOf, Tabled}
use Rattle.records.specs.Turning.{Turned, front, behind, turned, turned_exprs, turned_stmts, turned_decls}
use Rattle.records.proofs.Tables.{decls_tabled, exprs_tabled, stmts_tabled}
use Rattle.records.proofs.Turns.{turned_step}
use Rattle.records.proofs.Writes.{relink_first}

module _ {R : Type 0} {t : TableOf R} {link : R → ℕ} {relinked : R → ℕ → R} (tabled : Tabled R t link relinked)
    (h : Heap) {p : Pools} {loose : List Place} {roots : List Root} where
  -- one record linked to another row
  renext : (xs : List R) (i a : ℕ) {l : Label} {x y z w acc : Row} → i < length xs
      → Owns (t.with_table h xs) p loose ((t.place i, node l x y z w) ∷ (t.place a, acc) ∷ roots)
      → Owns (t.with_table h (modify (λ r. relinked r a) i xs)) p loose ((t.place (get_or (map link xs) i 0), w) ∷ (t.place i, node l x y z acc) ∷ roots)
  renext xs i a {l} {x} {y} {z} {w} {acc} v o =
      subst (λ (n : ℕ). Owns (t.with_table h (modify (λ r. relinked r a) i xs)) p loose ((t.place n, w) ∷ (t.place i, node l x y z acc) ∷ roots))
      (sym (get_or-map link xs i t.blank 0 v))
      (subst (λ (ys : List R). Owns (t.with_table h ys) p loose ((t.place (link (get_or xs i t.blank)), w) ∷ (t.place i, node l x y z acc) ∷ roots))
      (set_modify (λ r. relinked r a) i xs t.blank v)
      (subst (λ (ys : List R). Owns (t.with_table h (set ys i (relinked (get_or ys i t.blank) a))) p loose
      ((t.place (link (get_or ys i t.blank)), w) ∷ (t.place i, node l x y z acc) ∷ roots))
      (tabled.table_with h xs) (rw tabled.with_with at (relink_first tabled i a o))))

  turned_owned : (n : ℕ) (xs : List R) (rest row : ℕ) (s acc : Row) → n ≤ row_length s
      → Owns (t.with_table h xs) p loose ((t.place rest, s) ∷ (t.place row, acc) ∷ roots)
      → Owns (t.with_table h (turned link relinked n xs rest row).table) p loose
      ((t.place (turned link relinked n xs rest row).rest, behind n s) ∷ (t.place (turned link relinked n xs rest row).row, front n s acc) ∷ roots)
  turned_owned zero xs rest row s acc le o = o
  turned_owned (suc n) xs rest row end acc le o = absurd (omega arith)
  turned_owned (suc n) xs rest row (node l x y z w) acc le o =
      let v : rest < length xs = rw tabled.table_with at (tabled.within_out (t.with_table h xs) rest o.held.0.0) in
      let ys = modify (λ r. relinked r row) rest xs in
      subst (λ (u : Turned R). Owns (t.with_table h u.table) p loose ((t.place u.rest, behind n w) ∷ (t.place u.row, front n w (node l x y z acc)) ∷ roots))
      (sym (turned_step link relinked n xs rest row v))
      (turned_owned n ys (get_or (map link xs) rest 0) rest w (node l x y z acc) (omega arith) (renext xs rest row v o))

pub turned_exprs_owned : (stmts : List StmtRecord) (decls : List DeclRecord) {p : Pools} {loose : List Place} {roots : List Root}
    (n : ℕ) (exprs : List ExprRecord) (rest row : ℕ) (s acc : Row) → n ≤ row_length s
    → Owns (tables exprs stmts decls) p loose ((expr_at rest, s) ∷ (expr_at row, acc) ∷ roots)
    → Owns (tables (turned_exprs n exprs rest row).table stmts decls) p loose
    ((expr_at (turned_exprs n exprs rest row).rest, behind n s) ∷ (expr_at (turned_exprs n exprs rest row).row, front n s acc) ∷ roots)
turned_exprs_owned stmts decls = turned_owned exprs_tabled (tables [] stmts decls)

pub turned_stmts_owned : (exprs : List ExprRecord) (decls : List DeclRecord) {p : Pools} {loose : List Place} {roots : List Root}
    (n : ℕ) (stmts : List StmtRecord) (rest row : ℕ) (s acc : Row) → n ≤ row_length s
    → Owns (tables exprs stmts decls) p loose ((stmt_at rest, s) ∷ (stmt_at row, acc) ∷ roots)
    → Owns (tables exprs (turned_stmts n stmts rest row).table decls) p loose
    ((stmt_at (turned_stmts n stmts rest row).rest, behind n s) ∷ (stmt_at (turned_stmts n stmts rest row).row, front n s acc) ∷ roots)
turned_stmts_owned exprs decls = turned_owned stmts_tabled (tables exprs [] decls)

pub turned_decls_owned : (exprs : List ExprRecord) (stmts : List StmtRecord) {p : Pools} {loose : List Place} {roots : List Root}
    (n : ℕ) (decls : List DeclRecord) (rest row : ℕ) (s acc : Row) → n ≤ row_length s
    → Owns (tables exprs stmts decls) p loose ((decl_at rest, s) ∷ (decl_at row, acc) ∷ roots)
    → Owns (tables exprs stmts (turned_decls n decls rest row).table) p loose
    ((decl_at (turned_decls n decls rest row).rest, behind n s) ∷ (decl_at (turned_decls n decls rest row).row, front n s acc) ∷ roots)
turned_decls_owned exprs stmts = turned_owned decls_tabled (tables exprs stmts [])
