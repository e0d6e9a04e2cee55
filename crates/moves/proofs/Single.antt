-- Single records of each table: one taken, one given back, one written, with what that does to who owns them.
use Rattle.std.proofs.Common.{◌≡◌, ℕ, ◌<◌, ◌≢◌, List, ◌∷◌, length, get_or, set, sym, refl, ap, ◌∙◌, subst, arith, get_or-set_same}
use lib.ListN.{length-map}
use Rattle.pool.specs.Chain.{Chain, places}
use Rattle.pool.specs.declared.Pool.{Pool}
use Rattle.pool.proofs.Chains.{chain_first, chain_rest, places_first, set_modify}
use Rattle.records.specs.declared.record.ExprRecord.{ExprRecord}
use Rattle.records.specs.declared.record.StmtRecord.{StmtRecord}
use Rattle.records.specs.declared.record.DeclRecord.{DeclRecord}
use Rattle.records.specs.declared.record.Pools.{Pools}
use Rattle.records.specs.Heap.{Heap, Place, decl_at, decl_cell, decl_links, expr_at, expr_cell, expr_links, stmt_at, stmt_cell, stmt_links}
use Rattle.records.specs.Rows.{Row, end, node}
use Rattle.records.specs.Owned.{Owns, Root}
use Rattle.records.specs.TableOf.{TableOf, Tabled}
use Rattle.records.specs.Turning.{decl_relinked, expr_relinked, stmt_relinked}
use Rattle.records.proofs.Counting.{links_of, there}
use Rattle.records.proofs.Tables.{decls_tabled, exprs_tabled, stmts_tabled}
use Rattle.records.proofs.Writes.{give, links_written, off, relink_decl, relink_expr, relink_stmt, spares_fewer, take, write_loose, written}
use Rattle.moves.specs.Cells.{Gave, Took}
use Rattle.moves.specs.Moved.{Kept, Moved}
use Rattle.moves.proofs.Frames.{kept_off}

module _ {R : Type 0} {t : TableOf R} {link : R → ℕ} {relinked : R → ℕ → R} (tabled : Tabled R t link relinked) where
  pub take_of : {h : Heap} {p : Pools} {loose : List Place} {roots : List Root} (at : ℕ) (q : Pool) → Took (links_of tabled h) (t.pool p) at q
      → 0 < (t.pool p).count → Owns h p loose roots → Owns h (t.with_pool p q) (t.place at ∷ loose) roots
  take_of {h} {p} at q f n o =
      let links = links_of tabled h in
      let head = (t.pool p).head in
      let count = (t.pool p).count in
      let c = tabled.chain h p o.chains in
      let ne : count ≢ 0 = λ e. omega arith in
      let e = f n (chain_first links head count c ne) in
      let pl : places links head count ≡ at ∷ places links q.head q.count = rw (e.0, e.1) (places_first links head count ne) in
      let ch : Chain links q.head q.count = rw e.1 (chain_rest links head count c ne) in
      take tabled q at pl ch o

  pub give_of : {h : Heap} {p : Pools} {loose : List Place} {roots : List Root} (at : ℕ) (xs : List R) (q : Pool)
      → Gave relinked (t.table h) (t.pool p) at xs q → Owns h p (t.place at ∷ loose) roots
      → Moved h (t.with_table h xs) (t.with_pool p q) loose roots
  give_of {h} {p} {loose} {roots} at xs q f o =
      let v = tabled.within_out h at o.inside.0 in
      let s = tabled.short h o.short in
      let n = spares_fewer tabled at o in
      let d = f v (omega arith) in
      let head = (t.pool p).head in
      let x : R = relinked (there tabled h at) head in
      let e : set (t.table h) at x ≡ xs = set_modify (λ r. relinked r head) at (t.table h) t.blank v ∙ sym d.0 in
      let w : at < length (links_of tabled h) = omega (arith, length-map (t.table h) link) in
      let first : get_or (links_of tabled (written tabled h at x)) at 0 ≡ head =
      ap (λ (ls : List ℕ). get_or ls at 0) (links_written tabled h at x)
      ∙ get_or-set_same (links_of tabled h) at (link x) 0 w
      ∙ tabled.link_relinked (there tabled h at) head in
      record {
        owned = subst (λ (ys : List R). Owns (t.with_table h ys) (t.with_pool p q) loose roots) e (rw d.1 (give tabled at first (write_loose tabled at x o)));
        kept = subst (λ (ys : List R). Kept h (t.with_table h ys) loose) e (kept_off (off tabled h at x) o);
      }

-- the table of expressions

pub take_expr_of : {h : Heap} {p : Pools} {loose : List Place} {roots : List Root} (at : ℕ) (p' : Pool)
    → Took (expr_links h.exprs) p.exprs at p' → 0 < p.exprs.count → Owns h p loose roots
    → Owns h (record { exprs = p'; stmts = p.stmts; decls = p.decls }) (expr_at at ∷ loose) roots
take_expr_of = take_of exprs_tabled

pub give_expr_of : {h : Heap} {p : Pools} {loose : List Place} {roots : List Root} (at : ℕ) (t' : List ExprRecord) (p' : Pool)
    → Gave expr_relinked h.exprs p.exprs at t' p' → Owns h p (expr_at at ∷ loose) roots
    → Moved h (record { exprs = t'; stmts = h.stmts; decls = h.decls }) (record { exprs = p'; stmts = p.stmts; decls = p.decls }) loose roots
give_expr_of = give_of exprs_tabled

-- a loose record is written, and owns its parts and what follows it
pub put_expr_of : {h : Heap} {p : Pools} {loose : List Place} {rest : List Root} {x w : Row} (at : ℕ) (y : ExprRecord)
    → Owns h p (expr_at at ∷ loose) ((expr_at y.first, x) ∷ (expr_at y.next, w) ∷ rest)
    → Moved h (record { exprs = set h.exprs at y; stmts = h.stmts; decls = h.decls }) p loose ((expr_at at, node (expr_cell y).label x end end w) ∷ rest)
put_expr_of {h} at y o = record { owned = relink_expr h.exprs h.stmts h.decls at y refl o; kept = kept_off (off exprs_tabled h at y) o }

-- the table of statements

pub take_stmt_of : {h : Heap} {p : Pools} {loose : List Place} {roots : List Root} (at : ℕ) (p' : Pool)
    → Took (stmt_links h.stmts) p.stmts at p' → 0 < p.stmts.count → Owns h p loose roots
    → Owns h (record { exprs = p.exprs; stmts = p'; decls = p.decls }) (stmt_at at ∷ loose) roots
take_stmt_of = take_of stmts_tabled

pub give_stmt_of : {h : Heap} {p : Pools} {loose : List Place} {roots : List Root} (at : ℕ) (t' : List StmtRecord) (p' : Pool)
    → Gave stmt_relinked h.stmts p.stmts at t' p' → Owns h p (stmt_at at ∷ loose) roots
    → Moved h (record { exprs = h.exprs; stmts = t'; decls = h.decls }) (record { exprs = p.exprs; stmts = p'; decls = p.decls }) loose roots
give_stmt_of = give_of stmts_tabled

-- a loose record is written, and owns its parts and what follows it
pub put_stmt_of : {h : Heap} {p : Pools} {loose : List Place} {rest : List Root} {x y' z w : Row} (at : ℕ) (y : StmtRecord)
    → Owns h p (stmt_at at ∷ loose) ((expr_at y.exprs, x) ∷ (stmt_at y.stmts, y') ∷ (decl_at y.decls, z) ∷ (stmt_at y.next, w) ∷ rest)
    → Moved h (record { exprs = h.exprs; stmts = set h.stmts at y; decls = h.decls }) p loose ((stmt_at at, node (stmt_cell y).label x y' z w) ∷ rest)
put_stmt_of {h} at y o = record { owned = relink_stmt h.exprs h.stmts h.decls at y refl o; kept = kept_off (off stmts_tabled h at y) o }

-- the table of declarators

pub take_decl_of : {h : Heap} {p : Pools} {loose : List Place} {roots : List Root} (at : ℕ) (p' : Pool)
    → Took (decl_links h.decls) p.decls at p' → 0 < p.decls.count → Owns h p loose roots
    → Owns h (record { exprs = p.exprs; stmts = p.stmts; decls = p' }) (decl_at at ∷ loose) roots
take_decl_of = take_of decls_tabled

pub give_decl_of : {h : Heap} {p : Pools} {loose : List Place} {roots : List Root} (at : ℕ) (t' : List DeclRecord) (p' : Pool)
    → Gave decl_relinked h.decls p.decls at t' p' → Owns h p (decl_at at ∷ loose) roots
    → Moved h (record { exprs = h.exprs; stmts = h.stmts; decls = t' }) (record { exprs = p.exprs; stmts = p.stmts; decls = p' }) loose roots
give_decl_of = give_of decls_tabled

-- a loose record is written, and owns its parts and what follows it
pub put_decl_of : {h : Heap} {p : Pools} {loose : List Place} {rest : List Root} {x w : Row} (at : ℕ) (y : DeclRecord)
    → Owns h p (decl_at at ∷ loose) ((expr_at y.value, x) ∷ (decl_at y.next, w) ∷ rest)
    → Moved h (record { exprs = h.exprs; stmts = h.stmts; decls = set h.decls at y }) p loose ((decl_at at, node (decl_cell y).label x end end w) ∷ rest)
put_decl_of {h} at y o = record { owned = relink_decl h.exprs h.stmts h.decls at y refl o; kept = kept_off (off decls_tabled h at y) o }
