-- Single records of a table, whichever it is: one written, one taken from its pool, one given back.
use Rattle.std.proofs.Common.{◌≡◌, ℕ, ◌+◌, ◌<◌, List, ◌∷◌, length, set, get_or, sym, refl, ap, ◌∙◌, subst, ⊎_elim, add-one}
use Rattle.std.proofs.Common.{arith, length-set, get_or-set_other, get_or-set_same}
use lib.ListN.{length-map}
use lib.Seq.{map-set}
use Rattle.pool.specs.Chain.{nowhere, same_place, occurrences, Chain, places}
use Rattle.pool.specs.declared.Pool.{Pool}
use Rattle.pool.proofs.Chains.{other_place, chain_set, places_set, chain_within}
use Rattle.records.specs.declared.record.Pools.{Pools}
use Rattle.records.specs.declared.record.ExprRecord.{ExprRecord}
use Rattle.records.specs.declared.record.StmtRecord.{StmtRecord}
use Rattle.records.specs.declared.record.DeclRecord.{DeclRecord}
use Rattle.records.specs.Heap.{Cell, Heap, Place, expr_at, stmt_at, decl_at, Label, cell, expr_cell, stmt_cell, decl_cell, Within, same}
use Rattle.records.specs.Heap.{expr_links, stmt_links, decl_links, spare}
use Rattle.records.specs.Rows.{Row, end, node}
use Rattle.records.specs.Owned.{Root, uses_all, loose_at, Owns}
use Rattle.records.specs.Readable.{tables}
use Rattle.records.specs.TableOf.{Elsewhere, TableOf, Tabled}
use Rattle.records.proofs.Counting.{links_of, next_there, there}
use Rattle.records.proofs.Moves.{Off, write, opened, closed, loose_spare, end_in, pick}
use Rattle.records.proofs.Sizes.{total_add, total_le, total_same}
use Rattle.records.proofs.Tables.{decls_tabled, exprs_tabled, stmts_tabled}
use Rattle.records.proofs.Tallies.{total_places}

module _ {R : Type 0} {t : TableOf R} {link : R → ℕ} {relinked : R → ℕ → R} (tabled : Tabled R t link relinked) where
  -- a fact of each place: of those in the table, and of those elsewhere
  at_each : (P : Place → Type 0) → ((j : ℕ) → P (t.place j)) → ((k : Place) → Elsewhere t k → P k) → (k : Place) → P k
  at_each P here other k = ⊎_elim (λ e. subst P (sym e.1) (here e.0)) (λ e. other k e) (tabled.each k)

  -- the heap with one record of the table written
  abbrev pub written : Heap → ℕ → R → Heap
  written h i x = t.with_table h (set (t.table h) i x)

  length_written : (h : Heap) (i : ℕ) (x : R) → length (t.table (written h i x)) ≡ length (t.table h)
  length_written h i x = rw tabled.table_with (length-set (t.table h) i x)

  pub links_written : (h : Heap) (i : ℕ) (x : R) → links_of tabled (written h i x) ≡ set (links_of tabled h) i (link x)
  links_written h i x = rw tabled.table_with (map-set link (t.table h) i x)

  pub cell_written : (h : Heap) (i : ℕ) (x : R) → i < length (t.table h) → cell (written h i x) (t.place i) ≡ t.cell_of x
  cell_written h i x v =
      tabled.cells (written h i x) i
      ∙ ap (λ xs. t.cell_of (get_or xs i t.blank)) (tabled.table_with h (set (t.table h) i x))
      ∙ ap t.cell_of (get_or-set_same (t.table h) i x t.blank v)

  pub off : (h : Heap) (i : ℕ) (x : R) → Off (t.place i) h (written h i x)
  off h i x = record {
    cells = at_each (λ k. same (t.place i) k ≡ 0 → cell (written h i x) k ≡ cell h k) cells (λ k e z. e.cells h (set (t.table h) i x));
    within = at_each (λ k. Within h k → Within (written h i x) k)
        (λ j v. let w = tabled.within_out h j v in let l = length_written h i x in tabled.within_in (written h i x) j (omega arith))
        (λ k e v. e.within_in h (set (t.table h) i x) v);
    back = at_each (λ k. Within (written h i x) k → Within h k)
        (λ j v. let w = tabled.within_out (written h i x) j v in let l = length_written h i x in tabled.within_in h j (omega arith))
        (λ k e v. e.within_out h (set (t.table h) i x) v);
  }
    where
      cells : (j : ℕ) → same (t.place i) (t.place j) ≡ 0 → cell (written h i x) (t.place j) ≡ cell h (t.place j)
      cells j z =
          tabled.cells (written h i x) j
          ∙ ap (λ xs. t.cell_of (get_or xs j t.blank)) (tabled.table_with h (set (t.table h) i x))
          ∙ ap t.cell_of (get_or-set_other (t.table h) i j x t.blank (other_place i j (sym (tabled.sames i j) ∙ z)))
          ∙ sym (tabled.cells h j)

  pub write_loose : {h : Heap} {p : Pools} {loose : List Place} {roots : List Root} (i : ℕ) (x : R)
      → Owns h p (t.place i ∷ loose) roots → Owns (written h i x) p (t.place i ∷ loose) roots
  write_loose {h} {p} i x o =
      let links = links_of tabled h in
      let head = (t.pool p).head in
      let count = (t.pool p).count in
      let z : occurrences i (places links head count) ≡ 0 = sym (tabled.spares h p i) ∙ loose_spare o in
      let l : length (set (t.table h) i x) ≡ length (t.table h) = length-set (t.table h) i x in
      let s = tabled.short h o.short in
      write (off h i x)
      (tabled.short_with h (set (t.table h) i x) o.short (omega arith))
      (tabled.chains_table h p (set (t.table h) i x) o.chains
      (rw (map-set link (t.table h) i x) (chain_set links i (link x) head count (tabled.chain h p o.chains) z)))
      (at_each (λ k. spare k (written h i x) p ≡ spare k h p)
      (λ j. tabled.spares (written h i x) p j
      ∙ ap (λ (ls : List ℕ). occurrences j (places ls head count)) (links_written h i x)
      ∙ ap (occurrences j) (places_set links i (link x) head count z)
      ∙ sym (tabled.spares h p j))
      (λ k e. e.spares_table h (set (t.table h) i x) p))
      o

  -- a loose record is written, and owns its parts and what follows it
  pub put : {h : Heap} {p : Pools} {loose : List Place} {rest : List Root} {l : Label} {x y z w : Row} (i : ℕ) (r : R) → (t.cell_of r).label ≡ l
      → Owns h p (t.place i ∷ loose) (((t.cell_of r).exprs, x) ∷ ((t.cell_of r).stmts, y) ∷ ((t.cell_of r).decls, z) ∷ ((t.cell_of r).next, w) ∷ rest)
      → Owns (written h i r) p loose ((t.place i, node l x y z w) ∷ rest)
  put {h} i r e o =
      closed (cell_written h i r (tabled.within_out h i o.inside.0)
      ∙ (λ k. record { label = e k; exprs = (t.cell_of r).exprs; stmts = (t.cell_of r).stmts; decls = (t.cell_of r).decls; next = (t.cell_of r).next }))
      (write_loose i r o)

  -- the first record of a row goes in front of another
  pub relink_first : {h : Heap} {p : Pools} {loose : List Place} {rest : List Root} (i b : ℕ) {l : Label} {x y z w v : Row}
      → Owns h p loose ((t.place i, node l x y z w) ∷ (t.place b, v) ∷ rest)
      → Owns (written h i (relinked (there tabled h i) b)) p loose ((t.place (link (there tabled h i)), w) ∷ (t.place i, node l x y z v) ∷ rest)
  relink_first {h} {p} {loose} {rest} i b {l} {x} {y} {z} {w} {v} o =
      let r = there tabled h i in
      let n = relinked r b in
      let told : cell (written h i n) (t.place i) ≡ record {
        label = l;
        exprs = (cell h (t.place i)).exprs;
        stmts = (cell h (t.place i)).stmts;
        decls = (cell h (t.place i)).decls;
        next = t.place b;
      } =
      cell_written h i n (tabled.within_out h i o.held.0.0)
      ∙ tabled.relinks r b
      ∙ ap (λ (c : Cell). record { label = c.label; exprs = c.exprs; stmts = c.stmts; decls = c.decls; next = t.place b }) (sym (tabled.cells h i))
      ∙ (λ k. record {
        label = o.held.0.1 k;
        exprs = (cell h (t.place i)).exprs;
        stmts = (cell h (t.place i)).stmts;
        decls = (cell h (t.place i)).decls;
        next = t.place b;
      }) in
      subst (λ (k : Place). Owns (written h i n) p loose ((k, w) ∷ (t.place i, node l x y z v) ∷ rest)) (next_there tabled h i)
      (pick 1 (closed told (pick 3 (pick 3 (pick 3 (pick 4 (write_loose i n (opened o))))))))

  spares_with : (h : Heap) (p : Pools) (q : Pool) (j : ℕ) → spare (t.place j) h (t.with_pool p q) ≡ occurrences j (places (links_of tabled h) q.head q.count)
  spares_with h p q j =
      tabled.spares h (t.with_pool p q) j ∙ ap (λ (r : Pool). occurrences j (places (links_of tabled h) r.head r.count)) (tabled.pool_with p q)

  -- the first spare becomes a loose place
  pub take : {h : Heap} {p : Pools} {loose : List Place} {rest : List Root} (q : Pool) (i : ℕ)
      → places (links_of tabled h) (t.pool p).head (t.pool p).count ≡ i ∷ places (links_of tabled h) q.head q.count
      → Chain (links_of tabled h) q.head q.count → Owns h p loose rest → Owns h (t.with_pool p q) (t.place i ∷ loose) rest
  take {h} {p} {loose} {rest} q i e ch o =
      let links = links_of tabled h in
      let v = chain_within links (t.pool p).head (t.pool p).count i (places links q.head q.count) (tabled.chain h p o.chains) e in
      record {
        short = o.short;
        inside = (tabled.within_in h i (omega (arith, length-map (t.table h) link)), o.inside);
        held = o.held;
        chains = tabled.chains_pool h p q o.chains ch;
        once = at_each (λ k. Within h k → loose_at k (t.place i ∷ loose) + (uses_all k h rest + spare k h (t.with_pool p q)) ≡ 1)
            (λ j w.
            let n = o.once (t.place j) w in
            let a = tabled.spares h p j in
            let b = spares_with h p q j in
            let c = ap (occurrences j) e in
            let d = tabled.sames j i in
            omega arith)
            (λ k f w. let n = o.once k w in let a = f.apart i in let b = f.spares_pool h p q in omega arith);
      }

  -- a loose record whose link is the first spare becomes the first spare
  pub give : {h : Heap} {p : Pools} {loose : List Place} {roots : List Root} (i : ℕ) → get_or (links_of tabled h) i 0 ≡ (t.pool p).head
      → Owns h p (t.place i ∷ loose) roots → Owns h (t.with_pool p (record { head = i; count = (t.pool p).count + 1 })) loose roots
  give {h} {p} {loose} {roots} i e o =
      let links = links_of tabled h in
      let q : Pool = record { head = i; count = (t.pool p).count + 1 } in
      let v = tabled.within_out h i o.inside.0 in
      let c : Chain links i ((t.pool p).count + 1) = rw add-one (omega (arith, length-map (t.table h) link), rw e (tabled.chain h p o.chains)) in
      record {
        short = o.short;
        inside = o.inside.1;
        held = o.held;
        chains = tabled.chains_pool h p q o.chains c;
        once = at_each (λ k. Within h k → loose_at k loose + (uses_all k h roots + spare k h (t.with_pool p q)) ≡ 1)
            (λ j w.
            let n = o.once (t.place j) w in
            let a = tabled.spares h p j in
            let b = spares_with h p q j in
            let c : occurrences j (places links i ((t.pool p).count + 1)) ≡ same_place j i + occurrences j (places links (t.pool p).head (t.pool p).count) =
            rw add-one (rw e refl) in
            let d = tabled.sames j i in
            omega arith)
            (λ k f w. let n = o.once k w in let a = f.apart i in let b = f.spares_pool h p q in omega arith);
      }

  -- a loose place is none of the spares, so that they are fewer than the records
  pub spares_fewer : {h : Heap} {p : Pools} {loose : List Place} {roots : List Root} (i : ℕ) → Owns h p (t.place i ∷ loose) roots
      → (t.pool p).count < length (t.table h)
  spares_fewer {h} {p} {loose} i o =
      let n = length (t.table h) in
      let of : ℕ → ℕ = λ j. occurrences j (places (links_of tabled h) (t.pool p).head (t.pool p).count) in
      let a = total_add n (λ j. same_place j i) of in
      let b = total_same n i (tabled.within_out h i o.inside.0) in
      let c = total_places (links_of tabled h) (t.pool p).head (t.pool p).count n (sym (length-map (t.table h) link)) (tabled.chain h p o.chains) in
      let d = total_le n (λ j. same_place j i + of j) (λ j v.
      let u = o.once (t.place j) (tabled.within_in h j v) in let s = tabled.spares h p j in let k = tabled.sames j i in omega arith) in
      omega arith

-- a record of two rows has none of the others
no_others : {h : Heap} {p : Pools} {loose : List Place} {rest : List Root} {a b : Root} → Owns h p loose (a ∷ b ∷ rest)
    → Owns h p loose (a ∷ (stmt_at nowhere, end) ∷ (decl_at nowhere, end) ∷ b ∷ rest)
no_others o = pick 2 (end_in (stmt_at nowhere) refl (end_in (decl_at nowhere) refl o))

-- the table of expressions
pub relink_expr : (exprs : List ExprRecord) (stmts : List StmtRecord) (decls : List DeclRecord) (i : ℕ) (y : ExprRecord)
    {p : Pools} {loose : List Place} {rest : List Root} {l : Label} {x w : Row} → (expr_cell y).label ≡ l
    → Owns (tables exprs stmts decls) p (expr_at i ∷ loose) ((expr_at y.first, x) ∷ (expr_at y.next, w) ∷ rest)
    → Owns (tables (set exprs i y) stmts decls) p loose ((expr_at i, node l x end end w) ∷ rest)
relink_expr exprs stmts decls i y r o = put exprs_tabled i y r (no_others o)

pub take_expr : {h : Heap} {p : Pools} {loose : List Place} {rest : List Root} (q : Pool) (i : ℕ)
    → places (expr_links h.exprs) p.exprs.head p.exprs.count ≡ i ∷ places (expr_links h.exprs) q.head q.count → Chain (expr_links h.exprs) q.head q.count
    → Owns h p loose rest → Owns h (record { exprs = q; stmts = p.stmts; decls = p.decls }) (expr_at i ∷ loose) rest
take_expr q i e c o = take exprs_tabled q i e c o

-- the table of statements
pub relink_stmt : (exprs : List ExprRecord) (stmts : List StmtRecord) (decls : List DeclRecord) (i : ℕ) (y : StmtRecord)
    {p : Pools} {loose : List Place} {rest : List Root} {l : Label} {x x' x'' w : Row} → (stmt_cell y).label ≡ l
    → Owns (tables exprs stmts decls) p (stmt_at i ∷ loose)
    ((expr_at y.exprs, x) ∷ (stmt_at y.stmts, x') ∷ (decl_at y.decls, x'') ∷ (stmt_at y.next, w) ∷ rest)
    → Owns (tables exprs (set stmts i y) decls) p loose ((stmt_at i, node l x x' x'' w) ∷ rest)
relink_stmt exprs stmts decls i y r o = put stmts_tabled i y r o

pub take_stmt : {h : Heap} {p : Pools} {loose : List Place} {rest : List Root} (q : Pool) (i : ℕ)
    → places (stmt_links h.stmts) p.stmts.head p.stmts.count ≡ i ∷ places (stmt_links h.stmts) q.head q.count → Chain (stmt_links h.stmts) q.head q.count
    → Owns h p loose rest → Owns h (record { exprs = p.exprs; stmts = q; decls = p.decls }) (stmt_at i ∷ loose) rest
take_stmt q i e c o = take stmts_tabled q i e c o

-- the table of declarators
pub relink_decl : (exprs : List ExprRecord) (stmts : List StmtRecord) (decls : List DeclRecord) (i : ℕ) (y : DeclRecord)
    {p : Pools} {loose : List Place} {rest : List Root} {l : Label} {x w : Row} → (decl_cell y).label ≡ l
    → Owns (tables exprs stmts decls) p (decl_at i ∷ loose) ((expr_at y.value, x) ∷ (decl_at y.next, w) ∷ rest)
    → Owns (tables exprs stmts (set decls i y)) p loose ((decl_at i, node l x end end w) ∷ rest)
relink_decl exprs stmts decls i y r o = put decls_tabled i y r (no_others o)

pub take_decl : {h : Heap} {p : Pools} {loose : List Place} {rest : List Root} (q : Pool) (i : ℕ)
    → places (decl_links h.decls) p.decls.head p.decls.count ≡ i ∷ places (decl_links h.decls) q.head q.count → Chain (decl_links h.decls) q.head q.count
    → Owns h p loose rest → Owns h (record { exprs = p.exprs; stmts = p.stmts; decls = q }) (decl_at i ∷ loose) rest
take_decl q i e c o = take decls_tabled q i e c o
