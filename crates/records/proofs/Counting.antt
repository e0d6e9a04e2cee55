-- A chain of links is as long as the row that it leads through.
use Rattle.std.proofs.Common.{◌≡◌, ℕ, zero, suc, ◌<◌, ◌≤◌, List, map, length, get_or, sym, refl, ap, ◌∙◌, subst, arith}
use lib.ListN.{length-map}
use Rattle.std.proofs.lemmas.List.{get_or-map}
use Rattle.pool.specs.Chain.{nowhere, Chain}
use Rattle.records.specs.Heap.{Cell, Heap, Place, cell, expr_at, stmt_at, decl_at, expr_links, stmt_links, decl_links}
use Rattle.records.specs.Rows.{Row, end, node, At, row_length}
use Rattle.records.specs.TableOf.{TableOf, Tabled}
use Rattle.records.proofs.Tables.{decls_tabled, exprs_tabled, stmts_tabled}

pub chain_unique : (links : List ℕ) (at m n : ℕ) → length links ≤ nowhere → Chain links at m → Chain links at n → m ≡ n
chain_unique links at zero zero s c d = refl
chain_unique links at zero (suc n) s c d = let q = d.0 in absurd (omega arith)
chain_unique links at (suc m) zero s c d = let q = c.0 in absurd (omega arith)
chain_unique links at (suc m) (suc n) s c d = ap suc (chain_unique links (get_or links at 0) m n s c.1 d.1)

module _ {R : Type 0} {t : TableOf R} {link : R → ℕ} {relinked : R → ℕ → R} (tabled : Tabled R t link relinked) where
  -- the record at a place, and the links of its table
  abbrev pub there : Heap → ℕ → R
  there h i = get_or (t.table h) i t.blank

  abbrev pub links_of : Heap → List ℕ
  links_of h = map link (t.table h)

  pub next_there : (h : Heap) (i : ℕ) → (cell h (t.place i)).next ≡ t.place (link (there h i))
  next_there h i = ap (λ (c : Cell). c.next) (tabled.cells h i) ∙ tabled.links (there h i)

  pub link_there : (h : Heap) (i : ℕ) → i < length (t.table h) → get_or (links_of h) i 0 ≡ link (there h i)
  link_there h i v = get_or-map link (t.table h) i t.blank 0 v

  -- what stands behind the first record of a row
  pub at_next : (h : Heap) (i : ℕ) (w : Row) → At h (cell h (t.place i)).next w → At h (t.place (link (there h i))) w
  at_next h i w a = subst (λ (k : Place). At h k w) (next_there h i) a

  pub row_chain : (h : Heap) (i : ℕ) (r : Row) → At h (t.place i) r → Chain (links_of h) i (row_length r)
  row_chain h i end a = tabled.nowhere_out i a
  row_chain h i (node l x y z w) a =
      let v = tabled.within_out h i a.0 in (
        omega (arith, length-map (t.table h) link),
        subst (λ (n : ℕ). Chain (links_of h) n (row_length w)) (sym (link_there h i v)) (row_chain h (link (there h i)) w (at_next h i w a.5)),
      )

pub expr_chain : (h : Heap) (i : ℕ) (r : Row) → At h (expr_at i) r → Chain (expr_links h.exprs) i (row_length r)
expr_chain = row_chain exprs_tabled

pub stmt_chain : (h : Heap) (i : ℕ) (r : Row) → At h (stmt_at i) r → Chain (stmt_links h.stmts) i (row_length r)
stmt_chain = row_chain stmts_tabled

pub decl_chain : (h : Heap) (i : ℕ) (r : Row) → At h (decl_at i) r → Chain (decl_links h.decls) i (row_length r)
decl_chain = row_chain decls_tabled
