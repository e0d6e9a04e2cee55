-- One of the three tables, as a part of the heap.
use Rattle.std.specs.Prelude.{◌≡◌, ℕ, ◌+◌, ◌<◌, ◌≤◌, ◌⊎◌, List, map, length, slice_index_or}
use Rattle.pool.specs.Chain.{Chain, nowhere, occurrences, places, same_place}
use Rattle.pool.specs.declared.Pool.{Pool}
use Rattle.script.specs.Judge.{Spares}
use Rattle.script.specs.Sound.{plus}
use Rattle.records.specs.declared.record.DeclRecord.{DeclRecord}
use Rattle.records.specs.declared.record.ExprRecord.{ExprRecord}
use Rattle.records.specs.declared.record.Pools.{Pools}
use Rattle.records.specs.declared.record.StmtRecord.{StmtRecord}
use Rattle.records.specs.Heap.{Cell, Heap, Label, Nowhere, Place, Within, blank_decl, blank_expr, blank_stmt, cell, decl_at, decl_cell, decl_label}
use Rattle.records.specs.Heap.{expr_at, expr_cell, expr_label, same, spare, stmt_at, stmt_cell, stmt_label}
use Rattle.records.specs.Owned.{Chains, Short}
use Rattle.records.specs.Readable.{tables}

-- one record, by the table of its label
abbrev pub of_label : Label → Spares
of_label (expr_label k) = record { exprs = 1; stmts = 0; decls = 0 }
of_label (stmt_label k) = record { exprs = 0; stmts = 1; decls = 0 }
of_label (decl_label n) = record { exprs = 0; stmts = 0; decls = 1 }

-- how its records are placed, read past its end, and told as cells; the heap with another such table, and the pools with
-- another of its spares; and which of three numbers counts its records
pub record TableOf (R : Type 0) : Type 0 where
  pub place : ℕ → Place
  pub blank : R
  pub cell_of : R → Cell
  pub table : Heap → List R
  pub with_table : Heap → List R → Heap
  pub pool : Pools → Pool
  pub with_pool : Pools → Pool → Pools
  pub count : Spares → ℕ

abbrev pub expr_table : TableOf ExprRecord
expr_table = record {
  place = expr_at;
  blank = blank_expr;
  cell_of = expr_cell;
  table = λ (h : Heap). h.exprs;
  with_table = λ (h : Heap) t. tables t h.stmts h.decls;
  pool = λ (p : Pools). p.exprs;
  with_pool = λ (p : Pools) q. record { exprs = q; stmts = p.stmts; decls = p.decls };
  count = λ (n : Spares). n.exprs;
}

abbrev pub stmt_table : TableOf StmtRecord
stmt_table = record {
  place = stmt_at;
  blank = blank_stmt;
  cell_of = stmt_cell;
  table = λ (h : Heap). h.stmts;
  with_table = λ (h : Heap) t. tables h.exprs t h.decls;
  pool = λ (p : Pools). p.stmts;
  with_pool = λ (p : Pools) q. record { exprs = p.exprs; stmts = q; decls = p.decls };
  count = λ (n : Spares). n.stmts;
}

abbrev pub decl_table : TableOf DeclRecord
decl_table = record {
  place = decl_at;
  blank = blank_decl;
  cell_of = decl_cell;
  table = λ (h : Heap). h.decls;
  with_table = λ (h : Heap) t. tables h.exprs h.stmts t;
  pool = λ (p : Pools). p.decls;
  with_pool = λ (p : Pools) q. record { exprs = p.exprs; stmts = p.stmts; decls = q };
  count = λ (n : Spares). n.decls;
}

-- a place in another table: nothing there depends on this one or on its spares
pub record Elsewhere {R : Type 0} (t : TableOf R) (k : Place) : Type 0 where
  pub apart : (i : ℕ) → same k (t.place i) ≡ 0
  pub cells : (h : Heap) (xs : List R) → cell (t.with_table h xs) k ≡ cell h k
  pub within_in : (h : Heap) (xs : List R) → Within h k → Within (t.with_table h xs) k
  pub within_out : (h : Heap) (xs : List R) → Within (t.with_table h xs) k → Within h k
  pub spares_table : (h : Heap) (xs : List R) (p : Pools) → spare k (t.with_table h xs) p ≡ spare k h p
  pub spares_pool : (h : Heap) (p : Pools) (q : Pool) → spare k h (t.with_pool p q) ≡ spare k h p

-- what holds of each table, its records linked so
pub record Tabled (R : Type 0) (t : TableOf R) (link : R → ℕ) (relinked : R → ℕ → R) : Type 0 where
  -- where its places are, and that all others are elsewhere
  pub nowhere_in : (i : ℕ) → i ≡ nowhere → Nowhere (t.place i)
  pub nowhere_out : (i : ℕ) → Nowhere (t.place i) → i ≡ nowhere
  pub within_in : (h : Heap) (i : ℕ) → i < length (t.table h) → Within h (t.place i)
  pub within_out : (h : Heap) (i : ℕ) → Within h (t.place i) → i < length (t.table h)
  pub sames : (i j : ℕ) → same (t.place i) (t.place j) ≡ same_place i j
  pub each : (k : Place) → ((i : ℕ) × (k ≡ t.place i)) ⊎ Elsewhere t k
  -- what stands there
  pub cells : (h : Heap) (i : ℕ) → cell h (t.place i) ≡ t.cell_of (slice_index_or (t.table h) i t.blank)
  pub links : (x : R) → (t.cell_of x).next ≡ t.place (link x)
  pub link_relinked : (x : R) (n : ℕ) → link (relinked x n) ≡ n
  pub relinks : (x : R) (n : ℕ) → t.cell_of (relinked x n) ≡ record {
    label = (t.cell_of x).label;
    exprs = (t.cell_of x).exprs;
    stmts = (t.cell_of x).stmts;
    decls = (t.cell_of x).decls;
    next = t.place n;
  }
  -- the heap with another table, the pools with another of them
  pub table_with : (h : Heap) (xs : List R) → t.table (t.with_table h xs) ≡ xs
  pub with_with : (h : Heap) (xs ys : List R) → t.with_table (t.with_table h xs) ys ≡ t.with_table h ys
  pub pool_with : (p : Pools) (q : Pool) → t.pool (t.with_pool p q) ≡ q
  -- how long it may be
  pub short : (h : Heap) → Short h → length (t.table h) ≤ nowhere
  pub short_with : (h : Heap) (xs : List R) → Short h → length xs ≤ nowhere → Short (t.with_table h xs)
  -- its spares
  pub spares : (h : Heap) (p : Pools) (i : ℕ) → spare (t.place i) h p ≡ occurrences i (places (map link (t.table h)) (t.pool p).head (t.pool p).count)
  pub chain : (h : Heap) (p : Pools) → Chains h p → Chain (map link (t.table h)) (t.pool p).head (t.pool p).count
  pub chains_table : (h : Heap) (p : Pools) (xs : List R) → Chains h p → Chain (map link xs) (t.pool p).head (t.pool p).count → Chains (t.with_table h xs) p
  pub chains_pool : (h : Heap) (p : Pools) (q : Pool) → Chains h p → Chain (map link (t.table h)) q.head q.count → Chains h (t.with_pool p q)
  -- how many records it has
  pub counts_plus : (a b : Spares) → t.count (plus a b) ≡ t.count a + t.count b
  pub counts_all : (h : Heap) → t.count (record { exprs = length h.exprs; stmts = length h.stmts; decls = length h.decls }) ≡ length (t.table h)
  pub counts_one : (h : Heap) (i : ℕ) (l : Label) → (cell h (t.place i)).label ≡ l → t.count (of_label l) ≡ 1
