-- Who owns the records: each is used once, by a root's row, by a chain of spares, or as a loose place.
use Rattle.std.specs.Prelude.{◌≡◌, ℕ, ◌+◌, ◌≤◌, List, [], ◌∷◌, length}
use Rattle.pool.specs.Chain.{nowhere, Chain}
use Rattle.records.specs.declared.record.Pools.{Pools}
use Rattle.records.specs.Heap.{Heap, Place, Within, same, expr_links, stmt_links, decl_links, spare}
use Rattle.records.specs.Rows.{Row, At, uses}

-- a place and the row that stands there
abbrev pub Root : Type 0
Root = Place × Row

abbrev pub Held : Heap → List Root → Type 0
Held h [] = Unit {0}
Held h (r ∷ rs) = At h r.0 r.1 × Held h rs

abbrev pub uses_all : Place → Heap → List Root → ℕ
uses_all q h [] = 0
uses_all q h (r ∷ rs) = uses q h r.0 r.1 + uses_all q h rs

abbrev pub Inside : Heap → List Place → Type 0
Inside h [] = Unit {0}
Inside h (k ∷ ks) = Within h k × Inside h ks

abbrev pub loose_at : Place → List Place → ℕ
loose_at q [] = 0
loose_at q (k ∷ ks) = same q k + loose_at q ks

-- every link can be told from nowhere
pub record Short (h : Heap) : Type 0 where
  pub exprs : length h.exprs ≤ nowhere
  pub stmts : length h.stmts ≤ nowhere
  pub decls : length h.decls ≤ nowhere

-- no table is over its limit, so that a count fits two bytes
pub record Limited (h : Heap) : Type 0 where
  pub exprs : length h.exprs ≤ 32768
  pub stmts : length h.stmts ≤ 4096
  pub decls : length h.decls ≤ 4096

pub record Chains (h : Heap) (p : Pools) : Type 0 where
  pub exprs : Chain (expr_links h.exprs) p.exprs.head p.exprs.count
  pub stmts : Chain (stmt_links h.stmts) p.stmts.head p.stmts.count
  pub decls : Chain (decl_links h.decls) p.decls.head p.decls.count

-- the roots stand there, the chains of spares are those of the pools, and nothing else is in the tables but the loose places
pub record Owns (h : Heap) (p : Pools) (loose : List Place) (roots : List Root) : Type 0 where
  pub short : Short h
  pub inside : Inside h loose
  pub held : Held h roots
  pub chains : Chains h p
  -- each record is reached exactly once
  pub once : (q : Place) → Within h q → loose_at q loose + (uses_all q h roots + spare q h p) ≡ 1
