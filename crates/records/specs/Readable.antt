-- Rows that can be read: they are there, and no larger than the tables together.
use Rattle.std.specs.Prelude.{ℕ, zero, suc, ◌+◌, ◌≤◌, Bool, cond, List, length, nat_lt}
use Rattle.records.specs.declared.record.ExprRecord.{ExprRecord}
use Rattle.records.specs.declared.record.StmtRecord.{StmtRecord}
use Rattle.records.specs.declared.record.DeclRecord.{DeclRecord}
use Rattle.records.specs.Heap.{Heap, Place, expr_at, stmt_at, decl_at, cell}
use Rattle.records.specs.Rows.{Row, At, size}
use Rattle.records.specs.Owned.{Short}

-- three tables as a heap
abbrev pub tables : List ExprRecord → List StmtRecord → List DeclRecord → Heap
tables e s d = record { exprs = e; stmts = s; decls = d }

-- how many records the tables have
abbrev pub records : Heap → ℕ
records h = length h.exprs + (length h.stmts + length h.decls)

abbrev pub is_within : Heap → Place → Bool
is_within h (expr_at i) = nat_lt i (length h.exprs)
is_within h (stmt_at i) = nat_lt i (length h.stmts)
is_within h (decl_at i) = nat_lt i (length h.decls)

-- how many records are reached from a place by n steps at most
abbrev pub reach : Heap → Place → ℕ → ℕ
reach h k zero = 0
reach h k (suc n) =
    cond (is_within h k) (suc (reach h (cell h k).exprs n + (reach h (cell h k).stmts n + (reach h (cell h k).decls n + reach h (cell h k).next n)))) 0

-- the measure of a reading: what is reached by as many steps as there are records
abbrev pub reached : Heap → Place → ℕ
reached h k = reach h k (records h)

-- some row stands there, of no more records than there are
abbrev pub Readable : Heap → Place → Type 0
Readable h k = (r : Row) × At h k r × (size r ≤ records h) × Short h
