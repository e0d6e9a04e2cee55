-- The last record of a row, and rows in front of others.
use Rattle.std.specs.Prelude.{◌≡◌, ℕ, ◌<◌, List, length}
use Rattle.script.specs.Tree.{Exprs, expr_then, no_exprs}
use Rattle.records.specs.Embedding.{expr_row}
use Rattle.records.specs.Heap.{Heap, Label, Place, cell}
use Rattle.records.specs.Owned.{Short}
use Rattle.records.specs.Rows.{At, Row, end, node, row_length}
use Rattle.records.specs.TableOf.{TableOf}

-- the place of the last record of a row, whose first is at a place and has these behind it
abbrev pub last_place : Heap → Place → Row → Place
last_place h k end = k
last_place h k (node l x y z w) = last_place h (cell h k).next w

-- whatever row stands there, if it is no longer than its table: this is the place of its last record
abbrev pub IsLast : {R : Type 0} → TableOf R → List R → ℕ → ℕ → Type 0
IsLast t xs row last =
    (h : Heap) (l : Label) (x y z w : Row) → Short (t.with_table h xs) → At (t.with_table h xs) (t.place row) (node l x y z w)
    → row_length w < length xs → t.place last ≡ last_place (t.with_table h xs) (t.place row) w

-- the place of the last expression of a row, whose first is at a place and has these behind it
abbrev pub last_behind : Heap → Place → Exprs → Place
last_behind h k no_exprs = k
last_behind h k (expr_then e es) = last_behind h (cell h k).next es

-- expressions in front of a row
abbrev pub exprs_before : Exprs → Row → Row
exprs_before no_exprs w = w
exprs_before (expr_then e es) w = expr_row e (exprs_before es w)
