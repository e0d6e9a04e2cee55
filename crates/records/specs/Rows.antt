-- Rows of records as trees, and where a heap holds one.
use Rattle.std.specs.Prelude.{◌≡◌, ℕ, suc, ◌+◌}
use Rattle.records.specs.Heap.{Heap, Place, Label, cell, Within, Nowhere, same}

-- a row: none, or a first record with its label and its rows of expressions, statements and declarators, and the others
pub data Row : Type 0 where
  end : Row
  node : Label → Row → Row → Row → Row → Row

-- the heap holds this row from the place on
abbrev pub At : Heap → Place → Row → Type 0
At h k end = Nowhere k
At h k (node l x y z w) =
    Within h k × ((cell h k).label ≡ l) × At h (cell h k).exprs x × At h (cell h k).stmts y × At h (cell h k).decls z × At h (cell h k).next w

-- how often the row there uses the record at q
abbrev pub uses : Place → Heap → Place → Row → ℕ
uses q h k end = 0
uses q h k (node l x y z w) =
    same q k + (uses q h (cell h k).exprs x + (uses q h (cell h k).stmts y + (uses q h (cell h k).decls z + uses q h (cell h k).next w)))

-- how many records, the parts' too
abbrev pub size : Row → ℕ
size end = 0
size (node l x y z w) = suc (size x + (size y + (size z + size w)))

-- how many records stand in the row itself
abbrev pub row_length : Row → ℕ
row_length end = 0
row_length (node l x y z w) = suc (row_length w)
