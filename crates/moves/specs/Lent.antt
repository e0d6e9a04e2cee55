-- Lent tables as a heap, and what a routine makes of the rows in them.
use Rattle.std.specs.Prelude.{◌≡◌, List, length}
use Rattle.records.specs.Heap.{Heap, Place}
use Rattle.records.specs.Owned.{Root}
use Rattle.records.specs.Readable.{tables}
use Rattle.moves.specs.declared.tables.Tables.{Tables}
use Rattle.moves.specs.Moved.{Turns}

abbrev pub heap : Tables → Heap
heap t = tables t.exprs.now t.stmts.now t.decls.now

-- the same three slices are lent, and none is longer or shorter than it was
abbrev pub SameSlices : Tables → Tables → Type 0
SameSlices t t' =
    (t'.exprs.ghost_name ≡ t.exprs.ghost_name) × (t'.stmts.ghost_name ≡ t.stmts.ghost_name) × (t'.decls.ghost_name ≡ t.decls.ghost_name)
    × (length t'.exprs.now ≡ length t.exprs.now) × (length t'.stmts.now ≡ length t.stmts.now) × (length t'.decls.now ≡ length t.decls.now)

-- whoever owned these rows and loose places owns those rows afterwards, and all else stands as it stood
abbrev pub Makes : Tables → Tables → List Place → List Root → List Root → Type 0
Makes t t' cells before after = Turns (heap t) t.pools (heap t') t'.pools cells before after
