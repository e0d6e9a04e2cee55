-- What a routine does to the records: it makes other rows of those that it was handed, and every other row stands as it stood.
use Rattle.std.specs.Prelude.{◌≡◌, ◌≤◌, List, [], ◌++◌}
use Rattle.records.specs.declared.record.Pools.{Pools}
use Rattle.records.specs.Heap.{Heap, Place, cell}
use Rattle.records.specs.Owned.{Owns, Root, loose_at}
use Rattle.records.specs.TableOf.{TableOf}

-- the records at these places are as they were
pub record Kept (h h' : Heap) (loose : List Place) : Type 0 where
  pub cells : (k : Place) → 1 ≤ loose_at k loose → cell h' k ≡ cell h k

-- the roots are owned now, and the loose places were not written
pub record Moved (h h' : Heap) (p' : Pools) (loose : List Place) (roots : List Root) : Type 0 where
  pub owned : Owns h' p' loose roots
  pub kept : Kept h h' loose

-- Whoever owned the rows before and these loose places, beside any others, owns the rows after, beside the same others.
abbrev pub Turns : Heap → Pools → Heap → Pools → List Place → List Root → List Root → Type 0
Turns h p h' p' cells before after =
    (loose : List Place) (rest : List Root) → Owns h p (cells ++ loose) (before ++ rest) → Moved h h' p' loose (after ++ rest)

-- the same of one table, whatever stands in the others
abbrev pub TurnsTable : {R : Type 0} → TableOf R → List R → List R → List Root → List Root → Type 0
TurnsTable t xs xs' before after = (h : Heap) (p : Pools) → Turns (t.with_table h xs) p (t.with_table h xs') p [] before after
