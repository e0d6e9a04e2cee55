-- A row in front of another, and the last place of a chain.
use Rattle.std.specs.Prelude.{ℕ, zero, suc, List, slice_index}
use Rattle.records.specs.Rows.{Row, end, node}

-- the records of a row, and then another row
abbrev pub in_front : Row → Row → Row
in_front end v = v
in_front (node l x y z w) v = node l x y z (in_front w v)

-- where n links lead from a place
abbrev pub links_on : List ℕ → ℕ → ℕ → ℕ
links_on links at zero = at
links_on links at (suc n) = links_on links (slice_index links at) n

-- the records of a row one after the other in front of another row
abbrev pub turned_onto : Row → Row → Row
turned_onto end v = v
turned_onto (node l x y z w) v = turned_onto w (node l x y z v)
