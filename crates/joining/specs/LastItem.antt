-- Where the last item of an expression stands, through sequences that end in a sequence.
use Rattle.script.specs.Tree.{Expr, Exprs, assignment, call, conditional, expr_then, logical, name, no_exprs, not, number, sequence, strict_equality, void}
use Rattle.script.specs.Tree.{word}
use Rattle.records.specs.Heap.{Heap, Place, cell}

-- the place for a row with nothing behind its first, or the place for what is behind
abbrev pub or_behind : Exprs → Place → Place → Place
or_behind no_exprs here behind = here
or_behind (expr_then e es) here behind = behind

abbrev mutual
  pub last_item_place : Heap → Place → Expr → Place
  last_item_place h k (number b) = k
  last_item_place h k (word c) = k
  last_item_place h k (name n) = k
  last_item_place h k (assignment n e) = k
  last_item_place h k (call n es) = k
  last_item_place h k (sequence e es) =
      or_behind es (last_item_place h (cell h k).exprs e) (last_of_items_place h (cell h (cell h k).exprs).next es)
  last_item_place h k (conditional t a b) = k
  last_item_place h k (logical o a b) = k
  last_item_place h k (not e) = k
  last_item_place h k (void e) = k
  last_item_place h k (strict_equality a b) = k

  pub last_of_items_place : Heap → Place → Exprs → Place
  last_of_items_place h k no_exprs = k
  last_of_items_place h k (expr_then e es) = or_behind es (last_item_place h k e) (last_of_items_place h (cell h k).next es)
