-- What becomes of an `if` that was taken apart.
use Rattle.std.specs.Prelude.{[], ◌∷◌}
use Rattle.script.specs.Tree.{Expr, Stmt}
use Rattle.records.specs.declared.record.Pools.{Pools}
use Rattle.records.specs.Embedding.{expr_row, stmt_row}
use Rattle.records.specs.Heap.{Heap, expr_at, stmt_at}
use Rattle.records.specs.Rows.{Row, end}
use Rattle.moves.specs.Moved.{Turns}
use Rattle.branching.specs.declared.parts.IfParts.{IfParts}

-- the statement is made of the test and the row of branches, in the place of the `if`
abbrev pub Becomes : IfParts → Heap → Pools → Heap → Pools → Expr → Row → Stmt → Type 0
Becomes parts h p h' p' test branches x =
    Turns h p h' p'
    (stmt_at parts.at ∷ []) ((expr_at parts.test, expr_row test end) ∷ (stmt_at parts.branches, branches) ∷ []) ((stmt_at parts.at, stmt_row x end) ∷ [])
