-- The head of a `for` while it is worked.
use Rattle.std.specs.Prelude.{◌≡◌, Bool, true, false, List, [], ◌∷◌, ◌++◌}
use Rattle.script.specs.declared.DeclarationKind.{DeclarationKind}
use Rattle.script.specs.declared.DeclarationKind.TheVariants.{Const, Let, Var}
use Rattle.script.specs.declared.StatementKind.{StatementKind}
use Rattle.script.specs.declared.StatementKind.TheVariants as kind
use Rattle.script.specs.Tree.{Expr, Init, OptionalExpr, Stmts, absent, present}
use Rattle.records.specs.declared.record.Pools.{Pools}
use Rattle.records.specs.Embedding.{init_exprs, init_kind, init_stmts, stmts_row}
use Rattle.records.specs.Heap.{Heap, Place, expr_at, stmt_at}
use Rattle.records.specs.Owned.{Owns, Root}
use Rattle.records.specs.Rows.{Row}
use Rattle.rules.specs.Expressions.{join_sequence}
use Rattle.rules.specs.For.{WorkedHead, head_from}
use Rattle.rules.specs.Merging.{Worked, merge_leading_assignments_to_declaration}
use Rattle.moves.specs.Moved.{Moved}
use Rattle.heading.specs.declared.heads.Front.{Front}

abbrev pub is_expression_kind : StatementKind → Bool
is_expression_kind kind.Empty = false
is_expression_kind kind.Expression = true
is_expression_kind (kind.Declaration d) = false
is_expression_kind kind.Return = false
is_expression_kind kind.Throw = false
is_expression_kind kind.If = false
is_expression_kind kind.Block = false
is_expression_kind kind.While = false
is_expression_kind kind.DoWhile = false
is_expression_kind (kind.For h) = false
is_expression_kind kind.Switch = false
is_expression_kind kind.Case = false
is_expression_kind kind.Break = false
is_expression_kind kind.Continue = false

abbrev pub is_var : DeclarationKind → Bool
is_var Var = true
is_var Let = false
is_var Const = false

abbrev pub is_var_kind : StatementKind → Bool
is_var_kind kind.Empty = false
is_var_kind kind.Expression = false
is_var_kind (kind.Declaration d) = is_var d
is_var_kind kind.Return = false
is_var_kind kind.Throw = false
is_var_kind kind.If = false
is_var_kind kind.Block = false
is_var_kind kind.While = false
is_var_kind kind.DoWhile = false
is_var_kind (kind.For h) = false
is_var_kind kind.Switch = false
is_var_kind kind.Case = false
is_var_kind kind.Break = false
is_var_kind kind.Continue = false

-- an expression before the init, or alone
abbrev pub joined_init : Expr → OptionalExpr → Expr
joined_init a absent = a
joined_init a (present e) = join_sequence a e

abbrev pub head_with : Init → Stmts → WorkedHead
head_with i r = record { init = i; results = r }

-- the head after the leading assignments of its init
abbrev pub worked_head : Bool → Expr → Stmts → WorkedHead
worked_head q e r = let w : Worked = merge_leading_assignments_to_declaration true e r in head_from q w.target w.results

-- what stands at the places of a front
abbrev pub rows_of : Front → Row → Row → Stmts → List Root
rows_of f w y r = (expr_at f.values, w) ∷ (stmt_at f.inner, y) ∷ (stmt_at f.results, stmts_row r) ∷ []

-- the rows of a head, before the others of the `for`, and the results before it
abbrev pub head_rows : Front → WorkedHead → Row → Row → List Root
head_rows f head w y = rows_of f (init_exprs head.init w) (init_stmts head.init y) head.results

-- the head is there, and it has this init
pub record HasHead (h h' : Heap) (p' : Pools) (loose : List Place) (rest : List Root) (f : Front) (head : WorkedHead) (w y : Row) : Type 0 where
  pub init : f.init ≡ init_kind head.init
  pub moved : Moved h h' p' loose (head_rows f head w y ++ rest)

-- whoever owned the rows before, beside any others, owns the head, beside the same others
abbrev pub TurnsToHead : Heap → Pools → Heap → Pools → List Root → Front → WorkedHead → Row → Row → Type 0
TurnsToHead h p h' p' before f head w y =
    (loose : List Place) (rest : List Root) → Owns h p loose (before ++ rest) → HasHead h h' p' loose rest f head w y
