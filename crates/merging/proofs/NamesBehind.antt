-- A row of declarators behind another.
use Rattle.std.proofs.Common.{◌≡◌, ℕ, List, [], ◌∷◌, refl, ap, subst}
use Rattle.script.specs.Tree.{Declarators, declarator_then, no_declarators}
use Rattle.records.specs.declared.record.DeclRecord.{DeclRecord}
use Rattle.records.specs.declared.record.ExprRecord.{ExprRecord}
use Rattle.records.specs.declared.record.Pools.{Pools}
use Rattle.records.specs.declared.record.StmtRecord.{StmtRecord}
use Rattle.records.specs.Embedding.{declarators_row, optional_row}
use Rattle.records.specs.Heap.{decl_at, decl_label}
use Rattle.records.specs.Readable.{tables}
use Rattle.records.specs.Rows.{Row, end, node}
use Rattle.records.specs.TableOf.{decl_table}
use Rattle.rules.specs.Declarations.{append_declarators}
use Rattle.moves.specs.Front.{in_front}
use Rattle.moves.specs.Moved.{Moved, Turns, TurnsTable}

in_front_declarators : (ds xs : Declarators) → in_front (declarators_row ds) (declarators_row xs) ≡ declarators_row (append_declarators ds xs)
in_front_declarators no_declarators xs = refl
in_front_declarators (declarator_then n v ds) xs = ap (λ (r : Row). node (decl_label n) (optional_row v end) end end r) (in_front_declarators ds xs)

pub joined_names : (decls decls' : List DeclRecord) (row more joined : ℕ)
    → ((v w : Row) → TurnsTable decl_table decls decls' ((decl_at row, v) ∷ (decl_at more, w) ∷ []) ((decl_at joined, in_front v w) ∷ []))
    → (es : List ExprRecord) (ss : List StmtRecord) (p : Pools) (ds xs : Declarators)
    → Turns (tables es ss decls) p (tables es ss decls') p
    [] ((decl_at row, declarators_row ds) ∷ (decl_at more, declarators_row xs) ∷ []) ((decl_at joined, declarators_row (append_declarators ds xs)) ∷ [])
joined_names decls decls' row more joined f es ss p ds xs loose rest o =
    subst (λ (r : Row). Moved (tables es ss decls) (tables es ss decls') p loose ((decl_at joined, r) ∷ rest)) (in_front_declarators ds xs)
    (f (declarators_row ds) (declarators_row xs) (tables es ss []) p loose rest o)
