-- The search for the declarator that takes an assigned value. It goes from the last declarator to the first.
use Rattle.std.specs.Prelude.{ℕ, Bool, true, false, cond, not, List, ◌∷◌, ◌==◌, slice_index_or, Option, None, Some}
use Rattle.pool.specs.Chain.{nowhere}
use Rattle.script.specs.declared.DeclarationKind.{DeclarationKind}
use Rattle.script.specs.declared.DeclarationKind.TheVariants.{Const, Let, Var}
use Rattle.script.specs.Tree.{Declarators, Expr, declarator_then, no_declarators}
use Rattle.records.specs.declared.record.DeclRecord.{DeclRecord}
use Rattle.records.specs.Embedding.{declarators_row, expr_row, is_present}
use Rattle.records.specs.Heap.{blank_decl, decl_at, expr_at}
use Rattle.records.specs.Owned.{Root}
use Rattle.records.specs.Rows.{end}
use Rattle.rules.specs.Merging.{Merge, blocked, clear, merged, mergeable}

-- it goes on, it stops with no declarator, or with the one at a place
pub data Searched : Type 0 where
  passed stopped : Searched
  found : ℕ → Searched

abbrev passed_by : DeclarationKind → Searched
passed_by Var = passed
passed_by Let = stopped
passed_by Const = stopped

-- at one declarator: is it of the assigned name, has it a value, and where is it
abbrev pub searched_here : DeclarationKind → Bool → Bool → Bool → ℕ → Searched
searched_here k l b true i = stopped
searched_here k l true false i = cond (mergeable k l) (found i) stopped
searched_here k l false false i = passed_by k

abbrev pub later_or : Searched → Searched → Searched
later_or passed here = here
later_or stopped here = stopped
later_or (found j) here = found j

-- among the declarators of a row
abbrev pub searched : List DeclRecord → DeclarationKind → Bool → ℕ → Declarators → ℕ → Searched
searched decls k l n no_declarators i = passed
searched decls k l n (declarator_then m v ds) i =
    later_or (searched decls k l n ds (slice_index_or decls i blank_decl).next) (searched_here k l (m == n) (is_present v) i)

-- the place that it found, none where it stopped, or what was found among the declarators before
abbrev pub place_or : Option ℕ → Searched → Option ℕ
place_or f passed = f
place_or f stopped = None
place_or f (found j) = Some j

-- does the link lead to a value
abbrev pub leads : ℕ → Bool
leads i = not (i == nowhere)

-- was the assigned value merged, and who owns what then

abbrev pub is_merged : Merge → Bool
is_merged (merged ds) = true
is_merged blocked = false
is_merged clear = false

abbrev pub merged_roots : ℕ → Declarators → ℕ → Expr → Merge → List Root → List Root
merged_roots names ds value e (merged ds') rest = (decl_at names, declarators_row ds') ∷ rest
merged_roots names ds value e blocked rest = (decl_at names, declarators_row ds) ∷ (expr_at value, expr_row e end) ∷ rest
merged_roots names ds value e clear rest = (decl_at names, declarators_row ds) ∷ (expr_at value, expr_row e end) ∷ rest
