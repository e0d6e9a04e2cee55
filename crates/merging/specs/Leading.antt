-- The merging of leading assignments by steps: a step merges the first item, or nothing.
use Rattle.std.specs.Prelude.{Bool, true, false, ◌||◌}
use Rattle.script.specs.declared.DeclarationKind.{DeclarationKind}
use Rattle.script.specs.Tree.{Declarators, Expr, Exprs, expr_then, no_exprs}
use Rattle.rules.specs.Expressions.{Assignment?, assignment?, is_assignment, no_assignment}
use Rattle.rules.specs.Merging.{Merge, blocked, clear, has_items, merge_assignment_to_declaration, merged}

-- the items and declarators that it leaves
pub data Step : Type 0 where
  takes : Exprs → Declarators → Step
  rests : Step

abbrev pub step_merged : Merge → Exprs → Step
step_merged (merged ds) xs = takes xs ds
step_merged blocked xs = rests
step_merged clear xs = rests

abbrev pub step_item : Bool → {x : Expr} → Assignment? x → Exprs → DeclarationKind → Declarators → Step
step_item false w xs k ds = rests
step_item true (is_assignment n e) xs k ds = step_merged (merge_assignment_to_declaration k ds n e) xs
step_item true no_assignment xs k ds = rests

-- the last item is taken only if its value is not wanted
abbrev pub leading_step : Bool → Exprs → DeclarationKind → Declarators → Step
leading_step d no_exprs k ds = rests
leading_step d (expr_then x xs) k ds = step_item (d || has_items xs) (assignment? x) xs k ds

abbrev pub has_taken : Step → Bool
has_taken (takes xs ds) = true
has_taken rests = false

abbrev pub items_after : Step → Exprs → Exprs
items_after (takes xs ds) ys = xs
items_after rests ys = ys

abbrev pub declarators_after : Step → Declarators → Declarators
declarators_after (takes xs ds) es = ds
declarators_after rests es = es
