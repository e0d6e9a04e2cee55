-- The moves of the rules that merge with the newest results are performed.
use Rattle.std.proofs.Common.{◌≡◌, ℕ, ◌+◌, ◌≤◌, Bool, true, false, ◌||◌, List, ◌++◌, arith}
use Rattle.script.specs.declared.DeclarationKind.{DeclarationKind}
use Rattle.script.specs.Judge.{Spares}
use Rattle.script.specs.Sound.{plus, exprs_only, records_expr, records_stmt, records_stmts, records_exprs, records_declarators, none_used}
use Rattle.script.specs.Sound.{records_optional, with_stmt}
use Rattle.script.specs.Tree.{Stmts, expression, Expr, Exprs, Declarators, expr_then, assignment, declaration, no_exprs, OptionalExpr}
use Rattle.script.specs.Tree.{absent, present, stmt_then, no_declarators, declarator_then}
use Rattle.rules.specs.Equal.{same_kind}
use Rattle.rules.specs.Expressions.{Assignment?, is_assignment, no_assignment, assignment?, Sequence?, is_sequence, no_sequence, sequence?}
use Rattle.rules.specs.Merging.{LastExpression?, merge_last_expression_as, last_expression, no_last_expression, push_expression_as}
use Rattle.rules.specs.Merging.{push_new_expression_stmt_to_result, last_expression?, Leading, merge_leading, merge_leading_after, Merge}
use Rattle.rules.specs.Merging.{merged, blocked, clear, merge_leading_item, merge_assignment_to_declaration, has_items, items_of}
use Rattle.rules.specs.Merging.{LastDeclaration?, merge_leading_assignments_as, last_declaration, sequence_of_items, no_last_declaration}
use Rattle.rules.specs.Merging.{merge_leading_assignments_to_declaration, last_declaration?, next_work, Worked}
use Rattle.rules.specs.Merging.{merge_last_expression_into_sequence, push_optional_expression, handle_expression_statement}
use Rattle.rules.specs.Returns.{value_or_void_0}
use Rattle.rules.specs.Declarations.{join_declarations_as, join_declarations, handle_variable_declaration}
use Rattle.rules.specs.Budget.{weight_stmts, to_take, sequence_records}
use Rattle.rules.specs.Moves.{takes_statement, statements, Move}
use Rattle.rules.specs.StatementMoves.{merge_last_moves, push_new_expression_moves, merge_leading_after_moves, merge_leading_item_moves}
use Rattle.rules.specs.StatementMoves.{merge_leading_moves, sequence_left_moves, merge_leading_assignments_as_moves}
use Rattle.rules.specs.StatementMoves.{merge_leading_assignments_moves, next_work_moves, merged_moves, push_optional_moves}
use Rattle.rules.specs.StatementMoves.{handle_expression_statement_moves, join_declarations_as_moves, join_declarations_moves}
use Rattle.rules.specs.StatementMoves.{handle_variable_declaration_moves}
use Rattle.rules.proofs.BudgetExpressions.{join_sequence_records}
use Rattle.rules.proofs.BudgetMerging.{MergeSame, merge_assignment_records, LeadingWithin, merge_leading_within}
use Rattle.rules.proofs.BudgetMerging.{sequence_of_items_records, append_declarators_records, ValueThere, merge_leading_value}
use Rattle.rules.proofs.Performing.{Performs, records_worked, in_turn, give, nothing, take, beside, then_freely}
use Rattle.rules.proofs.ExpressionMoves.{join_sequence_performs}

-- the popped statement's weight pays for the sequence
pub merge_last_performs : {r : Stmts} (v : LastExpression? r) (e : Expr)
    → Performs (weight_stmts r) (merge_last_moves v e) (plus (exprs_only (records_expr e)) (records_stmts r))
    (records_worked (merge_last_expression_as v e))
merge_last_performs (last_expression a r) e = in_turn (give _) (join_sequence_performs a e) (search arith) (search arith) (search arith)
merge_last_performs no_last_expression e = nothing (search arith)

pub push_expression_as_performs : {r : Stmts} (v : LastExpression? r) (e : Expr)
    → Performs (plus (to_take 0 1) (weight_stmts r)) (merge_last_moves v e ++ takes_statement) (plus (exprs_only (records_expr e)) (records_stmts r))
    (records_stmts (push_expression_as v e))
push_expression_as_performs (last_expression a r) e =
    let h = join_sequence_records a e in
    in_turn (merge_last_performs (last_expression a r) e) (take statements) (search arith) (search arith) (search arith)
push_expression_as_performs no_last_expression e = beside (take statements) (search arith) (search arith)

pub push_new_expression_performs : (q : Bool) (e : Expr) (r : Stmts)
    → Performs (plus (to_take 0 1) (weight_stmts r)) (push_new_expression_moves q e r) (plus (exprs_only (records_expr e)) (records_stmts r))
    (records_stmts (push_new_expression_stmt_to_result q e r))
push_new_expression_performs q e r = push_expression_as_performs (last_expression? q r) e

-- leading assignments

abbrev pub records_leading : Leading → Spares
records_leading l = plus (exprs_only (records_exprs l.items)) (records_declarators l.declarators)

pub merge_leading_after_performs : (m : Merge) (n : ℕ) (e : Expr) (xs : Exprs) (ds : Declarators) (f : Declarators → Leading)
    (g : Declarators → List Move)
    → MergeSame e ds m
    → ((ds' : Declarators)
    → Performs none_used (g ds') (plus (exprs_only (records_exprs xs)) (records_declarators ds')) (records_leading (f ds')))
    → Performs none_used (merge_leading_after_moves m g)
    (plus (exprs_only (records_exprs (expr_then (assignment n e) xs))) (records_declarators ds))
    (records_leading (merge_leading_after m (expr_then (assignment n e) xs) ds f))
merge_leading_after_performs (merged ds') n e xs ds f g s h = in_turn (give _) (h ds') (search arith) (search arith) (search arith)
merge_leading_after_performs blocked n e xs ds f g s h = nothing (search arith)
merge_leading_after_performs clear n e xs ds f g s h = nothing (search arith)

pub merge_leading_item_performs : (c : Bool) {x : Expr} (a : Assignment? x) (xs : Exprs) (k : DeclarationKind) (ds : Declarators)
    (f : Declarators → Leading) (g : Declarators → List Move)
    → ((ds' : Declarators)
    → Performs none_used (g ds') (plus (exprs_only (records_exprs xs)) (records_declarators ds')) (records_leading (f ds')))
    → Performs none_used (merge_leading_item_moves c a k ds g)
    (plus (exprs_only (records_exprs (expr_then x xs))) (records_declarators ds)) (records_leading (merge_leading_item c a xs k ds f))
merge_leading_item_performs false a xs k ds f g h = nothing (search arith)
merge_leading_item_performs true (is_assignment n e) xs k ds f g h =
    merge_leading_after_performs (merge_assignment_to_declaration k ds n e) n e xs ds f g (merge_assignment_records k ds n e) h
merge_leading_item_performs true no_assignment xs k ds f g h = nothing (search arith)

pub merge_leading_performs : (d : Bool) (xs : Exprs) (k : DeclarationKind) (ds : Declarators)
    → Performs none_used (merge_leading_moves d xs k ds) (plus (exprs_only (records_exprs xs)) (records_declarators ds))
    (records_leading (merge_leading d xs k ds))
merge_leading_performs d no_exprs k ds = nothing (search arith)
merge_leading_performs d (expr_then x xs) k ds =
    merge_leading_item_performs (d || has_items xs) (assignment? x) xs k ds (λ ds'. merge_leading d xs k ds')
    (λ ds'. merge_leading_moves d xs k ds') (λ ds'. merge_leading_performs d xs k ds')

-- the record of a sequence that is there
abbrev pub sequence_there : {e : Expr} → Sequence? e → ℕ
sequence_there (is_sequence e es) = 1
sequence_there no_sequence = 0

items_of_there : {e : Expr} (v : Sequence? e) → records_expr e ≡ sequence_there v + records_exprs (items_of v)
items_of_there (is_sequence e es) = omega arith
items_of_there no_sequence = omega arith

pub sequence_left_performs : {e : Expr} (v : Sequence? e) (xs : Exprs) → sequence_records xs ≤ sequence_records (items_of v)
    → Performs none_used (sequence_left_moves v xs) (exprs_only (sequence_there v)) (exprs_only (sequence_records xs))
sequence_left_performs (is_sequence e es) no_exprs h = beside (give _) (search arith) (search arith)
sequence_left_performs (is_sequence e es) (expr_then x no_exprs) h = beside (give _) (search arith) (search arith)
sequence_left_performs (is_sequence e es) (expr_then x (expr_then y ys)) h = nothing (search arith)
sequence_left_performs no_sequence xs h = nothing (search arith)

pub merge_leading_as_performs : {r : Stmts} (v : LastDeclaration? r) (d : Bool) (e : Expr)
    → Performs none_used (merge_leading_assignments_as_moves v d e) (plus (exprs_only (records_expr e)) (records_stmts r))
    (records_worked (merge_leading_assignments_as v d e))
merge_leading_as_performs (last_declaration k ds r) d e =
    let xs : Exprs = items_of (sequence? e) in
    let l : Leading = merge_leading d xs k ds in
    let w : LeadingWithin l xs ds = merge_leading_within d xs k ds in
    let a : records_optional (sequence_of_items l.items) ≡ sequence_records l.items + records_exprs l.items =
    sequence_of_items_records l.items in
    let b = items_of_there (sequence? e) in
    in_turn (merge_leading_performs d xs k ds) (sequence_left_performs (sequence? e) l.items w.sequence)
    (search arith) (search arith) (search arith)
merge_leading_as_performs no_last_declaration d e = nothing (search arith)

pub merge_leading_assignments_performs : (d : Bool) (e : Expr) (r : Stmts)
    → Performs none_used (merge_leading_assignments_moves d e r) (plus (exprs_only (records_expr e)) (records_stmts r))
    (records_worked (merge_leading_assignments_to_declaration d e r))
merge_leading_assignments_performs d e r = merge_leading_as_performs (last_declaration? r) d e

pub next_work_performs : (n : Stmts → Spares) (p : OptionalExpr) (r : Stmts) (f : Expr → Stmts → Worked) (g : Expr → Stmts → List Move)
    → ((e : Expr) (r₁ : Stmts) → Performs (n r₁) (g e r₁) (plus (exprs_only (records_expr e)) (records_stmts r₁)) (records_worked (f e r₁)))
    → Performs (n r) (next_work_moves p r g) (plus (exprs_only (records_optional p)) (records_stmts r)) (records_worked (next_work p r f))
next_work_performs n absent r f g h = nothing (search arith)
next_work_performs n (present e) r f g h = h e r

-- first the last expression, then the leading assignments
pub merged_performs : (q d : Bool) (e : Expr) (r : Stmts)
    → Performs (weight_stmts r) (merged_moves q d e r) (plus (exprs_only (records_expr e)) (records_stmts r))
    (records_worked (next_work (merge_last_expression_into_sequence q e r).target (merge_last_expression_into_sequence q e r).results
    (λ e₁ r₁. merge_leading_assignments_to_declaration d e₁ r₁)))
merged_performs q d e r =
    let m : Worked = merge_last_expression_into_sequence q e r in
    let second : Performs none_used (next_work_moves m.target m.results (λ e₁ r₁. merge_leading_assignments_moves d e₁ r₁))
    (plus (exprs_only (records_optional m.target)) (records_stmts m.results))
    (records_worked (next_work m.target m.results (λ e₁ r₁. merge_leading_assignments_to_declaration d e₁ r₁))) =
    next_work_performs (λ _. none_used) m.target m.results (λ e₁ r₁. merge_leading_assignments_to_declaration d e₁ r₁)
    (λ e₁ r₁. merge_leading_assignments_moves d e₁ r₁) (merge_leading_assignments_performs d) in
    then_freely (merge_last_performs (last_expression? q r) e) second (search arith) (search arith)

pub push_optional_performs : (p : OptionalExpr) (r : Stmts)
    → Performs none_used (push_optional_moves p) (plus (with_stmt (exprs_only (records_optional p))) (records_stmts r))
    (records_stmts (push_optional_expression p r))
push_optional_performs absent r = beside (give _) (search arith) (search arith)
push_optional_performs (present e) r = nothing (search arith)

pub handle_expression_statement_performs : (q : Bool) (e : Expr) (r : Stmts)
    → Performs (weight_stmts r) (handle_expression_statement_moves q e r) (plus (records_stmt (expression e)) (records_stmts r))
    (records_stmts (handle_expression_statement q e r))
handle_expression_statement_performs q e r =
    let m : Worked = merge_last_expression_into_sequence q e r in
    let w : Worked = next_work m.target m.results (λ e₁ r₁. merge_leading_assignments_to_declaration true e₁ r₁) in
    then_freely (merged_performs q true e r) (push_optional_performs w.target w.results) (search arith) (search arith)

-- declarations

pub join_declarations_as_performs : (b : Bool) (k₀ : DeclarationKind) (ds₀ : Declarators) (k : DeclarationKind) (ds : Declarators) (r : Stmts)
    → Performs none_used (join_declarations_as_moves b)
    (plus (records_stmt (declaration k ds)) (records_stmts (stmt_then (declaration k₀ ds₀) r)))
    (records_stmts (join_declarations_as b k₀ ds₀ k ds r))
join_declarations_as_performs true k₀ ds₀ k ds r =
    let h = append_declarators_records ds₀ ds in beside (give _) (search arith) (search arith)
join_declarations_as_performs false k₀ ds₀ k ds r = nothing (search arith)

pub join_declarations_performs : (j : Bool) (k : DeclarationKind) (ds : Declarators) {r : Stmts} (v : LastDeclaration? r)
    → Performs none_used (join_declarations_moves j k v) (plus (records_stmt (declaration k ds)) (records_stmts r))
    (records_stmts (join_declarations j k ds v))
join_declarations_performs true k ds (last_declaration k₀ ds₀ r) = join_declarations_as_performs (same_kind k₀ k) k₀ ds₀ k ds r
join_declarations_performs true k ds no_last_declaration = nothing (search arith)
join_declarations_performs false k ds v = nothing (search arith)

pub handle_variable_declaration_performs : (j : Bool) (k : DeclarationKind) (ds : Declarators) (r : Stmts)
    → Performs none_used (handle_variable_declaration_moves j k ds r) (plus (records_stmt (declaration k ds)) (records_stmts r))
    (records_stmts (handle_variable_declaration j k ds r))
handle_variable_declaration_performs j k no_declarators r = join_declarations_performs j k no_declarators (last_declaration? r)
handle_variable_declaration_performs j k (declarator_then n absent ds) r =
    join_declarations_performs j k (declarator_then n absent ds) (last_declaration? r)
handle_variable_declaration_performs j k (declarator_then n (present e) ds) r =
    let w : Worked = merge_leading_assignments_to_declaration false e r in
    let c : ValueThere w = merge_leading_value e r in
    then_freely (merge_leading_assignments_performs false e r)
    (join_declarations_performs j k (declarator_then n (present (value_or_void_0 w.target)) ds) (last_declaration? w.results))
    (search arith) (search arith)
