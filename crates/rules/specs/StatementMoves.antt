-- What the rules on one statement take and give back; the statement in hand keeps its record.
use Rattle.std.specs.Prelude.{ℕ, Bool, true, false, cond, not as negated, ◌&&◌, ◌||◌, List, [], ◌∷◌, ◌++◌}
use Rattle.script.specs.declared.DeclarationKind.{DeclarationKind}
use Rattle.script.specs.declared.DeclarationKind.TheVariants.{Var, Let, Const}
use Rattle.script.specs.Judge.{Spares}
use Rattle.script.specs.Sound.{exprs_only, records_expr, none_used, plus, records_stmt}
use Rattle.script.specs.Tree.{Stmt, Stmts, Expr, Declarators, Exprs, no_exprs, expr_then, OptionalExpr, absent, present, no_declarators}
use Rattle.script.specs.Tree.{declarator_then, no_stmts, stmt_then, Init, no_init, init_expression, init_declaration, Cases}
use Rattle.run.specs.Names.{var_declared_list}
use Rattle.hosts.specs.Meaning.{Meaning}
use Rattle.rules.specs.Holder.{Holder}
use Rattle.rules.specs.Equal.{same_kind}
use Rattle.rules.specs.Literals.{is_literal}
use Rattle.rules.specs.Expressions.{Assignment?, is_assignment, no_assignment, assignment?, Sequence?, is_sequence, no_sequence, sequence?}
use Rattle.rules.specs.Expressions.{minimize_conditional}
use Rattle.rules.specs.Statements.{any_cares_about_scope, statement_cares_about_scope}
use Rattle.rules.specs.Merging.{LastExpression?, last_expression, no_last_expression, last_expression?, merge_leading, Merge, merged}
use Rattle.rules.specs.Merging.{blocked, clear, merge_assignment_to_declaration, has_items, LastDeclaration?, last_declaration, items_of}
use Rattle.rules.specs.Merging.{no_last_declaration, last_declaration?, next_work, Worked, merge_last_expression_into_sequence}
use Rattle.rules.specs.Merging.{merge_leading_assignments_to_declaration}
use Rattle.rules.specs.Returns.{may_merge_return, value_or_void_0, IfReturn?, if_return, no_if_return, if_return?, drop_undefined_argument}
use Rattle.rules.specs.Returns.{merge_leading_into_declaration, conditional_expression_count_exceeded}
use Rattle.rules.specs.Throws.{IfThrow?, if_throw, no_if_throw, if_throw?, worked_throw_argument}
use Rattle.rules.specs.Ifs.{Block?, is_block, no_block, block?}
use Rattle.rules.specs.Switches.{OneCase?, one_test, has_nested_break_in_list, one_default, no_one_case, worked_discriminant, one_case?}
use Rattle.rules.specs.Unreachable.{note_hoisted_names, last_is_terminated, is_nonempty}
use Rattle.rules.specs.Moves.{Move, gives_statements, gives, takes_statement, takes, gives_expression, declarators, takes_expression}
use Rattle.rules.specs.ExpressionMoves.{join_sequence_moves, void_0_moves}

-- the popped statement's record goes back, then the expressions are joined
abbrev pub merge_last_moves : {r : Stmts} → LastExpression? r → Expr → List Move
merge_last_moves (last_expression a r) e = gives_statements 1 ++ join_sequence_moves a e
merge_last_moves no_last_expression e = []

abbrev pub push_new_expression_moves : Bool → Expr → Stmts → List Move
push_new_expression_moves q e r = merge_last_moves (last_expression? q r) e ++ takes_statement

-- a merged assignment's node goes; its value is the declarator's
abbrev pub merge_leading_after_moves : Merge → (Declarators → List Move) → List Move
merge_leading_after_moves (merged ds) f = gives_expression ++ f ds
merge_leading_after_moves blocked f = []
merge_leading_after_moves clear f = []

abbrev pub merge_leading_item_moves : Bool → {x : Expr} → Assignment? x → DeclarationKind → Declarators → (Declarators → List Move)
    → List Move
merge_leading_item_moves false w k ds f = []
merge_leading_item_moves true (is_assignment n e) k ds f = merge_leading_after_moves (merge_assignment_to_declaration k ds n e) f
merge_leading_item_moves true no_assignment k ds f = []

abbrev pub merge_leading_moves : Bool → Exprs → DeclarationKind → Declarators → List Move
merge_leading_moves d no_exprs k ds = []
merge_leading_moves d (expr_then x xs) k ds =
    merge_leading_item_moves (d || has_items xs) (assignment? x) k ds (λ ds'. merge_leading_moves d xs k ds')

-- a sequence of which one item or none is left goes
abbrev pub sequence_left_moves : {e : Expr} → Sequence? e → Exprs → List Move
sequence_left_moves (is_sequence e es) no_exprs = gives_expression
sequence_left_moves (is_sequence e es) (expr_then x no_exprs) = gives_expression
sequence_left_moves (is_sequence e es) (expr_then x (expr_then y ys)) = []
sequence_left_moves no_sequence xs = []

abbrev pub merge_leading_assignments_as_moves : {r : Stmts} → LastDeclaration? r → Bool → Expr → List Move
merge_leading_assignments_as_moves (last_declaration k ds r) d e =
    merge_leading_moves d (items_of (sequence? e)) k ds
    ++ sequence_left_moves (sequence? e) (merge_leading d (items_of (sequence? e)) k ds).items
merge_leading_assignments_as_moves no_last_declaration d e = []

abbrev pub merge_leading_assignments_moves : Bool → Expr → Stmts → List Move
merge_leading_assignments_moves d e r = merge_leading_assignments_as_moves (last_declaration? r) d e

abbrev pub next_work_moves : OptionalExpr → Stmts → (Expr → Stmts → List Move) → List Move
next_work_moves absent r f = []
next_work_moves (present e) r f = f e r

-- first the last expression, then the leading assignments
abbrev pub merged_moves : Bool → Bool → Expr → Stmts → List Move
merged_moves q d e r =
    let m : Worked = merge_last_expression_into_sequence q e r in
    merge_last_moves (last_expression? q r) e
    ++ next_work_moves m.target m.results (λ e₁ r₁. merge_leading_assignments_moves d e₁ r₁)

-- an expression statement of which nothing is left goes
abbrev pub push_optional_moves : OptionalExpr → List Move
push_optional_moves absent = gives_statements 1
push_optional_moves (present e) = []

abbrev pub handle_expression_statement_moves : Bool → Expr → Stmts → List Move
handle_expression_statement_moves q e r =
    let m : Worked = merge_last_expression_into_sequence q e r in
    let w : Worked = next_work m.target m.results (λ e₁ r₁. merge_leading_assignments_to_declaration true e₁ r₁) in
    merged_moves q true e r ++ push_optional_moves w.target

-- declarations

abbrev pub join_declarations_as_moves : Bool → List Move
join_declarations_as_moves true = gives_statements 1
join_declarations_as_moves false = []

abbrev pub join_declarations_moves : Bool → DeclarationKind → {r : Stmts} → LastDeclaration? r → List Move
join_declarations_moves true k (last_declaration k₀ ds₀ r) = join_declarations_as_moves (same_kind k₀ k)
join_declarations_moves true k no_last_declaration = []
join_declarations_moves false k v = []

abbrev pub handle_variable_declaration_moves : Bool → DeclarationKind → Declarators → Stmts → List Move
handle_variable_declaration_moves j k no_declarators r = join_declarations_moves j k (last_declaration? r)
handle_variable_declaration_moves j k (declarator_then n absent ds) r = join_declarations_moves j k (last_declaration? r)
handle_variable_declaration_moves j k (declarator_then n (present e) ds) r =
    let w : Worked = merge_leading_assignments_to_declaration false e r in
    merge_leading_assignments_moves false e r ++ join_declarations_moves j k (last_declaration? w.results)

-- returns: the records of the `if` and of its jump go back, then `void 0` and the conditional are made

abbrev pub merge_conditional_moves : OptionalExpr → OptionalExpr → List Move
merge_conditional_moves p' p = gives_statements 2 ++ (void_0_moves p' ++ (void_0_moves p ++ takes_expression))

abbrev pub merge_return_moves : Holder → Expr → OptionalExpr → OptionalExpr → Stmts → (OptionalExpr → List Move) → List Move
merge_return_moves h t absent absent r more = gives_statements 2 ++ push_new_expression_moves true t r
merge_return_moves h t absent (present e) r more =
    cond (may_merge_return h (present e))
    (merge_conditional_moves absent (present e) ++ more (present (minimize_conditional t (value_or_void_0 absent) e))) []
merge_return_moves h t (present x) absent r more =
    cond (may_merge_return h absent)
    (merge_conditional_moves (present x) absent ++ more (present (minimize_conditional t x (value_or_void_0 absent)))) []
merge_return_moves h t (present x) (present e) r more =
    cond (may_merge_return h (present e)) (merge_conditional_moves (present x) (present e) ++ more (present (minimize_conditional t x e))) []

abbrev pub return_step_moves : Holder → {x : Stmt} → IfReturn? x → OptionalExpr → Stmts → (OptionalExpr → List Move) → List Move
return_step_moves h (if_return t p') p r more = merge_return_moves h t p' p r more
return_step_moves h no_if_return p r more = []

abbrev pub return_loop_moves : Holder → Stmts → OptionalExpr → List Move
return_loop_moves h no_stmts p = []
return_loop_moves h (stmt_then x r) p = return_step_moves h (if_return? x) p r (λ p₁. return_loop_moves h r p₁)

abbrev pub merge_returns_moves : Bool → Holder → OptionalExpr → Stmts → List Move
merge_returns_moves true h p r = return_loop_moves h r p
merge_returns_moves false h p r = []

abbrev pub drop_undefined_as_moves : Bool → Bool → Bool → Expr → Stmts → List Move
drop_undefined_as_moves q true true e r = gives (exprs_only (records_expr e)) ∷ []
drop_undefined_as_moves q true false e r = push_new_expression_moves q e r
drop_undefined_as_moves q false b e r = merge_last_moves (last_expression? q r) e

abbrev pub drop_undefined_argument_moves : Bool → Meaning → OptionalExpr → Stmts → List Move
drop_undefined_argument_moves q host absent r = []
drop_undefined_argument_moves q host (present e) r = drop_undefined_as_moves q (host.undefined e) (host.harmless e) e r

abbrev pub merge_leading_into_declaration_moves : OptionalExpr → Stmts → List Move
merge_leading_into_declaration_moves absent r = []
merge_leading_into_declaration_moves (present e) r = merge_leading_assignments_moves false e r

abbrev pub handle_return_statement_moves : Bool → Meaning → Holder → OptionalExpr → Stmts → List Move
handle_return_statement_moves q host h p r =
    let m : Worked = merge_leading_into_declaration p r in
    let a : Worked = drop_undefined_argument q host m.target m.results in
    merge_leading_into_declaration_moves p r
    ++ (drop_undefined_argument_moves q host m.target m.results ++ merge_returns_moves q h a.target a.results)

-- throw

abbrev pub throw_step_moves : {x : Stmt} → IfThrow? x → Expr → (Expr → List Move) → List Move
throw_step_moves (if_throw t e₀) e more =
    cond (negated (conditional_expression_count_exceeded e))
    (merge_conditional_moves (present e₀) (present e) ++ more (minimize_conditional t e₀ e)) []
throw_step_moves no_if_throw e more = []

abbrev pub throw_loop_moves : Stmts → Expr → List Move
throw_loop_moves no_stmts e = []
throw_loop_moves (stmt_then x r) e = throw_step_moves (if_throw? x) e (λ e₁. throw_loop_moves r e₁)

abbrev pub merge_throws_moves : Bool → Expr → Stmts → List Move
merge_throws_moves true e r = throw_loop_moves r e
merge_throws_moves false e r = []

abbrev pub handle_throw_statement_moves : Bool → Expr → Stmts → List Move
handle_throw_statement_moves q e r =
    let w : Worked = worked_throw_argument q e r in
    merged_moves q false e r ++ merge_throws_moves q (value_or_void_0 w.target) w.results

-- the head of a `for`: a declaration's record goes with it

abbrev pub join_init_moves : Expr → OptionalExpr → List Move
join_init_moves a absent = []
join_init_moves a (present e) = join_sequence_moves a e

abbrev pub expression_into_head_moves : OptionalExpr → {r : Stmts} → LastExpression? r → List Move
expression_into_head_moves p (last_expression a r) = gives_statements 1 ++ join_init_moves a p
expression_into_head_moves p no_last_expression = []

abbrev pub head_from_moves : Bool → OptionalExpr → Stmts → List Move
head_from_moves true p r = expression_into_head_moves p (last_expression? true r)
head_from_moves false p r = []

abbrev pub var_into_head_moves : {r : Stmts} → LastDeclaration? r → List Move
var_into_head_moves (last_declaration Var ds r) = gives_statements 1
var_into_head_moves (last_declaration Let ds r) = []
var_into_head_moves (last_declaration Const ds r) = []
var_into_head_moves no_last_declaration = []

abbrev pub head_from_declaration_moves : Bool → DeclarationKind → Stmts → List Move
head_from_declaration_moves true Var r = var_into_head_moves (last_declaration? r)
head_from_declaration_moves true Let r = []
head_from_declaration_moves true Const r = []
head_from_declaration_moves false k r = []

abbrev pub handle_for_statement_moves : Bool → Init → Stmts → List Move
handle_for_statement_moves q no_init r = head_from_moves q absent r
handle_for_statement_moves q (init_expression e) r =
    let w : Worked = merge_leading_assignments_to_declaration true e r in
    merge_leading_assignments_moves true e r ++ head_from_moves q w.target w.results
handle_for_statement_moves q (init_declaration k ds) r = head_from_declaration_moves q k r

-- switches: the case's record is the block's, unless its list is one block

abbrev pub as_block_moves : {x : Stmt} → Block? x → List Move
as_block_moves (is_block ss) = gives_statements 1
as_block_moves no_block = []

abbrev pub case_block_moves : Stmts → List Move
case_block_moves no_stmts = []
case_block_moves (stmt_then x no_stmts) = as_block_moves (block? x)
case_block_moves (stmt_then x (stmt_then y ys)) = []

abbrev pub push_discriminant_moves : Bool → Bool → Expr → Stmts → List Move
push_discriminant_moves q true d r = gives (exprs_only (records_expr d)) ∷ []
push_discriminant_moves q false d r = push_new_expression_moves q d r

-- the switch's record is the `if`'s, or goes
abbrev pub inline_switch_case_moves : Bool → Expr → {cs : Cases} → OneCase? cs → Stmts → List Move
inline_switch_case_moves q d (one_test e t ss) r = cond (has_nested_break_in_list ss) [] (case_block_moves ss ++ takes_expression)
inline_switch_case_moves q d (one_default ss) r =
    cond (has_nested_break_in_list ss) []
    (gives_statements 1 ++ (case_block_moves ss ++ push_discriminant_moves q (is_literal d) d r))
inline_switch_case_moves q d no_one_case r = []

abbrev pub handle_switch_statement_moves : Bool → Expr → Cases → Stmts → List Move
handle_switch_statement_moves q d cs r =
    let w : Worked = worked_discriminant q d r in
    merged_moves q false d r ++ inline_switch_case_moves q (value_or_void_0 w.target) (one_case? cs) w.results

abbrev pub handle_block_moves : Stmts → List Move
handle_block_moves ss = cond (any_cares_about_scope ss) [] (gives_statements 1)

-- dead statements: all but the let and const declarations goes back first

abbrev pub dead_records : Stmts → Spares
dead_records no_stmts = none_used
dead_records (stmt_then x xs) = cond (statement_cares_about_scope x) (dead_records xs) (plus (records_stmt x) (dead_records xs))

abbrev pub bare_declarators_moves : List ℕ → List Move
bare_declarators_moves [] = []
bare_declarators_moves (n ∷ ns) = takes declarators ∷ bare_declarators_moves ns

abbrev pub push_kept_vars_moves : List ℕ → List Move
push_kept_vars_moves [] = []
push_kept_vars_moves (n ∷ ns) = takes_statement ++ bare_declarators_moves (n ∷ ns)

abbrev pub keep_declarations_moves : Stmts → List Move
keep_declarations_moves rest = gives (dead_records rest) ∷ push_kept_vars_moves (note_hoisted_names (var_declared_list rest) [])

abbrev pub then_rest_moves : (Stmts → List Move) → Stmts → Stmts → List Move
then_rest_moves more rest r = cond (last_is_terminated r && is_nonempty rest) (keep_declarations_moves rest) (more r)
