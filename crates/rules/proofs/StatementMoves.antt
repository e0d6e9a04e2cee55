-- The moves of the rules on one statement are performed.
use Rattle.std.proofs.Common.{◌≡◌, ℕ, suc, ◌+◌, Bool, true, false, not as negated, ◌&&◌, List, [], ◌∷◌, ◌++◌, length, refl, arith}
use Rattle.script.specs.declared.DeclarationKind.{DeclarationKind}
use Rattle.script.specs.declared.DeclarationKind.TheVariants.{Var, Let, Const}
use Rattle.script.specs.Judge.{Spares}
use Rattle.script.specs.Sound.{records_expr, records_optional, exprs_only, plus, records_stmt, records_stmts, none_used, records_init}
use Rattle.script.specs.Sound.{with_stmt, records_declarators}
use Rattle.script.specs.Tree.{OptionalExpr, Expr, absent, present, for, Stmts, Stmt, return_of, stmt_then, if_then, no_alternate, no_stmts}
use Rattle.script.specs.Tree.{throw, init_expression, Declarators, Init, no_init, init_declaration, block, switch, Cases, strict_equality}
use Rattle.run.specs.Names.{var_declared_list}
use Rattle.hosts.specs.Meaning.{Meaning}
use Rattle.rules.specs.Holder.{Holder}
use Rattle.rules.specs.Literals.{is_literal}
use Rattle.rules.specs.Expressions.{minimize_conditional}
use Rattle.rules.specs.Statements.{push_all, handle_block, any_cares_about_scope}
use Rattle.rules.specs.Merging.{last_expression, last_expression?, Worked, LastDeclaration?, last_declaration, no_last_declaration}
use Rattle.rules.specs.Merging.{LastExpression?, no_last_expression, last_declaration?, merge_leading_assignments_to_declaration}
use Rattle.rules.specs.Returns.{value_or_void_0, merge_return, may_merge_return, return_step, IfReturn?, if_return, no_if_return}
use Rattle.rules.specs.Returns.{return_loop, if_return?, merge_returns, drop_undefined_as, drop_undefined_argument}
use Rattle.rules.specs.Returns.{merge_leading_into_declaration, handle_return_statement, conditional_expression_count_exceeded}
use Rattle.rules.specs.For.{WorkedHead, declaration_into_head, join_init_expression, expression_into_head, head_from, var_into_head}
use Rattle.rules.specs.For.{head_from_declaration, for_head, handle_for_statement}
use Rattle.rules.specs.Throws.{throw_step, IfThrow?, if_throw, no_if_throw, throw_loop, if_throw?, merge_throws, handle_throw_statement}
use Rattle.rules.specs.Throws.{worked_throw_argument}
use Rattle.rules.specs.Ifs.{Block?, is_block, no_block, block?}
use Rattle.rules.specs.Switches.{as_block, case_block, push_discriminant, inline_switch_case, OneCase?, one_test, has_nested_break_in_list}
use Rattle.rules.specs.Switches.{one_default, no_one_case, handle_switch_statement, worked_discriminant, one_case?}
use Rattle.rules.specs.Unreachable.{bare_declarators, push_kept_vars, keep_declarations, lexical_declarations, note_hoisted_names}
use Rattle.rules.specs.Unreachable.{then_rest, last_is_terminated, is_nonempty}
use Rattle.rules.specs.Budget.{weight_return, weight_stmt, weight_stmts, to_take, AtMost, budget_stmt, budget_stmts, budget_worked}
use Rattle.rules.specs.Budget.{SameNumber}
use Rattle.rules.specs.Moves.{takes_expression, expressions, Move, declarators, statements}
use Rattle.rules.specs.ExpressionMoves.{void_0_moves}
use Rattle.rules.specs.StatementMoves.{merge_conditional_moves, merge_return_moves, return_step_moves, return_loop_moves}
use Rattle.rules.specs.StatementMoves.{merge_returns_moves, drop_undefined_as_moves, drop_undefined_argument_moves}
use Rattle.rules.specs.StatementMoves.{merge_leading_into_declaration_moves, handle_return_statement_moves, throw_step_moves}
use Rattle.rules.specs.StatementMoves.{throw_loop_moves, merge_throws_moves, handle_throw_statement_moves, join_init_moves}
use Rattle.rules.specs.StatementMoves.{expression_into_head_moves, head_from_moves, var_into_head_moves, head_from_declaration_moves}
use Rattle.rules.specs.StatementMoves.{handle_for_statement_moves, as_block_moves, case_block_moves, push_discriminant_moves}
use Rattle.rules.specs.StatementMoves.{inline_switch_case_moves, handle_switch_statement_moves, handle_block_moves, bare_declarators_moves}
use Rattle.rules.specs.StatementMoves.{push_kept_vars_moves, keep_declarations_moves, then_rest_moves}
use Rattle.rules.proofs.BudgetExpressions.{minimize_conditional_records}
use Rattle.rules.proofs.BudgetMerging.{merged_budget, ValueThere, merged_value, append_declarators_records, merge_leading_budget}
use Rattle.rules.proofs.BudgetStatements.{budget_argument, merge_leading_into_declaration_budget, drop_undefined_argument_budget}
use Rattle.rules.proofs.BudgetStatements.{init_from_records}
use Rattle.rules.proofs.BudgetUnreachable.{kept_records, bare_declarators_records, dead_and_kept, names_are_dead, noted_names}
use Rattle.rules.proofs.BudgetUnreachable.{noted_statement}
use Rattle.rules.proofs.Performing.{Performs, nothing, take, in_turn, give, either_performs, records_worked, beside, in_use_after}
use Rattle.rules.proofs.ExpressionMoves.{void_0_performs, join_sequence_performs}
use Rattle.rules.proofs.MergingMoves.{push_new_expression_performs, merge_last_performs, merge_leading_assignments_performs}
use Rattle.rules.proofs.MergingMoves.{merged_performs}

-- the conditional of two returns or two throws

-- a value that is not there is made of two records
abbrev pub void_0_need : OptionalExpr → ℕ
void_0_need absent = 2
void_0_need (present e) = 0

pub void_0_value : (p : OptionalExpr) → records_expr (value_or_void_0 p) ≡ void_0_need p + records_optional p
void_0_value absent = refl
void_0_value (present e) = omega arith

pub needed_void_0_performs : (p : OptionalExpr)
    → Performs (exprs_only (void_0_need p)) (void_0_moves p) (exprs_only (records_optional p))
    (exprs_only (records_expr (value_or_void_0 p)))
needed_void_0_performs absent = void_0_performs absent
needed_void_0_performs (present e) = nothing (search arith)

pub merge_conditional_performs : (t : Expr) (p' p : OptionalExpr)
    → Performs (exprs_only (suc (void_0_need p' + void_0_need p))) (merge_conditional_moves p' p)
    (record { exprs = records_expr t + (records_optional p' + records_optional p); stmts = 2; decls = 0 })
    (exprs_only (records_expr (minimize_conditional t (value_or_void_0 p') (value_or_void_0 p))))
merge_conditional_performs t p' p =
    let u = void_0_value p' in
    let v = void_0_value p in
    let w = minimize_conditional_records t (value_or_void_0 p') (value_or_void_0 p) in
    let last : Performs (exprs_only (suc (void_0_need p))) (void_0_moves p ++ takes_expression) (exprs_only (records_optional p))
    (exprs_only (suc (records_expr (value_or_void_0 p)))) =
    in_turn (needed_void_0_performs p) (take expressions) (search arith) (search arith) (search arith) in
    let both : Performs (exprs_only (suc (void_0_need p' + void_0_need p))) (void_0_moves p' ++ (void_0_moves p ++ takes_expression))
    (exprs_only (records_optional p' + records_optional p))
    (exprs_only (suc (records_expr (value_or_void_0 p') + records_expr (value_or_void_0 p)))) =
    in_turn (needed_void_0_performs p') last (search arith) (search arith) (search arith) in
    in_turn (give _) both (search arith) (search arith) (search arith)

-- returns

abbrev pub ReturnPerforms : Stmts → (OptionalExpr → Stmts) → (OptionalExpr → List Move) → Type 0
ReturnPerforms r more more_moves =
    (p : OptionalExpr)
    → Performs (plus (weight_return p) (weight_stmts r)) (more_moves p) (plus (records_stmt (return_of p)) (records_stmts r))
    (records_stmts (more p))

pub merge_return_performs : (h : Holder) (t : Expr) (p' p : OptionalExpr) (r : Stmts) (more : OptionalExpr → Stmts)
    (more_moves : OptionalExpr → List Move)
    → ReturnPerforms r more more_moves
    → Performs (plus (weight_return p) (weight_stmts (stmt_then (if_then t (return_of p') no_alternate) r)))
    (merge_return_moves h t p' p r more_moves)
    (plus (records_stmt (return_of p)) (records_stmts (stmt_then (if_then t (return_of p') no_alternate) r)))
    (records_stmts (merge_return h t p' p r more))
merge_return_performs h t absent absent r more more_moves m =
    in_turn (give _) (push_new_expression_performs true t r) (search arith) (search arith) (search arith)
merge_return_performs h t absent (present e) r more more_moves m =
    let x : Expr = minimize_conditional t (value_or_void_0 absent) e in
    let w = minimize_conditional_records t (value_or_void_0 absent) e in
    either_performs (may_merge_return h (present e)) (more (present x)) _
    (in_turn (merge_conditional_performs t absent (present e)) (m (present x)) (search arith) (search arith) (search arith)) (nothing (search arith))
merge_return_performs h t (present x) absent r more more_moves m =
    let y : Expr = minimize_conditional t x (value_or_void_0 absent) in
    let w = minimize_conditional_records t x (value_or_void_0 absent) in
    either_performs (may_merge_return h absent) (more (present y)) _
    (in_turn (merge_conditional_performs t (present x) absent) (m (present y)) (search arith) (search arith) (search arith)) (nothing (search arith))
merge_return_performs h t (present x) (present e) r more more_moves m =
    let y : Expr = minimize_conditional t x e in
    let w = minimize_conditional_records t x e in
    either_performs (may_merge_return h (present e)) (more (present y)) _
    (in_turn (merge_conditional_performs t (present x) (present e)) (m (present y)) (search arith) (search arith) (search arith)) (nothing (search arith))

pub return_step_performs : (h : Holder) {x : Stmt} (v : IfReturn? x) (p : OptionalExpr) (r : Stmts) (more : OptionalExpr → Stmts)
    (more_moves : OptionalExpr → List Move)
    → ReturnPerforms r more more_moves
    → Performs (plus (weight_return p) (weight_stmts (stmt_then x r))) (return_step_moves h v p r more_moves)
    (plus (records_stmt (return_of p)) (records_stmts (stmt_then x r))) (records_stmts (return_step h v p r more))
return_step_performs h (if_return t p') p r more more_moves m = merge_return_performs h t p' p r more more_moves m
return_step_performs h no_if_return p r more more_moves m = nothing (search arith)

pub return_loop_performs : (h : Holder) (r : Stmts) → ReturnPerforms r (return_loop h r) (return_loop_moves h r)
return_loop_performs h no_stmts p = nothing (search arith)
return_loop_performs h (stmt_then x r) p =
    return_step_performs h (if_return? x) p r (λ p₁. return_loop h r p₁) (λ p₁. return_loop_moves h r p₁) (return_loop_performs h r)

pub merge_returns_performs : (q : Bool) (h : Holder) (p : OptionalExpr) (r : Stmts)
    → Performs (plus (weight_return p) (weight_stmts r)) (merge_returns_moves q h p r)
    (plus (records_stmt (return_of p)) (records_stmts r)) (records_stmts (merge_returns q h p r))
merge_returns_performs true h p r = return_loop_performs h r p
merge_returns_performs false h p r = nothing (search arith)

pub drop_undefined_as_performs : (q a b : Bool) (e : Expr) (r : Stmts)
    → Performs (plus (to_take 0 1) (weight_stmts r)) (drop_undefined_as_moves q a b e r) (plus (exprs_only (records_expr e)) (records_stmts r))
    (records_worked (drop_undefined_as q a b e r))
drop_undefined_as_performs q true true e r = beside (give _) (search arith) (search arith)
drop_undefined_as_performs q true false e r = beside (push_new_expression_performs q e r) (search arith) (search arith)
drop_undefined_as_performs q false b e r = beside (merge_last_performs (last_expression? q r) e) (search arith) (search arith)

pub drop_undefined_argument_performs : (q : Bool) (host : Meaning) (p : OptionalExpr) (r : Stmts)
    → Performs (plus (weight_return p) (weight_stmts r)) (drop_undefined_argument_moves q host p r) (plus (exprs_only (records_optional p)) (records_stmts r))
    (records_worked (drop_undefined_argument q host p r))
drop_undefined_argument_performs q host absent r = nothing (search arith)
drop_undefined_argument_performs q host (present e) r =
    beside (drop_undefined_as_performs q (host.undefined e) (host.harmless e) e r) (search arith) (search arith)

pub merge_leading_into_declaration_performs : (p : OptionalExpr) (r : Stmts)
    → Performs none_used (merge_leading_into_declaration_moves p r) (plus (exprs_only (records_optional p)) (records_stmts r))
    (records_worked (merge_leading_into_declaration p r))
merge_leading_into_declaration_performs absent r = nothing (search arith)
merge_leading_into_declaration_performs (present e) r = merge_leading_assignments_performs false e r

pub handle_return_statement_performs : (q : Bool) (host : Meaning) (h : Holder) (p : OptionalExpr) (r : Stmts)
    → Performs (plus (weight_return p) (weight_stmts r)) (handle_return_statement_moves q host h p r)
    (plus (records_stmt (return_of p)) (records_stmts r)) (records_stmts (handle_return_statement q host h p r))
handle_return_statement_performs q host h p r =
    let m : Worked = merge_leading_into_declaration p r in
    let a : Worked = drop_undefined_argument q host m.target m.results in
    let x : AtMost (budget_argument m) (plus (budget_stmt (return_of p)) (budget_stmts r)) = merge_leading_into_declaration_budget p r in
    let y : AtMost (budget_argument a) (plus (budget_stmt (return_of m.target)) (budget_stmts m.results)) =
    drop_undefined_argument_budget q host m.target m.results in
    let last : Performs (plus (weight_return m.target) (weight_stmts m.results))
    (drop_undefined_argument_moves q host m.target m.results ++ merge_returns_moves q h a.target a.results)
    (plus (records_stmt (return_of m.target)) (records_stmts m.results)) (records_stmts (handle_return_statement q host h p r)) =
    in_turn (drop_undefined_argument_performs q host m.target m.results) (merge_returns_performs q h a.target a.results)
    (search arith) (search arith) (search arith) in
    in_turn (merge_leading_into_declaration_performs p r) last (search arith) (search arith) (search arith)

-- throw

pub throw_step_performs : {x : Stmt} (v : IfThrow? x) (e : Expr) (r : Stmts) (more : Expr → Stmts) (more_moves : Expr → List Move)
    → ((e₁ : Expr) → Performs (plus (weight_stmt (throw e₁)) (weight_stmts r)) (more_moves e₁)
    (plus (records_stmt (throw e₁)) (records_stmts r)) (records_stmts (more e₁)))
    → Performs (plus (weight_stmt (throw e)) (weight_stmts (stmt_then x r))) (throw_step_moves v e more_moves)
    (plus (records_stmt (throw e)) (records_stmts (stmt_then x r))) (records_stmts (throw_step v e r more))
throw_step_performs (if_throw t e₀) e r more more_moves m =
    let x : Expr = minimize_conditional t e₀ e in
    let w = minimize_conditional_records t e₀ e in
    either_performs (negated (conditional_expression_count_exceeded e)) (more x) _
    (in_turn (merge_conditional_performs t (present e₀) (present e)) (m x) (search arith) (search arith) (search arith)) (nothing (search arith))
throw_step_performs no_if_throw e r more more_moves m = nothing (search arith)

pub throw_loop_performs : (r : Stmts) (e : Expr)
    → Performs (plus (weight_stmt (throw e)) (weight_stmts r)) (throw_loop_moves r e)
    (plus (records_stmt (throw e)) (records_stmts r)) (records_stmts (throw_loop r e))
throw_loop_performs no_stmts e = nothing (search arith)
throw_loop_performs (stmt_then x r) e =
    throw_step_performs (if_throw? x) e r (λ e₁. throw_loop r e₁) (λ e₁. throw_loop_moves r e₁) (throw_loop_performs r)

pub merge_throws_performs : (q : Bool) (e : Expr) (r : Stmts)
    → Performs (plus (weight_stmt (throw e)) (weight_stmts r)) (merge_throws_moves q e r)
    (plus (records_stmt (throw e)) (records_stmts r)) (records_stmts (merge_throws q e r))
merge_throws_performs true e r = throw_loop_performs r e
merge_throws_performs false e r = nothing (search arith)

pub handle_throw_statement_performs : (q : Bool) (e : Expr) (r : Stmts)
    → Performs (plus (weight_stmt (throw e)) (weight_stmts r)) (handle_throw_statement_moves q e r)
    (plus (records_stmt (throw e)) (records_stmts r)) (records_stmts (handle_throw_statement q e r))
handle_throw_statement_performs q e r =
    let w : Worked = worked_throw_argument q e r in
    let b : AtMost (budget_worked w) (plus (exprs_only (records_expr e)) (budget_stmts r)) = merged_budget q false e r in
    let c : ValueThere w = merged_value q e r in
    in_turn (merged_performs q false e r) (merge_throws_performs q (value_or_void_0 w.target) w.results)
    (search arith) (search arith) (search arith)

-- the head of a `for`

abbrev pub records_head : WorkedHead → Spares
records_head h = plus (records_init h.init) (records_stmts h.results)

pub declaration_into_head_records : (p : OptionalExpr) {r : Stmts} (v : LastDeclaration? r)
    → SameNumber (records_head (declaration_into_head p v)) (plus (exprs_only (records_optional p)) (records_stmts r))
declaration_into_head_records absent (last_declaration Var ds r) = search arith
declaration_into_head_records absent (last_declaration Let ds r) = search arith
declaration_into_head_records absent (last_declaration Const ds r) = search arith
declaration_into_head_records absent no_last_declaration = search arith
declaration_into_head_records (present e) v = search arith

pub join_init_performs : (a : Expr) (p : OptionalExpr)
    → Performs (to_take 1 0) (join_init_moves a p) (exprs_only (records_expr a + records_optional p))
    (exprs_only (records_optional (join_init_expression a p)))
join_init_performs a absent = nothing (search arith)
join_init_performs a (present e) = join_sequence_performs a e

pub expression_into_head_performs : (p : OptionalExpr) {r : Stmts} (v : LastExpression? r)
    → Performs (weight_stmts r) (expression_into_head_moves p v) (plus (exprs_only (records_optional p)) (records_stmts r))
    (records_head (expression_into_head p v))
expression_into_head_performs p (last_expression a r) =
    let h = init_from_records (join_init_expression a p) in in_turn (give _) (join_init_performs a p)
    (search arith) (search arith) (search arith)
expression_into_head_performs p {r} no_last_expression =
    let h = declaration_into_head_records p (last_declaration? r) in nothing (search arith)

pub head_from_performs : (q : Bool) (p : OptionalExpr) (r : Stmts)
    → Performs (weight_stmts r) (head_from_moves q p r) (plus (exprs_only (records_optional p)) (records_stmts r)) (records_head (head_from q p r))
head_from_performs true p r = expression_into_head_performs p (last_expression? true r)
head_from_performs false p r = let h = init_from_records p in nothing (search arith)

pub var_into_head_performs : (ds : Declarators) {r : Stmts} (v : LastDeclaration? r)
    → Performs (weight_stmts r) (var_into_head_moves v) (plus (with_stmt (records_declarators ds)) (records_stmts r))
    (records_head (var_into_head ds v))
var_into_head_performs ds (last_declaration Var ds₀ r) =
    let h = append_declarators_records ds₀ ds in beside (give _) (search arith) (search arith)
var_into_head_performs ds (last_declaration Let ds₀ r) = nothing (search arith)
var_into_head_performs ds (last_declaration Const ds₀ r) = nothing (search arith)
var_into_head_performs ds no_last_declaration = nothing (search arith)

pub head_from_declaration_performs : (q : Bool) (k : DeclarationKind) (ds : Declarators) (r : Stmts)
    → Performs (weight_stmts r) (head_from_declaration_moves q k r) (plus (with_stmt (records_declarators ds)) (records_stmts r))
    (records_head (head_from_declaration q k ds r))
head_from_declaration_performs true Var ds r = var_into_head_performs ds (last_declaration? r)
head_from_declaration_performs true Let ds r = nothing (search arith)
head_from_declaration_performs true Const ds r = nothing (search arith)
head_from_declaration_performs false k ds r = nothing (search arith)

pub for_head_performs : (q : Bool) (i : Init) (r : Stmts)
    → Performs (weight_stmts r) (handle_for_statement_moves q i r) (plus (records_init i) (records_stmts r)) (records_head (for_head q i r))
for_head_performs q no_init r = head_from_performs q absent r
for_head_performs q (init_expression e) r =
    let w : Worked = merge_leading_assignments_to_declaration true e r in
    let b : AtMost (budget_worked w) (plus (exprs_only (records_expr e)) (budget_stmts r)) = merge_leading_budget true e r in
    in_turn (merge_leading_assignments_performs true e r) (head_from_performs q w.target w.results)
    (search arith) (search arith) (search arith)
for_head_performs q (init_declaration k ds) r = head_from_declaration_performs q k ds r

pub handle_for_statement_performs : (q : Bool) (i : Init) (t u : OptionalExpr) (b : Stmt) (r : Stmts)
    → Performs (weight_stmts r) (handle_for_statement_moves q i r) (plus (records_stmt (for i t u b)) (records_stmts r))
    (records_stmts (handle_for_statement q i t u b r))
handle_for_statement_performs q i t u b r = beside (for_head_performs q i r) (search arith) (search arith)

-- switches

pub as_block_performs : {x : Stmt} (v : Block? x)
    → Performs none_used (as_block_moves v) (with_stmt (records_stmt x)) (records_stmt (as_block v))
as_block_performs (is_block ss) = beside (give _) (search arith) (search arith)
as_block_performs no_block = nothing (search arith)

pub case_block_performs : (ss : Stmts)
    → Performs none_used (case_block_moves ss) (with_stmt (records_stmts ss)) (records_stmt (case_block ss))
case_block_performs no_stmts = nothing (search arith)
case_block_performs (stmt_then x no_stmts) = beside (as_block_performs (block? x)) (search arith) (search arith)
case_block_performs (stmt_then x (stmt_then y ys)) = nothing (search arith)

pub push_discriminant_performs : (q b : Bool) (d : Expr) (r : Stmts)
    → Performs (plus (to_take 0 1) (weight_stmts r)) (push_discriminant_moves q b d r) (plus (exprs_only (records_expr d)) (records_stmts r))
    (records_stmts (push_discriminant q b d r))
push_discriminant_performs q true d r = beside (give _) (search arith) (search arith)
push_discriminant_performs q false d r = push_new_expression_performs q d r

pub inline_switch_case_performs : (q : Bool) (d : Expr) {cs : Cases} (v : OneCase? cs) (r : Stmts)
    → Performs (plus (to_take 1 0) (weight_stmts r)) (inline_switch_case_moves q d v r) (plus (records_stmt (switch d cs)) (records_stmts r))
    (records_stmts (inline_switch_case q d v r))
inline_switch_case_performs q d (one_test e t ss) r =
    let a : AtMost (records_stmt (case_block ss)) (plus none_used (with_stmt (records_stmts ss))) = in_use_after (case_block_performs ss) in
    either_performs (has_nested_break_in_list ss) _ (stmt_then (if_then (strict_equality d e) (case_block ss) no_alternate) r)
    (nothing (search arith)) (in_turn (case_block_performs ss) (take expressions) (search arith) (search arith) (search arith))
inline_switch_case_performs q d (one_default ss) r =
    let a : AtMost (records_stmt (case_block ss)) (plus none_used (with_stmt (records_stmts ss))) = in_use_after (case_block_performs ss) in
    let last : Performs (plus (to_take 0 1) (weight_stmts r)) (case_block_moves ss ++ push_discriminant_moves q (is_literal d) d r)
    (plus (with_stmt (records_stmts ss)) (plus (exprs_only (records_expr d)) (records_stmts r)))
    (records_stmts (stmt_then (case_block ss) (push_discriminant q (is_literal d) d r))) =
    in_turn (case_block_performs ss) (push_discriminant_performs q (is_literal d) d r) (search arith) (search arith) (search arith) in
    either_performs (has_nested_break_in_list ss) _ (stmt_then (case_block ss) (push_discriminant q (is_literal d) d r))
    (nothing (search arith)) (in_turn (give _) last (search arith) (search arith) (search arith))
inline_switch_case_performs q d no_one_case r = nothing (search arith)

pub handle_switch_statement_performs : (q : Bool) (d : Expr) (cs : Cases) (r : Stmts)
    → Performs (plus (weight_stmt (switch d cs)) (weight_stmts r)) (handle_switch_statement_moves q d cs r) (plus (records_stmt (switch d cs)) (records_stmts r))
    (records_stmts (handle_switch_statement q d cs r))
handle_switch_statement_performs q d cs r =
    let w : Worked = worked_discriminant q d r in
    let b : AtMost (budget_worked w) (plus (exprs_only (records_expr d)) (budget_stmts r)) = merged_budget q false d r in
    let c : ValueThere w = merged_value q d r in
    in_turn (merged_performs q false d r) (inline_switch_case_performs q (value_or_void_0 w.target) (one_case? cs) w.results)
    (search arith) (search arith) (search arith)

-- blocks

pub push_all_records : (xs r : Stmts) → SameNumber (records_stmts (push_all xs r)) (plus (records_stmts xs) (records_stmts r))
push_all_records no_stmts r = search arith
push_all_records (stmt_then x xs) r = let a = push_all_records xs (stmt_then x r) in search arith

pub handle_block_performs : (ss r : Stmts)
    → Performs none_used (handle_block_moves ss) (plus (records_stmt (block ss)) (records_stmts r)) (records_stmts (handle_block ss r))
handle_block_performs ss r =
    let h = push_all_records ss r in
    either_performs (any_cares_about_scope ss) (stmt_then (block ss) r) (push_all ss r) (nothing (search arith)) (beside (give _) (search arith) (search arith))

-- dead statements

pub bare_declarators_performs : (ns : List ℕ)
    → Performs (record { exprs = 0; stmts = 0; decls = length ns }) (bare_declarators_moves ns) none_used
    (records_declarators (bare_declarators ns))
bare_declarators_performs [] = nothing (search arith)
bare_declarators_performs (n ∷ ns) = in_turn (take declarators) (bare_declarators_performs ns) (search arith) (search arith) (search arith)

pub push_kept_vars_performs : (ns : List ℕ) (r : Stmts)
    → Performs (kept_records ns) (push_kept_vars_moves ns) (records_stmts r) (records_stmts (push_kept_vars ns r))
push_kept_vars_performs [] r = nothing (search arith)
push_kept_vars_performs (n ∷ ns) r =
    let h = bare_declarators_records ns in in_turn (take statements) (bare_declarators_performs (n ∷ ns))
    (search arith) (search arith) (search arith)

pub keep_declarations_performs : (rest r : Stmts)
    → Performs none_used (keep_declarations_moves rest) (plus (records_stmts rest) (records_stmts r))
    (records_stmts (keep_declarations rest r))
keep_declarations_performs rest r =
    let ns : List ℕ = var_declared_list rest in
    let kept : Stmts = push_all (lexical_declarations rest) r in
    let a = push_all_records (lexical_declarations rest) r in
    let b = dead_and_kept rest in
    let c = names_are_dead rest in
    let d = noted_names ns [] in
    let e = noted_statement ns [] in
    in_turn (give _) (push_kept_vars_performs (note_hoisted_names ns []) kept) (search arith) (search arith) (search arith)

-- the work on the rest
abbrev pub RestPerforms : Stmts → (Stmts → Stmts) → (Stmts → List Move) → Type 0
RestPerforms rest more more_moves =
    (r : Stmts)
    → Performs (plus (weight_stmts rest) (weight_stmts r)) (more_moves r) (plus (records_stmts rest) (records_stmts r))
    (records_stmts (more r))

pub then_rest_performs : (rest : Stmts) (more : Stmts → Stmts) (more_moves : Stmts → List Move) → RestPerforms rest more more_moves
    → RestPerforms rest (then_rest more rest) (then_rest_moves more_moves rest)
then_rest_performs rest more more_moves m r =
    either_performs (last_is_terminated r && is_nonempty rest) (keep_declarations rest r) (more r)
    (beside (keep_declarations_performs rest r) (search arith) (search arith)) (m r)
