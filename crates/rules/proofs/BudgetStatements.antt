-- The rules on one statement keep within the budget.
use Rattle.std.proofs.Common.{suc, ◌+◌, ◌≤◌, Bool, true, false, not as negated, arith}
use Rattle.script.specs.declared.DeclarationKind.{DeclarationKind}
use Rattle.script.specs.declared.DeclarationKind.TheVariants.{Var, Let, Const}
use Rattle.script.specs.Judge.{Spares}
use Rattle.script.specs.Sound.{plus, exprs_only, records_expr, records_optional, records_init, with_stmt, records_declarators}
use Rattle.script.specs.Tree.{Stmt, Stmts, OptionalExpr, Expr, return_of, stmt_then, if_then, no_alternate, absent, expression, present}
use Rattle.script.specs.Tree.{no_stmts, throw, init_expression, Declarators, for, Init, no_init, init_declaration, block, switch, Cases}
use Rattle.hosts.specs.Meaning.{Meaning}
use Rattle.rules.specs.Holder.{Holder}
use Rattle.rules.specs.Literals.{is_literal}
use Rattle.rules.specs.Expressions.{minimize_conditional}
use Rattle.rules.specs.Statements.{push_all, handle_block, any_cares_about_scope}
use Rattle.rules.specs.Merging.{Worked, last_expression, last_expression?, LastExpression?, merge_last_expression_as, no_last_expression}
use Rattle.rules.specs.Merging.{merge_leading_assignments_to_declaration, LastDeclaration?, last_declaration, no_last_declaration}
use Rattle.rules.specs.Merging.{last_declaration?}
use Rattle.rules.specs.Returns.{merge_return, value_or_void_0, may_merge_return, return_step, IfReturn?, if_return, no_if_return}
use Rattle.rules.specs.Returns.{return_loop, if_return?, merge_returns, drop_undefined_as, drop_undefined_argument}
use Rattle.rules.specs.Returns.{merge_leading_into_declaration, handle_return_statement, conditional_expression_count_exceeded}
use Rattle.rules.specs.For.{join_init_expression, init_from, declaration_into_head, expression_into_head, head_from, var_into_head}
use Rattle.rules.specs.For.{head_from_declaration, for_head, handle_for_statement}
use Rattle.rules.specs.Throws.{throw_step, IfThrow?, if_throw, no_if_throw, throw_loop, if_throw?, merge_throws, handle_throw_statement}
use Rattle.rules.specs.Throws.{worked_throw_argument}
use Rattle.rules.specs.Ifs.{Block?, is_block, no_block, block?}
use Rattle.rules.specs.Switches.{as_block, case_block, push_discriminant, inline_switch_case, OneCase?, one_test, has_nested_break_in_list}
use Rattle.rules.specs.Switches.{one_default, no_one_case, handle_switch_statement, worked_discriminant, one_case?}
use Rattle.rules.specs.Budget.{AtMost, budget_stmts, budget_stmt, weight_return, to_take, budget_worked, SameNumber, budget_head}
use Rattle.rules.proofs.BudgetExpressions.{minimize_conditional_records, join_sequence_records}
use Rattle.rules.proofs.BudgetMerging.{push_new_expression_budget, either_budget, merge_leading_budget, merged_budget, ValueThere}
use Rattle.rules.proofs.BudgetMerging.{merged_value, append_declarators_records}

-- returns: more is given the argument of the return in hand

abbrev pub ReturnWithin : Stmts → (OptionalExpr → Stmts) → Type 0
ReturnWithin r more = (p : OptionalExpr) → AtMost (budget_stmts (more p)) (plus (budget_stmt (return_of p)) (budget_stmts r))

pub merge_return_budget : (h : Holder) (t : Expr) (p' p : OptionalExpr) (r : Stmts) (more : OptionalExpr → Stmts) → ReturnWithin r more
    → AtMost (budget_stmts (merge_return h t p' p r more))
    (plus (budget_stmt (return_of p)) (budget_stmts (stmt_then (if_then t (return_of p') no_alternate) r)))
merge_return_budget h t absent absent r more m = let a = push_new_expression_budget true t r in search arith
merge_return_budget h t absent (present e) r more m =
    let x : Expr = minimize_conditional t (value_or_void_0 absent) e in
    either_budget (may_merge_return h (present e)) (more (present x)) _ _
    (let a = m (present x) in let b = minimize_conditional_records t (value_or_void_0 absent) e in (search arith)) (search arith)
merge_return_budget h t (present x) absent r more m =
    let y : Expr = minimize_conditional t x (value_or_void_0 absent) in
    either_budget (may_merge_return h absent) (more (present y)) _ _
    (let a = m (present y) in let b = minimize_conditional_records t x (value_or_void_0 absent) in (search arith)) (search arith)
merge_return_budget h t (present x) (present e) r more m =
    let y : Expr = minimize_conditional t x e in
    either_budget (may_merge_return h (present e)) (more (present y)) _ _
    (let a = m (present y) in let b = minimize_conditional_records t x e in (search arith)) (search arith)

pub return_step_budget : (h : Holder) {x : Stmt} (v : IfReturn? x) (p : OptionalExpr) (r : Stmts) (more : OptionalExpr → Stmts)
    → ReturnWithin r more
    → AtMost (budget_stmts (return_step h v p r more)) (plus (budget_stmt (return_of p)) (budget_stmts (stmt_then x r)))
return_step_budget h (if_return t p') p r more m = merge_return_budget h t p' p r more m
return_step_budget h no_if_return p r more m = search arith

pub return_loop_budget : (h : Holder) (r : Stmts) (p : OptionalExpr)
    → AtMost (budget_stmts (return_loop h r p)) (plus (budget_stmt (return_of p)) (budget_stmts r))
return_loop_budget h no_stmts p = search arith
return_loop_budget h (stmt_then x r) p = return_step_budget h (if_return? x) p r (λ p₁. return_loop h r p₁) (return_loop_budget h r)

pub merge_returns_budget : (q : Bool) (h : Holder) (p : OptionalExpr) (r : Stmts)
    → AtMost (budget_stmts (merge_returns q h p r)) (plus (budget_stmt (return_of p)) (budget_stmts r))
merge_returns_budget true h p r = return_loop_budget h r p
merge_returns_budget false h p r = search arith

-- a return's argument that the rules have worked on, and the results before it
abbrev pub budget_argument : Worked → Spares
budget_argument w = plus (budget_stmt (return_of w.target)) (budget_stmts w.results)

pub drop_undefined_as_budget : (q a b : Bool) (e : Expr) (r : Stmts)
    → AtMost (budget_argument (drop_undefined_as q a b e r)) (plus (budget_stmt (return_of (present e))) (budget_stmts r))
drop_undefined_as_budget q true true e r = search arith
drop_undefined_as_budget q true false e r = let a = push_new_expression_budget q e r in search arith
drop_undefined_as_budget q false b e r = merge_last_argument (last_expression? q r)
  where
    merge_last_argument : {r₁ : Stmts} (v : LastExpression? r₁)
        → AtMost (budget_argument (merge_last_expression_as v e)) (plus (budget_stmt (return_of (present e))) (budget_stmts r₁))
    merge_last_argument (last_expression a r₁) = let h = join_sequence_records a e in search arith
    merge_last_argument no_last_expression = search arith

pub drop_undefined_argument_budget : (q : Bool) (host : Meaning) (p : OptionalExpr) (r : Stmts)
    → AtMost (budget_argument (drop_undefined_argument q host p r)) (plus (budget_stmt (return_of p)) (budget_stmts r))
drop_undefined_argument_budget q host absent r = search arith
drop_undefined_argument_budget q host (present e) r = drop_undefined_as_budget q (host.undefined e) (host.harmless e) e r

pub weight_of_argument : (p : OptionalExpr) → AtMost (weight_return p) (to_take 2 1)
weight_of_argument absent = search arith
weight_of_argument (present e) = search arith

pub merge_leading_into_declaration_budget : (p : OptionalExpr) (r : Stmts)
    → AtMost (budget_argument (merge_leading_into_declaration p r)) (plus (budget_stmt (return_of p)) (budget_stmts r))
merge_leading_into_declaration_budget absent r = search arith
merge_leading_into_declaration_budget (present e) r =
    let w : Worked = merge_leading_assignments_to_declaration false e r in
    let a = merge_leading_budget false e r in
    let b = weight_of_argument w.target in
    (search arith)

pub handle_return_statement_budget : (q : Bool) (host : Meaning) (h : Holder) (p : OptionalExpr) (r : Stmts)
    → AtMost (budget_stmts (handle_return_statement q host h p r)) (plus (budget_stmt (return_of p)) (budget_stmts r))
handle_return_statement_budget q host h p r =
    let m : Worked = merge_leading_into_declaration p r in
    let a : Worked = drop_undefined_argument q host m.target m.results in
    let x = merge_leading_into_declaration_budget p r in
    let y = drop_undefined_argument_budget q host m.target m.results in
    let z = merge_returns_budget q h a.target a.results in
    (search arith)

-- throw

pub throw_step_budget : {x : Stmt} (v : IfThrow? x) (e : Expr) (r : Stmts) (more : Expr → Stmts)
    → ((e₁ : Expr) → AtMost (budget_stmts (more e₁)) (plus (budget_stmt (throw e₁)) (budget_stmts r)))
    → AtMost (budget_stmts (throw_step v e r more)) (plus (budget_stmt (throw e)) (budget_stmts (stmt_then x r)))
throw_step_budget (if_throw t e₀) e r more m =
    let x : Expr = minimize_conditional t e₀ e in
    either_budget (negated (conditional_expression_count_exceeded e)) (more x) _ _
    (let a = m x in let b = minimize_conditional_records t e₀ e in (search arith)) (search arith)
throw_step_budget no_if_throw e r more m = search arith

pub throw_loop_budget : (r : Stmts) (e : Expr)
    → AtMost (budget_stmts (throw_loop r e)) (plus (budget_stmt (throw e)) (budget_stmts r))
throw_loop_budget no_stmts e = search arith
throw_loop_budget (stmt_then x r) e = throw_step_budget (if_throw? x) e r (λ e₁. throw_loop r e₁) (throw_loop_budget r)

pub merge_throws_budget : (q : Bool) (e : Expr) (r : Stmts)
    → AtMost (budget_stmts (merge_throws q e r)) (plus (budget_stmt (throw e)) (budget_stmts r))
merge_throws_budget true e r = throw_loop_budget r e
merge_throws_budget false e r = search arith

pub handle_throw_statement_budget : (q : Bool) (e : Expr) (r : Stmts)
    → AtMost (budget_stmts (handle_throw_statement q e r)) (plus (budget_stmt (throw e)) (budget_stmts r))
handle_throw_statement_budget q e r =
    let w : Worked = worked_throw_argument q e r in
    let a = merge_throws_budget q (value_or_void_0 w.target) w.results in
    let b : AtMost (budget_worked w) (plus (exprs_only (records_expr e)) (budget_stmts r)) = merged_budget q false e r in
    let c : ValueThere w = merged_value q e r in
    (search arith)

-- the head of a `for`

pub join_init_records : (a : Expr) (p : OptionalExpr)
    → records_optional (join_init_expression a p) ≤ suc (records_expr a + records_optional p)
join_init_records a absent = omega arith
join_init_records a (present e) = join_sequence_records a e

pub init_from_records : (p : OptionalExpr) → SameNumber (records_init (init_from p)) (exprs_only (records_optional p))
init_from_records absent = search arith
init_from_records (present e) = search arith

pub declaration_into_head_budget : (p : OptionalExpr) {r : Stmts} (v : LastDeclaration? r)
    → AtMost (budget_head (declaration_into_head p v)) (plus (exprs_only (records_optional p)) (budget_stmts r))
declaration_into_head_budget absent (last_declaration Var ds r) = search arith
declaration_into_head_budget absent (last_declaration Let ds r) = search arith
declaration_into_head_budget absent (last_declaration Const ds r) = search arith
declaration_into_head_budget absent no_last_declaration = search arith
declaration_into_head_budget (present e) v = search arith

pub expression_into_head_budget : (p : OptionalExpr) {r : Stmts} (v : LastExpression? r)
    → AtMost (budget_head (expression_into_head p v)) (plus (exprs_only (records_optional p)) (budget_stmts r))
expression_into_head_budget p (last_expression a r) =
    let h = init_from_records (join_init_expression a p) in let g = join_init_records a p in search arith
expression_into_head_budget p {r} no_last_expression = declaration_into_head_budget p (last_declaration? r)

pub head_from_budget : (q : Bool) (p : OptionalExpr) (r : Stmts)
    → AtMost (budget_head (head_from q p r)) (plus (exprs_only (records_optional p)) (budget_stmts r))
head_from_budget true p r = expression_into_head_budget p (last_expression? true r)
head_from_budget false p r = let h = init_from_records p in search arith

pub var_into_head_budget : (ds : Declarators) {r : Stmts} (v : LastDeclaration? r)
    → AtMost (budget_head (var_into_head ds v)) (plus (with_stmt (records_declarators ds)) (budget_stmts r))
var_into_head_budget ds (last_declaration Var ds₀ r) = let h = append_declarators_records ds₀ ds in search arith
var_into_head_budget ds (last_declaration Let ds₀ r) = search arith
var_into_head_budget ds (last_declaration Const ds₀ r) = search arith
var_into_head_budget ds no_last_declaration = search arith

pub head_from_declaration_budget : (q : Bool) (k : DeclarationKind) (ds : Declarators) (r : Stmts)
    → AtMost (budget_head (head_from_declaration q k ds r)) (plus (with_stmt (records_declarators ds)) (budget_stmts r))
head_from_declaration_budget true Var ds r = var_into_head_budget ds (last_declaration? r)
head_from_declaration_budget true Let ds r = search arith
head_from_declaration_budget true Const ds r = search arith
head_from_declaration_budget false k ds r = search arith

pub for_head_budget : (q : Bool) (i : Init) (r : Stmts) → AtMost (budget_head (for_head q i r)) (plus (records_init i) (budget_stmts r))
for_head_budget q no_init r = head_from_budget q absent r
for_head_budget q (init_expression e) r =
    let w : Worked = merge_leading_assignments_to_declaration true e r in
    let a = head_from_budget q w.target w.results in
    let b = merge_leading_budget true e r in
    (search arith)
for_head_budget q (init_declaration k ds) r = head_from_declaration_budget q k ds r

pub handle_for_statement_budget : (q : Bool) (i : Init) (t u : OptionalExpr) (b : Stmt) (r : Stmts)
    → AtMost (budget_stmts (handle_for_statement q i t u b r)) (plus (budget_stmt (for i t u b)) (budget_stmts r))
handle_for_statement_budget q i t u b r = let h = for_head_budget q i r in search arith

-- switches

pub as_block_budget : {x : Stmt} (v : Block? x) → AtMost (budget_stmt (as_block v)) (with_stmt (budget_stmt x))
as_block_budget (is_block ss) = search arith
as_block_budget no_block = search arith

pub case_block_budget : (ss : Stmts) → AtMost (budget_stmt (case_block ss)) (with_stmt (budget_stmts ss))
case_block_budget no_stmts = search arith
case_block_budget (stmt_then x no_stmts) = let h = as_block_budget (block? x) in search arith
case_block_budget (stmt_then x (stmt_then y ys)) = search arith

pub push_discriminant_budget : (q b : Bool) (d : Expr) (r : Stmts)
    → AtMost (budget_stmts (push_discriminant q b d r)) (plus (budget_stmt (expression d)) (budget_stmts r))
push_discriminant_budget q true d r = search arith
push_discriminant_budget q false d r = push_new_expression_budget q d r

pub inline_switch_case_budget : (q : Bool) (d : Expr) {cs : Cases} (v : OneCase? cs) (r : Stmts)
    → AtMost (budget_stmts (inline_switch_case q d v r)) (plus (budget_stmt (switch d cs)) (budget_stmts r))
inline_switch_case_budget q d (one_test e t ss) r =
    either_budget (has_nested_break_in_list ss) _ _ _ (search arith) (let a = case_block_budget ss in (search arith))
inline_switch_case_budget q d (one_default ss) r =
    either_budget (has_nested_break_in_list ss) _ _ _ (search arith)
    (let a = case_block_budget ss in let b = push_discriminant_budget q (is_literal d) d r in (search arith))
inline_switch_case_budget q d no_one_case r = search arith

pub handle_switch_statement_budget : (q : Bool) (d : Expr) (cs : Cases) (r : Stmts)
    → AtMost (budget_stmts (handle_switch_statement q d cs r)) (plus (budget_stmt (switch d cs)) (budget_stmts r))
handle_switch_statement_budget q d cs r =
    let w : Worked = worked_discriminant q d r in
    let a = inline_switch_case_budget q (value_or_void_0 w.target) (one_case? cs) w.results in
    let b : AtMost (budget_worked w) (plus (exprs_only (records_expr d)) (budget_stmts r)) = merged_budget q false d r in
    let c : ValueThere w = merged_value q d r in
    (search arith)

-- blocks

pub push_all_budget : (xs r : Stmts) → SameNumber (budget_stmts (push_all xs r)) (plus (budget_stmts xs) (budget_stmts r))
push_all_budget no_stmts r = search arith
push_all_budget (stmt_then x xs) r = let a = push_all_budget xs (stmt_then x r) in search arith

pub handle_block_budget : (ss r : Stmts)
    → AtMost (budget_stmts (handle_block ss r)) (plus (budget_stmt (block ss)) (budget_stmts r))
handle_block_budget ss r =
    either_budget (any_cares_about_scope ss) (stmt_then (block ss) r) (push_all ss r) _ (search arith) (let a = push_all_budget ss r in (search arith))
