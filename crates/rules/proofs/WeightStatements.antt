-- The rules on return, throw, for, switch and blocks leave the results as they are or make them lighter.
use Rattle.std.proofs.Common.{◌≡◌, ◌+◌, ◌<◌, ◌≤◌, Bool, true, false, cond, not as negated, ◌⊎◌, sym, refl, ap, subst, inl, inr, arith}
use Rattle.script.specs.declared.DeclarationKind.{DeclarationKind}
use Rattle.script.specs.declared.DeclarationKind.TheVariants.{Var, Let, Const}
use Rattle.script.specs.Sound.{records_expr, records_optional}
use Rattle.script.specs.Tree.{Stmt, Expr, OptionalExpr, absent, present, Stmts, no_stmts, stmt_then, if_then, return_of, no_alternate, throw}
use Rattle.script.specs.Tree.{Init, no_init, init_expression, init_declaration, Declarators, for, switch, Cases, block}
use Rattle.hosts.specs.Meaning.{Meaning}
use Rattle.rules.specs.Holder.{Holder}
use Rattle.rules.specs.Literals.{is_literal}
use Rattle.rules.specs.Expressions.{minimize_conditional}
use Rattle.rules.specs.Statements.{any_cares_about_scope, push_all, handle_block}
use Rattle.rules.specs.Merging.{Worked, LastExpression?, last_expression, no_last_expression}
use Rattle.rules.specs.Merging.{last_expression?, LastDeclaration?, last_declaration, no_last_declaration, last_declaration?}
use Rattle.rules.specs.Merging.{merge_leading_assignments_to_declaration, merge_last_expression_into_sequence}
use Rattle.rules.specs.Returns.{value_or_void_0, may_merge_return, merge_return, IfReturn?, return_step, if_return, no_if_return, return_loop}
use Rattle.rules.specs.Returns.{if_return?, merge_returns, drop_undefined_as, drop_undefined_argument, merge_leading_into_declaration}
use Rattle.rules.specs.Returns.{handle_return_statement, conditional_expression_count_exceeded}
use Rattle.rules.specs.For.{WorkedHead, init_from, join_init_expression, declaration_into_head, expression_into_head, head_from}
use Rattle.rules.specs.For.{var_into_head, head_from_declaration, for_head, handle_for_statement}
use Rattle.rules.specs.Throws.{IfThrow?, throw_step, if_throw, no_if_throw, throw_loop, if_throw?, merge_throws, handle_throw_statement}
use Rattle.rules.specs.Throws.{worked_throw_argument}
use Rattle.rules.specs.Ifs.{Block?, is_block, no_block, block?}
use Rattle.rules.specs.Switches.{as_block, case_block, push_discriminant, OneCase?, inline_switch_case, one_test, has_nested_break_in_list}
use Rattle.rules.specs.Switches.{one_default, no_one_case, handle_switch_statement, worked_discriminant, one_case?}
use Rattle.rules.specs.Weight.{weight, weight_of_statement, weight_of_return, weight_of_init, weight_of_cases}
use Rattle.rules.proofs.WeightExpressions.{minimize_conditional_records, join_sequence_records}
use Rattle.rules.proofs.WeightMerging.{Sinks, sinks_below, sinks_then, either_sinks, WorkedSinks, merge_last_sinks, push_new_expression_sinks}
use Rattle.rules.proofs.WeightMerging.{merge_leading_assignments_sinks, merged_worked_sinks, around_worked, append_declarators_weight, target_records}

-- returns

abbrev ReturnsSink : (OptionalExpr → Stmts) → Stmts → Type 0
ReturnsSink more r = (p : OptionalExpr) → Sinks (more p) (stmt_then (return_of p) r)

-- two returns made one
merged_return_sinks : (b : Bool) (t x e : Expr) (p' p : OptionalExpr) (r : Stmts) (more : OptionalExpr → Stmts) → ReturnsSink more r
    → 24 + (records_expr x + records_expr e) < weight_of_return p' + weight_of_return p
    → let old : Stmts = stmt_then (return_of p) (stmt_then (if_then t (return_of p') no_alternate) r) in
    Sinks (cond b (more (present (minimize_conditional t x e))) old) old
merged_return_sinks b t x e p' p r more m l =
    let c : Expr = minimize_conditional t x e in
    let i = minimize_conditional_records t x e in
    let j = sinks_below (more (present c)) (stmt_then (return_of (present c)) r) (m (present c)) in
    either_sinks b (more (present c)) _ _ (inr (omega arith)) (inl refl)

merge_return_sinks : (h : Holder) (t : Expr) (p' p : OptionalExpr) (r : Stmts) (more : OptionalExpr → Stmts) → ReturnsSink more r
    → Sinks (merge_return h t p' p r more) (stmt_then (return_of p) (stmt_then (if_then t (return_of p') no_alternate) r))
merge_return_sinks h t absent absent r more m =
    let i = sinks_below _ _ (push_new_expression_sinks true t r) in inr (omega arith)
merge_return_sinks h t absent (present e) r more m =
    merged_return_sinks (may_merge_return h (present e)) t (value_or_void_0 absent) e absent (present e) r more m (omega arith)
merge_return_sinks h t (present x) absent r more m =
    merged_return_sinks (may_merge_return h absent) t x (value_or_void_0 absent) (present x) absent r more m (omega arith)
merge_return_sinks h t (present x) (present e) r more m =
    merged_return_sinks (may_merge_return h (present e)) t x e (present x) (present e) r more m (omega arith)

return_step_sinks : (h : Holder) {x : Stmt} (v : IfReturn? x) (p : OptionalExpr) (r : Stmts) (more : OptionalExpr → Stmts)
    → ReturnsSink more r → Sinks (return_step h v p r more) (stmt_then (return_of p) (stmt_then x r))
return_step_sinks h (if_return t p') p r more m = merge_return_sinks h t p' p r more m
return_step_sinks h no_if_return p r more m = inl refl

return_loop_sinks : (h : Holder) (r : Stmts) (p : OptionalExpr) → Sinks (return_loop h r p) (stmt_then (return_of p) r)
return_loop_sinks h no_stmts p = inl refl
return_loop_sinks h (stmt_then x r) p =
    return_step_sinks h (if_return? x) p r (λ p₁. return_loop h r p₁) (λ p₁. return_loop_sinks h r p₁)

merge_returns_sinks : (q : Bool) (h : Holder) (p : OptionalExpr) (r : Stmts) → Sinks (merge_returns q h p r) (stmt_then (return_of p) r)
merge_returns_sinks true h p r = return_loop_sinks h r p
merge_returns_sinks false h p r = inl refl

-- a return that was worked on
abbrev ReturnSinks : Worked → OptionalExpr → Stmts → Type 0
ReturnSinks w p r = Sinks (stmt_then (return_of w.target) w.results) (stmt_then (return_of p) r)

return_weight : (d : Bool) (p : OptionalExpr) → weight_of_return p ≤ 25 + target_records d p
return_weight true absent = omega arith
return_weight true (present e) = omega arith
return_weight false absent = omega arith
return_weight false (present e) = omega arith

return_worked : (d : Bool) (w : Worked) (e : Expr) (r : Stmts) → WorkedSinks d w e r → ReturnSinks w (present e) r
return_worked d w e r (inl p) = inl (ap (λ (x : Worked). stmt_then (return_of x.target) x.results) p)
return_worked d w e r (inr l) = let h = return_weight d w.target in inr (omega arith)

drop_undefined_as_sinks : (q a b : Bool) (e : Expr) (r : Stmts) → ReturnSinks (drop_undefined_as q a b e r) (present e) r
drop_undefined_as_sinks q true true e r = inr (omega arith)
drop_undefined_as_sinks q true false e r = let i = sinks_below _ _ (push_new_expression_sinks q e r) in inr (omega arith)
drop_undefined_as_sinks q false b e r =
    return_worked true (merge_last_expression_into_sequence q e r) e r (merge_last_sinks true (last_expression? q r) e)

drop_undefined_argument_sinks : (q : Bool) (host : Meaning) (p : OptionalExpr) (r : Stmts)
    → ReturnSinks (drop_undefined_argument q host p r) p r
drop_undefined_argument_sinks q host absent r = inl refl
drop_undefined_argument_sinks q host (present e) r = drop_undefined_as_sinks q (host.undefined e) (host.harmless e) e r

merge_leading_into_declaration_sinks : (p : OptionalExpr) (r : Stmts) → ReturnSinks (merge_leading_into_declaration p r) p r
merge_leading_into_declaration_sinks absent r = inl refl
merge_leading_into_declaration_sinks (present e) r =
    return_worked false (merge_leading_assignments_to_declaration false e r) e r (merge_leading_assignments_sinks false e r)

pub handle_return_statement_sinks : (q : Bool) (host : Meaning) (h : Holder) (p : OptionalExpr) (r : Stmts)
    → Sinks (handle_return_statement q host h p r) (stmt_then (return_of p) r)
handle_return_statement_sinks q host h p r =
    let m : Worked = merge_leading_into_declaration p r in
    let a : Worked = drop_undefined_argument q host m.target m.results in
    sinks_then (merge_returns q h a.target a.results) (stmt_then (return_of a.target) a.results) (stmt_then (return_of p) r)
    (merge_returns_sinks q h a.target a.results)
    (sinks_then (stmt_then (return_of a.target) a.results) (stmt_then (return_of m.target) m.results) (stmt_then (return_of p) r)
    (drop_undefined_argument_sinks q host m.target m.results) (merge_leading_into_declaration_sinks p r))

-- throw

throw_step_sinks : {x : Stmt} (v : IfThrow? x) (e : Expr) (r : Stmts) (more : Expr → Stmts)
    → ((e₁ : Expr) → Sinks (more e₁) (stmt_then (throw e₁) r)) → Sinks (throw_step v e r more) (stmt_then (throw e) (stmt_then x r))
throw_step_sinks (if_throw t e₀) e r more m =
    let c : Expr = minimize_conditional t e₀ e in
    let i = minimize_conditional_records t e₀ e in
    let j = sinks_below (more c) (stmt_then (throw c) r) (m c) in
    either_sinks (negated (conditional_expression_count_exceeded e)) (more c) _ _ (inr (omega arith)) (inl refl)
throw_step_sinks no_if_throw e r more m = inl refl

throw_loop_sinks : (r : Stmts) (e : Expr) → Sinks (throw_loop r e) (stmt_then (throw e) r)
throw_loop_sinks no_stmts e = inl refl
throw_loop_sinks (stmt_then x r) e = throw_step_sinks (if_throw? x) e r (λ e₁. throw_loop r e₁) (λ e₁. throw_loop_sinks r e₁)

merge_throws_sinks : (q : Bool) (e : Expr) (r : Stmts) → Sinks (merge_throws q e r) (stmt_then (throw e) r)
merge_throws_sinks true e r = throw_loop_sinks r e
merge_throws_sinks false e r = inl refl

pub handle_throw_statement_sinks : (q : Bool) (e : Expr) (r : Stmts) → Sinks (handle_throw_statement q e r) (stmt_then (throw e) r)
handle_throw_statement_sinks q e r =
    let w : Worked = worked_throw_argument q e r in
    let v : Expr = value_or_void_0 w.target in
    sinks_then (merge_throws q v w.results) (stmt_then (throw v) w.results) (stmt_then (throw e) r)
    (merge_throws_sinks q v w.results)
    (around_worked (λ e₁ r₁. stmt_then (throw e₁) r₁) 20 (λ e₁ r₁. omega arith) w e r (merged_worked_sinks q false e r))

-- the head of a `for`

abbrev HeadSinks : WorkedHead → Init → Stmts → Type 0
HeadSinks h i r = (h ≡ record { init = i; results = r }) ⊎ (weight_of_init h.init + weight h.results < weight_of_init i + weight r)

init_from_weight : (p : OptionalExpr) → weight_of_init (init_from p) ≡ records_optional p
init_from_weight absent = refl
init_from_weight (present e) = refl

join_init_weight : (a : Expr) (p : OptionalExpr)
    → records_optional (join_init_expression a p) ≤ records_expr a + records_optional p + 1
join_init_weight a absent = omega arith
join_init_weight a (present e) = join_sequence_records a e

declaration_into_head_sinks : (p : OptionalExpr) {r : Stmts} (v : LastDeclaration? r)
    → HeadSinks (declaration_into_head p v) (init_from p) r
declaration_into_head_sinks absent (last_declaration Var ds r) = inr (omega arith)
declaration_into_head_sinks absent (last_declaration Let ds r) = inl refl
declaration_into_head_sinks absent (last_declaration Const ds r) = inl refl
declaration_into_head_sinks absent no_last_declaration = inl refl
declaration_into_head_sinks (present e) v = inl refl

expression_into_head_sinks : (p : OptionalExpr) {r : Stmts} (v : LastExpression? r)
    → HeadSinks (expression_into_head p v) (init_from p) r
expression_into_head_sinks p (last_expression a r) =
    let i = init_from_weight p in
    let j = init_from_weight (join_init_expression a p) in let k = join_init_weight a p in inr (omega arith)
expression_into_head_sinks p {r} no_last_expression = declaration_into_head_sinks p (last_declaration? r)

head_from_sinks : (q : Bool) (p : OptionalExpr) (r : Stmts) → HeadSinks (head_from q p r) (init_from p) r
head_from_sinks true p r = expression_into_head_sinks p (last_expression? true r)
head_from_sinks false p r = inl refl

var_into_head_sinks : (ds : Declarators) {r : Stmts} (v : LastDeclaration? r)
    → HeadSinks (var_into_head ds v) (init_declaration Var ds) r
var_into_head_sinks ds (last_declaration Var ds₀ r) = let h = append_declarators_weight ds₀ ds in inr (omega arith)
var_into_head_sinks ds (last_declaration Let ds₀ r) = inl refl
var_into_head_sinks ds (last_declaration Const ds₀ r) = inl refl
var_into_head_sinks ds no_last_declaration = inl refl

head_from_declaration_sinks : (q : Bool) (k : DeclarationKind) (ds : Declarators) (r : Stmts)
    → HeadSinks (head_from_declaration q k ds r) (init_declaration k ds) r
head_from_declaration_sinks true Var ds r = var_into_head_sinks ds (last_declaration? r)
head_from_declaration_sinks true Let ds r = inl refl
head_from_declaration_sinks true Const ds r = inl refl
head_from_declaration_sinks false k ds r = inl refl

head_below : (h : WorkedHead) (i : Init) (r : Stmts) → HeadSinks h i r
    → weight_of_init h.init + weight h.results ≤ weight_of_init i + weight r
head_below h i r (inl p) =
    let e : weight_of_init h.init + weight h.results ≡ weight_of_init i + weight r =
    ap (λ (x : WorkedHead). weight_of_init x.init + weight x.results) p in
    omega arith
head_below h i r (inr l) = omega arith

head_worked : (q : Bool) (w : Worked) (e : Expr) (r : Stmts) → WorkedSinks true w e r
    → HeadSinks (head_from q w.target w.results) (init_expression e) r
head_worked q w e r (inl p) =
    subst (λ (x : Worked). HeadSinks (head_from q x.target x.results) (init_expression e) r) (sym p) (head_from_sinks q (present e) r)
head_worked q w e r (inr l) =
    let i = init_from_weight w.target in
    let j = head_below _ (init_from w.target) w.results (head_from_sinks q w.target w.results) in inr (omega arith)

for_head_sinks : (q : Bool) (i : Init) (r : Stmts) → HeadSinks (for_head q i r) i r
for_head_sinks q no_init r = head_from_sinks q absent r
for_head_sinks q (init_expression e) r =
    head_worked q (merge_leading_assignments_to_declaration true e r) e r (merge_leading_assignments_sinks true e r)
for_head_sinks q (init_declaration k ds) r = head_from_declaration_sinks q k ds r

pub handle_for_statement_sinks : (q : Bool) (i : Init) (t u : OptionalExpr) (b : Stmt) (r : Stmts)
    → Sinks (handle_for_statement q i t u b r) (stmt_then (for i t u b) r)
handle_for_statement_sinks q i t u b r = by (for_head q i r) (for_head_sinks q i r)
  where
    by : (h : WorkedHead) → HeadSinks h i r → Sinks (stmt_then (for h.init t u b) h.results) (stmt_then (for i t u b) r)
    by h (inl p) = inl (ap (λ (x : WorkedHead). stmt_then (for x.init t u b) x.results) p)
    by h (inr l) = inr (omega arith)

-- switches

as_block_weight : {x : Stmt} (v : Block? x) → weight_of_statement (as_block v) ≤ 1 + weight_of_statement x
as_block_weight (is_block ss) = omega arith
as_block_weight no_block = omega arith

case_block_weight : (ss : Stmts) → weight_of_statement (case_block ss) ≤ 1 + weight ss
case_block_weight no_stmts = omega arith
case_block_weight (stmt_then x no_stmts) = let h = as_block_weight (block? x) in omega arith
case_block_weight (stmt_then x (stmt_then y ys)) = omega arith

push_discriminant_weight : (q b : Bool) (d : Expr) (r : Stmts) → weight (push_discriminant q b d r) ≤ 3 + (records_expr d + weight r)
push_discriminant_weight q true d r = omega arith
push_discriminant_weight q false d r = let h = sinks_below _ _ (push_new_expression_sinks q d r) in omega arith

inline_switch_case_sinks : (q : Bool) (d : Expr) {cs : Cases} (v : OneCase? cs) (r : Stmts)
    → Sinks (inline_switch_case q d v r) (stmt_then (switch d cs) r)
inline_switch_case_sinks q d (one_test e t ss) r =
    let h = case_block_weight ss in either_sinks (has_nested_break_in_list ss) _ _ _ (inl refl) (inr (omega arith))
inline_switch_case_sinks q d (one_default ss) r =
    let h = case_block_weight ss in
    let i = push_discriminant_weight q (is_literal d) d r in
    either_sinks (has_nested_break_in_list ss) _ _ _ (inl refl) (inr (omega arith))
inline_switch_case_sinks q d no_one_case r = inl refl

pub handle_switch_statement_sinks : (q : Bool) (d : Expr) (cs : Cases) (r : Stmts)
    → Sinks (handle_switch_statement q d cs r) (stmt_then (switch d cs) r)
handle_switch_statement_sinks q d cs r =
    let w : Worked = worked_discriminant q d r in
    let v : Expr = value_or_void_0 w.target in
    sinks_then (inline_switch_case q v (one_case? cs) w.results) (stmt_then (switch v cs) w.results) (stmt_then (switch d cs) r)
    (inline_switch_case_sinks q v (one_case? cs) w.results)
    (around_worked (λ e₁ r₁. stmt_then (switch e₁ cs) r₁) (10 + weight_of_cases cs) (λ e₁ r₁. omega arith) w d r
    (merged_worked_sinks q false d r))

-- blocks

pub push_all_weight : (xs r : Stmts) → weight (push_all xs r) ≡ weight xs + weight r
push_all_weight no_stmts r = omega arith
push_all_weight (stmt_then x xs) r = let h = push_all_weight xs (stmt_then x r) in omega arith

pub handle_block_sinks : (ss r : Stmts) → Sinks (handle_block ss r) (stmt_then (block ss) r)
handle_block_sinks ss r =
    let h = push_all_weight ss r in
    either_sinks (any_cares_about_scope ss) (stmt_then (block ss) r) (push_all ss r) (stmt_then (block ss) r) (inl refl) (inr (omega arith))
