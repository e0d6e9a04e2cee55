-- No rule on one statement makes a jump.
use Rattle.std.proofs.Common.{◌≡◌, ℕ, suc, ◌+◌, ◌≤◌, Bool, true, false, cond, not as negated, ◌&&◌, T, List, [], ◌∷◌, sym, refl, ap, ◌∙◌, subst, arith}
use Rattle.script.specs.declared.DeclarationKind.{DeclarationKind}
use Rattle.script.specs.declared.DeclarationKind.TheVariants.{Var, Let, Const}
use Rattle.script.specs.Tree.{Stmts, Expr, OptionalExpr, absent, present, Stmt, no_stmts, stmt_then, Declarators, no_declarators}
use Rattle.script.specs.Tree.{declarator_then, Init, no_init, init_expression, init_declaration, Cases, block, empty, expression}
use Rattle.script.specs.Tree.{declaration, return_of, throw, if_then, while, do_while, for, switch, break, continue}
use Rattle.run.specs.Names.{var_declared_list}
use Rattle.hosts.specs.Meaning.{Meaning}
use Rattle.rules.specs.Holder.{Holder}
use Rattle.rules.specs.Equal.{same_kind}
use Rattle.rules.specs.Literals.{is_literal}
use Rattle.rules.specs.Expressions.{minimize_conditional}
use Rattle.rules.specs.Statements.{push_all, handle_block, any_cares_about_scope, statement_cares_about_scope}
use Rattle.rules.specs.Merging.{LastExpression?, push_expression_as, last_expression, no_last_expression, push_new_expression_stmt_to_result}
use Rattle.rules.specs.Merging.{last_expression?, merge_last_expression_as, LastDeclaration?, merge_leading_assignments_as, last_declaration}
use Rattle.rules.specs.Merging.{no_last_declaration, merge_leading_assignments_to_declaration, last_declaration?, Worked, next_work}
use Rattle.rules.specs.Merging.{push_optional_expression, merge_last_expression_into_sequence, handle_expression_statement}
use Rattle.rules.specs.Returns.{merge_return, value_or_void_0, may_merge_return, IfReturn?, return_step, if_return, no_if_return, return_loop}
use Rattle.rules.specs.Returns.{if_return?, merge_returns, drop_undefined_as, drop_undefined_argument, merge_leading_into_declaration}
use Rattle.rules.specs.Returns.{handle_return_statement, conditional_expression_count_exceeded}
use Rattle.rules.specs.Declarations.{join_declarations_as, join_declarations, handle_variable_declaration}
use Rattle.rules.specs.For.{declaration_into_head, expression_into_head, head_from, var_into_head, head_from_declaration, for_head}
use Rattle.rules.specs.For.{handle_for_statement}
use Rattle.rules.specs.Throws.{IfThrow?, throw_step, if_throw, no_if_throw, throw_loop, if_throw?, merge_throws, handle_throw_statement}
use Rattle.rules.specs.Throws.{worked_throw_argument}
use Rattle.rules.specs.Ifs.{Block?, is_block, no_block, block?}
use Rattle.rules.specs.Switches.{as_block, case_block, push_discriminant, OneCase?, inline_switch_case, one_test, has_nested_break_in_list}
use Rattle.rules.specs.Switches.{one_default, no_one_case, handle_switch_statement, worked_discriminant, one_case?}
use Rattle.rules.specs.Unreachable.{lexical_declarations, push_kept_vars, keep_declarations, note_hoisted_names, then_rest, last_is_terminated}
use Rattle.rules.specs.Unreachable.{is_nonempty}
use Rattle.rules.specs.JumpCount.{jumps_list, jumps, jumps_cases}

-- merging with the newest results

push_expression_as_jumps : {r : Stmts} (v : LastExpression? r) (e : Expr) → jumps_list (push_expression_as v e) ≡ jumps_list r
push_expression_as_jumps (last_expression a r) e = omega arith
push_expression_as_jumps no_last_expression e = omega arith

pub push_new_expression_jumps : (q : Bool) (e : Expr) (r : Stmts) → jumps_list (push_new_expression_stmt_to_result q e r) ≡ jumps_list r
push_new_expression_jumps q e r = push_expression_as_jumps (last_expression? q r) e

pub merge_last_jumps : {r : Stmts} (v : LastExpression? r) (e : Expr) → jumps_list (merge_last_expression_as v e).results ≡ jumps_list r
merge_last_jumps (last_expression a r) e = omega arith
merge_last_jumps no_last_expression e = refl

merge_leading_as_jumps : {r : Stmts} (v : LastDeclaration? r) (d : Bool) (e : Expr)
    → jumps_list (merge_leading_assignments_as v d e).results ≡ jumps_list r
merge_leading_as_jumps (last_declaration k ds r) d e = omega arith
merge_leading_as_jumps no_last_declaration d e = refl

pub merge_leading_jumps : (d : Bool) (e : Expr) (r : Stmts)
    → jumps_list (merge_leading_assignments_to_declaration d e r).results ≡ jumps_list r
merge_leading_jumps d e r = merge_leading_as_jumps (last_declaration? r) d e

pub next_work_jumps : (p : OptionalExpr) (r : Stmts) (f : Expr → Stmts → Worked)
    → ((e : Expr) (r₁ : Stmts) → jumps_list (f e r₁).results ≡ jumps_list r₁) → jumps_list (next_work p r f).results ≡ jumps_list r
next_work_jumps absent r f h = refl
next_work_jumps (present e) r f h = h e r

push_optional_expression_jumps : (p : OptionalExpr) (r : Stmts) → jumps_list (push_optional_expression p r) ≡ jumps_list r
push_optional_expression_jumps absent r = refl
push_optional_expression_jumps (present e) r = omega arith

-- first the last expression, then the leading assignments
merged_jumps : (q d : Bool) (e : Expr) (r : Stmts)
    → jumps_list (next_work (merge_last_expression_into_sequence q e r).target (merge_last_expression_into_sequence q e r).results
    (λ e₁ r₁. merge_leading_assignments_to_declaration d e₁ r₁)).results
    ≡ jumps_list r
merged_jumps q d e r =
    let m : Worked = merge_last_expression_into_sequence q e r in
    next_work_jumps m.target m.results (λ e₁ r₁. merge_leading_assignments_to_declaration d e₁ r₁) (merge_leading_jumps d)
    ∙ merge_last_jumps (last_expression? q r) e

pub handle_expression_statement_jumps : (q : Bool) (e : Expr) (r : Stmts) → jumps_list (handle_expression_statement q e r) ≡ jumps_list r
handle_expression_statement_jumps q e r =
    let m : Worked = merge_last_expression_into_sequence q e r in
    let w : Worked = next_work m.target m.results (λ e₁ r₁. merge_leading_assignments_to_declaration true e₁ r₁) in
    push_optional_expression_jumps w.target w.results ∙ merged_jumps q true e r

-- returns

pub either : (b : Bool) (xs ys : Stmts) (n : ℕ) → jumps_list xs ≤ n → jumps_list ys ≤ n → jumps_list (cond b xs ys) ≤ n
either true xs ys n h g = h
either false xs ys n h g = g

merge_return_jumps : (h : Holder) (t : Expr) (p' p : OptionalExpr) (r : Stmts) (more : OptionalExpr → Stmts)
    → ((p₁ : OptionalExpr) → jumps_list (more p₁) ≤ suc (jumps_list r))
    → jumps_list (merge_return h t p' p r more) ≤ suc (suc (jumps_list r))
merge_return_jumps h t absent absent r more m = let a = push_new_expression_jumps true t r in omega arith
merge_return_jumps h t absent (present e) r more m =
    let x : OptionalExpr = present (minimize_conditional t (value_or_void_0 absent) e) in
    either (may_merge_return h (present e)) (more x) _ _ (let a = m x in omega arith) (omega arith)
merge_return_jumps h t (present x) absent r more m =
    let y : OptionalExpr = present (minimize_conditional t x (value_or_void_0 absent)) in
    either (may_merge_return h absent) (more y) _ _ (let a = m y in omega arith) (omega arith)
merge_return_jumps h t (present x) (present e) r more m =
    let y : OptionalExpr = present (minimize_conditional t x e) in
    either (may_merge_return h (present e)) (more y) _ _ (let a = m y in omega arith) (omega arith)

return_step_jumps : (h : Holder) {x : Stmt} (v : IfReturn? x) (p : OptionalExpr) (r : Stmts) (more : OptionalExpr → Stmts)
    → ((p₁ : OptionalExpr) → jumps_list (more p₁) ≤ suc (jumps_list r))
    → jumps_list (return_step h v p r more) ≤ suc (jumps x + jumps_list r)
return_step_jumps h (if_return t p') p r more m = let a = merge_return_jumps h t p' p r more m in omega arith
return_step_jumps h no_if_return p r more m = omega arith

return_loop_jumps : (h : Holder) (r : Stmts) (p : OptionalExpr) → jumps_list (return_loop h r p) ≤ suc (jumps_list r)
return_loop_jumps h no_stmts p = omega arith
return_loop_jumps h (stmt_then x r) p = return_step_jumps h (if_return? x) p r (λ p₁. return_loop h r p₁) (return_loop_jumps h r)

merge_returns_jumps : (q : Bool) (h : Holder) (p : OptionalExpr) (r : Stmts) → jumps_list (merge_returns q h p r) ≤ suc (jumps_list r)
merge_returns_jumps true h p r = return_loop_jumps h r p
merge_returns_jumps false h p r = omega arith

drop_undefined_as_jumps : (q a b : Bool) (e : Expr) (r : Stmts) → jumps_list (drop_undefined_as q a b e r).results ≡ jumps_list r
drop_undefined_as_jumps q true true e r = refl
drop_undefined_as_jumps q true false e r = push_new_expression_jumps q e r
drop_undefined_as_jumps q false b e r = merge_last_jumps (last_expression? q r) e

drop_undefined_argument_jumps : (q : Bool) (host : Meaning) (p : OptionalExpr) (r : Stmts)
    → jumps_list (drop_undefined_argument q host p r).results ≡ jumps_list r
drop_undefined_argument_jumps q host absent r = refl
drop_undefined_argument_jumps q host (present e) r = drop_undefined_as_jumps q (host.undefined e) (host.harmless e) e r

merge_leading_into_declaration_jumps : (p : OptionalExpr) (r : Stmts)
    → jumps_list (merge_leading_into_declaration p r).results ≡ jumps_list r
merge_leading_into_declaration_jumps absent r = refl
merge_leading_into_declaration_jumps (present e) r = merge_leading_jumps false e r

pub handle_return_statement_jumps : (q : Bool) (host : Meaning) (h : Holder) (p : OptionalExpr) (r : Stmts)
    → jumps_list (handle_return_statement q host h p r) ≤ suc (jumps_list r)
handle_return_statement_jumps q host h p r =
    let m : Worked = merge_leading_into_declaration p r in
    let a : Worked = drop_undefined_argument q host m.target m.results in
    subst (λ (n : ℕ). jumps_list (handle_return_statement q host h p r) ≤ suc n)
    (drop_undefined_argument_jumps q host m.target m.results ∙ merge_leading_into_declaration_jumps p r)
    (merge_returns_jumps q h a.target a.results)

-- declarations

join_declarations_as_jumps : (b : Bool) (k₀ : DeclarationKind) (ds₀ : Declarators) (k : DeclarationKind) (ds : Declarators) (r : Stmts)
    → jumps_list (join_declarations_as b k₀ ds₀ k ds r) ≡ jumps_list r
join_declarations_as_jumps true k₀ ds₀ k ds r = omega arith
join_declarations_as_jumps false k₀ ds₀ k ds r = omega arith

join_declarations_jumps : (j : Bool) (k : DeclarationKind) (ds : Declarators) {r : Stmts} (v : LastDeclaration? r)
    → jumps_list (join_declarations j k ds v) ≡ jumps_list r
join_declarations_jumps true k ds (last_declaration k₀ ds₀ r) =
    let a = join_declarations_as_jumps (same_kind k₀ k) k₀ ds₀ k ds r in omega arith
join_declarations_jumps true k ds no_last_declaration = omega arith
join_declarations_jumps false k ds v = omega arith

pub handle_variable_declaration_jumps : (j : Bool) (k : DeclarationKind) (ds : Declarators) (r : Stmts)
    → jumps_list (handle_variable_declaration j k ds r) ≡ jumps_list r
handle_variable_declaration_jumps j k no_declarators r = join_declarations_jumps j k no_declarators (last_declaration? r)
handle_variable_declaration_jumps j k (declarator_then n absent ds) r =
    join_declarations_jumps j k (declarator_then n absent ds) (last_declaration? r)
handle_variable_declaration_jumps j k (declarator_then n (present e) ds) r =
    let w : Worked = merge_leading_assignments_to_declaration false e r in
    join_declarations_jumps j k (declarator_then n (present (value_or_void_0 w.target)) ds) (last_declaration? w.results)
    ∙ merge_leading_jumps false e r

-- the head of a `for`

declaration_into_head_jumps : (p : OptionalExpr) {r : Stmts} (v : LastDeclaration? r)
    → jumps_list (declaration_into_head p v).results ≡ jumps_list r
declaration_into_head_jumps absent (last_declaration Var ds r) = omega arith
declaration_into_head_jumps absent (last_declaration Let ds r) = refl
declaration_into_head_jumps absent (last_declaration Const ds r) = refl
declaration_into_head_jumps absent no_last_declaration = refl
declaration_into_head_jumps (present e) v = refl

expression_into_head_jumps : (p : OptionalExpr) {r : Stmts} (v : LastExpression? r)
    → jumps_list (expression_into_head p v).results ≡ jumps_list r
expression_into_head_jumps p (last_expression a r) = omega arith
expression_into_head_jumps p {r} no_last_expression = declaration_into_head_jumps p (last_declaration? r)

head_from_jumps : (q : Bool) (p : OptionalExpr) (r : Stmts) → jumps_list (head_from q p r).results ≡ jumps_list r
head_from_jumps true p r = expression_into_head_jumps p (last_expression? true r)
head_from_jumps false p r = refl

var_into_head_jumps : (ds : Declarators) {r : Stmts} (v : LastDeclaration? r) → jumps_list (var_into_head ds v).results ≡ jumps_list r
var_into_head_jumps ds (last_declaration Var ds₀ r) = omega arith
var_into_head_jumps ds (last_declaration Let ds₀ r) = refl
var_into_head_jumps ds (last_declaration Const ds₀ r) = refl
var_into_head_jumps ds no_last_declaration = refl

head_from_declaration_jumps : (q : Bool) (k : DeclarationKind) (ds : Declarators) (r : Stmts)
    → jumps_list (head_from_declaration q k ds r).results ≡ jumps_list r
head_from_declaration_jumps true Var ds r = var_into_head_jumps ds (last_declaration? r)
head_from_declaration_jumps true Let ds r = refl
head_from_declaration_jumps true Const ds r = refl
head_from_declaration_jumps false k ds r = refl

for_head_jumps : (q : Bool) (i : Init) (r : Stmts) → jumps_list (for_head q i r).results ≡ jumps_list r
for_head_jumps q no_init r = head_from_jumps q absent r
for_head_jumps q (init_expression e) r =
    let w : Worked = merge_leading_assignments_to_declaration true e r in
    head_from_jumps q w.target w.results ∙ merge_leading_jumps true e r
for_head_jumps q (init_declaration k ds) r = head_from_declaration_jumps q k ds r

pub handle_for_statement_jumps : (q : Bool) (i : Init) (t u : OptionalExpr) (b : Stmt) (r : Stmts)
    → jumps_list (handle_for_statement q i t u b r) ≡ jumps b + jumps_list r
handle_for_statement_jumps q i t u b r = ap (λ n. jumps b + n) (for_head_jumps q i r)

-- throw

throw_step_jumps : {x : Stmt} (v : IfThrow? x) (e : Expr) (r : Stmts) (more : Expr → Stmts)
    → ((e₁ : Expr) → jumps_list (more e₁) ≤ suc (jumps_list r)) → jumps_list (throw_step v e r more) ≤ suc (jumps x + jumps_list r)
throw_step_jumps (if_throw t e₀) e r more m =
    either (negated (conditional_expression_count_exceeded e)) (more (minimize_conditional t e₀ e)) _ _
    (let a = m (minimize_conditional t e₀ e) in omega arith) (omega arith)
throw_step_jumps no_if_throw e r more m = omega arith

throw_loop_jumps : (r : Stmts) (e : Expr) → jumps_list (throw_loop r e) ≤ suc (jumps_list r)
throw_loop_jumps no_stmts e = omega arith
throw_loop_jumps (stmt_then x r) e = throw_step_jumps (if_throw? x) e r (λ e₁. throw_loop r e₁) (throw_loop_jumps r)

merge_throws_jumps : (q : Bool) (e : Expr) (r : Stmts) → jumps_list (merge_throws q e r) ≤ suc (jumps_list r)
merge_throws_jumps true e r = throw_loop_jumps r e
merge_throws_jumps false e r = omega arith

pub handle_throw_statement_jumps : (q : Bool) (e : Expr) (r : Stmts) → jumps_list (handle_throw_statement q e r) ≤ suc (jumps_list r)
handle_throw_statement_jumps q e r =
    let w : Worked = worked_throw_argument q e r in
    subst (λ (n : ℕ). jumps_list (handle_throw_statement q e r) ≤ suc n) (merged_jumps q false e r)
    (merge_throws_jumps q (value_or_void_0 w.target) w.results)

-- switches

as_block_jumps : {x : Stmt} (v : Block? x) → jumps (as_block v) ≡ jumps x
as_block_jumps (is_block ss) = refl
as_block_jumps no_block = omega arith

case_block_jumps : (ss : Stmts) → jumps (case_block ss) ≡ jumps_list ss
case_block_jumps no_stmts = refl
case_block_jumps (stmt_then x no_stmts) = let a = as_block_jumps (block? x) in omega arith
case_block_jumps (stmt_then x (stmt_then y ys)) = refl

push_discriminant_jumps : (q b : Bool) (d : Expr) (r : Stmts) → jumps_list (push_discriminant q b d r) ≡ jumps_list r
push_discriminant_jumps q true d r = refl
push_discriminant_jumps q false d r = push_new_expression_jumps q d r

inline_switch_case_jumps : (q : Bool) (d : Expr) {cs : Cases} (v : OneCase? cs) (r : Stmts)
    → jumps_list (inline_switch_case q d v r) ≤ jumps_cases cs + jumps_list r
inline_switch_case_jumps q d (one_test e t ss) r =
    either (has_nested_break_in_list ss) _ _ _ (omega arith) (let a = case_block_jumps ss in omega arith)
inline_switch_case_jumps q d (one_default ss) r =
    either (has_nested_break_in_list ss) _ _ _ (omega arith)
    (let a = case_block_jumps ss in let b = push_discriminant_jumps q (is_literal d) d r in omega arith)
inline_switch_case_jumps q d no_one_case r = omega arith

pub handle_switch_statement_jumps : (q : Bool) (d : Expr) (cs : Cases) (r : Stmts)
    → jumps_list (handle_switch_statement q d cs r) ≤ jumps_cases cs + jumps_list r
handle_switch_statement_jumps q d cs r =
    let w : Worked = worked_discriminant q d r in
    subst (λ (n : ℕ). jumps_list (handle_switch_statement q d cs r) ≤ jumps_cases cs + n) (merged_jumps q false d r)
    (inline_switch_case_jumps q (value_or_void_0 w.target) (one_case? cs) w.results)

-- blocks, and what is kept behind a jump

pub push_all_jumps : (xs r : Stmts) → jumps_list (push_all xs r) ≡ jumps_list xs + jumps_list r
push_all_jumps no_stmts r = omega arith
push_all_jumps (stmt_then x xs) r = let a = push_all_jumps xs (stmt_then x r) in omega arith

pub handle_block_jumps : (ss r : Stmts) → jumps_list (handle_block ss r) ≤ jumps_list ss + jumps_list r
handle_block_jumps ss r =
    either (any_cares_about_scope ss) (stmt_then (block ss) r) (push_all ss r) _ (omega arith) (let a = push_all_jumps ss r in omega arith)

cares_no_jump : (x : Stmt) → statement_cares_about_scope x ≡ true → jumps x ≡ 0
cares_no_jump empty e = refl
cares_no_jump (expression x) e = refl
cares_no_jump (declaration k ds) e = refl
cares_no_jump (return_of p) e = absurd (subst T (sym e) tt)
cares_no_jump (throw x) e = absurd (subst T (sym e) tt)
cares_no_jump (if_then t c a) e = absurd (subst T (sym e) tt)
cares_no_jump (block ss) e = absurd (subst T (sym e) tt)
cares_no_jump (while t b) e = absurd (subst T (sym e) tt)
cares_no_jump (do_while b t) e = absurd (subst T (sym e) tt)
cares_no_jump (for i t u b) e = absurd (subst T (sym e) tt)
cares_no_jump (switch d cs) e = absurd (subst T (sym e) tt)
cares_no_jump break e = absurd (subst T (sym e) tt)
cares_no_jump continue e = absurd (subst T (sym e) tt)

lexical_declarations_jumps : (xs : Stmts) → jumps_list (lexical_declarations xs) ≡ 0
lexical_declarations_jumps no_stmts = refl
lexical_declarations_jumps (stmt_then x xs) = by (statement_cares_about_scope x) refl (lexical_declarations_jumps xs)
  where
    by : (b : Bool) → statement_cares_about_scope x ≡ b → jumps_list (lexical_declarations xs) ≡ 0
        → jumps_list (cond b (stmt_then x (lexical_declarations xs)) (lexical_declarations xs)) ≡ 0
    by true e h = let a = cares_no_jump x e in omega arith
    by false e h = h

push_kept_vars_jumps : (ns : List ℕ) (r : Stmts) → jumps_list (push_kept_vars ns r) ≡ jumps_list r
push_kept_vars_jumps [] r = refl
push_kept_vars_jumps (n ∷ ns) r = omega arith

keep_declarations_jumps : (rest r : Stmts) → jumps_list (keep_declarations rest r) ≡ jumps_list r
keep_declarations_jumps rest r =
    let a = push_kept_vars_jumps (note_hoisted_names (var_declared_list rest) []) (push_all (lexical_declarations rest) r) in
    let b = push_all_jumps (lexical_declarations rest) r in
    let c = lexical_declarations_jumps rest in
    omega arith

-- what more does with the rest
abbrev pub RestNoMoreJumps : Stmts → (Stmts → Stmts) → Type 0
RestNoMoreJumps rest more = (r : Stmts) → jumps_list (more r) ≤ jumps_list rest + jumps_list r

pub then_rest_jumps : (rest : Stmts) (more : Stmts → Stmts) → RestNoMoreJumps rest more → (r : Stmts)
    → jumps_list (then_rest more rest r) ≤ jumps_list rest + jumps_list r
then_rest_jumps rest more m r =
    either (last_is_terminated r && is_nonempty rest) (keep_declarations rest r) (more r) _
    (let a = keep_declarations_jumps rest r in omega arith) (m r)
