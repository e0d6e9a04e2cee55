-- The rules on one statement leave no two expressions side by side.
use Rattle.std.proofs.Common.{◌≡◌, ℕ, Bool, true, false, cond, not as negated, ◌&&◌, T, List, [], ◌∷◌, sym, refl, subst}
use Rattle.script.specs.declared.DeclarationKind.{DeclarationKind}
use Rattle.script.specs.declared.DeclarationKind.TheVariants.{Var, Let, Const}
use Rattle.script.specs.Tree.{Stmt, empty, expression, declaration, return_of, throw, if_then, block, while, do_while, for, switch, break}
use Rattle.script.specs.Tree.{continue, Stmts, no_stmts, stmt_then, Expr, OptionalExpr, absent, present, Declarators, no_declarators}
use Rattle.script.specs.Tree.{declarator_then, Init, no_init, init_expression, init_declaration, Cases}
use Rattle.run.specs.Names.{var_declared_list}
use Rattle.hosts.specs.Meaning.{Meaning}
use Rattle.rules.specs.Holder.{Holder}
use Rattle.rules.specs.Equal.{same_kind}
use Rattle.rules.specs.Literals.{is_literal}
use Rattle.rules.specs.Expressions.{minimize_conditional}
use Rattle.rules.specs.Statements.{statement_cares_about_scope, push_all}
use Rattle.rules.specs.Merging.{Worked, LastExpression?, last_expression, no_last_expression, last_expression?, push_expression_as}
use Rattle.rules.specs.Merging.{push_new_expression_stmt_to_result, merge_last_expression_as, merge_last_expression_into_sequence}
use Rattle.rules.specs.Merging.{LastDeclaration?, last_declaration, no_last_declaration, last_declaration?, merge_leading_assignments_as}
use Rattle.rules.specs.Merging.{merge_leading_assignments_to_declaration, next_work, push_optional_expression, handle_expression_statement}
use Rattle.rules.specs.Returns.{value_or_void_0, may_merge_return, merge_return, IfReturn?, if_return, no_if_return, if_return?, return_step}
use Rattle.rules.specs.Returns.{return_loop, merge_returns, drop_undefined_as, drop_undefined_argument, merge_leading_into_declaration}
use Rattle.rules.specs.Returns.{handle_return_statement, conditional_expression_count_exceeded}
use Rattle.rules.specs.Declarations.{join_declarations_as, join_declarations, handle_variable_declaration}
use Rattle.rules.specs.For.{declaration_into_head, expression_into_head, head_from, var_into_head, head_from_declaration, for_head}
use Rattle.rules.specs.For.{handle_for_statement}
use Rattle.rules.specs.Throws.{IfThrow?, if_throw, no_if_throw, if_throw?, throw_step, throw_loop, merge_throws, handle_throw_statement}
use Rattle.rules.specs.Throws.{worked_throw_argument}
use Rattle.rules.specs.Ifs.{Block?, is_block, no_block, block?}
use Rattle.rules.specs.Switches.{as_block, case_block, push_discriminant, OneCase?, one_test, one_default, no_one_case, one_case?}
use Rattle.rules.specs.Switches.{inline_switch_case, has_nested_break_in_list, worked_discriminant, handle_switch_statement}
use Rattle.rules.specs.Unreachable.{lexical_declarations, push_kept_vars, note_hoisted_names, keep_declarations, then_rest}
use Rattle.rules.specs.Unreachable.{last_is_terminated, is_nonempty}
use Rattle.rules.specs.Opened.{opened_by_rest}
use Rattle.rules.specs.Neighbours.{is_expression_statement, begins_with_expression, ApartStatement, Apart, ApartCases}
use Rattle.rules.proofs.Booleans.{and_false}

-- every statement apart, whatever stands beside it
abbrev pub EachApart : Stmts → Type 0
EachApart no_stmts = Unit {0}
EachApart (stmt_then x xs) = ApartStatement x × EachApart xs

pub either_apart : (b : Bool) (xs ys : Stmts) → Apart xs → Apart ys → Apart (cond b xs ys)
either_apart true xs ys p q = p
either_apart false xs ys p q = q

pub one_apart : (x : Stmt) → ApartStatement x → Apart (stmt_then x no_stmts)
one_apart x p = (and_false (is_expression_statement x), p, tt)

-- the newest result is an expression, or the results do not begin with one
by_last_expression : (P : (r : Stmts) → LastExpression? r → Type 0)
    → ((a : Expr) (r : Stmts) → P (stmt_then (expression a) r) (last_expression a r))
    → ((r : Stmts) → begins_with_expression r ≡ false → P r no_last_expression)
    → (r : Stmts) → P r (last_expression? true r)
by_last_expression P f g no_stmts = g no_stmts refl
by_last_expression P f g (stmt_then empty r) = g (stmt_then empty r) refl
by_last_expression P f g (stmt_then (expression e) r) = f e r
by_last_expression P f g (stmt_then (declaration k ds) r) = g (stmt_then (declaration k ds) r) refl
by_last_expression P f g (stmt_then (return_of p) r) = g (stmt_then (return_of p) r) refl
by_last_expression P f g (stmt_then (throw e) r) = g (stmt_then (throw e) r) refl
by_last_expression P f g (stmt_then (if_then t c a) r) = g (stmt_then (if_then t c a) r) refl
by_last_expression P f g (stmt_then (block ss) r) = g (stmt_then (block ss) r) refl
by_last_expression P f g (stmt_then (while t b) r) = g (stmt_then (while t b) r) refl
by_last_expression P f g (stmt_then (do_while b t) r) = g (stmt_then (do_while b t) r) refl
by_last_expression P f g (stmt_then (for i t u b) r) = g (stmt_then (for i t u b) r) refl
by_last_expression P f g (stmt_then (switch d cs) r) = g (stmt_then (switch d cs) r) refl
by_last_expression P f g (stmt_then break r) = g (stmt_then break r) refl
by_last_expression P f g (stmt_then continue r) = g (stmt_then continue r) refl

-- merging

push_new_expression_apart : (q : Bool) → q ≡ true → (e : Expr) (r : Stmts) → Apart r → Apart (push_new_expression_stmt_to_result q e r)
push_new_expression_apart true on e r p =
    by_last_expression (λ r₁ v. Apart r₁ → Apart (push_expression_as v e)) (λ a r₁ u. u) (λ r₁ z u. (z, tt, u)) r p
push_new_expression_apart false on e r p = absurd (subst T (sym on) tt)

pub merge_last_apart : {r : Stmts} (v : LastExpression? r) (e : Expr) → Apart r → Apart (merge_last_expression_as v e).results
merge_last_apart (last_expression a r) e p = p.2
merge_last_apart no_last_expression e p = p

-- results onto which an expression may be put
abbrev Ready : Stmts → Type 0
Ready r = (begins_with_expression r ≡ false) × Apart r

merge_last_ready : (e : Expr) (r : Stmts) → Apart r → Ready (merge_last_expression_into_sequence true e r).results
merge_last_ready e r =
    by_last_expression (λ r₁ v. Apart r₁ → Ready (merge_last_expression_as v e).results) (λ a r₁ p. (p.0, p.2)) (λ r₁ z p. (z, p)) r

merge_leading_as_apart : {r : Stmts} (v : LastDeclaration? r) (d : Bool) (e : Expr) → Apart r
    → Apart (merge_leading_assignments_as v d e).results
merge_leading_as_apart (last_declaration k ds r) d e p = p
merge_leading_as_apart no_last_declaration d e p = p

pub merge_leading_apart : (d : Bool) (e : Expr) (r : Stmts) → Apart r → Apart (merge_leading_assignments_to_declaration d e r).results
merge_leading_apart d e r p = merge_leading_as_apart (last_declaration? r) d e p

merge_leading_as_ready : {r : Stmts} (v : LastDeclaration? r) (d : Bool) (e : Expr) → Ready r
    → Ready (merge_leading_assignments_as v d e).results
merge_leading_as_ready (last_declaration k ds r) d e p = p
merge_leading_as_ready no_last_declaration d e p = p

push_optional_expression_apart : (p : OptionalExpr) (r : Stmts) → Ready r → Apart (push_optional_expression p r)
push_optional_expression_apart absent r p = p.1
push_optional_expression_apart (present e) r p = (p.0, tt, p.1)

pub next_work_apart : (p : OptionalExpr) (r : Stmts) (f : Expr → Stmts → Worked)
    → ((e : Expr) (r₁ : Stmts) → Apart r₁ → Apart (f e r₁).results) → Apart r → Apart (next_work p r f).results
next_work_apart absent r f h p = p
next_work_apart (present e) r f h p = h e r p

next_work_ready : (p : OptionalExpr) (r : Stmts) (f : Expr → Stmts → Worked)
    → ((e : Expr) (r₁ : Stmts) → Ready r₁ → Ready (f e r₁).results) → Ready r → Ready (next_work p r f).results
next_work_ready absent r f h p = p
next_work_ready (present e) r f h p = h e r p

pub handle_expression_statement_apart : (q : Bool) → q ≡ true → (e : Expr) (r : Stmts) → Apart r → Apart (handle_expression_statement q e r)
handle_expression_statement_apart true on e r p =
    let m : Worked = merge_last_expression_into_sequence true e r in
    let w : Worked = next_work m.target m.results (λ e₁ r₁. merge_leading_assignments_to_declaration true e₁ r₁) in
    push_optional_expression_apart w.target w.results
    (next_work_ready m.target m.results (λ e₁ r₁. merge_leading_assignments_to_declaration true e₁ r₁)
    (λ e₁ r₁ u. merge_leading_as_ready (last_declaration? r₁) true e₁ u) (merge_last_ready e r p))
handle_expression_statement_apart false on e r p = absurd (subst T (sym on) tt)

-- first the last expression, then the leading assignments
merged_worked_apart : (q : Bool) (e : Expr) (r : Stmts) → Apart r
    → Apart (next_work (merge_last_expression_into_sequence q e r).target (merge_last_expression_into_sequence q e r).results
    (λ e₁ r₁. merge_leading_assignments_to_declaration false e₁ r₁)).results
merged_worked_apart q e r p =
    let m : Worked = merge_last_expression_into_sequence q e r in
    next_work_apart m.target m.results (λ e₁ r₁. merge_leading_assignments_to_declaration false e₁ r₁) (merge_leading_apart false)
    (merge_last_apart (last_expression? q r) e p)

-- declarations

join_declarations_as_apart : (b : Bool) (k₀ : DeclarationKind) (ds₀ : Declarators) (k : DeclarationKind) (ds : Declarators) (r : Stmts)
    → Apart r → Apart (join_declarations_as b k₀ ds₀ k ds r)
join_declarations_as_apart true k₀ ds₀ k ds r p = (refl, tt, p)
join_declarations_as_apart false k₀ ds₀ k ds r p = (refl, tt, (refl, tt, p))

join_declarations_apart : (j : Bool) (k : DeclarationKind) (ds : Declarators) {r : Stmts} (v : LastDeclaration? r) → Apart r
    → Apart (join_declarations j k ds v)
join_declarations_apart true k ds (last_declaration k₀ ds₀ r) p = join_declarations_as_apart (same_kind k₀ k) k₀ ds₀ k ds r p.2
join_declarations_apart true k ds no_last_declaration p = (refl, tt, p)
join_declarations_apart false k ds v p = (refl, tt, p)

pub handle_variable_declaration_apart : (j : Bool) (k : DeclarationKind) (ds : Declarators) (r : Stmts) → Apart r
    → Apart (handle_variable_declaration j k ds r)
handle_variable_declaration_apart j k no_declarators r p = join_declarations_apart j k no_declarators (last_declaration? r) p
handle_variable_declaration_apart j k (declarator_then n absent ds) r p =
    join_declarations_apart j k (declarator_then n absent ds) (last_declaration? r) p
handle_variable_declaration_apart j k (declarator_then n (present e) ds) r p =
    let w : Worked = merge_leading_assignments_to_declaration false e r in
    join_declarations_apart j k (declarator_then n (present (value_or_void_0 w.target)) ds) (last_declaration? w.results)
    (merge_leading_apart false e r p)

-- returns

merge_return_apart : (h : Holder) (t : Expr) (p' p : OptionalExpr) (r : Stmts) (more : OptionalExpr → Stmts)
    → ((p₁ : OptionalExpr) → Apart (more p₁)) → Apart r → Apart (merge_return h t p' p r more)
merge_return_apart h t absent absent r more m q = (refl, tt, push_new_expression_apart true refl t r q)
merge_return_apart h t absent (present e) r more m q =
    either_apart (may_merge_return h (present e)) (more (present (minimize_conditional t (value_or_void_0 absent) e))) _ (m _)
    (refl, tt, (refl, (tt, tt), q))
merge_return_apart h t (present x) absent r more m q =
    either_apart (may_merge_return h absent) (more (present (minimize_conditional t x (value_or_void_0 absent)))) _ (m _)
    (refl, tt, (refl, (tt, tt), q))
merge_return_apart h t (present x) (present e) r more m q =
    either_apart (may_merge_return h (present e)) (more (present (minimize_conditional t x e))) _ (m _) (refl, tt, (refl, (tt, tt), q))

return_step_apart : (h : Holder) {x : Stmt} (v : IfReturn? x) (p : OptionalExpr) (r : Stmts) (more : OptionalExpr → Stmts)
    → ((p₁ : OptionalExpr) → Apart (more p₁)) → Apart (stmt_then x r) → Apart (return_step h v p r more)
return_step_apart h (if_return t p') p r more m q = merge_return_apart h t p' p r more m q.2
return_step_apart h no_if_return p r more m q = (refl, tt, q)

return_loop_apart : (h : Holder) (r : Stmts) (p : OptionalExpr) → Apart r → Apart (return_loop h r p)
return_loop_apart h no_stmts p q = (refl, tt, tt)
return_loop_apart h (stmt_then x r) p q =
    return_step_apart h (if_return? x) p r (λ p₁. return_loop h r p₁) (λ p₁. return_loop_apart h r p₁ q.2) q

merge_returns_apart : (s : Bool) (h : Holder) (p : OptionalExpr) (r : Stmts) → Apart r → Apart (merge_returns s h p r)
merge_returns_apart true h p r q = return_loop_apart h r p q
merge_returns_apart false h p r q = (refl, tt, q)

drop_undefined_as_apart : (q : Bool) → q ≡ true → (a b : Bool) (e : Expr) (r : Stmts) → Apart r
    → Apart (drop_undefined_as q a b e r).results
drop_undefined_as_apart q on true true e r p = p
drop_undefined_as_apart q on true false e r p = push_new_expression_apart q on e r p
drop_undefined_as_apart q on false b e r p = merge_last_apart (last_expression? q r) e p

drop_undefined_argument_apart : (q : Bool) → q ≡ true → (host : Meaning) (p : OptionalExpr) (r : Stmts) → Apart r
    → Apart (drop_undefined_argument q host p r).results
drop_undefined_argument_apart q on host absent r p = p
drop_undefined_argument_apart q on host (present e) r p = drop_undefined_as_apart q on (host.undefined e) (host.harmless e) e r p

merge_leading_into_declaration_apart : (p : OptionalExpr) (r : Stmts) → Apart r → Apart (merge_leading_into_declaration p r).results
merge_leading_into_declaration_apart absent r p = p
merge_leading_into_declaration_apart (present e) r p = merge_leading_apart false e r p

pub handle_return_statement_apart : (q : Bool) → q ≡ true → (host : Meaning) (h : Holder) (p : OptionalExpr) (r : Stmts) → Apart r
    → Apart (handle_return_statement q host h p r)
handle_return_statement_apart q on host h p r u =
    let m : Worked = merge_leading_into_declaration p r in
    let a : Worked = drop_undefined_argument q host m.target m.results in
    merge_returns_apart q h a.target a.results
    (drop_undefined_argument_apart q on host m.target m.results (merge_leading_into_declaration_apart p r u))

-- throw

throw_step_apart : {x : Stmt} (v : IfThrow? x) (e : Expr) (r : Stmts) (more : Expr → Stmts) → ((e₁ : Expr) → Apart (more e₁))
    → Apart (stmt_then x r) → Apart (throw_step v e r more)
throw_step_apart (if_throw t e₀) e r more m q =
    either_apart (negated (conditional_expression_count_exceeded e)) (more (minimize_conditional t e₀ e)) _ (m _) (refl, tt, q)
throw_step_apart no_if_throw e r more m q = (refl, tt, q)

throw_loop_apart : (r : Stmts) (e : Expr) → Apart r → Apart (throw_loop r e)
throw_loop_apart no_stmts e q = (refl, tt, tt)
throw_loop_apart (stmt_then x r) e q =
    throw_step_apart (if_throw? x) e r (λ e₁. throw_loop r e₁) (λ e₁. throw_loop_apart r e₁ q.2) q

merge_throws_apart : (s : Bool) (e : Expr) (r : Stmts) → Apart r → Apart (merge_throws s e r)
merge_throws_apart true e r q = throw_loop_apart r e q
merge_throws_apart false e r q = (refl, tt, q)

pub handle_throw_statement_apart : (q : Bool) (e : Expr) (r : Stmts) → Apart r → Apart (handle_throw_statement q e r)
handle_throw_statement_apart q e r p =
    let w : Worked = worked_throw_argument q e r in
    merge_throws_apart q (value_or_void_0 w.target) w.results (merged_worked_apart q e r p)

-- the head of a `for`

declaration_into_head_apart : (p : OptionalExpr) {r : Stmts} (v : LastDeclaration? r) → Apart r → Apart (declaration_into_head p v).results
declaration_into_head_apart absent (last_declaration Var ds r) q = q.2
declaration_into_head_apart absent (last_declaration Let ds r) q = q
declaration_into_head_apart absent (last_declaration Const ds r) q = q
declaration_into_head_apart absent no_last_declaration q = q
declaration_into_head_apart (present e) v q = q

expression_into_head_apart : (p : OptionalExpr) {r : Stmts} (v : LastExpression? r) → Apart r → Apart (expression_into_head p v).results
expression_into_head_apart p (last_expression a r) q = q.2
expression_into_head_apart p {r} no_last_expression q = declaration_into_head_apart p (last_declaration? r) q

head_from_apart : (s : Bool) (p : OptionalExpr) (r : Stmts) → Apart r → Apart (head_from s p r).results
head_from_apart true p r q = expression_into_head_apart p (last_expression? true r) q
head_from_apart false p r q = q

var_into_head_apart : (ds : Declarators) {r : Stmts} (v : LastDeclaration? r) → Apart r → Apart (var_into_head ds v).results
var_into_head_apart ds (last_declaration Var ds₀ r) q = q.2
var_into_head_apart ds (last_declaration Let ds₀ r) q = q
var_into_head_apart ds (last_declaration Const ds₀ r) q = q
var_into_head_apart ds no_last_declaration q = q

head_from_declaration_apart : (s : Bool) (k : DeclarationKind) (ds : Declarators) (r : Stmts) → Apart r
    → Apart (head_from_declaration s k ds r).results
head_from_declaration_apart true Var ds r q = var_into_head_apart ds (last_declaration? r) q
head_from_declaration_apart true Let ds r q = q
head_from_declaration_apart true Const ds r q = q
head_from_declaration_apart false k ds r q = q

for_head_apart : (s : Bool) (i : Init) (r : Stmts) → Apart r → Apart (for_head s i r).results
for_head_apart s no_init r q = head_from_apart s absent r q
for_head_apart s (init_expression e) r q =
    let w : Worked = merge_leading_assignments_to_declaration true e r in
    head_from_apart s w.target w.results (merge_leading_apart true e r q)
for_head_apart s (init_declaration k ds) r q = head_from_declaration_apart s k ds r q

pub handle_for_statement_apart : (s : Bool) (i : Init) (t u : OptionalExpr) (b : Stmt) (r : Stmts) → ApartStatement b → Apart r
    → Apart (handle_for_statement s i t u b r)
handle_for_statement_apart s i t u b r p q = (refl, p, for_head_apart s i r q)

-- switches

-- a block may follow any statement

as_block_apart : {x : Stmt} (v : Block? x) (r : Stmts) → ApartStatement x → Apart r → Apart (stmt_then (as_block v) r)
as_block_apart (is_block ss) r p q = (refl, p, q)
as_block_apart {x} no_block r p q = (refl, one_apart x p, q)

case_block_apart : (ss r : Stmts) → Apart ss → Apart r → Apart (stmt_then (case_block ss) r)
case_block_apart no_stmts r p q = (refl, tt, q)
case_block_apart (stmt_then x no_stmts) r p q = as_block_apart (block? x) r p.1 q
case_block_apart (stmt_then x (stmt_then y ys)) r p q = (refl, p, q)

push_discriminant_apart : (q : Bool) → q ≡ true → (b : Bool) (d : Expr) (r : Stmts) → Apart r → Apart (push_discriminant q b d r)
push_discriminant_apart q on true d r p = p
push_discriminant_apart q on false d r p = push_new_expression_apart q on d r p

inline_switch_case_apart : (q : Bool) → q ≡ true → (d : Expr) {cs : Cases} (v : OneCase? cs) (r : Stmts) → ApartCases cs → Apart r
    → Apart (inline_switch_case q d v r)
inline_switch_case_apart q on d (one_test e t ss) r p u =
    either_apart (has_nested_break_in_list ss) _ _ (refl, p, u) (refl, ((case_block_apart ss r p.0 u).1, tt), u)
inline_switch_case_apart q on d (one_default ss) r p u =
    either_apart (has_nested_break_in_list ss) _ _ (refl, p, u)
    (case_block_apart ss (push_discriminant q (is_literal d) d r) p.0 (push_discriminant_apart q on (is_literal d) d r u))
inline_switch_case_apart q on d no_one_case r p u = (refl, p, u)

pub handle_switch_statement_apart : (q : Bool) → q ≡ true → (d : Expr) (cs : Cases) (r : Stmts) → ApartCases cs → Apart r
    → Apart (handle_switch_statement q d cs r)
handle_switch_statement_apart q on d cs r p u =
    let w : Worked = worked_discriminant q d r in
    inline_switch_case_apart q on (value_or_void_0 w.target) (one_case? cs) w.results p (merged_worked_apart q d r u)

-- what is kept behind a jump

declaration_apart : (x : Stmt) (r : Stmts) → statement_cares_about_scope x ≡ true
    → is_expression_statement x && begins_with_expression r ≡ false
declaration_apart empty r e = refl
declaration_apart (expression x) r e = cc
declaration_apart (declaration k ds) r e = refl
declaration_apart (return_of p) r e = refl
declaration_apart (throw x) r e = refl
declaration_apart (if_then t c a) r e = refl
declaration_apart (block ss) r e = refl
declaration_apart (while t b) r e = refl
declaration_apart (do_while b t) r e = refl
declaration_apart (for i t u b) r e = refl
declaration_apart (switch d cs) r e = refl
declaration_apart break r e = refl
declaration_apart continue r e = refl

push_lexical_apart : (xs r : Stmts) → EachApart xs → Apart r → Apart (push_all (lexical_declarations xs) r)
push_lexical_apart no_stmts r p q = q
push_lexical_apart (stmt_then x xs) r p q = by (statement_cares_about_scope x) refl (λ r₁ u. push_lexical_apart xs r₁ p.1 u)
  where
    by : (b : Bool) → statement_cares_about_scope x ≡ b
        → ((r₁ : Stmts) → Apart r₁ → Apart (push_all (lexical_declarations xs) r₁))
        → Apart (push_all (cond b (stmt_then x (lexical_declarations xs)) (lexical_declarations xs)) r)
    by true e f = f (stmt_then x r) (declaration_apart x r e, p.0, q)
    by false e f = f r q

push_kept_vars_apart : (ns : List ℕ) (r : Stmts) → Apart r → Apart (push_kept_vars ns r)
push_kept_vars_apart [] r q = q
push_kept_vars_apart (n ∷ ns) r q = (refl, tt, q)

pub then_rest_apart : (rest : Stmts) (more : Stmts → Stmts) (opened_more : Stmts → ℕ) → EachApart rest
    → ((r : Stmts) → Apart r → opened_more r ≡ 0 → Apart (more r))
    → (r : Stmts) → Apart r → opened_by_rest opened_more rest r ≡ 0 → Apart (then_rest more rest r)
then_rest_apart rest more opened_more p m r q z = by (last_is_terminated r && is_nonempty rest) z
  where
    by : (b : Bool) → cond b 0 (opened_more r) ≡ 0 → Apart (cond b (keep_declarations rest r) (more r))
    by true z₁ =
        push_kept_vars_apart (note_hoisted_names (var_declared_list rest) []) (push_all (lexical_declarations rest) r)
        (push_lexical_apart rest r p q)
    by false z₁ = m r q z₁
