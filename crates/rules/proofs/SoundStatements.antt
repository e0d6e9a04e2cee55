-- The rules on one statement break no rule of feeding.
use Rattle.std.proofs.Common.{◌≡◌, ℕ, Bool, true, false, not as negated, ◌&&◌, List, [], ◌∷◌, refl, arith}
use Rattle.script.specs.declared.DeclarationKind.{DeclarationKind}
use Rattle.script.specs.declared.DeclarationKind.TheVariants.{Var, Let, Const}
use Rattle.script.specs.Sound.{SoundOptional, SoundStmts, SoundExpr, SoundStmt, SoundInit, SoundDeclaration, SoundCases}
use Rattle.script.specs.Sound.{SoundDeclarators}
use Rattle.script.specs.Stacks.{lexical_declaration, sound_cases}
use Rattle.script.specs.Tree.{OptionalExpr, Stmts, Expr, absent, present, Stmt, no_stmts, stmt_then, Declarators, Init, no_init}
use Rattle.script.specs.Tree.{init_expression, init_declaration, for, Cases, switch, block}
use Rattle.run.specs.Names.{var_declared_list}
use Rattle.hosts.specs.Meaning.{Meaning}
use Rattle.rules.specs.Holder.{Holder}
use Rattle.rules.specs.Literals.{is_literal}
use Rattle.rules.specs.Expressions.{minimize_conditional}
use Rattle.rules.specs.Statements.{push_all, handle_block, any_cares_about_scope, statement_cares_about_scope}
use Rattle.rules.specs.Merging.{last_expression?, Worked, LastDeclaration?, last_declaration, no_last_declaration, LastExpression?}
use Rattle.rules.specs.Merging.{last_expression, no_last_expression, last_declaration?, merge_leading_assignments_to_declaration}
use Rattle.rules.specs.Returns.{merge_return, may_merge_return, value_or_void_0, IfReturn?, return_step, if_return, no_if_return, return_loop}
use Rattle.rules.specs.Returns.{if_return?, merge_returns, drop_undefined_as, drop_undefined_argument, merge_leading_into_declaration}
use Rattle.rules.specs.Returns.{handle_return_statement, conditional_expression_count_exceeded}
use Rattle.rules.specs.For.{WorkedHead, init_from, join_init_expression, declaration_into_head, expression_into_head, head_from}
use Rattle.rules.specs.For.{var_into_head, head_from_declaration, for_head, handle_for_statement}
use Rattle.rules.specs.Throws.{IfThrow?, throw_step, if_throw, no_if_throw, throw_loop, if_throw?, merge_throws, handle_throw_statement}
use Rattle.rules.specs.Throws.{worked_throw_argument}
use Rattle.rules.specs.Ifs.{Block?, is_block, no_block, block?}
use Rattle.rules.specs.Switches.{as_block, case_block, push_discriminant, OneCase?, inline_switch_case, one_test, has_nested_break_in_list}
use Rattle.rules.specs.Switches.{one_default, no_one_case, handle_switch_statement, worked_discriminant, one_case?}
use Rattle.rules.specs.Unreachable.{lexical_declarations, bare_declarators, push_kept_vars, then_rest, last_is_terminated, is_nonempty}
use Rattle.rules.specs.Unreachable.{keep_declarations, note_hoisted_names}
use Rattle.rules.proofs.SoundExpressions.{minimize_conditional_sound, value_or_void_0_sound, join_sequence_sound}
use Rattle.rules.proofs.SoundMerging.{push_new_expression_sound, either_sound, SoundWorked, merge_last_sound, merge_leading_assignments_sound}
use Rattle.rules.proofs.SoundMerging.{merged_worked_sound, append_declaration_sound}

-- returns

abbrev MoreSound : (OptionalExpr → Stmts) → Type 0
MoreSound more = (p : OptionalExpr) → SoundOptional p → SoundStmts (more p)

merge_return_sound : (h : Holder) (t : Expr) (p' p : OptionalExpr) (r : Stmts) (more : OptionalExpr → Stmts) → MoreSound more
    → SoundExpr t → SoundOptional p' → SoundOptional p → SoundStmts r → SoundStmts (merge_return h t p' p r more)
merge_return_sound h t absent absent r more m a b c d = (tt, push_new_expression_sound true t r a d)
merge_return_sound h t absent (present e) r more m a b c d =
    either_sound (may_merge_return h (present e)) (more (present (minimize_conditional t (value_or_void_0 absent) e))) _
    (m (present (minimize_conditional t (value_or_void_0 absent) e)) (minimize_conditional_sound t (value_or_void_0 absent) e a tt c))
    (c, ((a, refl, tt, tt), d))
merge_return_sound h t (present x) absent r more m a b c d =
    either_sound (may_merge_return h absent) (more (present (minimize_conditional t x (value_or_void_0 absent)))) _
    (m (present (minimize_conditional t x (value_or_void_0 absent))) (minimize_conditional_sound t x (value_or_void_0 absent) a b tt))
    (tt, ((a, refl, b, tt), d))
merge_return_sound h t (present x) (present e) r more m a b c d =
    either_sound (may_merge_return h (present e)) (more (present (minimize_conditional t x e))) _
    (m (present (minimize_conditional t x e)) (minimize_conditional_sound t x e a b c)) (c, ((a, refl, b, tt), d))

return_step_sound : (h : Holder) {x : Stmt} (v : IfReturn? x) (p : OptionalExpr) (r : Stmts) (more : OptionalExpr → Stmts)
    → MoreSound more
    → SoundStmt x → SoundOptional p → SoundStmts r → SoundStmts (return_step h v p r more)
return_step_sound h (if_return t p') p r more m a b c = merge_return_sound h t p' p r more m a.0 a.2 b c
return_step_sound h no_if_return p r more m a b c = (b, (a, c))

return_loop_sound : (h : Holder) (r : Stmts) (p : OptionalExpr) → SoundStmts r → SoundOptional p → SoundStmts (return_loop h r p)
return_loop_sound h no_stmts p a b = (b, tt)
return_loop_sound h (stmt_then x r) p a b =
    return_step_sound h (if_return? x) p r (λ p₁. return_loop h r p₁) (λ p₁ c. return_loop_sound h r p₁ a.1 c) a.0 b a.1

merge_returns_sound : (s : Bool) (h : Holder) (p : OptionalExpr) (r : Stmts) → SoundOptional p → SoundStmts r
    → SoundStmts (merge_returns s h p r)
merge_returns_sound true h p r a b = return_loop_sound h r p b a
merge_returns_sound false h p r a b = (a, b)

drop_undefined_as_sound : (s a b : Bool) (e : Expr) (r : Stmts) → SoundExpr e → SoundStmts r → SoundWorked (drop_undefined_as s a b e r)
drop_undefined_as_sound s true true e r p q = (tt, q)
drop_undefined_as_sound s true false e r p q = (tt, push_new_expression_sound s e r p q)
drop_undefined_as_sound s false b e r p q = merge_last_sound (last_expression? s r) e p q

drop_undefined_argument_sound : (s : Bool) (host : Meaning) (p : OptionalExpr) (r : Stmts) → SoundOptional p → SoundStmts r
    → SoundWorked (drop_undefined_argument s host p r)
drop_undefined_argument_sound s host absent r p q = (tt, q)
drop_undefined_argument_sound s host (present e) r p q = drop_undefined_as_sound s (host.undefined e) (host.harmless e) e r p q

merge_leading_into_declaration_sound : (p : OptionalExpr) (r : Stmts) → SoundOptional p → SoundStmts r
    → SoundWorked (merge_leading_into_declaration p r)
merge_leading_into_declaration_sound absent r p q = (tt, q)
merge_leading_into_declaration_sound (present e) r p q = merge_leading_assignments_sound false e r p q

pub handle_return_statement_sound : (s : Bool) (host : Meaning) (h : Holder) (p : OptionalExpr) (r : Stmts) → SoundOptional p
    → SoundStmts r
    → SoundStmts (handle_return_statement s host h p r)
handle_return_statement_sound s host h p r b c =
    let m : Worked = merge_leading_into_declaration p r in
    let u : SoundWorked m = merge_leading_into_declaration_sound p r b c in
    let a : Worked = drop_undefined_argument s host m.target m.results in
    let v : SoundWorked a = drop_undefined_argument_sound s host m.target m.results u.0 u.1 in
    merge_returns_sound s h a.target a.results v.0 v.1

-- throw

throw_step_sound : {x : Stmt} (v : IfThrow? x) (e : Expr) (r : Stmts) (more : Expr → Stmts)
    → ((e₁ : Expr) → SoundExpr e₁ → SoundStmts (more e₁))
    → SoundStmt x → SoundExpr e → SoundStmts r → SoundStmts (throw_step v e r more)
throw_step_sound (if_throw t e₀) e r more m a b c =
    either_sound (negated (conditional_expression_count_exceeded e)) (more (minimize_conditional t e₀ e)) _
    (m (minimize_conditional t e₀ e) (minimize_conditional_sound t e₀ e a.0 a.2 b)) (b, (a, c))
throw_step_sound no_if_throw e r more m a b c = (b, (a, c))

throw_loop_sound : (r : Stmts) (e : Expr) → SoundStmts r → SoundExpr e → SoundStmts (throw_loop r e)
throw_loop_sound no_stmts e a b = (b, tt)
throw_loop_sound (stmt_then x r) e a b =
    throw_step_sound (if_throw? x) e r (λ e₁. throw_loop r e₁) (λ e₁ c. throw_loop_sound r e₁ a.1 c) a.0 b a.1

merge_throws_sound : (s : Bool) (e : Expr) (r : Stmts) → SoundExpr e → SoundStmts r → SoundStmts (merge_throws s e r)
merge_throws_sound true e r a b = throw_loop_sound r e b a
merge_throws_sound false e r a b = (a, b)

pub handle_throw_statement_sound : (s : Bool) (e : Expr) (r : Stmts) → SoundExpr e → SoundStmts r
    → SoundStmts (handle_throw_statement s e r)
handle_throw_statement_sound s e r p q =
    let w : Worked = worked_throw_argument s e r in
    let h : SoundWorked w = merged_worked_sound s false e r p q in
    merge_throws_sound s (value_or_void_0 w.target) w.results (value_or_void_0_sound w.target h.0) h.1

-- the head of a `for`

abbrev SoundHead : WorkedHead → Type 0
SoundHead h = SoundInit h.init × SoundStmts h.results

init_from_sound : (p : OptionalExpr) → SoundOptional p → SoundInit (init_from p)
init_from_sound absent a = tt
init_from_sound (present e) a = a

join_init_sound : (a : Expr) (p : OptionalExpr) → SoundExpr a → SoundOptional p → SoundOptional (join_init_expression a p)
join_init_sound a absent u v = u
join_init_sound a (present e) u v = join_sequence_sound a e u v

declaration_into_head_sound : (p : OptionalExpr) {r : Stmts} (v : LastDeclaration? r) → SoundOptional p → SoundStmts r
    → SoundHead (declaration_into_head p v)
declaration_into_head_sound absent (last_declaration Var ds r) a b = (b.0, b.1)
declaration_into_head_sound absent (last_declaration Let ds r) a b = (tt, b)
declaration_into_head_sound absent (last_declaration Const ds r) a b = (tt, b)
declaration_into_head_sound absent no_last_declaration a b = (tt, b)
declaration_into_head_sound (present e) v a b = (a, b)

expression_into_head_sound : (p : OptionalExpr) {r : Stmts} (v : LastExpression? r) → SoundOptional p → SoundStmts r
    → SoundHead (expression_into_head p v)
expression_into_head_sound p (last_expression a r) u b = (init_from_sound (join_init_expression a p) (join_init_sound a p b.0 u), b.1)
expression_into_head_sound p {r} no_last_expression u b = declaration_into_head_sound p (last_declaration? r) u b

head_from_sound : (s : Bool) (p : OptionalExpr) (r : Stmts) → SoundOptional p → SoundStmts r → SoundHead (head_from s p r)
head_from_sound true p r a b = expression_into_head_sound p (last_expression? true r) a b
head_from_sound false p r a b = (init_from_sound p a, b)

var_into_head_sound : (ds : Declarators) {r : Stmts} (v : LastDeclaration? r) → SoundDeclaration Var ds → SoundStmts r
    → SoundHead (var_into_head ds v)
var_into_head_sound ds (last_declaration Var ds₀ r) a b = (append_declaration_sound Var ds₀ ds b.0 a, b.1)
var_into_head_sound ds (last_declaration Let ds₀ r) a b = (a, b)
var_into_head_sound ds (last_declaration Const ds₀ r) a b = (a, b)
var_into_head_sound ds no_last_declaration a b = (a, b)

head_from_declaration_sound : (s : Bool) (k : DeclarationKind) (ds : Declarators) (r : Stmts) → SoundDeclaration k ds → SoundStmts r
    → SoundHead (head_from_declaration s k ds r)
head_from_declaration_sound true Var ds r a b = var_into_head_sound ds (last_declaration? r) a b
head_from_declaration_sound true Let ds r a b = (a, b)
head_from_declaration_sound true Const ds r a b = (a, b)
head_from_declaration_sound false k ds r a b = (a, b)

for_head_sound : (s : Bool) (i : Init) (r : Stmts) → SoundInit i → SoundStmts r → SoundHead (for_head s i r)
for_head_sound s no_init r a b = head_from_sound s absent r tt b
for_head_sound s (init_expression e) r a b =
    let w : Worked = merge_leading_assignments_to_declaration true e r in
    let h : SoundWorked w = merge_leading_assignments_sound true e r a b in
    head_from_sound s w.target w.results h.0 h.1
for_head_sound s (init_declaration k ds) r a b = head_from_declaration_sound s k ds r a b

pub handle_for_statement_sound : (s : Bool) (i : Init) (t u : OptionalExpr) (b : Stmt) (r : Stmts) → SoundStmt (for i t u b)
    → SoundStmts r
    → SoundStmts (handle_for_statement s i t u b r)
handle_for_statement_sound s i t u b r p q =
    let h : SoundHead (for_head s i r) = for_head_sound s i r p.0 q in
    ((h.0, p.1, p.2, p.3, p.4), h.1)

-- switches

as_block_sound : {x : Stmt} (v : Block? x) → SoundStmt x → SoundStmt (as_block v)
as_block_sound (is_block ss) p = p
as_block_sound no_block p = (p, tt)

as_block_branch : {x : Stmt} (v : Block? x) → lexical_declaration (as_block v) ≡ false
as_block_branch (is_block ss) = refl
as_block_branch no_block = refl

case_block_sound : (ss : Stmts) → SoundStmts ss → SoundStmt (case_block ss)
case_block_sound no_stmts p = tt
case_block_sound (stmt_then x no_stmts) p = as_block_sound (block? x) p.0
case_block_sound (stmt_then x (stmt_then y ys)) p = p

case_block_branch : (ss : Stmts) → lexical_declaration (case_block ss) ≡ false
case_block_branch no_stmts = refl
case_block_branch (stmt_then x no_stmts) = as_block_branch (block? x)
case_block_branch (stmt_then x (stmt_then y ys)) = refl

push_discriminant_sound : (s b : Bool) (d : Expr) (r : Stmts) → SoundExpr d → SoundStmts r → SoundStmts (push_discriminant s b d r)
push_discriminant_sound s true d r p q = q
push_discriminant_sound s false d r p q = push_new_expression_sound s d r p q

inline_switch_case_sound : (s : Bool) (d : Expr) {cs : Cases} (v : OneCase? cs) (r : Stmts)
    → SoundExpr d → sound_cases cs ≡ true → SoundCases cs → SoundStmts r → SoundStmts (inline_switch_case s d v r)
inline_switch_case_sound s d (one_test e t ss) r a b c q =
    either_sound (has_nested_break_in_list ss) _ _ ((a, b, c), q)
    (((a, c.0), case_block_branch ss, case_block_sound ss c.1, tt), q)
inline_switch_case_sound s d (one_default ss) r a b c q =
    either_sound (has_nested_break_in_list ss) _ _ ((a, b, c), q)
    (case_block_sound ss c.1, push_discriminant_sound s (is_literal d) d r a q)
inline_switch_case_sound s d no_one_case r a b c q = ((a, b, c), q)

pub handle_switch_statement_sound : (s : Bool) (d : Expr) (cs : Cases) (r : Stmts) → SoundStmt (switch d cs) → SoundStmts r
    → SoundStmts (handle_switch_statement s d cs r)
handle_switch_statement_sound s d cs r p q =
    let w : Worked = worked_discriminant s d r in
    let h : SoundWorked w = merged_worked_sound s false d r p.0 q in
    inline_switch_case_sound s (value_or_void_0 w.target) (one_case? cs) w.results (value_or_void_0_sound w.target h.0) p.1
    p.2 h.1

-- blocks, and what is kept behind a jump

pub push_all_sound : (xs r : Stmts) → SoundStmts xs → SoundStmts r → SoundStmts (push_all xs r)
push_all_sound no_stmts r p q = q
push_all_sound (stmt_then x xs) r p q = push_all_sound xs (stmt_then x r) p.1 (p.0, q)

pub handle_block_sound : (ss r : Stmts) → SoundStmts ss → SoundStmts r → SoundStmts (handle_block ss r)
handle_block_sound ss r p q =
    either_sound (any_cares_about_scope ss) (stmt_then (block ss) r) (push_all ss r) (p, q) (push_all_sound ss r p q)

lexical_declarations_sound : (xs : Stmts) → SoundStmts xs → SoundStmts (lexical_declarations xs)
lexical_declarations_sound no_stmts p = tt
lexical_declarations_sound (stmt_then x xs) p =
    either_sound (statement_cares_about_scope x) (stmt_then x (lexical_declarations xs)) (lexical_declarations xs)
    (p.0, lexical_declarations_sound xs p.1) (lexical_declarations_sound xs p.1)

bare_declarators_sound : (ns : List ℕ) → SoundDeclarators (bare_declarators ns)
bare_declarators_sound [] = tt
bare_declarators_sound (n ∷ ns) = (tt, bare_declarators_sound ns)

push_kept_vars_sound : (ns : List ℕ) (r : Stmts) → SoundStmts r → SoundStmts (push_kept_vars ns r)
push_kept_vars_sound [] r q = q
push_kept_vars_sound (n ∷ ns) r q = ((omega arith, refl, bare_declarators_sound (n ∷ ns)), q)

pub then_rest_sound : (rest : Stmts) (more : Stmts → Stmts) → SoundStmts rest → ((r : Stmts) → SoundStmts r → SoundStmts (more r))
    → (r : Stmts) → SoundStmts r → SoundStmts (then_rest more rest r)
then_rest_sound rest more p m r q =
    either_sound (last_is_terminated r && is_nonempty rest) (keep_declarations rest r) (more r)
    (push_kept_vars_sound (note_hoisted_names (var_declared_list rest) []) (push_all (lexical_declarations rest) r)
    (push_all_sound (lexical_declarations rest) r (lexical_declarations_sound rest p) q))
    (m r q)
