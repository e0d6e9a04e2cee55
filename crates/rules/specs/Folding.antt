-- The rule on an `if` in its list, which may take in the statements behind it.
use Rattle.std.specs.Prelude.{◌≡◌, Bool, true, false, cond, not as negated, ◌&&◌, ◌||◌, T}
use Rattle.script.specs.declared.LogicalOperator.TheVariants.{Or}
use Rattle.script.specs.Tree.{Stmts, Stmt, no_stmts, stmt_then, block, Alternate, no_alternate, alternate, Expr, if_then}
use Rattle.hosts.specs.Meaning.{Meaning}
use Rattle.rules.specs.Holder.{Holder}
use Rattle.rules.specs.Equal.{content_eq}
use Rattle.rules.specs.Expressions.{minimize_not, join_with_left_associative_op}
use Rattle.rules.specs.Statements.{statement_cares_about_scope, is_terminated, any_cares_about_scope}
use Rattle.rules.specs.Merging.{Worked, merge_leading_assignments_to_declaration, next_work, merge_last_expression_into_sequence}
use Rattle.rules.specs.Returns.{value_or_void_0}
use Rattle.rules.specs.Ifs.{Block?, is_block, no_block, block?, Branch?, is_expression, is_lone_if, is_full_if, no_branch, branch?}
use Rattle.rules.specs.Ifs.{try_minimize_if}
use Rattle.rules.specs.Jumps.{can_remove_termination_statement, in_source_order, drop_last_jump}
use Rattle.rules.specs.Unreachable.{then_rest}

pub record Context : Type 0 where
  pub sequences : Bool
  pub join_vars : Bool
  pub host : Meaning
  pub holder : Holder

-- views for `if`

abbrev pub append_stmt : Stmts → Stmt → Stmts
append_stmt no_stmts x = stmt_then x no_stmts
append_stmt (stmt_then y ys) x = stmt_then y (append_stmt ys x)

pub data LastStmt? : Stmts → Type 0 where
  no_last_stmt : LastStmt? no_stmts
  last_stmt : (ys : Stmts) (x : Stmt) → LastStmt? (append_stmt ys x)

abbrev pub last_stmt_after : (y : Stmt) {xs : Stmts} → LastStmt? xs → LastStmt? (stmt_then y xs)
last_stmt_after y no_last_stmt = last_stmt no_stmts y
last_stmt_after y (last_stmt ys x) = last_stmt (stmt_then y ys) x

abbrev pub last_stmt? : (xs : Stmts) → LastStmt? xs
last_stmt? no_stmts = no_last_stmt
last_stmt? (stmt_then x xs) = last_stmt_after x (last_stmt? xs)

-- a branch that is, or ends in, a jump that may go
pub data Jump? (h : Holder) : Stmt → Type 0 where
  is_jump : (x : Stmt) → T (can_remove_termination_statement h x) → Jump? h x
  ends_in_jump : (ys : Stmts) (x : Stmt) → T (can_remove_termination_statement h x) → Jump? h (block (append_stmt ys x))
  no_jump : {x : Stmt} → Jump? h x

abbrev pub jump_as : (h : Holder) (x : Stmt) (b : Bool) → (T b → T (can_remove_termination_statement h x)) → Jump? h x
jump_as h x true f = is_jump x (f tt)
jump_as h x false f = no_jump

abbrev pub last_jump_as : (h : Holder) (ys : Stmts) (x : Stmt) (b : Bool) → (T b → T (can_remove_termination_statement h x))
    → Jump? h (block (append_stmt ys x))
last_jump_as h ys x true f = ends_in_jump ys x (f tt)
last_jump_as h ys x false f = no_jump

abbrev pub last_jump? : (h : Holder) {ss : Stmts} → LastStmt? ss → Jump? h (block ss)
last_jump? h no_last_stmt = no_jump
last_jump? h (last_stmt ys x) = last_jump_as h ys x (can_remove_termination_statement h x) (λ t. t)

abbrev pub jump_of : (h : Holder) {x : Stmt} → Block? x → Jump? h x
jump_of h (is_block ss) = last_jump? h (last_stmt? ss)
jump_of h {x} no_block = jump_as h x (can_remove_termination_statement h x) (λ t. t)

abbrev pub jump? : (h : Holder) (x : Stmt) → Jump? h x
jump? h x = jump_of h (block? x)

-- `if`

abbrev pub alternate_then_rest : Alternate → Stmts → Stmts
alternate_then_rest no_alternate rest = rest
alternate_then_rest (alternate x) rest = stmt_then x rest

abbrev pub alternate_cares_about_scope : Alternate → Bool
alternate_cares_about_scope no_alternate = false
alternate_cares_about_scope (alternate x) = statement_cares_about_scope x

abbrev pub one_stmt_or_block : Stmts → Stmt
one_stmt_or_block no_stmts = block no_stmts
one_stmt_or_block (stmt_then x no_stmts) = x
one_stmt_or_block (stmt_then x (stmt_then y ys)) = block (stmt_then x (stmt_then y ys))

abbrev pub is_if : {x : Stmt} → Branch? x → Bool
is_if (is_expression e) = false
is_if (is_lone_if t c) = true
is_if (is_full_if t c x) = true
is_if no_branch = false

abbrev pub without_needless_block : Stmts → Stmt
without_needless_block no_stmts = block no_stmts
without_needless_block (stmt_then x no_stmts) = cond (is_if (branch? x) || statement_cares_about_scope x) (block (stmt_then x no_stmts)) x
without_needless_block (stmt_then x (stmt_then y ys)) = block (stmt_then x (stmt_then y ys))

abbrev pub push_if : (Stmts → Stmts) → Expr → Stmt → Alternate → Stmts → Stmts → Stmts
push_if more t c a rest r = then_rest more rest (stmt_then (if_then t c a) r)

-- again is the work on any list one level deeper, more the work on the rest
abbrev pub split_alternate : (Stmts → Stmts → Stmts) → (Stmts → Stmts) → Expr → Stmt → Alternate → Stmts → Stmts → Stmts
split_alternate again more t c no_alternate rest r = push_if more t c no_alternate rest r
split_alternate again more t c (alternate x) rest r =
    cond (is_terminated c && negated (statement_cares_about_scope x)) (again (stmt_then x rest) (stmt_then (if_then t c no_alternate) r))
    (push_if more t c (alternate x) rest r)

abbrev pub minimized_tail : Holder → (Stmts → Stmts → Stmts) → Alternate → Stmts → Stmt
minimized_tail h again a rest =
    one_stmt_or_block (in_source_order (drop_last_jump h (again (alternate_then_rest a rest) no_stmts)) no_stmts)

abbrev pub fold_rest : Context → (Stmts → Stmts → Stmts) → (Stmts → Stmts) → {h : Holder} → Expr → {c : Stmt} → Jump? h c → Alternate
    → Stmts → Stmts → Stmts
fold_rest s again more {h} t (is_jump x p) a rest r =
    cond (alternate_cares_about_scope a || any_cares_about_scope rest) (split_alternate again more t x a rest r)
    (again (stmt_then (try_minimize_if s.host (minimize_not t) (minimized_tail h again a rest) no_alternate) no_stmts) r)
fold_rest s again more {h} t (ends_in_jump ys x p) a rest r =
    cond (alternate_cares_about_scope a || any_cares_about_scope rest) (split_alternate again more t (block (append_stmt ys x)) a rest r)
    (again (stmt_then (try_minimize_if s.host t (without_needless_block ys) (alternate (minimized_tail h again a rest))) no_stmts) r)
fold_rest s again more t {c} no_jump a rest r = split_alternate again more t c a rest r

-- `if (a) JUMP; if (b) JUMP` is `if (a || b) JUMP`

pub data LastIf? : Stmts → Type 0 where
  last_if : (t : Expr) (c : Stmt) (r : Stmts) → LastIf? (stmt_then (if_then t c no_alternate) r)
  no_last_if : {r : Stmts} → LastIf? r

abbrev pub last_if_as : {x : Stmt} → Branch? x → (r : Stmts) → LastIf? (stmt_then x r)
last_if_as (is_expression e) r = no_last_if
last_if_as (is_lone_if t c) r = last_if t c r
last_if_as (is_full_if t c x) r = no_last_if
last_if_as no_branch r = no_last_if

abbrev pub last_if? : (r : Stmts) → LastIf? r
last_if? no_stmts = no_last_if
last_if? (stmt_then x r) = last_if_as (branch? x) r

pub record MergedTest : Type 0 where
  pub test : Expr
  pub results : Stmts

abbrev pub merge_same_as : {c₀ c : Stmt} → Dec (c₀ ≡ c) → Bool → Expr → Expr → Stmts → MergedTest
merge_same_as (yes e) true t t₀ r = record { test = join_with_left_associative_op Or t₀ t; results = r }
merge_same_as {c₀} (yes e) false t t₀ r = record { test = t; results = stmt_then (if_then t₀ c₀ no_alternate) r }
merge_same_as {c₀} (no e) b t t₀ r = record { test = t; results = stmt_then (if_then t₀ c₀ no_alternate) r }

abbrev pub merge_same_if : Expr → Stmt → {r : Stmts} → LastIf? r → MergedTest
merge_same_if t c (last_if t₀ c₀ r) = merge_same_as (content_eq c₀ c) (is_terminated c) t t₀ r
merge_same_if t c {r} no_last_if = record { test = t; results = r }

abbrev pub handle_if_after_test : Context → Bool → (Stmts → Stmts → Stmts) → (Stmts → Stmts) → Expr → Stmt → Alternate → Stmts → Stmts
    → Stmts
handle_if_after_test s false again more t c a rest r = push_if more t c a rest r
handle_if_after_test s true again more t c a rest r =
    let j : MergedTest = merge_same_if t c (last_if? r) in
    fold_rest s again more {h = s.holder} j.test (jump? s.holder c) a rest j.results

abbrev pub worked_if_test : Bool → Expr → Stmts → Worked
worked_if_test q t r =
    let m : Worked = merge_leading_assignments_to_declaration false t r in
    next_work m.target m.results (λ e r₁. merge_last_expression_into_sequence q e r₁)

abbrev pub handle_if_statement : Context → (Stmts → Stmts → Stmts) → (Stmts → Stmts) → Expr → Stmt → Alternate → Stmts → Stmts → Stmts
handle_if_statement s again more t c a rest r =
    let w : Worked = worked_if_test s.sequences t r in
    handle_if_after_test s s.sequences again more (value_or_void_0 w.target) c a rest w.results
