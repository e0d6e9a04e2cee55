-- The rules on `if` make no jump, and a terminated statement has one.
use Rattle.std.proofs.Common.{◌≡◌, ◌+◌, ◌≤◌, Bool, true, false, cond, ◌||◌, T, refl, arith}
use Rattle.script.specs.Tree.{Stmt, Expr, if_then, no_alternate, alternate, empty, expression, Alternate, Stmts, no_stmts, stmt_then, block}
use Rattle.script.specs.Tree.{declaration, return_of, throw, while, do_while, for, switch, break, continue}
use Rattle.hosts.specs.Meaning.{Meaning}
use Rattle.rules.specs.Holder.{Holder}
use Rattle.rules.specs.Expressions.{Not?, is_not, no_not, not?, minimize_not}
use Rattle.rules.specs.Statements.{statement_cares_about_scope, is_terminated_list, is_terminated}
use Rattle.rules.specs.Ifs.{Branch?, wrap_to_avoid_ambiguous_else, is_expression, is_lone_if, is_full_if, no_branch, swap_branches}
use Rattle.rules.specs.Ifs.{branch?, minimize_if_else, minimize_if_alone, minimize_empty_else, minimize_empty_if, minimize_full_if, Empty?}
use Rattle.rules.specs.Ifs.{try_minimize_if_as, is_empty, is_empty_block, no_empty, try_minimize_if, empty?}
use Rattle.rules.specs.Jumps.{drop_last_jump, can_remove_termination_statement, in_source_order}
use Rattle.rules.specs.Folding.{one_stmt_or_block, without_needless_block, is_if, append_stmt, alternate_then_rest}
use Rattle.rules.specs.JumpCount.{jumps, jumps_alternate, jumps_list}
use Rattle.rules.proofs.Booleans.{and_left}
use Rattle.rules.proofs.JumpCount.{either}

wrap_jumps : {c : Stmt} (v : Branch? c) → jumps (wrap_to_avoid_ambiguous_else v) ≡ jumps c
wrap_jumps (is_expression e) = refl
wrap_jumps (is_lone_if t c) = refl
wrap_jumps (is_full_if t c x) = omega arith
wrap_jumps no_branch = refl

swap_branches_jumps : {t : Expr} (n : Not? t) (c : Stmt) {x : Stmt} (v : Branch? x) → jumps (swap_branches n c v) ≡ jumps c + jumps x
swap_branches_jumps (is_not t) c (is_expression e) = omega arith
swap_branches_jumps (is_not t) c (is_lone_if u d) = let a = wrap_jumps (branch? c) in omega arith
swap_branches_jumps (is_not t) c (is_full_if u d y) = let a = wrap_jumps (branch? c) in omega arith
swap_branches_jumps (is_not t) c no_branch = omega arith
swap_branches_jumps no_not c v = let a = wrap_jumps (branch? c) in omega arith

minimize_if_else_jumps : (t : Expr) {c x : Stmt} (v : Branch? c) (w : Branch? x) → jumps (minimize_if_else t v w) ≡ jumps c + jumps x
minimize_if_else_jumps t (is_expression b) (is_expression d) = refl
minimize_if_else_jumps t (is_expression b) (is_lone_if u d) = refl
minimize_if_else_jumps t (is_expression b) (is_full_if u d y) = refl
minimize_if_else_jumps t (is_expression b) no_branch = refl
minimize_if_else_jumps t (is_lone_if u d) w = swap_branches_jumps (not? t) (if_then u d no_alternate) w
minimize_if_else_jumps t (is_full_if u d y) w = swap_branches_jumps (not? t) (if_then u d (alternate y)) w
minimize_if_else_jumps t {c} no_branch w = swap_branches_jumps (not? t) c w

minimize_if_alone_jumps : (t : Expr) {c : Stmt} (v : Branch? c) → jumps (minimize_if_alone t v) ≡ jumps c
minimize_if_alone_jumps t (is_expression b) = refl
minimize_if_alone_jumps t (is_lone_if u d) = let a = wrap_jumps (branch? d) in omega arith
minimize_if_alone_jumps t (is_full_if u d y) = omega arith
minimize_if_alone_jumps t no_branch = omega arith

minimize_empty_else_jumps : (t : Expr) {x : Stmt} (v : Branch? x) → jumps (minimize_empty_else t v) ≡ jumps x
minimize_empty_else_jumps t (is_expression e) = refl
minimize_empty_else_jumps t (is_lone_if u d) = minimize_if_alone_jumps (minimize_not t) (is_lone_if u d)
minimize_empty_else_jumps t (is_full_if u d y) = minimize_if_alone_jumps (minimize_not t) (is_full_if u d y)
minimize_empty_else_jumps t no_branch = omega arith

minimize_empty_alone_jumps : (b : Bool) (t : Expr) → jumps (cond b empty (expression t)) ≡ 0
minimize_empty_alone_jumps true t = refl
minimize_empty_alone_jumps false t = refl

minimize_empty_if_jumps : (host : Meaning) (t : Expr) (a : Alternate) → jumps (minimize_empty_if host t a) ≡ jumps_alternate a
minimize_empty_if_jumps host t no_alternate = minimize_empty_alone_jumps (host.harmless t) t
minimize_empty_if_jumps host t (alternate x) = minimize_empty_else_jumps t (branch? x)

minimize_full_if_jumps : (t : Expr) (c : Stmt) (a : Alternate) → jumps (minimize_full_if t c a) ≡ jumps c + jumps_alternate a
minimize_full_if_jumps t c no_alternate = let a = minimize_if_alone_jumps t (branch? c) in omega arith
minimize_full_if_jumps t c (alternate x) = minimize_if_else_jumps t (branch? c) (branch? x)

try_minimize_if_as_jumps : (host : Meaning) (t : Expr) {c : Stmt} (v : Empty? c) (a : Alternate)
    → jumps (try_minimize_if_as host t v a) ≡ jumps c + jumps_alternate a
try_minimize_if_as_jumps host t is_empty a = let b = minimize_empty_if_jumps host t a in omega arith
try_minimize_if_as_jumps host t is_empty_block a = let b = minimize_empty_if_jumps host t a in omega arith
try_minimize_if_as_jumps host t {c} no_empty a = minimize_full_if_jumps t c a

pub try_minimize_if_jumps : (host : Meaning) (t : Expr) (c : Stmt) (a : Alternate)
    → jumps (try_minimize_if host t c a) ≡ jumps c + jumps_alternate a
try_minimize_if_jumps host t c a = try_minimize_if_as_jumps host t (empty? c) a

-- lists

pub drop_last_jump_jumps : (h : Holder) (r : Stmts) → jumps_list (drop_last_jump h r) ≤ jumps_list r
drop_last_jump_jumps h no_stmts = omega arith
drop_last_jump_jumps h (stmt_then x r) = either (can_remove_termination_statement h x) r (stmt_then x r) _ (omega arith) (omega arith)

pub in_source_order_jumps : (r l : Stmts) → jumps_list (in_source_order r l) ≡ jumps_list r + jumps_list l
in_source_order_jumps no_stmts l = omega arith
in_source_order_jumps (stmt_then x r) l = let a = in_source_order_jumps r (stmt_then x l) in omega arith

pub one_stmt_or_block_jumps : (ss : Stmts) → jumps (one_stmt_or_block ss) ≡ jumps_list ss
one_stmt_or_block_jumps no_stmts = refl
one_stmt_or_block_jumps (stmt_then x no_stmts) = omega arith
one_stmt_or_block_jumps (stmt_then x (stmt_then y ys)) = refl

pub without_needless_block_jumps : (ss : Stmts) → jumps (without_needless_block ss) ≡ jumps_list ss
without_needless_block_jumps no_stmts = refl
without_needless_block_jumps (stmt_then x no_stmts) = by (is_if (branch? x) || statement_cares_about_scope x)
  where
    by : (b : Bool) → jumps (cond b (block (stmt_then x no_stmts)) x) ≡ jumps x + 0
    by true = refl
    by false = omega arith
without_needless_block_jumps (stmt_then x (stmt_then y ys)) = refl

pub append_stmt_jumps : (ys : Stmts) (x : Stmt) → jumps_list (append_stmt ys x) ≡ jumps_list ys + jumps x
append_stmt_jumps no_stmts x = omega arith
append_stmt_jumps (stmt_then y ys) x = let a = append_stmt_jumps ys x in omega arith

pub alternate_then_rest_jumps : (a : Alternate) (rest : Stmts)
    → jumps_list (alternate_then_rest a rest) ≡ jumps_alternate a + jumps_list rest
alternate_then_rest_jumps no_alternate rest = omega arith
alternate_then_rest_jumps (alternate x) rest = refl

-- a terminated statement has a jump

or_terminated : (x : Stmt) (xs : Stmts) (b : Bool) → (T b → 1 ≤ jumps x) → (T (is_terminated_list xs) → 1 ≤ jumps_list xs)
    → T (b || is_terminated_list xs) → 1 ≤ jumps x + jumps_list xs
or_terminated x xs true p q t = let a = p tt in omega arith
or_terminated x xs false p q t = let a = q t in omega arith

mutual
  pub terminated_has_jump : (x : Stmt) → T (is_terminated x) → 1 ≤ jumps x
  terminated_has_jump empty t = absurd t
  terminated_has_jump (expression e) t = absurd t
  terminated_has_jump (declaration k ds) t = absurd t
  terminated_has_jump (return_of p) t = omega arith
  terminated_has_jump (throw e) t = omega arith
  terminated_has_jump (if_then e c a) t = let h = terminated_has_jump c (and_left _ _ t) in omega arith
  terminated_has_jump (block ss) t = terminated_list_has_jump ss t
  terminated_has_jump (while e b) t = absurd t
  terminated_has_jump (do_while b e) t = absurd t
  terminated_has_jump (for i e u b) t = absurd t
  terminated_has_jump (switch d cs) t = absurd t
  terminated_has_jump break t = omega arith
  terminated_has_jump continue t = omega arith

  terminated_list_has_jump : (xs : Stmts) → T (is_terminated_list xs) → 1 ≤ jumps_list xs
  terminated_list_has_jump no_stmts t = absurd t
  terminated_list_has_jump (stmt_then x xs) t = or_terminated x xs (is_terminated x) (terminated_has_jump x) (terminated_list_has_jump xs) t
