-- The rules on `if` keep within the budget, but for braces round an `if`, and a `!` that an alternate makes when it becomes the branch.
use Rattle.std.proofs.Common.{ℕ, ◌≤◌, Bool, true, false, cond, ◌||◌, arith}
use Rattle.script.specs.declared.LogicalOperator.TheVariants.{And}
use Rattle.script.specs.Judge.{Spares}
use Rattle.script.specs.Sound.{plus, with_stmt}
use Rattle.script.specs.Tree.{Stmt, expression, Alternate, no_alternate, alternate, Expr, if_then, empty, block, no_stmts, Stmts, stmt_then}
use Rattle.hosts.specs.Meaning.{Meaning}
use Rattle.rules.specs.Holder.{Holder}
use Rattle.rules.specs.Expressions.{Not?, is_not, no_not, not?, minimize_not}
use Rattle.rules.specs.Statements.{statement_cares_about_scope}
use Rattle.rules.specs.Ifs.{Branch?, is_expression, is_lone_if, is_full_if, no_branch, branch?, wrap_to_avoid_ambiguous_else, swap_branches}
use Rattle.rules.specs.Ifs.{minimize_if_else, minimize_if_alone, minimize_empty_else, minimize_empty_if, minimize_full_if}
use Rattle.rules.specs.Ifs.{try_minimize_if_as, try_minimize_if, Empty?, is_empty, is_empty_block, no_empty, empty?}
use Rattle.rules.specs.Jumps.{drop_last_jump, can_remove_termination_statement, in_source_order}
use Rattle.rules.specs.Folding.{one_stmt_or_block, without_needless_block, is_if, append_stmt, alternate_then_rest}
use Rattle.rules.specs.Budget.{to_take, SameNumber, budget_stmt, AtMost, budget_stmts, budget_alternate}
use Rattle.rules.proofs.BudgetExpressions.{minimize_conditional_records, if_to_logical_records, join_with_left_associative_op_records}
use Rattle.rules.proofs.BudgetExpressions.{else_to_logical_records, minimize_not_records}
use Rattle.rules.proofs.BudgetMerging.{either_budget}
use Rattle.rules.proofs.BudgetUnreachable.{some_statement}

-- an `if` with an alternate may want braces
abbrev pub braces : {c : Stmt} → Branch? c → ℕ
braces (is_expression e) = 0
braces (is_lone_if t c) = 0
braces (is_full_if t c x) = 1
braces no_branch = 0

-- an alternate that becomes the branch may turn the test
abbrev pub negations : Alternate → ℕ
negations no_alternate = 0
negations (alternate x) = 1

-- what the rules on an `if` by itself may take above its budget
abbrev pub over_if : Stmt → Alternate → Spares
over_if c a = to_take (negations a) (braces (branch? c))

pub wrap_budget : {c : Stmt} (v : Branch? c)
    → SameNumber (budget_stmt (wrap_to_avoid_ambiguous_else v)) (plus (to_take 0 (braces v)) (budget_stmt c))
wrap_budget (is_expression e) = search arith
wrap_budget (is_lone_if t c) = search arith
wrap_budget (is_full_if t c x) = search arith
wrap_budget no_branch = search arith

pub braces_one : {c : Stmt} (v : Branch? c) → braces v ≤ 1
braces_one (is_expression e) = omega arith
braces_one (is_lone_if t c) = omega arith
braces_one (is_full_if t c x) = omega arith
braces_one no_branch = omega arith

pub swap_branches_budget : {t : Expr} (n : Not? t) (c : Stmt) {x : Stmt} (v : Branch? x)
    → AtMost (budget_stmt (swap_branches n c v)) (plus (to_take 0 (braces (branch? c))) (budget_stmt (if_then t c (alternate x))))
swap_branches_budget (is_not t) c (is_expression e) = search arith
swap_branches_budget (is_not t) c (is_lone_if u d) = let a = wrap_budget (branch? c) in search arith
swap_branches_budget (is_not t) c (is_full_if u d y) = let a = wrap_budget (branch? c) in search arith
swap_branches_budget (is_not t) c no_branch = search arith
swap_branches_budget no_not c v = let a = wrap_budget (branch? c) in search arith

pub minimize_if_else_budget : (t : Expr) {c x : Stmt} (v : Branch? c) (w : Branch? x)
    → AtMost (budget_stmt (minimize_if_else t v w)) (plus (to_take 0 (braces (branch? c))) (budget_stmt (if_then t c (alternate x))))
minimize_if_else_budget t (is_expression b) (is_expression d) = let a = minimize_conditional_records t b d in search arith
minimize_if_else_budget t (is_expression b) (is_lone_if u d) = search arith
minimize_if_else_budget t (is_expression b) (is_full_if u d y) = search arith
minimize_if_else_budget t (is_expression b) no_branch = search arith
minimize_if_else_budget t (is_lone_if u d) w = swap_branches_budget (not? t) (if_then u d no_alternate) w
minimize_if_else_budget t (is_full_if u d y) w = swap_branches_budget (not? t) (if_then u d (alternate y)) w
minimize_if_else_budget t {c} no_branch w = swap_branches_budget (not? t) c w

pub minimize_if_alone_budget : (t : Expr) {c : Stmt} (v : Branch? c)
    → AtMost (budget_stmt (minimize_if_alone t v)) (plus (to_take 0 (braces (branch? c))) (budget_stmt (if_then t c no_alternate)))
minimize_if_alone_budget t (is_expression b) = let a = if_to_logical_records t b in search arith
minimize_if_alone_budget t (is_lone_if u d) =
    let a = join_with_left_associative_op_records And t u in
    let b = wrap_budget (branch? d) in
    let c = braces_one (branch? d) in
    (search arith)
minimize_if_alone_budget t (is_full_if u d y) = search arith
minimize_if_alone_budget t no_branch = search arith

-- the test takes a `!`, and the empty branch gives back a statement
pub minimize_empty_else_budget : (t : Expr) {x : Stmt} (v : Branch? x)
    → AtMost (budget_stmt (minimize_empty_else t v)) (plus (to_take 1 1) (budget_stmt (if_then t x no_alternate)))
minimize_empty_else_budget t (is_expression e) = let a = else_to_logical_records t e in search arith
minimize_empty_else_budget t (is_lone_if u d) =
    let a = minimize_if_alone_budget (minimize_not t) (is_lone_if u d) in let b = minimize_not_records t in search arith
minimize_empty_else_budget t (is_full_if u d y) =
    let a = minimize_if_alone_budget (minimize_not t) (is_full_if u d y) in let b = minimize_not_records t in search arith
minimize_empty_else_budget t {x} no_branch = let b = minimize_not_records t in search arith

pub empty_alone_budget : (b : Bool) (t : Expr)
    → AtMost (budget_stmt (cond b empty (expression t))) (plus (to_take 0 1) (budget_stmt (expression t)))
empty_alone_budget true t = search arith
empty_alone_budget false t = search arith

-- c is the empty branch
pub minimize_empty_if_budget : (host : Meaning) (t : Expr) (c : Stmt) (a : Alternate)
    → AtMost (budget_stmt (minimize_empty_if host t a)) (plus (over_if c a) (budget_stmt (if_then t c a)))
minimize_empty_if_budget host t c no_alternate =
    let x = empty_alone_budget (host.harmless t) t in let y = some_statement c in search arith
minimize_empty_if_budget host t c (alternate x) =
    let a = minimize_empty_else_budget t (branch? x) in let b = some_statement c in search arith

pub minimize_full_if_budget : (t : Expr) (c : Stmt) (a : Alternate)
    → AtMost (budget_stmt (minimize_full_if t c a)) (plus (over_if c a) (budget_stmt (if_then t c a)))
minimize_full_if_budget t c no_alternate = let x = minimize_if_alone_budget t (branch? c) in search arith
minimize_full_if_budget t c (alternate x) = let y = minimize_if_else_budget t (branch? c) (branch? x) in search arith

pub try_minimize_if_as_budget : (host : Meaning) (t : Expr) {c : Stmt} (v : Empty? c) (a : Alternate)
    → AtMost (budget_stmt (try_minimize_if_as host t v a)) (plus (over_if c a) (budget_stmt (if_then t c a)))
try_minimize_if_as_budget host t is_empty a = minimize_empty_if_budget host t empty a
try_minimize_if_as_budget host t is_empty_block a = minimize_empty_if_budget host t (block no_stmts) a
try_minimize_if_as_budget host t {c} no_empty a = minimize_full_if_budget t c a

pub try_minimize_if_budget : (host : Meaning) (t : Expr) (c : Stmt) (a : Alternate)
    → AtMost (budget_stmt (try_minimize_if host t c a)) (plus (over_if c a) (budget_stmt (if_then t c a)))
try_minimize_if_budget host t c a = try_minimize_if_as_budget host t (empty? c) a

-- lists

pub drop_last_jump_budget : (h : Holder) (r : Stmts) → AtMost (budget_stmts (drop_last_jump h r)) (budget_stmts r)
drop_last_jump_budget h no_stmts = search arith
drop_last_jump_budget h (stmt_then x r) =
    either_budget (can_remove_termination_statement h x) r (stmt_then x r) _ (search arith) (search arith)

pub in_source_order_budget : (r l : Stmts) → SameNumber (budget_stmts (in_source_order r l)) (plus (budget_stmts r) (budget_stmts l))
in_source_order_budget no_stmts l = search arith
in_source_order_budget (stmt_then x r) l = let a = in_source_order_budget r (stmt_then x l) in search arith

-- a block or braces, never both
pub one_stmt_or_block_budget : (ss : Stmts)
    → AtMost (plus (to_take 0 (braces (branch? (one_stmt_or_block ss)))) (budget_stmt (one_stmt_or_block ss))) (with_stmt (budget_stmts ss))
one_stmt_or_block_budget no_stmts = search arith
one_stmt_or_block_budget (stmt_then x no_stmts) = let a = braces_one (branch? x) in search arith
one_stmt_or_block_budget (stmt_then x (stmt_then y ys)) = search arith

pub without_needless_block_budget : (ss : Stmts)
    → AtMost (plus (to_take 0 (braces (branch? (without_needless_block ss)))) (budget_stmt (without_needless_block ss)))
    (with_stmt (budget_stmts ss))
without_needless_block_budget no_stmts = search arith
without_needless_block_budget (stmt_then x no_stmts) = by (is_if (branch? x) || statement_cares_about_scope x)
  where
    by : (b : Bool)
        → AtMost (plus (to_take 0 (braces (branch? (cond b (block (stmt_then x no_stmts)) x))))
        (budget_stmt (cond b (block (stmt_then x no_stmts)) x))) (with_stmt (budget_stmts (stmt_then x no_stmts)))
    by true = search arith
    by false = let a = braces_one (branch? x) in search arith
without_needless_block_budget (stmt_then x (stmt_then y ys)) = search arith

pub append_stmt_budget : (ys : Stmts) (x : Stmt) → SameNumber (budget_stmts (append_stmt ys x)) (plus (budget_stmts ys) (budget_stmt x))
append_stmt_budget no_stmts x = search arith
append_stmt_budget (stmt_then y ys) x = let a = append_stmt_budget ys x in search arith

pub alternate_then_rest_budget : (a : Alternate) (rest : Stmts)
    → SameNumber (budget_stmts (alternate_then_rest a rest)) (plus (budget_alternate a) (budget_stmts rest))
alternate_then_rest_budget no_alternate rest = search arith
alternate_then_rest_budget (alternate x) rest = search arith
