-- The rules on an `if` by itself make it heavier by one at most.
use Rattle.std.proofs.Common.{◌≡◌, ℕ, ◌+◌, ◌≤◌, Bool, true, false, cond, ◌||◌, T, arith}
use Rattle.script.specs.declared.LogicalOperator.TheVariants.{And}
use Rattle.script.specs.Sound.{records_expr}
use Rattle.script.specs.Tree.{Stmt, Expr, Alternate, if_then, alternate, no_alternate, empty, expression, block, Stmts, no_stmts}
use Rattle.script.specs.Tree.{stmt_then, declaration, return_of, throw, while, do_while, for, switch, break, continue, absent}
use Rattle.script.specs.Tree.{present}
use Rattle.hosts.specs.Meaning.{Meaning}
use Rattle.rules.specs.Holder.{Holder}
use Rattle.rules.specs.Expressions.{Not?, is_not, no_not, not?, minimize_not}
use Rattle.rules.specs.Statements.{statement_cares_about_scope}
use Rattle.rules.specs.Ifs.{Branch?, wrap_to_avoid_ambiguous_else, is_expression, is_lone_if, is_full_if, no_branch, branch?}
use Rattle.rules.specs.Ifs.{swap_branches, minimize_if_else, minimize_if_alone, minimize_empty_else, minimize_empty_if, minimize_full_if}
use Rattle.rules.specs.Ifs.{Empty?, try_minimize_if_as, is_empty, is_empty_block, no_empty, try_minimize_if, empty?}
use Rattle.rules.specs.Jumps.{can_remove_termination_statement, in_source_order}
use Rattle.rules.specs.Folding.{one_stmt_or_block, without_needless_block, is_if, append_stmt}
use Rattle.rules.specs.Weight.{weight, weight_of_statement}
use Rattle.rules.proofs.WeightExpressions.{minimize_conditional_records, join_with_left_associative_op_records, minimize_not_records}
use Rattle.rules.proofs.WeightExpressions.{if_to_logical_records, else_to_logical_records}

wrap_weight : {c : Stmt} (v : Branch? c) → weight_of_statement (wrap_to_avoid_ambiguous_else v) ≤ 1 + weight_of_statement c
wrap_weight (is_expression e) = omega arith
wrap_weight (is_lone_if t c) = omega arith
wrap_weight (is_full_if t c x) = omega arith
wrap_weight no_branch = omega arith

swap_branches_weight : {t : Expr} (n : Not? t) (c : Stmt) {x : Stmt} (v : Branch? x)
    → weight_of_statement (swap_branches n c v) ≤ 1 + weight_of_statement (if_then t c (alternate x))
swap_branches_weight (is_not t) c (is_expression e) = omega arith
swap_branches_weight (is_not t) c (is_lone_if u d) = let h = wrap_weight (branch? c) in omega arith
swap_branches_weight (is_not t) c (is_full_if u d y) = let h = wrap_weight (branch? c) in omega arith
swap_branches_weight (is_not t) c no_branch = omega arith
swap_branches_weight no_not c v = let h = wrap_weight (branch? c) in omega arith

minimize_if_else_weight : (t : Expr) {c x : Stmt} (v : Branch? c) (w : Branch? x)
    → weight_of_statement (minimize_if_else t v w) ≤ 1 + weight_of_statement (if_then t c (alternate x))
minimize_if_else_weight t (is_expression b) (is_expression d) = let h = minimize_conditional_records t b d in omega arith
minimize_if_else_weight t (is_expression b) (is_lone_if u d) = omega arith
minimize_if_else_weight t (is_expression b) (is_full_if u d y) = omega arith
minimize_if_else_weight t (is_expression b) no_branch = omega arith
minimize_if_else_weight t (is_lone_if u d) w = swap_branches_weight (not? t) (if_then u d no_alternate) w
minimize_if_else_weight t (is_full_if u d y) w = swap_branches_weight (not? t) (if_then u d (alternate y)) w
minimize_if_else_weight t {c} no_branch w = swap_branches_weight (not? t) c w

minimize_if_alone_weight : (t : Expr) {c : Stmt} (v : Branch? c)
    → weight_of_statement (minimize_if_alone t v) ≤ 1 + weight_of_statement (if_then t c no_alternate)
minimize_if_alone_weight t (is_expression b) = let h = if_to_logical_records t b in omega arith
minimize_if_alone_weight t (is_lone_if u d) =
    let h = join_with_left_associative_op_records And t u in let i = wrap_weight (branch? d) in omega arith
minimize_if_alone_weight t (is_full_if u d y) = omega arith
minimize_if_alone_weight t no_branch = omega arith

-- an empty consequent weighs one
minimize_empty_else_weight : (t : Expr) {x : Stmt} (v : Branch? x)
    → weight_of_statement (minimize_empty_else t v) ≤ 5 + (records_expr t + weight_of_statement x)
minimize_empty_else_weight t (is_expression e) = let h = else_to_logical_records t e in omega arith
minimize_empty_else_weight t (is_lone_if u d) =
    let h = minimize_not_records t in let i = minimize_if_alone_weight (minimize_not t) (is_lone_if u d) in omega arith
minimize_empty_else_weight t (is_full_if u d y) =
    let h = minimize_not_records t in let i = minimize_if_alone_weight (minimize_not t) (is_full_if u d y) in omega arith
minimize_empty_else_weight t {x} no_branch =
    let h = minimize_not_records t in let i = minimize_if_alone_weight (minimize_not t) {c = x} no_branch in omega arith

either_weight : (b : Bool) (x y : Stmt) (n : ℕ) → weight_of_statement x ≤ n → weight_of_statement y ≤ n → weight_of_statement (cond b x y) ≤ n
either_weight true x y n p q = p
either_weight false x y n p q = q

minimize_empty_if_weight : (host : Meaning) (t : Expr) (a : Alternate)
    → weight_of_statement (minimize_empty_if host t a) ≤ 1 + weight_of_statement (if_then t empty a)
minimize_empty_if_weight host t no_alternate = either_weight (host.harmless t) empty (expression t) _ (omega arith) (omega arith)
minimize_empty_if_weight host t (alternate x) = let h = minimize_empty_else_weight t (branch? x) in omega arith

minimize_full_if_weight : (t : Expr) (c : Stmt) (a : Alternate)
    → weight_of_statement (minimize_full_if t c a) ≤ 1 + weight_of_statement (if_then t c a)
minimize_full_if_weight t c no_alternate = minimize_if_alone_weight t (branch? c)
minimize_full_if_weight t c (alternate x) = minimize_if_else_weight t (branch? c) (branch? x)

try_minimize_if_as_weight : (host : Meaning) (t : Expr) {c : Stmt} (v : Empty? c) (a : Alternate)
    → weight_of_statement (try_minimize_if_as host t v a) ≤ 1 + weight_of_statement (if_then t c a)
try_minimize_if_as_weight host t is_empty a = minimize_empty_if_weight host t a
try_minimize_if_as_weight host t is_empty_block a = minimize_empty_if_weight host t a
try_minimize_if_as_weight host t {c} no_empty a = minimize_full_if_weight t c a

pub try_minimize_if_weight : (host : Meaning) (t : Expr) (c : Stmt) (a : Alternate)
    → weight_of_statement (try_minimize_if host t c a) ≤ 1 + weight_of_statement (if_then t c a)
try_minimize_if_weight host t c a = try_minimize_if_as_weight host t (empty? c) a

-- branches from lists

pub one_stmt_or_block_weight : (ss : Stmts) → weight_of_statement (one_stmt_or_block ss) ≤ 1 + weight ss
one_stmt_or_block_weight no_stmts = omega arith
one_stmt_or_block_weight (stmt_then x no_stmts) = omega arith
one_stmt_or_block_weight (stmt_then x (stmt_then y ys)) = omega arith

pub without_needless_block_weight : (ss : Stmts) → weight_of_statement (without_needless_block ss) ≤ 1 + weight ss
without_needless_block_weight no_stmts = omega arith
without_needless_block_weight (stmt_then x no_stmts) =
    either_weight (is_if (branch? x) || statement_cares_about_scope x) (block (stmt_then x no_stmts)) x _ (omega arith) (omega arith)
without_needless_block_weight (stmt_then x (stmt_then y ys)) = omega arith

pub append_stmt_weight : (ys : Stmts) (x : Stmt) → weight (append_stmt ys x) ≡ weight ys + weight_of_statement x
append_stmt_weight no_stmts x = omega arith
append_stmt_weight (stmt_then y ys) x = let h = append_stmt_weight ys x in omega arith

pub in_source_order_weight : (r l : Stmts) → weight (in_source_order r l) ≡ weight r + weight l
in_source_order_weight no_stmts l = omega arith
in_source_order_weight (stmt_then x r) l = let h = in_source_order_weight r (stmt_then x l) in omega arith

-- a jump that may go is heavy
pub jump_weight : (h : Holder) (x : Stmt) → T (can_remove_termination_statement h x) → weight_of_statement x ≡ 20
jump_weight h empty t = absurd t
jump_weight h (expression e) t = absurd t
jump_weight h (declaration k ds) t = absurd t
jump_weight h (return_of absent) t = omega arith
jump_weight h (return_of (present e)) t = absurd t
jump_weight h (throw e) t = absurd t
jump_weight h (if_then c a b) t = absurd t
jump_weight h (block ss) t = absurd t
jump_weight h (while c b) t = absurd t
jump_weight h (do_while b c) t = absurd t
jump_weight h (for i c u b) t = absurd t
jump_weight h (switch d cs) t = absurd t
jump_weight h break t = omega arith
jump_weight h continue t = omega arith
