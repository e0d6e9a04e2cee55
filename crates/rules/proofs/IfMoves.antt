-- The moves of the rules on `if` are performed.
use Rattle.std.proofs.Common.{◌+◌, Bool, true, false, cond, ◌||◌, [], ◌∷◌, ◌++◌, arith}
use Rattle.script.specs.declared.LogicalOperator.TheVariants.{And}
use Rattle.script.specs.Sound.{records_stmt, plus, exprs_only, none_used, records_expr, with_stmt, records_alternate, records_stmts}
use Rattle.script.specs.Tree.{Stmt, expression, Expr, if_then, alternate, no_alternate, Alternate, empty, block, Stmts, no_stmts, stmt_then}
use Rattle.hosts.specs.Meaning.{Meaning}
use Rattle.rules.specs.Holder.{Holder}
use Rattle.rules.specs.Expressions.{Not?, is_not, no_not, not?, minimize_not}
use Rattle.rules.specs.Statements.{statement_cares_about_scope}
use Rattle.rules.specs.Ifs.{Branch?, wrap_to_avoid_ambiguous_else, is_expression, is_lone_if, is_full_if, no_branch, swap_branches, branch?}
use Rattle.rules.specs.Ifs.{minimize_if_else, minimize_if_alone, minimize_full_if, minimize_empty_else, minimize_empty_if, try_minimize_if}
use Rattle.rules.specs.Ifs.{try_minimize_if_as, Empty?, is_empty, is_empty_block, no_empty, empty?}
use Rattle.rules.specs.Jumps.{drop_last_jump, can_remove_termination_statement, in_source_order}
use Rattle.rules.specs.Folding.{one_stmt_or_block, without_needless_block, is_if, append_stmt, alternate_then_rest}
use Rattle.rules.specs.Budget.{to_take, SameNumber}
use Rattle.rules.specs.Moves.{statements, expressions, gives, gives_statements}
use Rattle.rules.specs.ExpressionMoves.{join_onto_moves, minimize_not_moves}
use Rattle.rules.specs.IfMoves.{wrap_moves, swap_branches_moves, minimize_if_else_moves, minimize_if_alone_moves, minimize_full_if_moves}
use Rattle.rules.specs.IfMoves.{minimize_empty_else_moves, minimize_empty_if_moves, try_minimize_if_as_moves, try_minimize_if_moves}
use Rattle.rules.specs.IfMoves.{drop_last_jump_moves, one_stmt_or_block_moves, without_needless_block_moves}
use Rattle.rules.proofs.BudgetExpressions.{minimize_conditional_records, join_with_left_associative_op_records, minimize_not_records}
use Rattle.rules.proofs.BudgetIfs.{braces, braces_one, over_if, negations}
use Rattle.rules.proofs.Performing.{Performs, take, nothing, beside, give, in_turn, either_performs}
use Rattle.rules.proofs.ExpressionMoves.{if_to_logical_performs, join_onto_performs, minimize_not_performs, else_to_logical_performs}

pub wrap_performs : {c : Stmt} (v : Branch? c)
    → Performs (to_take 0 (braces v)) (wrap_moves v) (records_stmt c) (records_stmt (wrap_to_avoid_ambiguous_else v))
wrap_performs (is_expression e) = nothing (search arith)
wrap_performs (is_lone_if t c) = nothing (search arith)
wrap_performs (is_full_if t c x) = beside (take statements) (search arith) (search arith)
wrap_performs no_branch = nothing (search arith)

pub swap_branches_performs : {t : Expr} (n : Not? t) (c : Stmt) {x : Stmt} (v : Branch? x)
    → Performs (to_take 2 (braces (branch? c))) (swap_branches_moves n c v) (records_stmt (if_then t c (alternate x))) (records_stmt (swap_branches n c v))
swap_branches_performs (is_not t) c (is_expression e) = beside (give _) (search arith) (search arith)
swap_branches_performs (is_not t) c (is_lone_if u d) = beside (wrap_performs (branch? c)) (search arith) (search arith)
swap_branches_performs (is_not t) c (is_full_if u d y) = beside (wrap_performs (branch? c)) (search arith) (search arith)
swap_branches_performs (is_not t) c no_branch = beside (give _) (search arith) (search arith)
swap_branches_performs no_not c v = beside (wrap_performs (branch? c)) (search arith) (search arith)

pub minimize_if_else_performs : (t : Expr) {c x : Stmt} (v : Branch? c) (w : Branch? x)
    → Performs (to_take 2 (braces (branch? c))) (minimize_if_else_moves t v w) (records_stmt (if_then t c (alternate x))) (records_stmt (minimize_if_else t v w))
minimize_if_else_performs t (is_expression b) (is_expression d) =
    let h = minimize_conditional_records t b d in in_turn (give _) (take expressions) (search arith) (search arith) (search arith)
minimize_if_else_performs t (is_expression b) (is_lone_if u d) = nothing (search arith)
minimize_if_else_performs t (is_expression b) (is_full_if u d y) = nothing (search arith)
minimize_if_else_performs t (is_expression b) no_branch = nothing (search arith)
minimize_if_else_performs t (is_lone_if u d) w = swap_branches_performs (not? t) (if_then u d no_alternate) w
minimize_if_else_performs t (is_full_if u d y) w = swap_branches_performs (not? t) (if_then u d (alternate y)) w
minimize_if_else_performs t {c} no_branch w = swap_branches_performs (not? t) c w

pub minimize_if_alone_performs : (t : Expr) {c : Stmt} (v : Branch? c)
    → Performs (to_take 2 (braces (branch? c))) (minimize_if_alone_moves t v) (records_stmt (if_then t c no_alternate)) (records_stmt (minimize_if_alone t v))
minimize_if_alone_performs t (is_expression b) = in_turn (give _) (if_to_logical_performs t b) (search arith) (search arith) (search arith)
minimize_if_alone_performs t (is_lone_if u d) =
    let h = join_with_left_associative_op_records And t u in
    let n = braces_one (branch? d) in
    let both : Performs (to_take 1 1) (join_onto_moves And u ++ wrap_moves (branch? d)) (records_stmt d)
    (plus (exprs_only 1) (records_stmt (wrap_to_avoid_ambiguous_else (branch? d)))) =
    in_turn (join_onto_performs And u) (wrap_performs (branch? d)) (search arith) (search arith) (search arith) in
    in_turn (give _) both (search arith) (search arith) (search arith)
minimize_if_alone_performs t (is_full_if u d y) = beside (take statements) (search arith) (search arith)
minimize_if_alone_performs t no_branch = nothing (search arith)

pub minimize_full_if_performs : (t : Expr) (c : Stmt) (a : Alternate)
    → Performs (plus (to_take 2 0) (over_if c a)) (minimize_full_if_moves t c a) (records_stmt (if_then t c a)) (records_stmt (minimize_full_if t c a))
minimize_full_if_performs t c no_alternate = beside (minimize_if_alone_performs t (branch? c)) (search arith) (search arith)
minimize_full_if_performs t c (alternate x) = beside (minimize_if_else_performs t (branch? c) (branch? x)) (search arith) (search arith)

-- the empty branch has gone

pub turned_if_performs : (t : Expr) {x : Stmt} (v : Branch? x)
    → Performs (to_take 3 (braces (branch? x))) (minimize_not_moves t ++ minimize_if_alone_moves (minimize_not t) v) (records_stmt (if_then t x no_alternate))
    (records_stmt (minimize_if_alone (minimize_not t) v))
turned_if_performs t v =
    let h = minimize_not_records t in
    in_turn (minimize_not_performs t) (minimize_if_alone_performs (minimize_not t) v) (search arith) (search arith) (search arith)

pub minimize_empty_else_performs : (t : Expr) {x : Stmt} (v : Branch? x)
    → Performs (to_take 3 1) (minimize_empty_else_moves t v) (records_stmt (if_then t x no_alternate)) (records_stmt (minimize_empty_else t v))
minimize_empty_else_performs t (is_expression e) =
    in_turn (give _) (else_to_logical_performs t e) (search arith) (search arith) (search arith)
minimize_empty_else_performs t (is_lone_if u d) = beside (turned_if_performs t (is_lone_if u d)) (search arith) (search arith)
minimize_empty_else_performs t (is_full_if u d y) = beside (turned_if_performs t (is_full_if u d y)) (search arith) (search arith)
minimize_empty_else_performs t no_branch = beside (minimize_not_performs t) (search arith) (search arith)

pub empty_alone_performs : (b : Bool) (t : Expr)
    → Performs none_used (cond b (gives (exprs_only (records_expr t)) ∷ []) []) (with_stmt (exprs_only (records_expr t)))
    (records_stmt (cond b empty (expression t)))
empty_alone_performs true t = beside (give _) (search arith) (search arith)
empty_alone_performs false t = nothing (search arith)

pub minimize_empty_if_performs : (host : Meaning) (t : Expr) (a : Alternate)
    → Performs (to_take (2 + negations a) 1) (minimize_empty_if_moves host t a) (with_stmt (plus (exprs_only (records_expr t)) (records_alternate a)))
    (records_stmt (minimize_empty_if host t a))
minimize_empty_if_performs host t no_alternate = beside (empty_alone_performs (host.harmless t) t) (search arith) (search arith)
minimize_empty_if_performs host t (alternate x) = beside (minimize_empty_else_performs t (branch? x)) (search arith) (search arith)

pub try_minimize_if_as_performs : (host : Meaning) (t : Expr) {c : Stmt} (v : Empty? c) (a : Alternate)
    → Performs (plus (to_take 2 0) (over_if c a)) (try_minimize_if_as_moves host t v a) (records_stmt (if_then t c a)) (records_stmt (try_minimize_if_as host t v a))
try_minimize_if_as_performs host t is_empty a =
    in_turn (give _) (minimize_empty_if_performs host t a) (search arith) (search arith) (search arith)
try_minimize_if_as_performs host t is_empty_block a =
    in_turn (give _) (minimize_empty_if_performs host t a) (search arith) (search arith) (search arith)
try_minimize_if_as_performs host t {c} no_empty a = minimize_full_if_performs t c a

pub try_minimize_if_performs : (host : Meaning) (t : Expr) (c : Stmt) (a : Alternate)
    → Performs (plus (to_take 2 0) (over_if c a)) (try_minimize_if_moves host t c a) (records_stmt (if_then t c a)) (records_stmt (try_minimize_if host t c a))
try_minimize_if_performs host t c a = try_minimize_if_as_performs host t (empty? c) a

-- lists

pub drop_last_jump_performs : (h : Holder) (r : Stmts)
    → Performs none_used (drop_last_jump_moves h r) (records_stmts r) (records_stmts (drop_last_jump h r))
drop_last_jump_performs h no_stmts = nothing (search arith)
drop_last_jump_performs h (stmt_then x r) =
    either_performs (can_remove_termination_statement h x) r (stmt_then x r) (beside (give _) (search arith) (search arith)) (nothing (search arith))

pub in_source_order_records : (r l : Stmts) → SameNumber (records_stmts (in_source_order r l)) (plus (records_stmts r) (records_stmts l))
in_source_order_records no_stmts l = search arith
in_source_order_records (stmt_then x r) l = let a = in_source_order_records r (stmt_then x l) in search arith

pub one_stmt_or_block_performs : (ss : Stmts)
    → Performs (to_take 0 1) (one_stmt_or_block_moves ss) (records_stmts ss) (records_stmt (one_stmt_or_block ss))
one_stmt_or_block_performs no_stmts = beside (take statements) (search arith) (search arith)
one_stmt_or_block_performs (stmt_then x no_stmts) = nothing (search arith)
one_stmt_or_block_performs (stmt_then x (stmt_then y ys)) = beside (take statements) (search arith) (search arith)

pub without_needless_block_performs : (ss : Stmts)
    → Performs none_used (without_needless_block_moves ss) (with_stmt (records_stmts ss)) (records_stmt (without_needless_block ss))
without_needless_block_performs no_stmts = nothing (search arith)
without_needless_block_performs (stmt_then x no_stmts) = by (is_if (branch? x) || statement_cares_about_scope x)
  where
    by : (b : Bool)
        → Performs none_used (cond b [] (gives_statements 1)) (with_stmt (records_stmts (stmt_then x no_stmts)))
        (records_stmt (cond b (block (stmt_then x no_stmts)) x))
    by true = nothing (search arith)
    by false = beside (give _) (search arith) (search arith)
without_needless_block_performs (stmt_then x (stmt_then y ys)) = nothing (search arith)

pub append_stmt_records : (ys : Stmts) (x : Stmt)
    → SameNumber (records_stmts (append_stmt ys x)) (plus (records_stmts ys) (records_stmt x))
append_stmt_records no_stmts x = search arith
append_stmt_records (stmt_then y ys) x = let a = append_stmt_records ys x in search arith

pub alternate_then_rest_records : (a : Alternate) (rest : Stmts)
    → SameNumber (records_stmts (alternate_then_rest a rest)) (plus (records_alternate a) (records_stmts rest))
alternate_then_rest_records no_alternate rest = search arith
alternate_then_rest_records (alternate x) rest = search arith
