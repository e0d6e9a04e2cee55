-- The rules on `if` leave no two expressions side by side.
use Rattle.std.proofs.Common.{◌≡◌, Bool, true, false, cond, ◌&&◌, ◌||◌, refl}
use Rattle.script.specs.Tree.{Stmt, Expr, Alternate, if_then, alternate, no_alternate, empty, expression, block, Stmts, no_stmts, stmt_then}
use Rattle.hosts.specs.Meaning.{Meaning}
use Rattle.rules.specs.Holder.{Holder}
use Rattle.rules.specs.Expressions.{Not?, is_not, no_not, not?, minimize_not}
use Rattle.rules.specs.Statements.{statement_cares_about_scope}
use Rattle.rules.specs.Ifs.{Branch?, wrap_to_avoid_ambiguous_else, is_expression, is_lone_if, is_full_if, no_branch, branch?}
use Rattle.rules.specs.Ifs.{swap_branches, minimize_if_else, minimize_if_alone, minimize_empty_else, minimize_empty_if, minimize_full_if}
use Rattle.rules.specs.Ifs.{Empty?, try_minimize_if_as, is_empty, is_empty_block, no_empty, try_minimize_if, empty?}
use Rattle.rules.specs.Jumps.{drop_last_jump, can_remove_termination_statement, in_source_order}
use Rattle.rules.specs.Folding.{one_stmt_or_block, without_needless_block, is_if, append_stmt, alternate_then_rest}
use Rattle.rules.specs.Neighbours.{is_expression_statement, begins_with_expression, ApartStatement, ApartAlternate, Apart}
use Rattle.rules.proofs.Booleans.{and_swapped}
use Rattle.rules.proofs.ApartStatements.{either_apart, one_apart, EachApart}

wrap_apart : {c : Stmt} (v : Branch? c) → ApartStatement c → ApartStatement (wrap_to_avoid_ambiguous_else v)
wrap_apart (is_expression e) p = p
wrap_apart (is_lone_if t c) p = p
wrap_apart (is_full_if t c x) p = (refl, p, tt)
wrap_apart no_branch p = p

swap_branches_apart : {t : Expr} (n : Not? t) (c : Stmt) {x : Stmt} (v : Branch? x) → ApartStatement c → ApartStatement x
    → ApartStatement (swap_branches n c v)
swap_branches_apart (is_not t) c (is_expression e) p q = (q, p)
swap_branches_apart (is_not t) c (is_lone_if u d) p q = (wrap_apart (branch? c) p, q)
swap_branches_apart (is_not t) c (is_full_if u d y) p q = (wrap_apart (branch? c) p, q)
swap_branches_apart (is_not t) c no_branch p q = (q, p)
swap_branches_apart no_not c v p q = (wrap_apart (branch? c) p, q)

minimize_if_else_apart : (t : Expr) {c x : Stmt} (v : Branch? c) (w : Branch? x) → ApartStatement c → ApartStatement x
    → ApartStatement (minimize_if_else t v w)
minimize_if_else_apart t (is_expression b) (is_expression d) p q = tt
minimize_if_else_apart t (is_expression b) (is_lone_if u d) p q = (p, q)
minimize_if_else_apart t (is_expression b) (is_full_if u d y) p q = (p, q)
minimize_if_else_apart t (is_expression b) no_branch p q = (p, q)
minimize_if_else_apart t (is_lone_if u d) w p q = swap_branches_apart (not? t) (if_then u d no_alternate) w p q
minimize_if_else_apart t (is_full_if u d y) w p q = swap_branches_apart (not? t) (if_then u d (alternate y)) w p q
minimize_if_else_apart t {c} no_branch w p q = swap_branches_apart (not? t) c w p q

minimize_if_alone_apart : (t : Expr) {c : Stmt} (v : Branch? c) → ApartStatement c → ApartStatement (minimize_if_alone t v)
minimize_if_alone_apart t (is_expression b) p = tt
minimize_if_alone_apart t (is_lone_if u d) p = (wrap_apart (branch? d) p.0, tt)
minimize_if_alone_apart t (is_full_if u d y) p = ((refl, p, tt), tt)
minimize_if_alone_apart t no_branch p = (p, tt)

minimize_empty_else_apart : (t : Expr) {x : Stmt} (v : Branch? x) → ApartStatement x → ApartStatement (minimize_empty_else t v)
minimize_empty_else_apart t (is_expression e) p = tt
minimize_empty_else_apart t (is_lone_if u d) p = minimize_if_alone_apart (minimize_not t) (is_lone_if u d) p
minimize_empty_else_apart t (is_full_if u d y) p = minimize_if_alone_apart (minimize_not t) (is_full_if u d y) p
minimize_empty_else_apart t {x} no_branch p = minimize_if_alone_apart (minimize_not t) {c = x} no_branch p

empty_alone_apart : (b : Bool) (t : Expr) → ApartStatement (cond b empty (expression t))
empty_alone_apart true t = tt
empty_alone_apart false t = tt

minimize_empty_if_apart : (host : Meaning) (t : Expr) (a : Alternate) → ApartAlternate a → ApartStatement (minimize_empty_if host t a)
minimize_empty_if_apart host t no_alternate p = empty_alone_apart (host.harmless t) t
minimize_empty_if_apart host t (alternate x) p = minimize_empty_else_apart t (branch? x) p

minimize_full_if_apart : (t : Expr) (c : Stmt) (a : Alternate) → ApartStatement c → ApartAlternate a
    → ApartStatement (minimize_full_if t c a)
minimize_full_if_apart t c no_alternate p q = minimize_if_alone_apart t (branch? c) p
minimize_full_if_apart t c (alternate x) p q = minimize_if_else_apart t (branch? c) (branch? x) p q

try_minimize_if_as_apart : (host : Meaning) (t : Expr) {c : Stmt} (v : Empty? c) (a : Alternate) → ApartStatement c → ApartAlternate a
    → ApartStatement (try_minimize_if_as host t v a)
try_minimize_if_as_apart host t is_empty a p q = minimize_empty_if_apart host t a q
try_minimize_if_as_apart host t is_empty_block a p q = minimize_empty_if_apart host t a q
try_minimize_if_as_apart host t {c} no_empty a p q = minimize_full_if_apart t c a p q

pub try_minimize_if_apart : (host : Meaning) (t : Expr) (c : Stmt) (a : Alternate) → ApartStatement c → ApartAlternate a
    → ApartStatement (try_minimize_if host t c a)
try_minimize_if_apart host t c a p q = try_minimize_if_as_apart host t (empty? c) a p q

-- branches from lists

pub one_stmt_or_block_apart : (ss : Stmts) → Apart ss → ApartStatement (one_stmt_or_block ss)
one_stmt_or_block_apart no_stmts p = tt
one_stmt_or_block_apart (stmt_then x no_stmts) p = p.1
one_stmt_or_block_apart (stmt_then x (stmt_then y ys)) p = p

pub without_needless_block_apart : (ss : Stmts) → Apart ss → ApartStatement (without_needless_block ss)
without_needless_block_apart no_stmts p = tt
without_needless_block_apart (stmt_then x no_stmts) p = by (is_if (branch? x) || statement_cares_about_scope x)
  where
    by : (b : Bool) → ApartStatement (cond b (block (stmt_then x no_stmts)) x)
    by true = p
    by false = p.1
without_needless_block_apart (stmt_then x (stmt_then y ys)) p = p

pub drop_last_jump_apart : (h : Holder) (r : Stmts) → Apart r → Apart (drop_last_jump h r)
drop_last_jump_apart h no_stmts p = tt
drop_last_jump_apart h (stmt_then x r) p = either_apart (can_remove_termination_statement h x) r (stmt_then x r) p.2 p

-- the same neighbours in the other order
pub in_source_order_apart : (r l : Stmts) → Apart r → Apart l → begins_with_expression r && begins_with_expression l ≡ false
    → Apart (in_source_order r l)
in_source_order_apart no_stmts l p q e = q
in_source_order_apart (stmt_then x r) l p q e =
    in_source_order_apart r (stmt_then x l) p.2 (e, p.1, q)
    (and_swapped (is_expression_statement x) (begins_with_expression r) p.0)

pub append_stmt_apart : (ys : Stmts) (x : Stmt) → Apart (append_stmt ys x) → Apart ys
append_stmt_apart no_stmts x p = tt
append_stmt_apart (stmt_then y no_stmts) x p = one_apart y p.1
append_stmt_apart (stmt_then y (stmt_then z zs)) x p = (p.0, p.1, append_stmt_apart (stmt_then z zs) x p.2)

pub alternate_then_rest_apart : (a : Alternate) (rest : Stmts) → ApartAlternate a → EachApart rest → EachApart (alternate_then_rest a rest)
alternate_then_rest_apart no_alternate rest p q = q
alternate_then_rest_apart (alternate x) rest p q = (p, q)
