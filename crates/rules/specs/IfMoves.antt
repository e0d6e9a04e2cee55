-- What the rules on an `if` by itself take and give back; its record is that of what it becomes.
use Rattle.std.specs.Prelude.{cond, ◌||◌, List, [], ◌∷◌, ◌++◌}
use Rattle.script.specs.declared.LogicalOperator.TheVariants.{And}
use Rattle.script.specs.Sound.{exprs_only, records_expr, records_stmt}
use Rattle.script.specs.Tree.{Stmt, Expr, if_then, no_alternate, alternate, Alternate, Stmts, no_stmts, stmt_then}
use Rattle.hosts.specs.Meaning.{Meaning}
use Rattle.rules.specs.Holder.{Holder}
use Rattle.rules.specs.Expressions.{Not?, is_not, no_not, not?, minimize_not}
use Rattle.rules.specs.Statements.{statement_cares_about_scope}
use Rattle.rules.specs.Ifs.{Branch?, is_expression, is_lone_if, is_full_if, no_branch, branch?, Empty?, is_empty, is_empty_block, no_empty}
use Rattle.rules.specs.Ifs.{empty?}
use Rattle.rules.specs.Jumps.{can_remove_termination_statement}
use Rattle.rules.specs.Folding.{is_if}
use Rattle.rules.specs.Moves.{Move, takes_statement, gives_expression, gives, gives_statements, takes_expression}
use Rattle.rules.specs.ExpressionMoves.{if_to_logical_moves, join_onto_moves, else_to_logical_moves, minimize_not_moves}

abbrev pub wrap_moves : {c : Stmt} → Branch? c → List Move
wrap_moves (is_expression e) = []
wrap_moves (is_lone_if t c) = []
wrap_moves (is_full_if t c x) = takes_statement
wrap_moves no_branch = []

abbrev pub swap_branches_moves : {t : Expr} → Not? t → Stmt → {x : Stmt} → Branch? x → List Move
swap_branches_moves (is_not t) c (is_expression e) = gives_expression
swap_branches_moves (is_not t) c (is_lone_if u d) = wrap_moves (branch? c)
swap_branches_moves (is_not t) c (is_full_if u d y) = wrap_moves (branch? c)
swap_branches_moves (is_not t) c no_branch = gives_expression
swap_branches_moves no_not c v = wrap_moves (branch? c)

abbrev pub minimize_if_else_moves : Expr → {c x : Stmt} → Branch? c → Branch? x → List Move
minimize_if_else_moves t (is_expression b) (is_expression d) = gives_statements 2 ++ takes_expression
minimize_if_else_moves t (is_expression b) (is_lone_if u d) = []
minimize_if_else_moves t (is_expression b) (is_full_if u d y) = []
minimize_if_else_moves t (is_expression b) no_branch = []
minimize_if_else_moves t (is_lone_if u d) v = swap_branches_moves (not? t) (if_then u d no_alternate) v
minimize_if_else_moves t (is_full_if u d y) v = swap_branches_moves (not? t) (if_then u d (alternate y)) v
minimize_if_else_moves t {c} no_branch v = swap_branches_moves (not? t) c v

abbrev pub minimize_if_alone_moves : Expr → {c : Stmt} → Branch? c → List Move
minimize_if_alone_moves t (is_expression b) = gives_statements 1 ++ if_to_logical_moves t b
minimize_if_alone_moves t (is_lone_if u d) = gives_statements 1 ++ (join_onto_moves And u ++ wrap_moves (branch? d))
minimize_if_alone_moves t (is_full_if u d y) = takes_statement
minimize_if_alone_moves t no_branch = []

abbrev pub minimize_full_if_moves : Expr → Stmt → Alternate → List Move
minimize_full_if_moves t c no_alternate = minimize_if_alone_moves t (branch? c)
minimize_full_if_moves t c (alternate x) = minimize_if_else_moves t (branch? c) (branch? x)

-- a test that does nothing goes with the `if`
abbrev pub minimize_empty_alone_moves : Meaning → Expr → List Move
minimize_empty_alone_moves host t = cond (host.harmless t) (gives (exprs_only (records_expr t)) ∷ []) []

abbrev pub minimize_empty_else_moves : Expr → {x : Stmt} → Branch? x → List Move
minimize_empty_else_moves t (is_expression e) = gives_statements 1 ++ else_to_logical_moves t e
minimize_empty_else_moves t (is_lone_if u d) = minimize_not_moves t ++ minimize_if_alone_moves (minimize_not t) (is_lone_if u d)
minimize_empty_else_moves t (is_full_if u d y) = minimize_not_moves t ++ minimize_if_alone_moves (minimize_not t) (is_full_if u d y)
minimize_empty_else_moves t no_branch = minimize_not_moves t

abbrev pub minimize_empty_if_moves : Meaning → Expr → Alternate → List Move
minimize_empty_if_moves host t no_alternate = minimize_empty_alone_moves host t
minimize_empty_if_moves host t (alternate x) = minimize_empty_else_moves t (branch? x)

-- the empty branch goes first
abbrev pub try_minimize_if_as_moves : Meaning → Expr → {c : Stmt} → Empty? c → Alternate → List Move
try_minimize_if_as_moves host t is_empty a = gives_statements 1 ++ minimize_empty_if_moves host t a
try_minimize_if_as_moves host t is_empty_block a = gives_statements 1 ++ minimize_empty_if_moves host t a
try_minimize_if_as_moves host t {c} no_empty a = minimize_full_if_moves t c a

abbrev pub try_minimize_if_moves : Meaning → Expr → Stmt → Alternate → List Move
try_minimize_if_moves host t c a = try_minimize_if_as_moves host t (empty? c) a

-- the jump at the end of a list
abbrev pub drop_last_jump_moves : Holder → Stmts → List Move
drop_last_jump_moves h no_stmts = []
drop_last_jump_moves h (stmt_then x r) = cond (can_remove_termination_statement h x) (gives (records_stmt x) ∷ []) []

abbrev pub one_stmt_or_block_moves : Stmts → List Move
one_stmt_or_block_moves no_stmts = takes_statement
one_stmt_or_block_moves (stmt_then x no_stmts) = []
one_stmt_or_block_moves (stmt_then x (stmt_then y ys)) = takes_statement

-- the block is there
abbrev pub without_needless_block_moves : Stmts → List Move
without_needless_block_moves no_stmts = []
without_needless_block_moves (stmt_then x no_stmts) = cond (is_if (branch? x) || statement_cares_about_scope x) [] (gives_statements 1)
without_needless_block_moves (stmt_then x (stmt_then y ys)) = []
