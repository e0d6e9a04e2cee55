-- Which jump may go at the end of a list, by what holds the list.
use Rattle.std.specs.Prelude.{Bool, true, false, cond}
use Rattle.script.specs.Tree.{OptionalExpr, absent, present, Stmt, empty, expression, declaration, return_of, throw, if_then, block, while}
use Rattle.script.specs.Tree.{do_while, for, switch, break, continue, Stmts, no_stmts, stmt_then}
use Rattle.rules.specs.Holder.{Holder, body_list, other_list, loop_block, once_block}

-- jumps that may go at the end of a list

abbrev pub drops_return : Holder → Bool
drops_return body_list = true
drops_return other_list = false
drops_return loop_block = false
drops_return once_block = false

abbrev pub drops_continue : Holder → Bool
drops_continue body_list = false
drops_continue other_list = false
drops_continue loop_block = true
drops_continue once_block = true

abbrev pub drops_break : Holder → Bool
drops_break body_list = false
drops_break other_list = false
drops_break loop_block = false
drops_break once_block = true

abbrev pub drops_return_of : Holder → OptionalExpr → Bool
drops_return_of h absent = drops_return h
drops_return_of h (present e) = false

abbrev pub can_remove_termination_statement : Holder → Stmt → Bool
can_remove_termination_statement h empty = false
can_remove_termination_statement h (expression e) = false
can_remove_termination_statement h (declaration k ds) = false
can_remove_termination_statement h (return_of p) = drops_return_of h p
can_remove_termination_statement h (throw e) = false
can_remove_termination_statement h (if_then t c a) = false
can_remove_termination_statement h (block ss) = false
can_remove_termination_statement h (while t b) = false
can_remove_termination_statement h (do_while b t) = false
can_remove_termination_statement h (for i t u b) = false
can_remove_termination_statement h (switch d cs) = false
can_remove_termination_statement h break = drops_break h
can_remove_termination_statement h continue = drops_continue h

-- the results (newest first) without the newest, if that is a jump to where the list ends anyway
abbrev pub drop_last_jump : Holder → Stmts → Stmts
drop_last_jump h no_stmts = no_stmts
drop_last_jump h (stmt_then x r) = cond (can_remove_termination_statement h x) r (stmt_then x r)

-- results in source order, before l
abbrev pub in_source_order : Stmts → Stmts → Stmts
in_source_order no_stmts l = l
in_source_order (stmt_then x r) l = in_source_order r (stmt_then x l)
