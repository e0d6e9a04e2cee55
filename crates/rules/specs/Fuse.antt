-- Fusing a whole body: every list once, inner before outer.
use Rattle.std.specs.Prelude.{Bool, true, false, Some, None, Option}
use Rattle.script.specs.Tree.{Stmts, Stmt, empty, expression, declaration, return_of, throw, if_then, block, while, do_while, for, switch}
use Rattle.script.specs.Tree.{break, continue, Alternate, no_alternate, alternate, no_stmts, stmt_then, Cases, no_cases, case_then}
use Rattle.hosts.specs.Meaning.{Meaning}
use Rattle.rules.specs.Holder.{Holder, loop_block, once_block, other_list, body_list}
use Rattle.rules.specs.Minimize.{minimize_statements}
use Rattle.rules.specs.JumpCount.{jumps_list}

pub record Setting : Type 0 where
  pub sequences : Bool
  pub join_vars : Bool
  pub host : Meaning

-- as deep as the list has jumps: more gives the same (Laws, DepthIsEnough)
abbrev pub minimize_list : Setting → Holder → Stmts → Stmts
minimize_list m h ss =
    minimize_statements (jumps_list ss) (record { sequences = m.sequences; join_vars = m.join_vars; host = m.host; holder = h }) ss

abbrev pub do_while_holder : Option Bool → Holder
do_while_holder None = loop_block
do_while_holder (Some true) = loop_block
do_while_holder (Some false) = once_block

-- h holds the statement's list, if it is a block
abbrev mutual
  pub fuse_statement : Setting → Holder → Stmt → Stmt
  fuse_statement m h empty = empty
  fuse_statement m h (expression e) = expression e
  fuse_statement m h (declaration k ds) = declaration k ds
  fuse_statement m h (return_of p) = return_of p
  fuse_statement m h (throw e) = throw e
  fuse_statement m h (if_then t c a) = if_then t (fuse_statement m other_list c) (fuse_alternate m a)
  fuse_statement m h (block ss) = block (minimize_list m h (fuse_list m ss))
  fuse_statement m h (while t b) = while t (fuse_statement m loop_block b)
  fuse_statement m h (do_while b t) = do_while (fuse_statement m (do_while_holder (m.host.truth t)) b) t
  fuse_statement m h (for i t u b) = for i t u (fuse_statement m loop_block b)
  fuse_statement m h (switch d cs) = switch d (fuse_cases m cs)
  fuse_statement m h break = break
  fuse_statement m h continue = continue

  pub fuse_alternate : Setting → Alternate → Alternate
  fuse_alternate m no_alternate = no_alternate
  fuse_alternate m (alternate x) = alternate (fuse_statement m other_list x)

  pub fuse_list : Setting → Stmts → Stmts
  fuse_list m no_stmts = no_stmts
  fuse_list m (stmt_then x xs) = stmt_then (fuse_statement m other_list x) (fuse_list m xs)

  pub fuse_cases : Setting → Cases → Cases
  fuse_cases m no_cases = no_cases
  fuse_cases m (case_then p ss cs) = case_then p (minimize_list m other_list (fuse_list m ss)) (fuse_cases m cs)

abbrev pub fuse_body : Setting → Stmts → Stmts
fuse_body m ss = minimize_list m body_list (fuse_list m ss)
