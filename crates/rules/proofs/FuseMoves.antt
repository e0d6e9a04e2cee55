-- The moves of fusing a body are performed, with spares of its weight.
use Rattle.std.proofs.Common.{◌++◌, arith}
use Rattle.script.specs.Sound.{records_stmt, records_stmts, records_alternate, records_cases}
use Rattle.script.specs.Tree.{for, Stmt, Stmts, empty, expression, declaration, return_of, throw, if_then, alternate, block, while}
use Rattle.script.specs.Tree.{do_while, switch, break, continue, Alternate, no_alternate, no_stmts, stmt_then, Cases, no_cases, case_then}
use Rattle.rules.specs.Holder.{Holder, other_list, loop_block, body_list}
use Rattle.rules.specs.JumpCount.{jumps_list}
use Rattle.rules.specs.Fuse.{minimize_list, Setting, fuse_list, fuse_statement, fuse_alternate, do_while_holder, fuse_cases, fuse_body}
use Rattle.rules.specs.Budget.{weight_stmt, weight_stmts, weight_alternate, weight_cases}
use Rattle.rules.specs.ListMoves.{minimize_list_moves, fuse_list_moves, fuse_statement_moves, fuse_alternate_moves, fuse_cases_moves}
use Rattle.rules.specs.ListMoves.{moves_of_fusing}
use Rattle.rules.specs.Laws.{WeightSuffices, RecordsSuffice}
use Rattle.rules.proofs.BudgetFuse.{fuse_list_budget, fuse_statement_budget, minimize_list_budget, weight_stmts_bound}
use Rattle.rules.proofs.Performing.{Performs, in_turn, nothing, beside}
use Rattle.rules.proofs.ListMoves.{minimize_statements_performs}

pub minimize_list_performs : (m : Setting) (h : Holder) (xs : Stmts)
    → Performs (weight_stmts xs) (minimize_list_moves m h xs) (records_stmts xs) (records_stmts (minimize_list m h xs))
minimize_list_performs m h xs =
    minimize_statements_performs (jumps_list xs)
    (record { sequences = m.sequences; join_vars = m.join_vars; host = m.host; holder = h }) xs

-- a list whose inner lists are fused, and then the list itself
fused_then_minimized : (m : Setting) (h : Holder) (xs : Stmts)
    → Performs (weight_stmts xs) (fuse_list_moves m xs) (records_stmts xs) (records_stmts (fuse_list m xs))
    → Performs (weight_stmts xs) (fuse_list_moves m xs ++ minimize_list_moves m h (fuse_list m xs)) (records_stmts xs)
    (records_stmts (minimize_list m h (fuse_list m xs)))
fused_then_minimized m h xs p =
    let y = fuse_list_budget m xs in in_turn p (minimize_list_performs m h (fuse_list m xs)) (search arith) (search arith) (search arith)

mutual
  pub fuse_statement_performs : (m : Setting) (h : Holder) (x : Stmt)
      → Performs (weight_stmt x) (fuse_statement_moves m h x) (records_stmt x) (records_stmt (fuse_statement m h x))
  fuse_statement_performs m h empty = nothing (search arith)
  fuse_statement_performs m h (expression e) = nothing (search arith)
  fuse_statement_performs m h (declaration k ds) = nothing (search arith)
  fuse_statement_performs m h (return_of p) = nothing (search arith)
  fuse_statement_performs m h (throw e) = nothing (search arith)
  fuse_statement_performs m h (if_then t c a) =
      let y = fuse_statement_budget m other_list c in
      in_turn (fuse_statement_performs m other_list c) (fuse_alternate_performs m a) (search arith) (search arith) (search arith)
  fuse_statement_performs m h (block ss) = beside (fused_then_minimized m h ss (fuse_list_performs m ss)) (search arith) (search arith)
  fuse_statement_performs m h (while t b) = beside (fuse_statement_performs m loop_block b) (search arith) (search arith)
  fuse_statement_performs m h (do_while b t) =
      beside (fuse_statement_performs m (do_while_holder (m.host.truth t)) b) (search arith) (search arith)
  fuse_statement_performs m h (for i t u b) = beside (fuse_statement_performs m loop_block b) (search arith) (search arith)
  fuse_statement_performs m h (switch d cs) = beside (fuse_cases_performs m cs) (search arith) (search arith)
  fuse_statement_performs m h break = nothing (search arith)
  fuse_statement_performs m h continue = nothing (search arith)

  pub fuse_alternate_performs : (m : Setting) (a : Alternate)
      → Performs (weight_alternate a) (fuse_alternate_moves m a) (records_alternate a) (records_alternate (fuse_alternate m a))
  fuse_alternate_performs m no_alternate = nothing (search arith)
  fuse_alternate_performs m (alternate x) = fuse_statement_performs m other_list x

  pub fuse_list_performs : (m : Setting) (xs : Stmts)
      → Performs (weight_stmts xs) (fuse_list_moves m xs) (records_stmts xs) (records_stmts (fuse_list m xs))
  fuse_list_performs m no_stmts = nothing (search arith)
  fuse_list_performs m (stmt_then x xs) =
      let y = fuse_statement_budget m other_list x in
      in_turn (fuse_statement_performs m other_list x) (fuse_list_performs m xs) (search arith) (search arith) (search arith)

  pub fuse_cases_performs : (m : Setting) (cs : Cases)
      → Performs (weight_cases cs) (fuse_cases_moves m cs) (records_cases cs) (records_cases (fuse_cases m cs))
  fuse_cases_performs m no_cases = nothing (search arith)
  fuse_cases_performs m (case_then p ss cs) =
      let x = minimize_list_budget m other_list (fuse_list m ss) in
      let y = fuse_list_budget m ss in
      in_turn (fused_then_minimized m other_list ss (fuse_list_performs m ss)) (fuse_cases_performs m cs)
      (search arith) (search arith) (search arith)

pub fuse_body_performs : (m : Setting) (body : Stmts)
    → Performs (weight_stmts body) (moves_of_fusing m body) (records_stmts body) (records_stmts (fuse_body m body))
fuse_body_performs m body = fused_then_minimized m body_list body (fuse_list_performs m body)

pub weight_suffices : WeightSuffices
weight_suffices m body s h = (fuse_body_performs m body).runs s h

-- 2 expressions and 1 statement for each statement and case are the weight already
pub records_suffice : RecordsSuffice
records_suffice m body s p q r = let a = weight_stmts_bound body in weight_suffices m body s (search arith)
