-- Fusing keeps within the budget, which is bounded by the records in use.
use Rattle.std.proofs.Common.{arith}
use Rattle.script.specs.Sound.{records_stmt, records_alternate, records_stmts, records_cases}
use Rattle.script.specs.Tree.{Stmts, Stmt, empty, expression, declaration, return_of, throw, if_then, alternate, block, while, do_while}
use Rattle.script.specs.Tree.{for, switch, break, continue, Alternate, no_alternate, no_stmts, stmt_then, Cases, no_cases, case_then}
use Rattle.rules.specs.Holder.{Holder, other_list, loop_block, body_list}
use Rattle.rules.specs.JumpCount.{jumps_list}
use Rattle.rules.specs.Fuse.{minimize_list, Setting, fuse_statement, fuse_alternate, fuse_list, do_while_holder, fuse_cases, fuse_body}
use Rattle.rules.specs.Budget.{AtMost, budget_stmt, budget_stmts, budget_alternate, budget_cases, weight_stmt, most_weight}
use Rattle.rules.specs.Budget.{weight_alternate, weight_stmts, weight_cases}
use Rattle.rules.specs.Laws.{FusingKeepsTheBudget, FusedRecordsAreBounded}
use Rattle.rules.proofs.BudgetStatements.{weight_of_argument}
use Rattle.rules.proofs.BudgetMinimize.{minimize_statements_budget, minimize_onto_budget}

pub minimize_list_budget : (m : Setting) (h : Holder) (xs : Stmts) → AtMost (budget_stmts (minimize_list m h xs)) (budget_stmts xs)
minimize_list_budget m h xs =
    minimize_statements_budget (jumps_list xs)
    (record { sequences = m.sequences; join_vars = m.join_vars; host = m.host; holder = h }) xs

mutual
  pub fuse_statement_budget : (m : Setting) (h : Holder) (x : Stmt) → AtMost (budget_stmt (fuse_statement m h x)) (budget_stmt x)
  fuse_statement_budget m h empty = search arith
  fuse_statement_budget m h (expression e) = search arith
  fuse_statement_budget m h (declaration k ds) = search arith
  fuse_statement_budget m h (return_of p) = search arith
  fuse_statement_budget m h (throw e) = search arith
  fuse_statement_budget m h (if_then t c a) =
      let x = fuse_statement_budget m other_list c in let y = fuse_alternate_budget m a in search arith
  fuse_statement_budget m h (block ss) =
      let x = minimize_list_budget m h (fuse_list m ss) in let y = fuse_list_budget m ss in search arith
  fuse_statement_budget m h (while t b) = let x = fuse_statement_budget m loop_block b in search arith
  fuse_statement_budget m h (do_while b t) = let x = fuse_statement_budget m (do_while_holder (m.host.truth t)) b in search arith
  fuse_statement_budget m h (for i t u b) = let x = fuse_statement_budget m loop_block b in search arith
  fuse_statement_budget m h (switch d cs) = let x = fuse_cases_budget m cs in search arith
  fuse_statement_budget m h break = search arith
  fuse_statement_budget m h continue = search arith

  pub fuse_alternate_budget : (m : Setting) (a : Alternate) → AtMost (budget_alternate (fuse_alternate m a)) (budget_alternate a)
  fuse_alternate_budget m no_alternate = search arith
  fuse_alternate_budget m (alternate x) = fuse_statement_budget m other_list x

  pub fuse_list_budget : (m : Setting) (xs : Stmts) → AtMost (budget_stmts (fuse_list m xs)) (budget_stmts xs)
  fuse_list_budget m no_stmts = search arith
  fuse_list_budget m (stmt_then x xs) =
      let y = fuse_statement_budget m other_list x in let z = fuse_list_budget m xs in search arith

  pub fuse_cases_budget : (m : Setting) (cs : Cases) → AtMost (budget_cases (fuse_cases m cs)) (budget_cases cs)
  fuse_cases_budget m no_cases = search arith
  fuse_cases_budget m (case_then p ss cs) =
      let x = minimize_list_budget m other_list (fuse_list m ss) in
      let y = fuse_list_budget m ss in
      let z = fuse_cases_budget m cs in
      (search arith)

pub fusing_keeps_the_budget : FusingKeepsTheBudget
fusing_keeps_the_budget = (
  minimize_onto_budget,
  minimize_statements_budget,
  λ m body. let x = minimize_list_budget m body_list (fuse_list m body) in let y = fuse_list_budget m body in search arith,
)

-- no weight without a statement or a case

mutual
  pub weight_stmt_bound : (x : Stmt) → AtMost (weight_stmt x) (most_weight (records_stmt x).stmts)
  weight_stmt_bound empty = search arith
  weight_stmt_bound (expression e) = search arith
  weight_stmt_bound (declaration k ds) = search arith
  weight_stmt_bound (return_of p) = let h = weight_of_argument p in search arith
  weight_stmt_bound (throw e) = search arith
  weight_stmt_bound (if_then t c a) = let x = weight_stmt_bound c in let y = weight_alternate_bound a in search arith
  weight_stmt_bound (block ss) = let x = weight_stmts_bound ss in search arith
  weight_stmt_bound (while t b) = let x = weight_stmt_bound b in search arith
  weight_stmt_bound (do_while b t) = let x = weight_stmt_bound b in search arith
  weight_stmt_bound (for i t u b) = let x = weight_stmt_bound b in search arith
  weight_stmt_bound (switch d cs) = let x = weight_cases_bound cs in search arith
  weight_stmt_bound break = search arith
  weight_stmt_bound continue = search arith

  pub weight_alternate_bound : (a : Alternate) → AtMost (weight_alternate a) (most_weight (records_alternate a).stmts)
  weight_alternate_bound no_alternate = search arith
  weight_alternate_bound (alternate x) = weight_stmt_bound x

  pub weight_stmts_bound : (xs : Stmts) → AtMost (weight_stmts xs) (most_weight (records_stmts xs).stmts)
  weight_stmts_bound no_stmts = search arith
  weight_stmts_bound (stmt_then x xs) = let y = weight_stmt_bound x in let z = weight_stmts_bound xs in search arith

  pub weight_cases_bound : (cs : Cases) → AtMost (weight_cases cs) (most_weight (records_cases cs).stmts)
  weight_cases_bound no_cases = search arith
  weight_cases_bound (case_then p ss cs) = let x = weight_stmts_bound ss in let y = weight_cases_bound cs in search arith

pub fused_records_are_bounded : FusedRecordsAreBounded
fused_records_are_bounded m body =
    let x : AtMost (budget_stmts (fuse_body m body)) (budget_stmts body) = fusing_keeps_the_budget.2 m body in
    let y = weight_stmts_bound body in
    (search arith)
