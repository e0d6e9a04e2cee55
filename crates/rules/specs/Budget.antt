-- How many records of each table fusing may still have to take for a tree, and what a tree costs with them.
use Rattle.std.specs.Prelude.{◌≡◌, ℕ, ◌*◌, ◌≤◌}
use Rattle.script.specs.Judge.{Spares}
use Rattle.script.specs.Sound.{none_used, plus, records_stmt, records_alternate, records_stmts, records_cases, exprs_only, records_optional}
use Rattle.script.specs.Sound.{records_init, records_expr}
use Rattle.script.specs.Tree.{OptionalExpr, absent, present, Stmt, empty, expression, declaration, return_of, throw, if_then, alternate}
use Rattle.script.specs.Tree.{block, while, do_while, for, switch, break, continue, Alternate, no_alternate, Stmts, no_stmts, stmt_then}
use Rattle.script.specs.Tree.{Cases, no_cases, case_then, Exprs, no_exprs, expr_then}
use Rattle.rules.specs.Merging.{Worked}
use Rattle.rules.specs.For.{WorkedHead}
use Rattle.rules.specs.Folding.{MergedTest}

-- no table has more
pub record AtMost (a b : Spares) : Type 0 where
  pub exprs : a.exprs ≤ b.exprs
  pub stmts : a.stmts ≤ b.stmts
  pub decls : a.decls ≤ b.decls

-- each table has as many
pub record SameNumber (a b : Spares) : Type 0 where
  pub exprs : a.exprs ≡ b.exprs
  pub stmts : a.stmts ≡ b.stmts
  pub decls : a.decls ≡ b.decls

-- expressions e and statements s that may have to be taken; no rule takes more declarators than it gives back
abbrev pub to_take : ℕ → ℕ → Spares
to_take e s = record { exprs = e; stmts = s; decls = 0 }

-- an expression statement may be joined to another; a jump that goes may leave a `!`;
-- a return may take in another with `void 0` and a conditional, or leave its argument as a statement
abbrev pub weight_return : OptionalExpr → Spares
weight_return absent = to_take 1 0
weight_return (present e) = to_take 2 1

abbrev mutual
  pub weight_stmt : Stmt → Spares
  weight_stmt empty = none_used
  weight_stmt (expression e) = to_take 1 0
  weight_stmt (declaration k ds) = none_used
  weight_stmt (return_of v) = weight_return v
  weight_stmt (throw e) = to_take 1 0
  weight_stmt (if_then t c a) = plus (to_take 2 0) (plus (weight_stmt c) (weight_alternate a))
  weight_stmt (block ss) = weight_stmts ss
  weight_stmt (while t b) = weight_stmt b
  weight_stmt (do_while b t) = weight_stmt b
  weight_stmt (for i t u b) = weight_stmt b
  weight_stmt (switch d cs) = plus (to_take 2 0) (weight_cases cs)
  weight_stmt break = to_take 1 0
  weight_stmt continue = to_take 1 0

  pub weight_alternate : Alternate → Spares
  weight_alternate no_alternate = none_used
  weight_alternate (alternate s) = weight_stmt s

  pub weight_stmts : Stmts → Spares
  weight_stmts no_stmts = none_used
  weight_stmts (stmt_then s ss) = plus (weight_stmt s) (weight_stmts ss)

  pub weight_cases : Cases → Spares
  weight_cases no_cases = none_used
  weight_cases (case_then t ss cs) = plus (to_take 1 0) (plus (weight_stmts ss) (weight_cases cs))

-- the records of a tree and what may have to be taken for it
abbrev pub budget_stmt : Stmt → Spares
budget_stmt x = plus (records_stmt x) (weight_stmt x)

abbrev pub budget_alternate : Alternate → Spares
budget_alternate a = plus (records_alternate a) (weight_alternate a)

abbrev pub budget_stmts : Stmts → Spares
budget_stmts xs = plus (records_stmts xs) (weight_stmts xs)

abbrev pub budget_cases : Cases → Spares
budget_cases cs = plus (records_cases cs) (weight_cases cs)

-- an expression in hand, and the results before it
abbrev pub budget_worked : Worked → Spares
budget_worked w = plus (exprs_only (records_optional w.target)) (budget_stmts w.results)

abbrev pub budget_head : WorkedHead → Spares
budget_head h = plus (records_init h.init) (budget_stmts h.results)

abbrev pub budget_test : MergedTest → Spares
budget_test j = plus (exprs_only (records_expr j.test)) (budget_stmts j.results)

-- the record of the sequence that holds some items: one or none need none
abbrev pub sequence_records : Exprs → ℕ
sequence_records no_exprs = 0
sequence_records (expr_then e no_exprs) = 0
sequence_records (expr_then e (expr_then x xs)) = 1

-- no weight without a statement or a case: of n of them, two expressions and a statement each at most
abbrev pub most_weight : ℕ → Spares
most_weight n = to_take (2 * n) n
