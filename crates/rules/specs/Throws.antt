-- The rule on throw.
use Rattle.std.specs.Prelude.{Bool, true, false, cond, not as negated}
use Rattle.script.specs.Tree.{Stmt, Expr, if_then, throw, no_alternate, Alternate, alternate, empty, expression, declaration, return_of}
use Rattle.script.specs.Tree.{block, while, do_while, for, switch, break, continue, Stmts, stmt_then, no_stmts}
use Rattle.rules.specs.Expressions.{minimize_conditional}
use Rattle.rules.specs.Merging.{Worked, merge_last_expression_into_sequence, next_work, merge_leading_assignments_to_declaration}
use Rattle.rules.specs.Returns.{conditional_expression_count_exceeded, value_or_void_0}

pub data IfThrow? : Stmt → Type 0 where
  if_throw : (t e : Expr) → IfThrow? (if_then t (throw e) no_alternate)
  no_if_throw : {x : Stmt} → IfThrow? x

abbrev pub throw_alternate? : (t e : Expr) (a : Alternate) → IfThrow? (if_then t (throw e) a)
throw_alternate? t e no_alternate = if_throw t e
throw_alternate? t e (alternate x) = no_if_throw

abbrev pub throw_then? : (t : Expr) (c : Stmt) (a : Alternate) → IfThrow? (if_then t c a)
throw_then? t empty a = no_if_throw
throw_then? t (expression e) a = no_if_throw
throw_then? t (declaration k ds) a = no_if_throw
throw_then? t (return_of p) a = no_if_throw
throw_then? t (throw e) a = throw_alternate? t e a
throw_then? t (if_then t₁ c a₁) a = no_if_throw
throw_then? t (block ss) a = no_if_throw
throw_then? t (while t₁ b) a = no_if_throw
throw_then? t (do_while b t₁) a = no_if_throw
throw_then? t (for i t₁ u b) a = no_if_throw
throw_then? t (switch d cs) a = no_if_throw
throw_then? t break a = no_if_throw
throw_then? t continue a = no_if_throw

abbrev pub if_throw? : (x : Stmt) → IfThrow? x
if_throw? empty = no_if_throw
if_throw? (expression e) = no_if_throw
if_throw? (declaration k ds) = no_if_throw
if_throw? (return_of p) = no_if_throw
if_throw? (throw e) = no_if_throw
if_throw? (if_then t c a) = throw_then? t c a
if_throw? (block ss) = no_if_throw
if_throw? (while t b) = no_if_throw
if_throw? (do_while b t) = no_if_throw
if_throw? (for i t u b) = no_if_throw
if_throw? (switch d cs) = no_if_throw
if_throw? break = no_if_throw
if_throw? continue = no_if_throw

abbrev pub throw_step : {x : Stmt} → IfThrow? x → Expr → Stmts → (Expr → Stmts) → Stmts
throw_step (if_throw t e₀) e r more =
    cond (negated (conditional_expression_count_exceeded e)) (more (minimize_conditional t e₀ e))
    (stmt_then (throw e) (stmt_then (if_then t (throw e₀) no_alternate) r))
throw_step {x} no_if_throw e r more = stmt_then (throw e) (stmt_then x r)

abbrev pub throw_loop : Stmts → Expr → Stmts
throw_loop no_stmts e = stmt_then (throw e) no_stmts
throw_loop (stmt_then x r) e = throw_step (if_throw? x) e r (λ e₁. throw_loop r e₁)

abbrev pub merge_throws : Bool → Expr → Stmts → Stmts
merge_throws true e r = throw_loop r e
merge_throws false e r = stmt_then (throw e) r

abbrev pub worked_throw_argument : Bool → Expr → Stmts → Worked
worked_throw_argument q e r =
    let m : Worked = merge_last_expression_into_sequence q e r in
    next_work m.target m.results (λ e₁ r₁. merge_leading_assignments_to_declaration false e₁ r₁)

-- sequences on or off, the argument, the results before it (newest first)
abbrev pub handle_throw_statement : Bool → Expr → Stmts → Stmts
handle_throw_statement q e r = let w : Worked = worked_throw_argument q e r in merge_throws q (value_or_void_0 w.target) w.results
