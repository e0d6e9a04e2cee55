-- The rule on return.
use Rattle.std.specs.Prelude.{ℕ, suc, Bool, true, false, cond, not as negated, nat_le}
use Rattle.script.specs.Tree.{Stmt, Expr, OptionalExpr, if_then, return_of, no_alternate, Alternate, alternate, empty, expression}
use Rattle.script.specs.Tree.{declaration, throw, block, while, do_while, for, switch, break, continue, number, word, name, assignment, call}
use Rattle.script.specs.Tree.{sequence, conditional, logical, not, void, strict_equality, absent, present, Stmts, stmt_then, no_stmts}
use Rattle.hosts.specs.Meaning.{Meaning}
use Rattle.rules.specs.Holder.{Holder, body_list, other_list, loop_block, once_block}
use Rattle.rules.specs.Expressions.{minimize_conditional}
use Rattle.rules.specs.Merging.{push_new_expression_stmt_to_result, Worked, merge_last_expression_into_sequence}
use Rattle.rules.specs.Merging.{merge_leading_assignments_to_declaration}

pub data IfReturn? : Stmt → Type 0 where
  if_return : (t : Expr) (p : OptionalExpr) → IfReturn? (if_then t (return_of p) no_alternate)
  no_if_return : {x : Stmt} → IfReturn? x

abbrev pub return_alternate? : (t : Expr) (p : OptionalExpr) (a : Alternate) → IfReturn? (if_then t (return_of p) a)
return_alternate? t p no_alternate = if_return t p
return_alternate? t p (alternate x) = no_if_return

abbrev pub return_then? : (t : Expr) (c : Stmt) (a : Alternate) → IfReturn? (if_then t c a)
return_then? t empty a = no_if_return
return_then? t (expression e) a = no_if_return
return_then? t (declaration k ds) a = no_if_return
return_then? t (return_of p) a = return_alternate? t p a
return_then? t (throw e) a = no_if_return
return_then? t (if_then t₁ c a₁) a = no_if_return
return_then? t (block ss) a = no_if_return
return_then? t (while t₁ b) a = no_if_return
return_then? t (do_while b t₁) a = no_if_return
return_then? t (for i t₁ u b) a = no_if_return
return_then? t (switch d cs) a = no_if_return
return_then? t break a = no_if_return
return_then? t continue a = no_if_return

abbrev pub if_return? : (x : Stmt) → IfReturn? x
if_return? empty = no_if_return
if_return? (expression e) = no_if_return
if_return? (declaration k ds) = no_if_return
if_return? (return_of p) = no_if_return
if_return? (throw e) = no_if_return
if_return? (if_then t c a) = return_then? t c a
if_return? (block ss) = no_if_return
if_return? (while t b) = no_if_return
if_return? (do_while b t) = no_if_return
if_return? (for i t u b) = no_if_return
if_return? (switch d cs) = no_if_return
if_return? break = no_if_return
if_return? continue = no_if_return

abbrev pub conditional_count : Expr → ℕ
conditional_count (number bits) = 0
conditional_count (word w) = 0
conditional_count (name n) = 0
conditional_count (assignment n e) = 0
conditional_count (call n es) = 0
conditional_count (sequence e es) = 0
conditional_count (conditional t a b) = suc (conditional_count b)
conditional_count (logical o a b) = 0
conditional_count (not e) = 0
conditional_count (void e) = 0
conditional_count (strict_equality a b) = 0

-- the mergers of returns and of throws stop at 500 conditionals in a row
abbrev pub conditional_expression_count_exceeded : Expr → Bool
conditional_expression_count_exceeded e = nat_le 500 (conditional_count e)

abbrev pub is_body : Holder → Bool
is_body body_list = true
is_body other_list = false
is_body loop_block = false
is_body once_block = false

-- may a return with this argument still take in the one before it
abbrev pub may_merge_return : Holder → OptionalExpr → Bool
may_merge_return h absent = negated (is_body h)
may_merge_return h (present e) = negated (conditional_expression_count_exceeded e)

abbrev pub value_or_void_0 : OptionalExpr → Expr
value_or_void_0 absent = void (number 0)
value_or_void_0 (present e) = e

-- `if (t) return p; return p'`: more is the loop's next turn
abbrev pub merge_return : Holder → Expr → OptionalExpr → OptionalExpr → Stmts → (OptionalExpr → Stmts) → Stmts
merge_return h t absent absent r more = stmt_then (return_of absent) (push_new_expression_stmt_to_result true t r)
merge_return h t absent (present e) r more =
    cond (may_merge_return h (present e)) (more (present (minimize_conditional t (value_or_void_0 absent) e)))
    (stmt_then (return_of (present e)) (stmt_then (if_then t (return_of absent) no_alternate) r))
merge_return h t (present x) absent r more =
    cond (may_merge_return h absent) (more (present (minimize_conditional t x (value_or_void_0 absent))))
    (stmt_then (return_of absent) (stmt_then (if_then t (return_of (present x)) no_alternate) r))
merge_return h t (present x) (present e) r more =
    cond (may_merge_return h (present e)) (more (present (minimize_conditional t x e)))
    (stmt_then (return_of (present e)) (stmt_then (if_then t (return_of (present x)) no_alternate) r))

abbrev pub return_step : Holder → {x : Stmt} → IfReturn? x → OptionalExpr → Stmts → (OptionalExpr → Stmts) → Stmts
return_step h (if_return t p') p r more = merge_return h t p' p r more
return_step h {x} no_if_return p r more = stmt_then (return_of p) (stmt_then x r)

abbrev pub return_loop : Holder → Stmts → OptionalExpr → Stmts
return_loop h no_stmts p = stmt_then (return_of p) no_stmts
return_loop h (stmt_then x r) p = return_step h (if_return? x) p r (λ p₁. return_loop h r p₁)

abbrev pub merge_returns : Bool → Holder → OptionalExpr → Stmts → Stmts
merge_returns true h p r = return_loop h r p
merge_returns false h p r = stmt_then (return_of p) r

-- an argument that is undefined goes, or becomes a statement before the bare return
abbrev pub drop_undefined_as : Bool → Bool → Bool → Expr → Stmts → Worked
drop_undefined_as q true true e r = record { target = absent; results = r }
drop_undefined_as q true false e r = record { target = absent; results = push_new_expression_stmt_to_result q e r }
drop_undefined_as q false b e r = merge_last_expression_into_sequence q e r

abbrev pub drop_undefined_argument : Bool → Meaning → OptionalExpr → Stmts → Worked
drop_undefined_argument q host absent r = record { target = absent; results = r }
drop_undefined_argument q host (present e) r = drop_undefined_as q (host.undefined e) (host.harmless e) e r

abbrev pub merge_leading_into_declaration : OptionalExpr → Stmts → Worked
merge_leading_into_declaration absent r = record { target = absent; results = r }
merge_leading_into_declaration (present e) r = merge_leading_assignments_to_declaration false e r

-- sequences on or off, the host, what holds the list, the argument, the results before it (newest first)
abbrev pub handle_return_statement : Bool → Meaning → Holder → OptionalExpr → Stmts → Stmts
handle_return_statement q host h p r =
    let m : Worked = merge_leading_into_declaration p r in
    let a : Worked = drop_undefined_argument q host m.target m.results in
    merge_returns q h a.target a.results
