-- The rules on an `if` by itself.
use Rattle.std.specs.Prelude.{Bool, true, false, cond}
use Rattle.script.specs.declared.LogicalOperator.TheVariants.{Or, And}
use Rattle.script.specs.Tree.{Exprs, no_exprs, expr_then, Expr, number, word, name, assignment, call, sequence, conditional, logical, not}
use Rattle.script.specs.Tree.{void, strict_equality, Stmt, empty, block, no_stmts, Stmts, stmt_then, expression, declaration, return_of}
use Rattle.script.specs.Tree.{throw, if_then, while, do_while, for, switch, break, continue, no_alternate, alternate, Alternate}
use Rattle.hosts.specs.Meaning.{Meaning}
use Rattle.rules.specs.Expressions.{join_with_left_associative_op, minimize_not, Not?, is_not, no_not, minimize_conditional, not?}

-- does the last item of a sequence, or the expression, begin with `!`

abbrev pub last_has_negated_result : Exprs → Bool → Bool → Bool
last_has_negated_result no_exprs b bs = b
last_has_negated_result (expr_then x xs) b bs = bs

abbrev mutual
  pub has_negated_result : Expr → Bool
  has_negated_result (number bits) = false
  has_negated_result (word w) = false
  has_negated_result (name n) = false
  has_negated_result (assignment n e) = false
  has_negated_result (call n es) = false
  has_negated_result (sequence e es) = last_has_negated_result es (has_negated_result e) (has_negated_results es)
  has_negated_result (conditional t a b) = false
  has_negated_result (logical o a b) = false
  has_negated_result (not e) = true
  has_negated_result (void e) = false
  has_negated_result (strict_equality a b) = false

  pub has_negated_results : Exprs → Bool
  has_negated_results no_exprs = false
  has_negated_results (expr_then e es) = last_has_negated_result es (has_negated_result e) (has_negated_results es)

-- views

pub data Empty? : Stmt → Type 0 where
  is_empty : Empty? empty
  is_empty_block : Empty? (block no_stmts)
  no_empty : {x : Stmt} → Empty? x

abbrev pub empty_block? : (ss : Stmts) → Empty? (block ss)
empty_block? no_stmts = is_empty_block
empty_block? (stmt_then x xs) = no_empty

abbrev pub empty? : (x : Stmt) → Empty? x
empty? empty = is_empty
empty? (expression e) = no_empty
empty? (declaration k ds) = no_empty
empty? (return_of p) = no_empty
empty? (throw e) = no_empty
empty? (if_then t c a) = no_empty
empty? (block ss) = empty_block? ss
empty? (while t b) = no_empty
empty? (do_while b t) = no_empty
empty? (for i t u b) = no_empty
empty? (switch d cs) = no_empty
empty? break = no_empty
empty? continue = no_empty

-- what the rules on `if` look at in a branch
pub data Branch? : Stmt → Type 0 where
  is_expression : (e : Expr) → Branch? (expression e)
  is_lone_if : (t : Expr) (c : Stmt) → Branch? (if_then t c no_alternate)
  is_full_if : (t : Expr) (c x : Stmt) → Branch? (if_then t c (alternate x))
  no_branch : {x : Stmt} → Branch? x

abbrev pub if? : (t : Expr) (c : Stmt) (a : Alternate) → Branch? (if_then t c a)
if? t c no_alternate = is_lone_if t c
if? t c (alternate x) = is_full_if t c x

abbrev pub branch? : (x : Stmt) → Branch? x
branch? empty = no_branch
branch? (expression e) = is_expression e
branch? (declaration k ds) = no_branch
branch? (return_of p) = no_branch
branch? (throw e) = no_branch
branch? (if_then t c a) = if? t c a
branch? (block ss) = no_branch
branch? (while t b) = no_branch
branch? (do_while b t) = no_branch
branch? (for i t u b) = no_branch
branch? (switch d cs) = no_branch
branch? break = no_branch
branch? continue = no_branch

-- `if (a) if (b) c else d` gets braces
abbrev pub wrap_to_avoid_ambiguous_else : {c : Stmt} → Branch? c → Stmt
wrap_to_avoid_ambiguous_else (is_expression e) = expression e
wrap_to_avoid_ambiguous_else (is_lone_if t c) = if_then t c no_alternate
wrap_to_avoid_ambiguous_else (is_full_if t c x) = block (stmt_then (if_then t c (alternate x)) no_stmts)
wrap_to_avoid_ambiguous_else {c} no_branch = c

abbrev pub if_to_logical : Expr → Expr → Expr
if_to_logical t e =
    cond (has_negated_result t) (join_with_left_associative_op Or (minimize_not t) e) (join_with_left_associative_op And t e)

abbrev pub else_to_logical : Expr → Expr → Expr
else_to_logical t e =
    cond (has_negated_result t) (join_with_left_associative_op And (minimize_not t) e) (join_with_left_associative_op Or t e)

-- `if (!t) c else x` becomes `if (t) x else c`, unless x is an `if`
abbrev pub swap_branches : {t : Expr} → Not? t → (c : Stmt) {x : Stmt} → Branch? x → Stmt
swap_branches (is_not t) c (is_expression e) = if_then t (expression e) (alternate c)
swap_branches (is_not t) c (is_lone_if u d) =
    if_then (not t) (wrap_to_avoid_ambiguous_else (branch? c)) (alternate (if_then u d no_alternate))
swap_branches (is_not t) c (is_full_if u d y) =
    if_then (not t) (wrap_to_avoid_ambiguous_else (branch? c)) (alternate (if_then u d (alternate y)))
swap_branches (is_not t) c {x} no_branch = if_then t x (alternate c)
swap_branches {t} no_not c {x} v = if_then t (wrap_to_avoid_ambiguous_else (branch? c)) (alternate x)

abbrev pub minimize_if_else : Expr → {c x : Stmt} → Branch? c → Branch? x → Stmt
minimize_if_else t (is_expression b) (is_expression d) = expression (minimize_conditional t b d)
minimize_if_else t (is_expression b) (is_lone_if u d) = if_then t (expression b) (alternate (if_then u d no_alternate))
minimize_if_else t (is_expression b) (is_full_if u d y) = if_then t (expression b) (alternate (if_then u d (alternate y)))
minimize_if_else t {x = x} (is_expression b) no_branch = if_then t (expression b) (alternate x)
minimize_if_else t (is_lone_if u d) v = swap_branches (not? t) (if_then u d no_alternate) v
minimize_if_else t (is_full_if u d y) v = swap_branches (not? t) (if_then u d (alternate y)) v
minimize_if_else t {c} no_branch v = swap_branches (not? t) c v

abbrev pub minimize_if_alone : Expr → {c : Stmt} → Branch? c → Stmt
minimize_if_alone t (is_expression b) = expression (if_to_logical t b)
minimize_if_alone t (is_lone_if u d) =
    if_then (join_with_left_associative_op And t u) (wrap_to_avoid_ambiguous_else (branch? d)) no_alternate
minimize_if_alone t (is_full_if u d y) = if_then t (block (stmt_then (if_then u d (alternate y)) no_stmts)) no_alternate
minimize_if_alone t {c} no_branch = if_then t c no_alternate

abbrev pub minimize_full_if : Expr → Stmt → Alternate → Stmt
minimize_full_if t c no_alternate = minimize_if_alone t (branch? c)
minimize_full_if t c (alternate x) = minimize_if_else t (branch? c) (branch? x)

-- the consequent is empty
abbrev pub minimize_empty_alone : Meaning → Expr → Stmt
minimize_empty_alone host t = cond (host.harmless t) empty (expression t)

abbrev pub minimize_empty_else : Expr → {x : Stmt} → Branch? x → Stmt
minimize_empty_else t (is_expression e) = expression (else_to_logical t e)
minimize_empty_else t (is_lone_if u d) = minimize_if_alone (minimize_not t) (is_lone_if u d)
minimize_empty_else t (is_full_if u d y) = minimize_if_alone (minimize_not t) (is_full_if u d y)
minimize_empty_else t {x} no_branch = minimize_if_alone (minimize_not t) {c = x} no_branch

abbrev pub minimize_empty_if : Meaning → Expr → Alternate → Stmt
minimize_empty_if host t no_alternate = minimize_empty_alone host t
minimize_empty_if host t (alternate x) = minimize_empty_else t (branch? x)

abbrev pub try_minimize_if_as : Meaning → Expr → {c : Stmt} → Empty? c → Alternate → Stmt
try_minimize_if_as host t is_empty a = minimize_empty_if host t a
try_minimize_if_as host t is_empty_block a = minimize_empty_if host t a
try_minimize_if_as host t {c} no_empty a = minimize_full_if t c a

-- an `if` by what its branches are: the host, the test, the consequent, the `else` if there is one
abbrev pub try_minimize_if : Meaning → Expr → Stmt → Alternate → Stmt
try_minimize_if host t c a = try_minimize_if_as host t (empty? c) a

pub data Block? : Stmt → Type 0 where
  is_block : (ss : Stmts) → Block? (block ss)
  no_block : {x : Stmt} → Block? x

abbrev pub block? : (x : Stmt) → Block? x
block? empty = no_block
block? (expression e) = no_block
block? (declaration k ds) = no_block
block? (return_of p) = no_block
block? (throw e) = no_block
block? (if_then t c a) = no_block
block? (block ss) = is_block ss
block? (while t b) = no_block
block? (do_while b t) = no_block
block? (for i t u b) = no_block
block? (switch d cs) = no_block
block? break = no_block
block? continue = no_block
