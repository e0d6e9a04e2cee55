-- The rules on `if` break no rule of feeding.
use Rattle.std.proofs.Common.{◌≡◌, ◌≤◌, Bool, true, false, cond, ◌||◌, [], sym, refl, ◌∙◌, append-nil, arith}
use Rattle.script.specs.declared.DeclarationKind.{DeclarationKind}
use Rattle.script.specs.declared.DeclarationKind.TheVariants.{Var, Let, Const}
use Rattle.script.specs.declared.LogicalOperator.TheVariants.{Or, And}
use Rattle.script.specs.Sound.{SoundStmt, SoundExpr, SoundAlternate, count_declarators, SoundStmts}
use Rattle.script.specs.Stacks.{lexical_declaration, lexical_kind}
use Rattle.script.specs.Tree.{Stmt, Expr, Alternate, if_then, not, alternate, no_alternate, empty, expression, Declarators, no_declarators}
use Rattle.script.specs.Tree.{declarator_then, declaration, return_of, throw, block, while, do_while, for, switch, break, continue, Stmts}
use Rattle.script.specs.Tree.{no_stmts, stmt_then}
use Rattle.run.specs.Names.{lexical_names, lexically_declared, lexically_declared_list}
use Rattle.hosts.specs.Meaning.{Meaning}
use Rattle.rules.specs.Holder.{Holder}
use Rattle.rules.specs.Expressions.{Not?, is_not, no_not, not?, join_with_left_associative_op, minimize_not}
use Rattle.rules.specs.Statements.{statement_cares_about_scope}
use Rattle.rules.specs.Ifs.{Branch?, wrap_to_avoid_ambiguous_else, is_expression, is_lone_if, is_full_if, no_branch, branch?}
use Rattle.rules.specs.Ifs.{swap_branches, minimize_if_else, if_to_logical, has_negated_result, else_to_logical, minimize_if_alone}
use Rattle.rules.specs.Ifs.{minimize_empty_else, minimize_empty_if, minimize_full_if, Empty?, try_minimize_if_as, is_empty, is_empty_block}
use Rattle.rules.specs.Ifs.{no_empty, try_minimize_if, empty?}
use Rattle.rules.specs.Jumps.{drop_last_jump, can_remove_termination_statement, in_source_order}
use Rattle.rules.specs.Folding.{one_stmt_or_block, without_needless_block, is_if, append_stmt, alternate_then_rest}
use Rattle.rules.proofs.Booleans.{or_right}
use Rattle.rules.proofs.Statements.{declares_nothing}
use Rattle.rules.proofs.SoundExpressions.{either_expr, join_with_left_associative_op_sound, minimize_conditional_sound, minimize_not_sound}
use Rattle.rules.proofs.SoundMerging.{either_sound}

-- a statement that may be a branch
abbrev pub SoundBranch : Stmt → Type 0
SoundBranch x = (lexical_declaration x ≡ false) × SoundStmt x

wrap_sound : {c : Stmt} (v : Branch? c) → SoundBranch c → SoundBranch (wrap_to_avoid_ambiguous_else v)
wrap_sound (is_expression e) p = p
wrap_sound (is_lone_if t c) p = p
wrap_sound (is_full_if t c x) p = (refl, (p.1, tt))
wrap_sound no_branch p = p

wrapped_sound : (t : Expr) (c : Stmt) (a : Alternate) → SoundExpr t → SoundBranch c → SoundAlternate a
    → SoundBranch (if_then t (wrap_to_avoid_ambiguous_else (branch? c)) a)
wrapped_sound t c a p q r = let w = wrap_sound (branch? c) q in (refl, (p, w.0, w.1, r))

swap_branches_sound : {t : Expr} (n : Not? t) (c : Stmt) {x : Stmt} (v : Branch? x) → SoundExpr t → SoundBranch c → SoundBranch x
    → SoundBranch (swap_branches n c v)
swap_branches_sound (is_not t) c (is_expression e) p q r = (refl, (p, refl, r.1, q))
swap_branches_sound (is_not t) c (is_lone_if u d) p q r = wrapped_sound (not t) c (alternate (if_then u d no_alternate)) p q r
swap_branches_sound (is_not t) c (is_full_if u d y) p q r = wrapped_sound (not t) c (alternate (if_then u d (alternate y))) p q r
swap_branches_sound (is_not t) c no_branch p q r = (refl, (p, r.0, r.1, q))
swap_branches_sound {t} no_not c {x} v p q r = wrapped_sound t c (alternate x) p q r

minimize_if_else_sound : (t : Expr) {c x : Stmt} (v : Branch? c) (w : Branch? x) → SoundExpr t → SoundBranch c → SoundBranch x
    → SoundBranch (minimize_if_else t v w)
minimize_if_else_sound t (is_expression b) (is_expression d) p q r = (refl, minimize_conditional_sound t b d p q.1 r.1)
minimize_if_else_sound t (is_expression b) (is_lone_if u d) p q r = (refl, (p, refl, q.1, r))
minimize_if_else_sound t (is_expression b) (is_full_if u d y) p q r = (refl, (p, refl, q.1, r))
minimize_if_else_sound t (is_expression b) no_branch p q r = (refl, (p, refl, q.1, r))
minimize_if_else_sound t (is_lone_if u d) w p q r = swap_branches_sound (not? t) (if_then u d no_alternate) w p q r
minimize_if_else_sound t (is_full_if u d y) w p q r = swap_branches_sound (not? t) (if_then u d (alternate y)) w p q r
minimize_if_else_sound t {c} no_branch w p q r = swap_branches_sound (not? t) c w p q r

if_to_logical_sound : (t e : Expr) → SoundExpr t → SoundExpr e → SoundExpr (if_to_logical t e)
if_to_logical_sound t e p q =
    either_expr (has_negated_result t) (join_with_left_associative_op Or (minimize_not t) e) (join_with_left_associative_op And t e)
    (join_with_left_associative_op_sound Or (minimize_not t) e (minimize_not_sound t p) q)
    (join_with_left_associative_op_sound And t e p q)

else_to_logical_sound : (t e : Expr) → SoundExpr t → SoundExpr e → SoundExpr (else_to_logical t e)
else_to_logical_sound t e p q =
    either_expr (has_negated_result t) (join_with_left_associative_op And (minimize_not t) e) (join_with_left_associative_op Or t e)
    (join_with_left_associative_op_sound And (minimize_not t) e (minimize_not_sound t p) q)
    (join_with_left_associative_op_sound Or t e p q)

minimize_if_alone_sound : (t : Expr) {c : Stmt} (v : Branch? c) → SoundExpr t → SoundBranch c → SoundBranch (minimize_if_alone t v)
minimize_if_alone_sound t (is_expression b) p q = (refl, if_to_logical_sound t b p q.1)
minimize_if_alone_sound t (is_lone_if u d) p q =
    wrapped_sound (join_with_left_associative_op And t u) d no_alternate (join_with_left_associative_op_sound And t u p q.1.0)
    (q.1.1, q.1.2) tt
minimize_if_alone_sound t (is_full_if u d y) p q = (refl, (p, refl, (q.1, tt), tt))
minimize_if_alone_sound t no_branch p q = (refl, (p, q.0, q.1, tt))

minimize_empty_else_sound : (t : Expr) {x : Stmt} (v : Branch? x) → SoundExpr t → SoundBranch x → SoundBranch (minimize_empty_else t v)
minimize_empty_else_sound t (is_expression e) p q = (refl, else_to_logical_sound t e p q.1)
minimize_empty_else_sound t (is_lone_if u d) p q = minimize_if_alone_sound (minimize_not t) (is_lone_if u d) (minimize_not_sound t p) q
minimize_empty_else_sound t (is_full_if u d y) p q = minimize_if_alone_sound (minimize_not t) (is_full_if u d y) (minimize_not_sound t p) q
minimize_empty_else_sound t {x} no_branch p q = minimize_if_alone_sound (minimize_not t) {c = x} no_branch (minimize_not_sound t p) q

empty_alone_sound : (b : Bool) (t : Expr) → SoundExpr t → SoundBranch (cond b empty (expression t))
empty_alone_sound true t p = (refl, tt)
empty_alone_sound false t p = (refl, p)

minimize_empty_if_sound : (host : Meaning) (t : Expr) (a : Alternate) → SoundExpr t → SoundAlternate a
    → SoundBranch (minimize_empty_if host t a)
minimize_empty_if_sound host t no_alternate p q = empty_alone_sound (host.harmless t) t p
minimize_empty_if_sound host t (alternate x) p q = minimize_empty_else_sound t (branch? x) p q

minimize_full_if_sound : (t : Expr) (c : Stmt) (a : Alternate) → SoundExpr t → SoundBranch c → SoundAlternate a
    → SoundBranch (minimize_full_if t c a)
minimize_full_if_sound t c no_alternate p q r = minimize_if_alone_sound t (branch? c) p q
minimize_full_if_sound t c (alternate x) p q r = minimize_if_else_sound t (branch? c) (branch? x) p q r

try_minimize_if_as_sound : (host : Meaning) (t : Expr) {c : Stmt} (v : Empty? c) (a : Alternate) → SoundExpr t → SoundBranch c
    → SoundAlternate a
    → SoundBranch (try_minimize_if_as host t v a)
try_minimize_if_as_sound host t is_empty a p q r = minimize_empty_if_sound host t a p r
try_minimize_if_as_sound host t is_empty_block a p q r = minimize_empty_if_sound host t a p r
try_minimize_if_as_sound host t {c} no_empty a p q r = minimize_full_if_sound t c a p q r

pub try_minimize_if_sound : (host : Meaning) (t : Expr) (c : Stmt) (a : Alternate) → SoundExpr t → SoundBranch c → SoundAlternate a
    → SoundBranch (try_minimize_if host t c a)
try_minimize_if_sound host t c a p q r = try_minimize_if_as_sound host t (empty? c) a p q r

-- branches from lists

not_lexical : (k : DeclarationKind) (ds : Declarators) → 1 ≤ count_declarators ds → lexical_names k ds ≡ [] → lexical_kind k ≡ false
not_lexical Var ds n e = refl
not_lexical Let no_declarators n e = absurd (omega arith)
not_lexical Let (declarator_then m v ds) n e = cc
not_lexical Const no_declarators n e = absurd (omega arith)
not_lexical Const (declarator_then m v ds) n e = cc

declares_nothing_branch : (x : Stmt) → SoundStmt x → lexically_declared x ≡ [] → lexical_declaration x ≡ false
declares_nothing_branch empty p e = refl
declares_nothing_branch (expression x) p e = refl
declares_nothing_branch (declaration k ds) p e = not_lexical k ds p.0 e
declares_nothing_branch (return_of v) p e = refl
declares_nothing_branch (throw x) p e = refl
declares_nothing_branch (if_then t c a) p e = refl
declares_nothing_branch (block ss) p e = refl
declares_nothing_branch (while t b) p e = refl
declares_nothing_branch (do_while b t) p e = refl
declares_nothing_branch (for i t u b) p e = refl
declares_nothing_branch (switch d cs) p e = refl
declares_nothing_branch break p e = refl
declares_nothing_branch continue p e = refl

pub one_stmt_or_block_sound : (ss : Stmts) → lexically_declared_list ss ≡ [] → SoundStmts ss → SoundBranch (one_stmt_or_block ss)
one_stmt_or_block_sound no_stmts e p = (refl, tt)
one_stmt_or_block_sound (stmt_then x no_stmts) e p =
    (declares_nothing_branch x p.0 (sym (append-nil (lexically_declared x)) ∙ e), p.0)
one_stmt_or_block_sound (stmt_then x (stmt_then y ys)) e p = (refl, p)

pub without_needless_block_sound : (ss : Stmts) → SoundStmts ss → SoundBranch (without_needless_block ss)
without_needless_block_sound no_stmts p = (refl, tt)
without_needless_block_sound (stmt_then x no_stmts) p = by (is_if (branch? x) || statement_cares_about_scope x) refl
  where
    by : (b : Bool) → is_if (branch? x) || statement_cares_about_scope x ≡ b → SoundBranch (cond b (block (stmt_then x no_stmts)) x)
    by true e = (refl, p)
    by false e =
        (declares_nothing_branch x p.0 (declares_nothing x (or_right (is_if (branch? x)) (statement_cares_about_scope x) e)), p.0)
without_needless_block_sound (stmt_then x (stmt_then y ys)) p = (refl, p)

pub drop_last_jump_sound : (h : Holder) (r : Stmts) → SoundStmts r → SoundStmts (drop_last_jump h r)
drop_last_jump_sound h no_stmts p = tt
drop_last_jump_sound h (stmt_then x r) p = either_sound (can_remove_termination_statement h x) r (stmt_then x r) p.1 p

pub in_source_order_sound : (r l : Stmts) → SoundStmts r → SoundStmts l → SoundStmts (in_source_order r l)
in_source_order_sound no_stmts l p q = q
in_source_order_sound (stmt_then x r) l p q = in_source_order_sound r (stmt_then x l) p.1 (p.0, q)

pub append_stmt_sound : (ys : Stmts) (x : Stmt) → SoundStmts (append_stmt ys x) → SoundStmts ys
append_stmt_sound no_stmts x p = tt
append_stmt_sound (stmt_then y ys) x p = (p.0, append_stmt_sound ys x p.1)

pub alternate_then_rest_sound : (a : Alternate) (rest : Stmts) → SoundAlternate a → SoundStmts rest
    → SoundStmts (alternate_then_rest a rest)
alternate_then_rest_sound no_alternate rest p q = q
alternate_then_rest_sound (alternate x) rest p q = (p.1, q)
