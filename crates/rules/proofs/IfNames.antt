-- The rules on `if` keep the declared names.
use Rattle.std.proofs.Common.{◌≡◌, ℕ, Bool, true, false, cond, List, [], ◌++◌, sym, refl, ap, ◌∙◌, append-nil}
use Rattle.script.specs.declared.LogicalOperator.TheVariants.{And}
use Rattle.script.specs.Tree.{Stmt, Expr, Alternate, if_then, expression, alternate, not, no_alternate, block, stmt_then, no_stmts, empty}
use Rattle.run.specs.Environment.{among}
use Rattle.run.specs.Names.{lexically_declared, var_declared, var_declared_alternate}
use Rattle.hosts.specs.Meaning.{Meaning}
use Rattle.rules.specs.Expressions.{Not?, is_not, no_not, not?, join_with_left_associative_op, minimize_not}
use Rattle.rules.specs.Ifs.{Branch?, wrap_to_avoid_ambiguous_else, is_expression, is_lone_if, is_full_if, no_branch, branch?}
use Rattle.rules.specs.Ifs.{swap_branches, minimize_if_else, minimize_if_alone, minimize_full_if, minimize_empty_else, minimize_empty_if}
use Rattle.rules.specs.Ifs.{Empty?, try_minimize_if_as, is_empty, is_empty_block, no_empty, try_minimize_if, empty?}
use Rattle.rules.proofs.Membership.{among_swap}

-- x declares nothing in its list, and the var names in l
pub record Declares (x : Stmt) (l : List ℕ) : Type 0 where
  pub lexical : lexically_declared x ≡ []
  pub var : (n : ℕ) → among n (var_declared x) ≡ among n l

wrap_var : {c : Stmt} (v : Branch? c) → var_declared (wrap_to_avoid_ambiguous_else v) ≡ var_declared c
wrap_var (is_expression e) = refl
wrap_var (is_lone_if t c) = refl
wrap_var (is_full_if t c x) = append-nil (var_declared c ++ var_declared x)
wrap_var no_branch = refl

declares_exactly : (t : Expr) (c : Stmt) (a : Alternate) (l : List ℕ) → var_declared c ++ var_declared_alternate a ≡ l
    → Declares (if_then t c a) l
declares_exactly t c a l e = record { lexical = refl; var = λ n. ap (among n) e }

wrapped_declares : (t : Expr) (c : Stmt) (a : Alternate)
    → Declares (if_then t (wrap_to_avoid_ambiguous_else (branch? c)) a) (var_declared c ++ var_declared_alternate a)
wrapped_declares t c a =
    declares_exactly t (wrap_to_avoid_ambiguous_else (branch? c)) a _ (ap (λ l. l ++ var_declared_alternate a) (wrap_var (branch? c)))

swap_branches_names : {t : Expr} (b : Not? t) (c : Stmt) {x : Stmt} (v : Branch? x)
    → Declares (swap_branches b c v) (var_declared c ++ var_declared x)
swap_branches_names (is_not t) c (is_expression e) = declares_exactly t (expression e) (alternate c) _ (sym (append-nil (var_declared c)))
swap_branches_names (is_not t) c (is_lone_if u d) = wrapped_declares (not t) c (alternate (if_then u d no_alternate))
swap_branches_names (is_not t) c (is_full_if u d y) = wrapped_declares (not t) c (alternate (if_then u d (alternate y)))
swap_branches_names (is_not t) c {x} no_branch = record { lexical = refl; var = λ n. among_swap n (var_declared x) (var_declared c) }
swap_branches_names {t} no_not c {x} v = wrapped_declares t c (alternate x)

minimize_if_else_names : (t : Expr) {c x : Stmt} (v : Branch? c) (w : Branch? x)
    → Declares (minimize_if_else t v w) (var_declared c ++ var_declared x)
minimize_if_else_names t (is_expression b) (is_expression d) = record { lexical = refl; var = λ n. refl }
minimize_if_else_names t (is_expression b) (is_lone_if u d) =
    declares_exactly t (expression b) (alternate (if_then u d no_alternate)) _ refl
minimize_if_else_names t (is_expression b) (is_full_if u d y) =
    declares_exactly t (expression b) (alternate (if_then u d (alternate y))) _ refl
minimize_if_else_names t {x = x} (is_expression b) no_branch = declares_exactly t (expression b) (alternate x) _ refl
minimize_if_else_names t (is_lone_if u d) w = swap_branches_names (not? t) (if_then u d no_alternate) w
minimize_if_else_names t (is_full_if u d y) w = swap_branches_names (not? t) (if_then u d (alternate y)) w
minimize_if_else_names t {c = c} no_branch w = swap_branches_names (not? t) c w

minimize_if_alone_names : (t : Expr) {c : Stmt} (v : Branch? c) → Declares (minimize_if_alone t v) (var_declared c ++ [])
minimize_if_alone_names t (is_expression b) = record { lexical = refl; var = λ n. refl }
minimize_if_alone_names t (is_lone_if u d) =
    declares_exactly (join_with_left_associative_op And t u) (wrap_to_avoid_ambiguous_else (branch? d)) no_alternate _
    (ap (λ l. l ++ []) (wrap_var (branch? d) ∙ sym (append-nil (var_declared d))))
minimize_if_alone_names t (is_full_if u d y) =
    declares_exactly t (block (stmt_then (if_then u d (alternate y)) no_stmts)) no_alternate _
    (ap (λ l. l ++ []) (append-nil (var_declared d ++ var_declared y)))
minimize_if_alone_names t {c = c} no_branch = declares_exactly t c no_alternate _ refl

minimize_full_if_names : (t : Expr) (c : Stmt) (a : Alternate)
    → Declares (minimize_full_if t c a) (var_declared c ++ var_declared_alternate a)
minimize_full_if_names t c no_alternate = minimize_if_alone_names t (branch? c)
minimize_full_if_names t c (alternate x) = minimize_if_else_names t (branch? c) (branch? x)

declares_same : {x : Stmt} {l l' : List ℕ} → l ≡ l' → Declares x l → Declares x l'
declares_same e p = record { lexical = p.lexical; var = λ n. p.var n ∙ ap (among n) e }

minimize_empty_else_names : (t : Expr) {x : Stmt} (v : Branch? x) → Declares (minimize_empty_else t v) (var_declared x)
minimize_empty_else_names t (is_expression e) = record { lexical = refl; var = λ n. refl }
minimize_empty_else_names t (is_lone_if u d) = declares_same (append-nil _) (minimize_if_alone_names (minimize_not t) (is_lone_if u d))
minimize_empty_else_names t (is_full_if u d y) = declares_same (append-nil _) (minimize_if_alone_names (minimize_not t) (is_full_if u d y))
minimize_empty_else_names t {x = x} no_branch = declares_exactly (minimize_not t) x no_alternate _ (append-nil (var_declared x))

minimize_empty_alone_names : (b : Bool) (t : Expr) → Declares (cond b empty (expression t)) []
minimize_empty_alone_names true t = record { lexical = refl; var = λ n. refl }
minimize_empty_alone_names false t = record { lexical = refl; var = λ n. refl }

minimize_empty_if_names : (host : Meaning) (t : Expr) (a : Alternate) → Declares (minimize_empty_if host t a) (var_declared_alternate a)
minimize_empty_if_names host t no_alternate = minimize_empty_alone_names (host.harmless t) t
minimize_empty_if_names host t (alternate x) = minimize_empty_else_names t (branch? x)

try_minimize_if_as_names : (host : Meaning) (t : Expr) {c : Stmt} (v : Empty? c) (a : Alternate)
    → Declares (try_minimize_if_as host t v a) (var_declared c ++ var_declared_alternate a)
try_minimize_if_as_names host t is_empty a = minimize_empty_if_names host t a
try_minimize_if_as_names host t is_empty_block a = minimize_empty_if_names host t a
try_minimize_if_as_names host t {c = c} no_empty a = minimize_full_if_names t c a

pub try_minimize_if_names : (host : Meaning) (t : Expr) (c : Stmt) (a : Alternate)
    → Declares (try_minimize_if host t c a) (var_declared c ++ var_declared_alternate a)
try_minimize_if_names host t c a = try_minimize_if_as_names host t (empty? c) a
