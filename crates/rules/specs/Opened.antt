-- How many blocks fusing opens, that is, replaces by their statements. Each count follows the work that it is named after.
use Rattle.std.specs.Prelude.{ℕ, zero, suc, ◌+◌, Bool, true, false, cond, not as negated, ◌&&◌, ◌||◌}
use Rattle.script.specs.Tree.{Stmts, Stmt, empty, expression, declaration, return_of, throw, if_then, block, while, do_while, for, switch}
use Rattle.script.specs.Tree.{break, continue, Alternate, no_alternate, alternate, no_stmts, stmt_then, Cases, no_cases, case_then, Expr}
use Rattle.rules.specs.Holder.{Holder, loop_block, other_list, body_list}
use Rattle.rules.specs.Expressions.{minimize_not}
use Rattle.rules.specs.Statements.{any_cares_about_scope, handle_block, is_terminated, statement_cares_about_scope, push_all}
use Rattle.rules.specs.Merging.{handle_expression_statement, Worked}
use Rattle.rules.specs.Returns.{handle_return_statement, value_or_void_0}
use Rattle.rules.specs.Declarations.{handle_variable_declaration}
use Rattle.rules.specs.For.{handle_for_statement}
use Rattle.rules.specs.Throws.{handle_throw_statement}
use Rattle.rules.specs.Ifs.{try_minimize_if}
use Rattle.rules.specs.Switches.{handle_switch_statement}
use Rattle.rules.specs.Unreachable.{last_is_terminated, is_nonempty}
use Rattle.rules.specs.Folding.{Context, Jump?, is_jump, ends_in_jump, no_jump, jump?, append_stmt, alternate_then_rest, minimized_tail}
use Rattle.rules.specs.Folding.{alternate_cares_about_scope, without_needless_block, MergedTest, merge_same_if, last_if?, worked_if_test}
use Rattle.rules.specs.Minimize.{minimize_onto}
use Rattle.rules.specs.JumpCount.{jumps_list}
use Rattle.rules.specs.Fuse.{Setting, fuse_list, do_while_holder}

-- handle_block: opened if nothing in its list cares about scope
abbrev pub opened_by_block : Stmts → ℕ
opened_by_block ss = cond (any_cares_about_scope ss) 0 1

-- then_rest: what stands behind a jump is not worked; more counts for the work on the rest
abbrev pub opened_by_rest : (Stmts → ℕ) → Stmts → Stmts → ℕ
opened_by_rest more rest r = cond (last_is_terminated r && is_nonempty rest) 0 (more r)

-- push_if: the `if` itself is no block
abbrev pub opened_by_push_if : (Stmts → ℕ) → Expr → Stmt → Alternate → Stmts → Stmts → ℕ
opened_by_push_if more t c a rest r = opened_by_rest more rest (stmt_then (if_then t c a) r)

-- split_alternate: opened counts for the work on any list one level deeper
abbrev pub opened_by_split : (Stmts → Stmts → ℕ) → (Stmts → ℕ) → Expr → Stmt → Alternate → Stmts → Stmts → ℕ
opened_by_split opened more t c no_alternate rest r = opened_by_push_if more t c no_alternate rest r
opened_by_split opened more t c (alternate x) rest r =
    cond (is_terminated c && negated (statement_cares_about_scope x)) (opened (stmt_then x rest) (stmt_then (if_then t c no_alternate) r))
    (opened_by_push_if more t c (alternate x) rest r)

-- fold_rest: a fold works the tail, then the new `if`; again is the work that opened counts for
abbrev pub opened_by_fold : Context → (Stmts → Stmts → Stmts) → (Stmts → Stmts → ℕ) → (Stmts → ℕ) → {h : Holder} → Expr → {c : Stmt}
    → Jump? h c → Alternate → Stmts → Stmts → ℕ
opened_by_fold s again opened more {h} t (is_jump x p) a rest r =
    cond (alternate_cares_about_scope a || any_cares_about_scope rest) (opened_by_split opened more t x a rest r)
    (opened (alternate_then_rest a rest) no_stmts
    + opened (stmt_then (try_minimize_if s.host (minimize_not t) (minimized_tail h again a rest) no_alternate) no_stmts) r)
opened_by_fold s again opened more {h} t (ends_in_jump ys x p) a rest r =
    cond (alternate_cares_about_scope a || any_cares_about_scope rest)
    (opened_by_split opened more t (block (append_stmt ys x)) a rest r)
    (opened (alternate_then_rest a rest) no_stmts
    + opened (stmt_then (try_minimize_if s.host t (without_needless_block ys) (alternate (minimized_tail h again a rest))) no_stmts) r)
opened_by_fold s again opened more t {c} no_jump a rest r = opened_by_split opened more t c a rest r

-- handle_if_after_test: without sequences nothing is folded
abbrev pub opened_by_if_after_test : Context → Bool → (Stmts → Stmts → Stmts) → (Stmts → Stmts → ℕ) → (Stmts → ℕ) → Expr → Stmt
    → Alternate → Stmts → Stmts → ℕ
opened_by_if_after_test s false again opened more t c a rest r = opened_by_push_if more t c a rest r
opened_by_if_after_test s true again opened more t c a rest r =
    let j : MergedTest = merge_same_if t c (last_if? r) in
    opened_by_fold s again opened more {h = s.holder} j.test (jump? s.holder c) a rest j.results

-- handle_if_statement
abbrev pub opened_by_if : Context → (Stmts → Stmts → Stmts) → (Stmts → Stmts → ℕ) → (Stmts → ℕ) → Expr → Stmt → Alternate → Stmts → Stmts
    → ℕ
opened_by_if s again opened more t c a rest r =
    let w : Worked = worked_if_test s.sequences t r in
    opened_by_if_after_test s s.sequences again opened more (value_or_void_0 w.target) c a rest w.results

-- minimize_statement: a block here may be opened; then the others
abbrev pub opened_by_statement : Context → (Stmts → Stmts → Stmts) → (Stmts → Stmts → ℕ) → (Stmts → ℕ) → Stmt → Stmts → Stmts → ℕ
opened_by_statement s again opened more empty rest r = opened_by_rest more rest r
opened_by_statement s again opened more (expression e) rest r = opened_by_rest more rest (handle_expression_statement s.sequences e r)
opened_by_statement s again opened more (declaration k ds) rest r =
    opened_by_rest more rest (handle_variable_declaration s.join_vars k ds r)
opened_by_statement s again opened more (return_of p) rest r =
    opened_by_rest more rest (handle_return_statement s.sequences s.host s.holder p r)
opened_by_statement s again opened more (throw e) rest r = opened_by_rest more rest (handle_throw_statement s.sequences e r)
opened_by_statement s again opened more (if_then t c a) rest r = opened_by_if s again opened more t c a rest r
opened_by_statement s again opened more (block ss) rest r = opened_by_block ss + opened_by_rest more rest (handle_block ss r)
opened_by_statement s again opened more (while t b) rest r = opened_by_rest more rest (stmt_then (while t b) r)
opened_by_statement s again opened more (do_while b t) rest r = opened_by_rest more rest (stmt_then (do_while b t) r)
opened_by_statement s again opened more (for i t u b) rest r = opened_by_rest more rest (handle_for_statement s.sequences i t u b r)
opened_by_statement s again opened more (switch d cs) rest r = opened_by_rest more rest (handle_switch_statement s.sequences d cs r)
opened_by_statement s again opened more break rest r = opened_by_rest more rest (stmt_then break r)
opened_by_statement s again opened more continue rest r = opened_by_rest more rest (stmt_then continue r)

-- minimize_onto_with
abbrev pub opened_onto_with : Context → (Stmts → Stmts → Stmts) → (Stmts → Stmts → ℕ) → Stmts → Stmts → ℕ
opened_onto_with s again opened no_stmts r = 0
opened_onto_with s again opened (stmt_then x rest) r =
    opened_by_statement s again opened (λ r₁. opened_onto_with s again opened rest r₁) x rest r

-- minimize_onto: below level zero statements are only put one after the other, which opens nothing
abbrev pub opened_onto : ℕ → Context → Stmts → Stmts → ℕ
opened_onto zero s todo r = opened_onto_with s push_all (λ todo₁ r₁. 0) todo r
opened_onto (suc n) s todo r = opened_onto_with s (λ todo₁ r₁. minimize_onto n s todo₁ r₁) (λ todo₁ r₁. opened_onto n s todo₁ r₁) todo r

-- minimize_statements
abbrev pub opened_by_statements : ℕ → Context → Stmts → ℕ
opened_by_statements n s ss = opened_onto n s ss no_stmts

-- minimize_list
abbrev pub opened_by_list : Setting → Holder → Stmts → ℕ
opened_by_list m h ss =
    opened_by_statements (jumps_list ss) (record { sequences = m.sequences; join_vars = m.join_vars; host = m.host; holder = h }) ss

-- fuse_statement, fuse_alternate, fuse_list, fuse_cases: the lists inside, each worked once; h holds the statement's list, if it is a block
abbrev mutual
  pub opened_in_statement : Setting → Holder → Stmt → ℕ
  opened_in_statement m h empty = 0
  opened_in_statement m h (expression e) = 0
  opened_in_statement m h (declaration k ds) = 0
  opened_in_statement m h (return_of p) = 0
  opened_in_statement m h (throw e) = 0
  opened_in_statement m h (if_then t c a) = opened_in_statement m other_list c + opened_in_alternate m a
  opened_in_statement m h (block ss) = opened_inside m ss + opened_by_list m h (fuse_list m ss)
  opened_in_statement m h (while t b) = opened_in_statement m loop_block b
  opened_in_statement m h (do_while b t) = opened_in_statement m (do_while_holder (m.host.truth t)) b
  opened_in_statement m h (for i t u b) = opened_in_statement m loop_block b
  opened_in_statement m h (switch d cs) = opened_in_cases m cs
  opened_in_statement m h break = 0
  opened_in_statement m h continue = 0

  pub opened_in_alternate : Setting → Alternate → ℕ
  opened_in_alternate m no_alternate = 0
  opened_in_alternate m (alternate x) = opened_in_statement m other_list x

  pub opened_inside : Setting → Stmts → ℕ
  opened_inside m no_stmts = 0
  opened_inside m (stmt_then x xs) = opened_in_statement m other_list x + opened_inside m xs

  pub opened_in_cases : Setting → Cases → ℕ
  opened_in_cases m no_cases = 0
  opened_in_cases m (case_then p ss cs) = (opened_inside m ss + opened_by_list m other_list (fuse_list m ss)) + opened_in_cases m cs

-- in a list that h holds and the lists inside it
abbrev pub opened_in_list : Setting → Holder → Stmts → ℕ
opened_in_list m h ss = opened_inside m ss + opened_by_list m h (fuse_list m ss)

-- fuse_body
abbrev pub opened_in_body : Setting → Stmts → ℕ
opened_in_body m ss = opened_in_list m body_list ss
