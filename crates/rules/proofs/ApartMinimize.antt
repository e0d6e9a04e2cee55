-- The work on a list that opens no block leaves no two expressions side by side.
use Rattle.std.proofs.Common.{◌≡◌, ℕ, ◌+◌, Bool, true, false, cond, not as negated, ◌&&◌, ◌||◌, refl, arith}
use Rattle.script.specs.Tree.{Stmt, Expr, Stmts, stmt_then, if_then, no_alternate, Alternate, no_stmts, alternate, block, empty, expression}
use Rattle.script.specs.Tree.{declaration, return_of, throw, while, do_while, for, switch, break, continue}
use Rattle.rules.specs.Equal.{content_eq}
use Rattle.rules.specs.Expressions.{minimize_not}
use Rattle.rules.specs.Statements.{is_terminated, any_cares_about_scope, statement_cares_about_scope, handle_block, push_all}
use Rattle.rules.specs.Merging.{Worked, merge_leading_assignments_to_declaration, merge_last_expression_into_sequence, last_expression?}
use Rattle.rules.specs.Merging.{handle_expression_statement}
use Rattle.rules.specs.Returns.{value_or_void_0, handle_return_statement}
use Rattle.rules.specs.Declarations.{handle_variable_declaration}
use Rattle.rules.specs.For.{handle_for_statement}
use Rattle.rules.specs.Throws.{handle_throw_statement}
use Rattle.rules.specs.Ifs.{try_minimize_if}
use Rattle.rules.specs.Switches.{handle_switch_statement}
use Rattle.rules.specs.Jumps.{in_source_order, drop_last_jump}
use Rattle.rules.specs.Unreachable.{then_rest}
use Rattle.rules.specs.Folding.{merge_same_as, LastIf?, merge_same_if, last_if, no_last_if, worked_if_test, Context}
use Rattle.rules.specs.Folding.{alternate_cares_about_scope, minimized_tail, alternate_then_rest, push_if, split_alternate, Jump?, fold_rest}
use Rattle.rules.specs.Folding.{is_jump, ends_in_jump, append_stmt, without_needless_block, no_jump, handle_if_after_test, MergedTest}
use Rattle.rules.specs.Folding.{last_if?, jump?, handle_if_statement}
use Rattle.rules.specs.Minimize.{minimize_statement, minimize_onto_with}
use Rattle.rules.specs.Opened.{opened_by_block, opened_by_push_if, opened_by_split, opened_by_fold, opened_by_if_after_test, opened_by_if}
use Rattle.rules.specs.Opened.{opened_by_rest, opened_by_statement, opened_onto_with}
use Rattle.rules.specs.Neighbours.{begins_with_expression, ApartStatement, ApartAlternate, Apart}
use Rattle.rules.proofs.Booleans.{and_false}
use Rattle.rules.proofs.ApartStatements.{EachApart, merge_last_apart, merge_leading_apart, next_work_apart, handle_expression_statement_apart}
use Rattle.rules.proofs.ApartStatements.{handle_variable_declaration_apart, handle_return_statement_apart, handle_throw_statement_apart}
use Rattle.rules.proofs.ApartStatements.{handle_for_statement_apart, handle_switch_statement_apart, then_rest_apart}
use Rattle.rules.proofs.ApartIfs.{try_minimize_if_apart, one_stmt_or_block_apart, without_needless_block_apart, drop_last_jump_apart}
use Rattle.rules.proofs.ApartIfs.{in_source_order_apart, append_stmt_apart, alternate_then_rest_apart}

merge_same_as_apart : {c₀ c : Stmt} (d : Dec (c₀ ≡ c)) (b : Bool) (t t₀ : Expr) (r : Stmts)
    → Apart (stmt_then (if_then t₀ c₀ no_alternate) r) → Apart (merge_same_as d b t t₀ r).results
merge_same_as_apart (yes e) true t t₀ r p = p.2
merge_same_as_apart (yes e) false t t₀ r p = p
merge_same_as_apart (no e) b t t₀ r p = p

merge_same_if_apart : (t : Expr) (c : Stmt) {r : Stmts} (v : LastIf? r) → Apart r → Apart (merge_same_if t c v).results
merge_same_if_apart t c (last_if t₀ c₀ r) p = merge_same_as_apart (content_eq c₀ c) (is_terminated c) t t₀ r p
merge_same_if_apart t c no_last_if p = p

worked_if_test_apart : (q : Bool) (t : Expr) (r : Stmts) → Apart r → Apart (worked_if_test q t r).results
worked_if_test_apart q t r p =
    let m : Worked = merge_leading_assignments_to_declaration false t r in
    next_work_apart m.target m.results (λ e r₁. merge_last_expression_into_sequence q e r₁)
    (λ e r₁ u. merge_last_apart (last_expression? q r₁) e u) (merge_leading_apart false t r p)

-- a block that is not opened is put whole
handle_block_apart : (ss r : Stmts) → Apart ss → Apart r → opened_by_block ss ≡ 0 → Apart (handle_block ss r)
handle_block_apart ss r p q z = by (any_cares_about_scope ss) z
  where
    by : (b : Bool) → ◌≡◌ {A = ℕ} (cond b 0 1) 0 → Apart (cond b (stmt_then (block ss) r) (push_all ss r))
    by true z₁ = (refl, p, q)
    by false z₁ = absurd (omega arith)

-- again works a list; where the count of opened blocks is 0, what was apart stays so
abbrev pub KeepsApart : (Stmts → Stmts → Stmts) → (Stmts → Stmts → ℕ) → Type 0
KeepsApart again opened = (todo r : Stmts) → EachApart todo → Apart r → opened todo r ≡ 0 → Apart (again todo r)

module _ (st : Context) (on : st.sequences ≡ true) (again : Stmts → Stmts → Stmts) (opened : Stmts → Stmts → ℕ)
    (k : KeepsApart again opened) where
  minimized_tail_apart : (a : Alternate) (rest : Stmts) → ApartAlternate a → EachApart rest
      → opened (alternate_then_rest a rest) no_stmts ≡ 0 → ApartStatement (minimized_tail st.holder again a rest)
  minimized_tail_apart a rest p q z =
      let out : Stmts = drop_last_jump st.holder (again (alternate_then_rest a rest) no_stmts) in
      one_stmt_or_block_apart (in_source_order out no_stmts)
      (in_source_order_apart out no_stmts
      (drop_last_jump_apart st.holder (again (alternate_then_rest a rest) no_stmts)
      (k (alternate_then_rest a rest) no_stmts (alternate_then_rest_apart a rest p q) tt z))
      tt (and_false (begins_with_expression out)))

  module _ (rest : Stmts) (more : Stmts → Stmts) (opened_more : Stmts → ℕ) (u : EachApart rest)
      (m : (r : Stmts) → Apart r → opened_more r ≡ 0 → Apart (more r)) where
    push_if_apart : (t : Expr) (c : Stmt) (a : Alternate) (r : Stmts) → ApartStatement (if_then t c a) → Apart r
        → opened_by_push_if opened_more t c a rest r ≡ 0 → Apart (push_if more t c a rest r)
    push_if_apart t c a r p q z = then_rest_apart rest more opened_more u m (stmt_then (if_then t c a) r) (refl, p, q) z

    split_alternate_apart : (t : Expr) (c : Stmt) (a : Alternate) (r : Stmts) → ApartStatement (if_then t c a) → Apart r
        → opened_by_split opened opened_more t c a rest r ≡ 0 → Apart (split_alternate again more t c a rest r)
    split_alternate_apart t c no_alternate r p q z = push_if_apart t c no_alternate r p q z
    split_alternate_apart t c (alternate x) r p q z = by (is_terminated c && negated (statement_cares_about_scope x)) z
      where
        by : (b : Bool)
            → cond b (opened (stmt_then x rest) (stmt_then (if_then t c no_alternate) r))
            (opened_by_push_if opened_more t c (alternate x) rest r) ≡ 0
            → Apart (cond b (again (stmt_then x rest) (stmt_then (if_then t c no_alternate) r)) (push_if more t c (alternate x) rest r))
        by true z₁ = k (stmt_then x rest) (stmt_then (if_then t c no_alternate) r) (p.1, u) (refl, (p.0, tt), q) z₁
        by false z₁ = push_if_apart t c (alternate x) r p q z₁

    -- split, or folded into the statement X, which has the tail in it
    folded_apart : (b : Bool) (t : Expr) (c : Stmt) (a : Alternate) (X : Stmt) (r : Stmts) → ApartStatement (if_then t c a)
        → (ApartStatement (minimized_tail st.holder again a rest) → ApartStatement X) → Apart r
        → cond b (opened_by_split opened opened_more t c a rest r)
        (opened (alternate_then_rest a rest) no_stmts + opened (stmt_then X no_stmts) r) ≡ 0
        → Apart (cond b (split_alternate again more t c a rest r) (again (stmt_then X no_stmts) r))
    folded_apart true t c a X r p f q z = split_alternate_apart t c a r p q z
    folded_apart false t c a X r p f q z =
        k (stmt_then X no_stmts) r (f (minimized_tail_apart a rest p.1 u (omega arith)), tt) q (omega arith)

    fold_rest_apart : (t : Expr) {c : Stmt} (v : Jump? st.holder c) (a : Alternate) (r : Stmts) → ApartStatement (if_then t c a) → Apart r
        → opened_by_fold st again opened opened_more t v a rest r ≡ 0 → Apart (fold_rest st again more t v a rest r)
    fold_rest_apart t (is_jump x j) a r p q z =
        let A : Stmt = minimized_tail st.holder again a rest in
        folded_apart (alternate_cares_about_scope a || any_cares_about_scope rest) t x a
        (try_minimize_if st.host (minimize_not t) A no_alternate) r p
        (λ w. try_minimize_if_apart st.host (minimize_not t) A no_alternate w tt) q z
    fold_rest_apart t (ends_in_jump ys x j) a r p q z =
        let A : Stmt = minimized_tail st.holder again a rest in
        folded_apart (alternate_cares_about_scope a || any_cares_about_scope rest) t (block (append_stmt ys x)) a
        (try_minimize_if st.host t (without_needless_block ys) (alternate A)) r p
        (λ w. try_minimize_if_apart st.host t (without_needless_block ys) (alternate A)
        (without_needless_block_apart ys (append_stmt_apart ys x p.0)) w)
        q z
    fold_rest_apart t {c} no_jump a r p q z = split_alternate_apart t c a r p q z

    handle_if_after_test_apart : (s : Bool) (t : Expr) (c : Stmt) (a : Alternate) (r : Stmts) → ApartStatement (if_then t c a) → Apart r
        → opened_by_if_after_test st s again opened opened_more t c a rest r ≡ 0
        → Apart (handle_if_after_test st s again more t c a rest r)
    handle_if_after_test_apart false t c a r p q z = push_if_apart t c a r p q z
    handle_if_after_test_apart true t c a r p q z =
        let g : MergedTest = merge_same_if t c (last_if? r) in
        fold_rest_apart g.test (jump? st.holder c) a g.results p (merge_same_if_apart t c (last_if? r) q) z

    handle_if_statement_apart : (t : Expr) (c : Stmt) (a : Alternate) (r : Stmts) → ApartStatement (if_then t c a) → Apart r
        → opened_by_if st again opened opened_more t c a rest r ≡ 0 → Apart (handle_if_statement st again more t c a rest r)
    handle_if_statement_apart t c a r p q z =
        let w : Worked = worked_if_test st.sequences t r in
        handle_if_after_test_apart st.sequences (value_or_void_0 w.target) c a w.results p
        (worked_if_test_apart st.sequences t r q) z

    then_apart : (r : Stmts) → Apart r → opened_by_rest opened_more rest r ≡ 0 → Apart (then_rest more rest r)
    then_apart r q z = then_rest_apart rest more opened_more u m r q z

    minimize_statement_apart : (x : Stmt) (r : Stmts) → ApartStatement x → Apart r
        → opened_by_statement st again opened opened_more x rest r ≡ 0 → Apart (minimize_statement st again more x rest r)
    minimize_statement_apart empty r p q z = then_apart r q z
    minimize_statement_apart (expression e) r p q z =
        then_apart (handle_expression_statement st.sequences e r) (handle_expression_statement_apart st.sequences on e r q) z
    minimize_statement_apart (declaration d ds) r p q z =
        then_apart (handle_variable_declaration st.join_vars d ds r) (handle_variable_declaration_apart st.join_vars d ds r q) z
    minimize_statement_apart (return_of v) r p q z =
        then_apart (handle_return_statement st.sequences st.host st.holder v r)
        (handle_return_statement_apart st.sequences on st.host st.holder v r q) z
    minimize_statement_apart (throw e) r p q z =
        then_apart (handle_throw_statement st.sequences e r) (handle_throw_statement_apart st.sequences e r q) z
    minimize_statement_apart (if_then t c a) r p q z = handle_if_statement_apart t c a r p q z
    minimize_statement_apart (block ss) r p q z =
        then_apart (handle_block ss r) (handle_block_apart ss r p q (omega arith)) (omega arith)
    minimize_statement_apart (while t b) r p q z = then_apart (stmt_then (while t b) r) (refl, p, q) z
    minimize_statement_apart (do_while b t) r p q z = then_apart (stmt_then (do_while b t) r) (refl, p, q) z
    minimize_statement_apart (for i t v b) r p q z =
        then_apart (handle_for_statement st.sequences i t v b r) (handle_for_statement_apart st.sequences i t v b r p q) z
    minimize_statement_apart (switch d cs) r p q z =
        then_apart (handle_switch_statement st.sequences d cs r) (handle_switch_statement_apart st.sequences on d cs r p q) z
    minimize_statement_apart break r p q z = then_apart (stmt_then break r) (refl, tt, q) z
    minimize_statement_apart continue r p q z = then_apart (stmt_then continue r) (refl, tt, q) z

  pub minimize_onto_with_apart : KeepsApart (λ todo r. minimize_onto_with st again todo r) (λ todo r. opened_onto_with st again opened todo r)
  minimize_onto_with_apart no_stmts r p q z = q
  minimize_onto_with_apart (stmt_then x rest) r p q z =
      minimize_statement_apart rest (λ r₁. minimize_onto_with st again rest r₁) (λ r₁. opened_onto_with st again opened rest r₁) p.1
      (λ r₁ q₁ z₁. minimize_onto_with_apart rest r₁ p.1 q₁ z₁) x r p.0 q z
