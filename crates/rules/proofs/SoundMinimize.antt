-- The work on a list breaks no rule of feeding.
use Rattle.std.proofs.Common.{◌≡◌, ℕ, zero, suc, Bool, true, false, cond, not as negated, ◌&&◌, ◌||◌, refl, ◌∙◌}
use Rattle.script.specs.declared.LogicalOperator.TheVariants.{Or}
use Rattle.script.specs.Sound.{SoundExpr, SoundStmts, SoundAlternate, SoundStmt}
use Rattle.script.specs.Tree.{Stmt, Expr, Stmts, stmt_then, if_then, no_alternate, Alternate, no_stmts, alternate, block, empty, expression}
use Rattle.script.specs.Tree.{declaration, return_of, throw, while, do_while, for, switch, break, continue}
use Rattle.hosts.specs.Meaning.{Lawful}
use Rattle.rules.specs.Equal.{content_eq}
use Rattle.rules.specs.Expressions.{minimize_not}
use Rattle.rules.specs.Statements.{is_terminated, any_cares_about_scope, statement_cares_about_scope, handle_block, push_all}
use Rattle.rules.specs.Merging.{Worked, merge_leading_assignments_to_declaration, merge_last_expression_into_sequence, last_expression?}
use Rattle.rules.specs.Merging.{handle_expression_statement}
use Rattle.rules.specs.Returns.{value_or_void_0, handle_return_statement}
use Rattle.rules.specs.Declarations.{handle_variable_declaration}
use Rattle.rules.specs.For.{handle_for_statement}
use Rattle.rules.specs.Throws.{handle_throw_statement}
use Rattle.rules.specs.Ifs.{try_minimize_if}
use Rattle.rules.specs.Switches.{handle_switch_statement}
use Rattle.rules.specs.Jumps.{in_source_order, drop_last_jump}
use Rattle.rules.specs.Folding.{merge_same_as, LastIf?, merge_same_if, last_if, no_last_if, worked_if_test, Context}
use Rattle.rules.specs.Folding.{alternate_cares_about_scope, minimized_tail, alternate_then_rest, push_if, split_alternate, Jump?, fold_rest}
use Rattle.rules.specs.Folding.{is_jump, ends_in_jump, append_stmt, without_needless_block, no_jump, handle_if_after_test, MergedTest}
use Rattle.rules.specs.Folding.{last_if?, jump?, handle_if_statement}
use Rattle.rules.specs.Minimize.{minimize_statement, minimize_onto_with, minimize_onto, minimize_statements}
use Rattle.rules.proofs.Keeping.{Minimizes}
use Rattle.rules.proofs.Folding.{list_kept, alternate_then_rest_declares_nothing}
use Rattle.rules.proofs.Minimize.{push_all_minimized, minimize_onto_minimized}
use Rattle.rules.proofs.SoundExpressions.{join_with_left_associative_op_sound, minimize_not_sound, value_or_void_0_sound}
use Rattle.rules.proofs.SoundMerging.{SoundWorked, merge_leading_assignments_sound, next_work_sound, merge_last_sound, either_sound}
use Rattle.rules.proofs.SoundMerging.{handle_expression_statement_sound, handle_variable_declaration_sound}
use Rattle.rules.proofs.SoundStatements.{then_rest_sound, handle_return_statement_sound, handle_throw_statement_sound, handle_block_sound}
use Rattle.rules.proofs.SoundStatements.{handle_for_statement_sound, handle_switch_statement_sound, push_all_sound}
use Rattle.rules.proofs.SoundIfs.{SoundBranch, one_stmt_or_block_sound, in_source_order_sound, drop_last_jump_sound, alternate_then_rest_sound}
use Rattle.rules.proofs.SoundIfs.{try_minimize_if_sound, without_needless_block_sound, append_stmt_sound}

merge_same_as_sound : {c₀ c : Stmt} (d : Dec (c₀ ≡ c)) (b : Bool) (t t₀ : Expr) (r : Stmts) → SoundExpr t
    → SoundStmts (stmt_then (if_then t₀ c₀ no_alternate) r)
    → SoundExpr (merge_same_as d b t t₀ r).test × SoundStmts (merge_same_as d b t t₀ r).results
merge_same_as_sound (yes e) true t t₀ r p q = (join_with_left_associative_op_sound Or t₀ t q.0.0 p, q.1)
merge_same_as_sound (yes e) false t t₀ r p q = (p, q)
merge_same_as_sound (no e) b t t₀ r p q = (p, q)

merge_same_if_sound : (t : Expr) (c : Stmt) {r : Stmts} (v : LastIf? r) → SoundExpr t → SoundStmts r
    → SoundExpr (merge_same_if t c v).test × SoundStmts (merge_same_if t c v).results
merge_same_if_sound t c (last_if t₀ c₀ r) p q = merge_same_as_sound (content_eq c₀ c) (is_terminated c) t t₀ r p q
merge_same_if_sound t c no_last_if p q = (p, q)

worked_if_test_sound : (s : Bool) (t : Expr) (r : Stmts) → SoundExpr t → SoundStmts r → SoundWorked (worked_if_test s t r)
worked_if_test_sound s t r p q =
    let m : Worked = merge_leading_assignments_to_declaration false t r in
    let h : SoundWorked m = merge_leading_assignments_sound false t r p q in
    next_work_sound m.target m.results (λ e r₁. merge_last_expression_into_sequence s e r₁)
    (λ e r₁ u v. merge_last_sound (last_expression? s r₁) e u v) h.0 h.1

abbrev SoundAgain : (Stmts → Stmts → Stmts) → Type 0
SoundAgain again = (todo r : Stmts) → SoundStmts todo → SoundStmts r → SoundStmts (again todo r)

module _ (st : Context) (again : Stmts → Stmts → Stmts) (w : Minimizes st.holder again) (k : SoundAgain again) where
  minimized_tail_sound : (a : Alternate) (rest : Stmts) → SoundAlternate a → SoundStmts rest
      → alternate_cares_about_scope a || any_cares_about_scope rest ≡ false → SoundBranch (minimized_tail st.holder again a rest)
  minimized_tail_sound a rest p q e =
      let out : Stmts = again (alternate_then_rest a rest) no_stmts in
      one_stmt_or_block_sound (in_source_order (drop_last_jump st.holder out) no_stmts)
      ((list_kept (alternate_then_rest a rest) out (w (alternate_then_rest a rest) no_stmts)).lexical
      ∙ alternate_then_rest_declares_nothing a rest e)
      (in_source_order_sound (drop_last_jump st.holder out) no_stmts
      (drop_last_jump_sound st.holder out (k (alternate_then_rest a rest) no_stmts (alternate_then_rest_sound a rest p q) tt)) tt)

  module _ (rest : Stmts) (more : Stmts → Stmts) (u : SoundStmts rest) (m : (r : Stmts) → SoundStmts r → SoundStmts (more r)) where
    push_if_sound : (t : Expr) (c : Stmt) (a : Alternate) (r : Stmts) → SoundStmt (if_then t c a) → SoundStmts r
        → SoundStmts (push_if more t c a rest r)
    push_if_sound t c a r p q = then_rest_sound rest more u m (stmt_then (if_then t c a) r) (p, q)

    split_alternate_sound : (t : Expr) (c : Stmt) (a : Alternate) (r : Stmts) → SoundStmt (if_then t c a) → SoundStmts r
        → SoundStmts (split_alternate again more t c a rest r)
    split_alternate_sound t c no_alternate r p q = push_if_sound t c no_alternate r p q
    split_alternate_sound t c (alternate x) r p q =
        either_sound (is_terminated c && negated (statement_cares_about_scope x))
        (again (stmt_then x rest) (stmt_then (if_then t c no_alternate) r)) (push_if more t c (alternate x) rest r)
        (k (stmt_then x rest) (stmt_then (if_then t c no_alternate) r) (p.3.1, u) ((p.0, p.1, p.2, tt), q))
        (push_if_sound t c (alternate x) r p q)

    fold_rest_sound : (t : Expr) {c : Stmt} (v : Jump? st.holder c) (a : Alternate) (r : Stmts) → SoundStmt (if_then t c a)
        → SoundStmts r
        → SoundStmts (fold_rest st again more t v a rest r)
    fold_rest_sound t (is_jump x j) a r p q = by (alternate_cares_about_scope a || any_cares_about_scope rest) refl
      where
        by : (b : Bool) → alternate_cares_about_scope a || any_cares_about_scope rest ≡ b
            → SoundStmts (cond b (split_alternate again more t x a rest r)
            (again (stmt_then
            (try_minimize_if st.host (minimize_not t) (minimized_tail st.holder again a rest) no_alternate) no_stmts) r))
        by true e = split_alternate_sound t x a r p q
        by false e =
            k (stmt_then (try_minimize_if st.host (minimize_not t) (minimized_tail st.holder again a rest) no_alternate) no_stmts) r (
              (try_minimize_if_sound st.host (minimize_not t) (minimized_tail st.holder again a rest) no_alternate
                  (minimize_not_sound t p.0) (minimized_tail_sound a rest p.3 u e) tt).1,
              tt,
            )
            q
    fold_rest_sound t (ends_in_jump ys x j) a r p q = by (alternate_cares_about_scope a || any_cares_about_scope rest) refl
      where
        by : (b : Bool) → alternate_cares_about_scope a || any_cares_about_scope rest ≡ b
            → SoundStmts (cond b (split_alternate again more t (block (append_stmt ys x)) a rest r)
            (again (stmt_then
            (try_minimize_if st.host t (without_needless_block ys)
            (alternate (minimized_tail st.holder again a rest))) no_stmts) r))
        by true e = split_alternate_sound t (block (append_stmt ys x)) a r p q
        by false e =
            k (stmt_then (try_minimize_if st.host t (without_needless_block ys)
            (alternate (minimized_tail st.holder again a rest))) no_stmts) r (
              (try_minimize_if_sound st.host t (without_needless_block ys) (alternate (minimized_tail st.holder again a rest))
                  p.0 (without_needless_block_sound ys (append_stmt_sound ys x p.2))
                  (minimized_tail_sound a rest p.3 u e)).1,
              tt,
            )
            q
    fold_rest_sound t {c} no_jump a r p q = split_alternate_sound t c a r p q

    handle_if_after_test_sound : (s : Bool) (t : Expr) (c : Stmt) (a : Alternate) (r : Stmts) → SoundStmt (if_then t c a) → SoundStmts r
        → SoundStmts (handle_if_after_test st s again more t c a rest r)
    handle_if_after_test_sound false t c a r p q = push_if_sound t c a r p q
    handle_if_after_test_sound true t c a r p q =
        let g : MergedTest = merge_same_if t c (last_if? r) in
        let h = merge_same_if_sound t c (last_if? r) p.0 q in
        fold_rest_sound g.test (jump? st.holder c) a g.results (h.0, p.1, p.2, p.3) h.1

    handle_if_statement_sound : (t : Expr) (c : Stmt) (a : Alternate) (r : Stmts) → SoundStmt (if_then t c a) → SoundStmts r
        → SoundStmts (handle_if_statement st again more t c a rest r)
    handle_if_statement_sound t c a r p q =
        let v : Worked = worked_if_test st.sequences t r in
        let h : SoundWorked v = worked_if_test_sound st.sequences t r p.0 q in
        handle_if_after_test_sound st.sequences (value_or_void_0 v.target) c a v.results
        (value_or_void_0_sound v.target h.0, p.1, p.2, p.3) h.1

    minimize_statement_sound : (x : Stmt) (r : Stmts) → SoundStmt x → SoundStmts r
        → SoundStmts (minimize_statement st again more x rest r)
    minimize_statement_sound empty r p q = then_rest_sound rest more u m r q
    minimize_statement_sound (expression e) r p q =
        then_rest_sound rest more u m (handle_expression_statement st.sequences e r)
        (handle_expression_statement_sound st.sequences e r p q)
    minimize_statement_sound (declaration d ds) r p q =
        then_rest_sound rest more u m (handle_variable_declaration st.join_vars d ds r)
        (handle_variable_declaration_sound st.join_vars d ds r p q)
    minimize_statement_sound (return_of v) r p q =
        then_rest_sound rest more u m (handle_return_statement st.sequences st.host st.holder v r)
        (handle_return_statement_sound st.sequences st.host st.holder v r p q)
    minimize_statement_sound (throw e) r p q =
        then_rest_sound rest more u m (handle_throw_statement st.sequences e r) (handle_throw_statement_sound st.sequences e r p q)
    minimize_statement_sound (if_then t c a) r p q = handle_if_statement_sound t c a r p q
    minimize_statement_sound (block ss) r p q = then_rest_sound rest more u m (handle_block ss r) (handle_block_sound ss r p q)
    minimize_statement_sound (while t b) r p q = then_rest_sound rest more u m (stmt_then (while t b) r) (p, q)
    minimize_statement_sound (do_while b t) r p q = then_rest_sound rest more u m (stmt_then (do_while b t) r) (p, q)
    minimize_statement_sound (for i t v b) r p q =
        then_rest_sound rest more u m (handle_for_statement st.sequences i t v b r)
        (handle_for_statement_sound st.sequences i t v b r p q)
    minimize_statement_sound (switch d cs) r p q =
        then_rest_sound rest more u m (handle_switch_statement st.sequences d cs r)
        (handle_switch_statement_sound st.sequences d cs r p q)
    minimize_statement_sound break r p q = then_rest_sound rest more u m (stmt_then break r) (p, q)
    minimize_statement_sound continue r p q = then_rest_sound rest more u m (stmt_then continue r) (p, q)

  minimize_onto_with_sound : SoundAgain (λ todo r. minimize_onto_with st again todo r)
  minimize_onto_with_sound no_stmts r p q = q
  minimize_onto_with_sound (stmt_then x rest) r p q =
      minimize_statement_sound rest (λ r₁. minimize_onto_with st again rest r₁) p.1
      (λ r₁ q₁. minimize_onto_with_sound rest r₁ p.1 q₁) x r p.0 q

module _ (st : Context) (law : Lawful st.host) where
  minimize_onto_sound : (n : ℕ) → SoundAgain (λ todo r. minimize_onto n st todo r)
  minimize_onto_sound zero todo r p q =
      minimize_onto_with_sound st (λ todo₁ r₁. push_all todo₁ r₁) (push_all_minimized st law) push_all_sound todo r p q
  minimize_onto_sound (suc n) todo r p q =
      minimize_onto_with_sound st (λ todo₁ r₁. minimize_onto n st todo₁ r₁) (minimize_onto_minimized st law n)
      (minimize_onto_sound n) todo r p q

  pub minimize_statements_sound : (n : ℕ) (ss : Stmts) → SoundStmts ss → SoundStmts (minimize_statements n st ss)
  minimize_statements_sound n ss p =
      in_source_order_sound (drop_last_jump st.holder (minimize_onto n st ss no_stmts)) no_stmts
      (drop_last_jump_sound st.holder (minimize_onto n st ss no_stmts) (minimize_onto_sound n ss no_stmts p tt)) tt
