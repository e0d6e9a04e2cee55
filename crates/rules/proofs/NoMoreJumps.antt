-- The work on a list makes no jump.
use Rattle.std.proofs.Common.{◌≡◌, ℕ, zero, suc, ◌+◌, ◌≤◌, Bool, true, false, not as negated, ◌&&◌, ◌||◌, ◌∙◌, arith}
use Rattle.script.specs.Tree.{Stmts, Stmt, Expr, Alternate, no_stmts, no_alternate, alternate, stmt_then, if_then, block, empty, expression}
use Rattle.script.specs.Tree.{declaration, return_of, throw, while, do_while, for, switch, break, continue}
use Rattle.rules.specs.Holder.{Holder}
use Rattle.rules.specs.Equal.{content_eq}
use Rattle.rules.specs.Expressions.{minimize_not}
use Rattle.rules.specs.Statements.{is_terminated, statement_cares_about_scope, any_cares_about_scope, handle_block, push_all}
use Rattle.rules.specs.Merging.{Worked, merge_leading_assignments_to_declaration, merge_last_expression_into_sequence, last_expression?}
use Rattle.rules.specs.Merging.{handle_expression_statement}
use Rattle.rules.specs.Returns.{value_or_void_0, handle_return_statement}
use Rattle.rules.specs.Declarations.{handle_variable_declaration}
use Rattle.rules.specs.For.{handle_for_statement}
use Rattle.rules.specs.Throws.{handle_throw_statement}
use Rattle.rules.specs.Ifs.{try_minimize_if}
use Rattle.rules.specs.Switches.{handle_switch_statement}
use Rattle.rules.specs.Jumps.{in_source_order, drop_last_jump}
use Rattle.rules.specs.Unreachable.{then_rest}
use Rattle.rules.specs.Folding.{merge_same_as, LastIf?, merge_same_if, last_if, no_last_if, worked_if_test, Context, minimized_tail}
use Rattle.rules.specs.Folding.{alternate_then_rest, without_needless_block, push_if, split_alternate, Jump?, fold_rest, is_jump}
use Rattle.rules.specs.Folding.{alternate_cares_about_scope, ends_in_jump, append_stmt, no_jump, handle_if_after_test, MergedTest, last_if?}
use Rattle.rules.specs.Folding.{jump?, handle_if_statement}
use Rattle.rules.specs.Minimize.{minimize_statement, minimize_onto_with, minimize_onto}
use Rattle.rules.specs.JumpCount.{jumps_list, jumps, jumps_alternate, jumps_cases}
use Rattle.rules.proofs.JumpCount.{next_work_jumps, merge_last_jumps, merge_leading_jumps, RestNoMoreJumps, then_rest_jumps, either}
use Rattle.rules.proofs.JumpCount.{handle_expression_statement_jumps, handle_variable_declaration_jumps, handle_return_statement_jumps}
use Rattle.rules.proofs.JumpCount.{handle_throw_statement_jumps, handle_block_jumps, handle_for_statement_jumps, handle_switch_statement_jumps}
use Rattle.rules.proofs.JumpCount.{push_all_jumps}
use Rattle.rules.proofs.IfJumps.{one_stmt_or_block_jumps, in_source_order_jumps, drop_last_jump_jumps, alternate_then_rest_jumps}
use Rattle.rules.proofs.IfJumps.{try_minimize_if_jumps, without_needless_block_jumps, append_stmt_jumps}

abbrev pub NoMoreJumps : (Stmts → Stmts → Stmts) → Type 0
NoMoreJumps again = (todo r : Stmts) → jumps_list (again todo r) ≤ jumps_list todo + jumps_list r

merge_same_as_jumps : {c₀ c : Stmt} (d : Dec (c₀ ≡ c)) (b : Bool) (t t₀ : Expr) (r : Stmts)
    → jumps_list (merge_same_as d b t t₀ r).results ≤ jumps c₀ + jumps_list r
merge_same_as_jumps (yes e) true t t₀ r = omega arith
merge_same_as_jumps (yes e) false t t₀ r = omega arith
merge_same_as_jumps (no e) b t t₀ r = omega arith

merge_same_if_jumps : (t : Expr) (c : Stmt) {r : Stmts} (v : LastIf? r) → jumps_list (merge_same_if t c v).results ≤ jumps_list r
merge_same_if_jumps t c (last_if t₀ c₀ r) = let a = merge_same_as_jumps (content_eq c₀ c) (is_terminated c) t t₀ r in omega arith
merge_same_if_jumps t c no_last_if = omega arith

worked_if_test_jumps : (q : Bool) (t : Expr) (r : Stmts) → jumps_list (worked_if_test q t r).results ≡ jumps_list r
worked_if_test_jumps q t r =
    let m : Worked = merge_leading_assignments_to_declaration false t r in
    next_work_jumps m.target m.results (λ e r₁. merge_last_expression_into_sequence q e r₁)
    (λ e r₁. merge_last_jumps (last_expression? q r₁) e)
    ∙ merge_leading_jumps false t r

module _ (st : Context) (again : Stmts → Stmts → Stmts) (j : NoMoreJumps again) where
  minimized_tail_jumps : (h : Holder) (a : Alternate) (rest : Stmts)
      → jumps (minimized_tail h again a rest) ≤ jumps_alternate a + jumps_list rest
  minimized_tail_jumps h a rest =
      let out : Stmts = again (alternate_then_rest a rest) no_stmts in
      let x = one_stmt_or_block_jumps (in_source_order (drop_last_jump h out) no_stmts) in
      let y = in_source_order_jumps (drop_last_jump h out) no_stmts in
      let z = drop_last_jump_jumps h out in
      let u = j (alternate_then_rest a rest) no_stmts in
      let v = alternate_then_rest_jumps a rest in
      omega arith

  -- a fold spends the jump
  pub folded_jumps : (h : Holder) (t : Expr) (a : Alternate) (rest : Stmts)
      → jumps (try_minimize_if st.host t (minimized_tail h again a rest) no_alternate) ≤ jumps_alternate a + jumps_list rest
  folded_jumps h t a rest =
      let x = try_minimize_if_jumps st.host t (minimized_tail h again a rest) no_alternate in
      let y = minimized_tail_jumps h a rest in
      omega arith

  pub folded_end_jumps : (h : Holder) (t : Expr) (ys : Stmts) (a : Alternate) (rest : Stmts)
      → jumps (try_minimize_if st.host t (without_needless_block ys) (alternate (minimized_tail h again a rest)))
      ≤ jumps_list ys + (jumps_alternate a + jumps_list rest)
  folded_end_jumps h t ys a rest =
      let x = try_minimize_if_jumps st.host t (without_needless_block ys) (alternate (minimized_tail h again a rest)) in
      let y = minimized_tail_jumps h a rest in
      let z = without_needless_block_jumps ys in
      omega arith

  module _ (rest : Stmts) (more : Stmts → Stmts) (m : RestNoMoreJumps rest more) where
    push_if_jumps : (t : Expr) (c : Stmt) (a : Alternate) (r : Stmts)
        → jumps_list (push_if more t c a rest r) ≤ ((jumps c + jumps_alternate a) + jumps_list rest) + jumps_list r
    push_if_jumps t c a r = let x = then_rest_jumps rest more m (stmt_then (if_then t c a) r) in omega arith

    split_alternate_jumps : (t : Expr) (c : Stmt) (a : Alternate) (r : Stmts)
        → jumps_list (split_alternate again more t c a rest r) ≤ ((jumps c + jumps_alternate a) + jumps_list rest) + jumps_list r
    split_alternate_jumps t c no_alternate r = push_if_jumps t c no_alternate r
    split_alternate_jumps t c (alternate x) r =
        either (is_terminated c && negated (statement_cares_about_scope x))
        (again (stmt_then x rest) (stmt_then (if_then t c no_alternate) r)) (push_if more t c (alternate x) rest r) _
        (let y = j (stmt_then x rest) (stmt_then (if_then t c no_alternate) r) in omega arith) (push_if_jumps t c (alternate x) r)

    fold_rest_jumps : {h : Holder} (t : Expr) {c : Stmt} (v : Jump? h c) (a : Alternate) (r : Stmts)
        → jumps_list (fold_rest st again more t v a rest r) ≤ ((jumps c + jumps_alternate a) + jumps_list rest) + jumps_list r
    fold_rest_jumps {h} t (is_jump x p) a r =
        let X : Stmt = try_minimize_if st.host (minimize_not t) (minimized_tail h again a rest) no_alternate in
        either (alternate_cares_about_scope a || any_cares_about_scope rest)
        (split_alternate again more t x a rest r) (again (stmt_then X no_stmts) r) _
        (split_alternate_jumps t x a r)
        (let y = j (stmt_then X no_stmts) r in let z = folded_jumps h (minimize_not t) a rest in omega arith)
    fold_rest_jumps {h} t (ends_in_jump ys x p) a r =
        let X : Stmt = try_minimize_if st.host t (without_needless_block ys) (alternate (minimized_tail h again a rest)) in
        either (alternate_cares_about_scope a || any_cares_about_scope rest)
        (split_alternate again more t (block (append_stmt ys x)) a rest r) (again (stmt_then X no_stmts) r) _
        (split_alternate_jumps t (block (append_stmt ys x)) a r)
        (let y = j (stmt_then X no_stmts) r in
        let z = folded_end_jumps h t ys a rest in
        let u = append_stmt_jumps ys x in
        omega arith)
    fold_rest_jumps t {c} no_jump a r = split_alternate_jumps t c a r

    handle_if_after_test_jumps : (q : Bool) (t : Expr) (c : Stmt) (a : Alternate) (r : Stmts)
        → jumps_list (handle_if_after_test st q again more t c a rest r) ≤ ((jumps c + jumps_alternate a) + jumps_list rest) + jumps_list r
    handle_if_after_test_jumps false t c a r = push_if_jumps t c a r
    handle_if_after_test_jumps true t c a r =
        let g : MergedTest = merge_same_if t c (last_if? r) in
        let x = fold_rest_jumps g.test (jump? st.holder c) a g.results in
        let y = merge_same_if_jumps t c (last_if? r) in
        omega arith

    handle_if_statement_jumps : (t : Expr) (c : Stmt) (a : Alternate) (r : Stmts)
        → jumps_list (handle_if_statement st again more t c a rest r) ≤ ((jumps c + jumps_alternate a) + jumps_list rest) + jumps_list r
    handle_if_statement_jumps t c a r =
        let w : Worked = worked_if_test st.sequences t r in
        let x = handle_if_after_test_jumps st.sequences (value_or_void_0 w.target) c a w.results in
        let y = worked_if_test_jumps st.sequences t r in
        omega arith

    then_jumps : (n : ℕ) (r r' : Stmts) → jumps_list r' ≤ n + jumps_list r
        → jumps_list (then_rest more rest r') ≤ (n + jumps_list rest) + jumps_list r
    then_jumps n r r' h = let x = then_rest_jumps rest more m r' in omega arith

    minimize_statement_jumps : (x : Stmt) (r : Stmts)
        → jumps_list (minimize_statement st again more x rest r) ≤ (jumps x + jumps_list rest) + jumps_list r
    minimize_statement_jumps empty r = then_jumps 0 r r (omega arith)
    minimize_statement_jumps (expression e) r =
        then_jumps 0 r (handle_expression_statement st.sequences e r)
        (let h = handle_expression_statement_jumps st.sequences e r in omega arith)
    minimize_statement_jumps (declaration k ds) r =
        then_jumps 0 r (handle_variable_declaration st.join_vars k ds r)
        (let h = handle_variable_declaration_jumps st.join_vars k ds r in omega arith)
    minimize_statement_jumps (return_of p) r =
        then_jumps 1 r (handle_return_statement st.sequences st.host st.holder p r)
        (let h = handle_return_statement_jumps st.sequences st.host st.holder p r in omega arith)
    minimize_statement_jumps (throw e) r =
        then_jumps 1 r (handle_throw_statement st.sequences e r)
        (let h = handle_throw_statement_jumps st.sequences e r in omega arith)
    minimize_statement_jumps (if_then t c a) r = handle_if_statement_jumps t c a r
    minimize_statement_jumps (block ss) r = then_jumps (jumps_list ss) r (handle_block ss r) (handle_block_jumps ss r)
    minimize_statement_jumps (while t b) r = then_jumps (jumps b) r (stmt_then (while t b) r) (omega arith)
    minimize_statement_jumps (do_while b t) r = then_jumps (jumps b) r (stmt_then (do_while b t) r) (omega arith)
    minimize_statement_jumps (for i t u b) r =
        then_jumps (jumps b) r (handle_for_statement st.sequences i t u b r)
        (let h = handle_for_statement_jumps st.sequences i t u b r in omega arith)
    minimize_statement_jumps (switch d cs) r =
        then_jumps (jumps_cases cs) r (handle_switch_statement st.sequences d cs r)
        (handle_switch_statement_jumps st.sequences d cs r)
    minimize_statement_jumps break r = then_jumps 1 r (stmt_then break r) (omega arith)
    minimize_statement_jumps continue r = then_jumps 1 r (stmt_then continue r) (omega arith)

  pub minimize_onto_with_jumps : NoMoreJumps (λ todo r. minimize_onto_with st again todo r)
  minimize_onto_with_jumps no_stmts r = omega arith
  minimize_onto_with_jumps (stmt_then x rest) r =
      minimize_statement_jumps rest (λ r₁. minimize_onto_with st again rest r₁) (minimize_onto_with_jumps rest) x r

pub push_all_no_more_jumps : NoMoreJumps (λ todo r. push_all todo r)
push_all_no_more_jumps todo r = let a = push_all_jumps todo r in omega arith

pub minimize_onto_jumps : (st : Context) (n : ℕ) → NoMoreJumps (λ todo r. minimize_onto n st todo r)
minimize_onto_jumps st zero todo r = minimize_onto_with_jumps st (λ todo₁ r₁. push_all todo₁ r₁) push_all_no_more_jumps todo r
minimize_onto_jumps st (suc n) todo r =
    minimize_onto_with_jumps st (λ todo₁ r₁. minimize_onto n st todo₁ r₁) (minimize_onto_jumps st n) todo r
