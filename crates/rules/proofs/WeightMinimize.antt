-- The work on a list leaves it as it is or makes it lighter.
use Rattle.std.proofs.Common.{◌≡◌, ℕ, zero, suc, ◌+◌, ◌<◌, ◌≤◌, Bool, true, false, cond, not as negated, ◌&&◌, ◌||◌, T, ◌⊎◌, sym, refl, ap, ◌∙◌, subst, inl, inr, arith}
use Rattle.script.specs.declared.LogicalOperator.TheVariants.{Or}
use Rattle.script.specs.Sound.{records_expr}
use Rattle.script.specs.Tree.{Stmt, Expr, Stmts, stmt_then, if_then, no_alternate, Alternate, no_stmts, alternate, block, empty, expression}
use Rattle.script.specs.Tree.{declaration, return_of, throw, while, do_while, for, switch, break, continue}
use Rattle.rules.specs.Holder.{Holder}
use Rattle.rules.specs.Equal.{content_eq}
use Rattle.rules.specs.Expressions.{minimize_not}
use Rattle.rules.specs.Statements.{is_terminated, any_cares_about_scope, statement_cares_about_scope, push_all}
use Rattle.rules.specs.Merging.{Worked, merge_leading_assignments_to_declaration, merge_last_expression_into_sequence, last_expression?}
use Rattle.rules.specs.Returns.{value_or_void_0}
use Rattle.rules.specs.Ifs.{try_minimize_if}
use Rattle.rules.specs.Jumps.{in_source_order, drop_last_jump, can_remove_termination_statement}
use Rattle.rules.specs.Folding.{merge_same_as, LastIf?, merge_same_if, last_if, no_last_if, worked_if_test, Context}
use Rattle.rules.specs.Folding.{alternate_cares_about_scope, minimized_tail, alternate_then_rest, push_if, split_alternate, Jump?, fold_rest}
use Rattle.rules.specs.Folding.{is_jump, ends_in_jump, append_stmt, without_needless_block, no_jump, handle_if_after_test, MergedTest}
use Rattle.rules.specs.Folding.{last_if?, jump?, handle_if_statement}
use Rattle.rules.specs.Unreachable.{then_rest}
use Rattle.rules.specs.Minimize.{minimize_statement, minimize_onto_with, minimize_onto, minimize_statements}
use Rattle.rules.specs.Weight.{weight, weight_of_statement, weight_of_alternate, vars_ahead, Lighter}
use Rattle.rules.proofs.WeightExpressions.{join_with_left_associative_op_records, minimize_not_records}
use Rattle.rules.proofs.WeightMerging.{Sinks, sinks_below, WorkedSinks, merge_last_sinks, merge_leading_assignments_sinks, next_work_sinks}
use Rattle.rules.proofs.WeightMerging.{around_worked, handle_expression_statement_sinks, handle_variable_declaration_sinks}
use Rattle.rules.proofs.WeightStatements.{handle_return_statement_sinks, handle_throw_statement_sinks, handle_for_statement_sinks}
use Rattle.rules.proofs.WeightStatements.{handle_switch_statement_sinks, handle_block_sinks, push_all_weight}
use Rattle.rules.proofs.WeightUnreachable.{Outcome, same, lighter, reordered, outcome_below, either_outcome, sunk_outcome, then_rest_outcome}
use Rattle.rules.proofs.WeightUnreachable.{before, push_all_order}
use Rattle.rules.proofs.WeightIfs.{try_minimize_if_weight, one_stmt_or_block_weight, without_needless_block_weight, append_stmt_weight}
use Rattle.rules.proofs.WeightIfs.{in_source_order_weight, jump_weight}

drop_last_jump_sinks : (h : Holder) (r : Stmts) → Sinks (drop_last_jump h r) r
drop_last_jump_sinks h no_stmts = inl refl
drop_last_jump_sinks h (stmt_then x r) = by (can_remove_termination_statement h x) (λ t. t)
  where
    by : (b : Bool) → (T b → T (can_remove_termination_statement h x)) → Sinks (cond b r (stmt_then x r)) (stmt_then x r)
    by true t = let i = jump_weight h x (t tt) in inr (omega arith)
    by false t = inl refl

-- the test of an `if`, worked on and merged with the one before

if_weight : (c : Stmt) (a : Alternate) (t : Expr) (r : Stmts)
    → weight (stmt_then (if_then t c a) r) ≡ 2 + (weight_of_statement c + weight_of_alternate a) + (records_expr t + weight r)
if_weight c a t r = omega arith

merge_same_as_sinks : {c₀ c : Stmt} (d : Dec (c₀ ≡ c)) (b : Bool) (t t₀ : Expr) (a : Alternate) (r : Stmts)
    → Sinks (stmt_then (if_then (merge_same_as d b t t₀ r).test c a) (merge_same_as d b t t₀ r).results)
    (stmt_then (if_then t c a) (stmt_then (if_then t₀ c₀ no_alternate) r))
merge_same_as_sinks (yes e) true t t₀ a r = let h = join_with_left_associative_op_records Or t₀ t in inr (omega arith)
merge_same_as_sinks (yes e) false t t₀ a r = inl refl
merge_same_as_sinks (no e) b t t₀ a r = inl refl

merge_same_if_sinks : (t : Expr) (c : Stmt) (a : Alternate) {r : Stmts} (v : LastIf? r)
    → Sinks (stmt_then (if_then (merge_same_if t c v).test c a) (merge_same_if t c v).results) (stmt_then (if_then t c a) r)
merge_same_if_sinks t c a (last_if t₀ c₀ r) = merge_same_as_sinks (content_eq c₀ c) (is_terminated c) t t₀ a r
merge_same_if_sinks t c a no_last_if = inl refl

worked_if_test_sinks : (q : Bool) (t : Expr) (r : Stmts) → WorkedSinks false (worked_if_test q t r) t r
worked_if_test_sinks q t r =
    next_work_sinks false (merge_leading_assignments_to_declaration false t r) t r
    (λ e r₁. merge_last_expression_into_sequence q e r₁) (merge_leading_assignments_sinks false t r)
    (λ e r₁. merge_last_sinks false (last_expression? q r₁) e)

alternate_then_rest_weight : (a : Alternate) (rest : Stmts) → weight (alternate_then_rest a rest) ≤ weight_of_alternate a + weight rest
alternate_then_rest_weight no_alternate rest = omega arith
alternate_then_rest_weight (alternate x) rest = omega arith

abbrev OutcomeAgain : (Stmts → Stmts → Stmts) → Type 0
OutcomeAgain again = (todo r : Stmts) → Outcome (again todo r) (push_all todo r)

module _ (st : Context) (again : Stmts → Stmts → Stmts) (k : OutcomeAgain again) where
  minimized_tail_weight : (h : Holder) (a : Alternate) (rest : Stmts)
      → weight_of_statement (minimized_tail h again a rest) ≤ 1 + (weight_of_alternate a + weight rest)
  minimized_tail_weight h a rest =
      let todo : Stmts = alternate_then_rest a rest in
      let out : Stmts = again todo no_stmts in
      let b = one_stmt_or_block_weight (in_source_order (drop_last_jump h out) no_stmts) in
      let c = in_source_order_weight (drop_last_jump h out) no_stmts in
      let d = sinks_below (drop_last_jump h out) out (drop_last_jump_sinks h out) in
      let e = outcome_below out (push_all todo no_stmts) (k todo no_stmts) in
      let f = push_all_weight todo no_stmts in
      let g = alternate_then_rest_weight a rest in omega arith

  module _ (rest : Stmts) (more : Stmts → Stmts) (m : (r : Stmts) → Outcome (more r) (push_all rest r)) where
    push_if_outcome : (t : Expr) (c : Stmt) (a : Alternate) (r : Stmts)
        → Outcome (push_if more t c a rest r) (push_all rest (stmt_then (if_then t c a) r))
    push_if_outcome t c a r = then_rest_outcome rest more m (stmt_then (if_then t c a) r) (stmt_then (if_then t c a) r) (inl refl)

    split_alternate_outcome : (t : Expr) (c : Stmt) (a : Alternate) (r : Stmts)
        → Outcome (split_alternate again more t c a rest r) (push_all rest (stmt_then (if_then t c a) r))
    split_alternate_outcome t c no_alternate r = push_if_outcome t c no_alternate r
    split_alternate_outcome t c (alternate x) r =
        let u : Stmts = stmt_then (if_then t c no_alternate) r in
        let v : Stmts = stmt_then (if_then t c (alternate x)) r in
        let e = outcome_below (again (stmt_then x rest) u) (push_all (stmt_then x rest) u) (k (stmt_then x rest) u) in
        let f = push_all_weight (stmt_then x rest) u in
        let g = push_all_weight rest v in
        either_outcome (is_terminated c && negated (statement_cares_about_scope x)) (again (stmt_then x rest) u)
        (push_if more t c (alternate x) rest r) (push_all rest v) (lighter (omega arith)) (push_if_outcome t c (alternate x) r)

    -- one statement in the place of the `if` and the rest
    folded_outcome : (x y : Stmt) (r : Stmts) → weight_of_statement x < weight_of_statement y + weight rest
        → Outcome (again (stmt_then x no_stmts) r) (push_all rest (stmt_then y r))
    folded_outcome x y r h =
        let e = outcome_below (again (stmt_then x no_stmts) r) (push_all (stmt_then x no_stmts) r) (k (stmt_then x no_stmts) r) in
        let g = push_all_weight rest (stmt_then y r) in lighter (omega arith)

    fold_rest_outcome : {h : Holder} (t : Expr) {c : Stmt} (v : Jump? h c) (a : Alternate) (r : Stmts)
        → Outcome (fold_rest st again more t v a rest r) (push_all rest (stmt_then (if_then t c a) r))
    fold_rest_outcome {h} t (is_jump x j) a r =
        let tail : Stmt = minimized_tail h again a rest in
        let y : Stmt = try_minimize_if st.host (minimize_not t) tail no_alternate in
        let d = jump_weight h x j in
        let e = try_minimize_if_weight st.host (minimize_not t) tail no_alternate in
        let f = minimize_not_records t in
        let g = minimized_tail_weight h a rest in
        either_outcome (alternate_cares_about_scope a || any_cares_about_scope rest) (split_alternate again more t x a rest r)
        (again (stmt_then y no_stmts) r) (push_all rest (stmt_then (if_then t x a) r)) (split_alternate_outcome t x a r)
        (folded_outcome y (if_then t x a) r (omega arith))
    fold_rest_outcome {h} t (ends_in_jump ys x j) a r =
        let c : Stmt = block (append_stmt ys x) in
        let tail : Stmt = minimized_tail h again a rest in
        let y : Stmt = try_minimize_if st.host t (without_needless_block ys) (alternate tail) in
        let d = jump_weight h x j in
        let e = try_minimize_if_weight st.host t (without_needless_block ys) (alternate tail) in
        let f = without_needless_block_weight ys in
        let g = minimized_tail_weight h a rest in
        let i = append_stmt_weight ys x in
        either_outcome (alternate_cares_about_scope a || any_cares_about_scope rest) (split_alternate again more t c a rest r)
        (again (stmt_then y no_stmts) r) (push_all rest (stmt_then (if_then t c a) r)) (split_alternate_outcome t c a r)
        (folded_outcome y (if_then t c a) r (omega arith))
    fold_rest_outcome t {c} no_jump a r = split_alternate_outcome t c a r

    handle_if_after_test_outcome : (q : Bool) (t : Expr) (c : Stmt) (a : Alternate) (r : Stmts)
        → Outcome (handle_if_after_test st q again more t c a rest r) (push_all rest (stmt_then (if_then t c a) r))
    handle_if_after_test_outcome false t c a r = push_if_outcome t c a r
    handle_if_after_test_outcome true t c a r =
        let j : MergedTest = merge_same_if t c (last_if? r) in
        sunk_outcome rest _ (stmt_then (if_then j.test c a) j.results) (stmt_then (if_then t c a) r)
        (merge_same_if_sinks t c a (last_if? r)) (fold_rest_outcome j.test (jump? st.holder c) a j.results)

    handle_if_statement_outcome : (t : Expr) (c : Stmt) (a : Alternate) (r : Stmts)
        → Outcome (handle_if_statement st again more t c a rest r) (push_all rest (stmt_then (if_then t c a) r))
    handle_if_statement_outcome t c a r =
        let w : Worked = worked_if_test st.sequences t r in
        let v : Expr = value_or_void_0 w.target in
        sunk_outcome rest _ (stmt_then (if_then v c a) w.results) (stmt_then (if_then t c a) r)
        (around_worked (λ e r₁. stmt_then (if_then e c a) r₁) (2 + (weight_of_statement c + weight_of_alternate a)) (if_weight c a) w t r
        (worked_if_test_sinks st.sequences t r))
        (handle_if_after_test_outcome st.sequences v c a w.results)

    handled : (x : Stmt) (r r₁ : Stmts) → Sinks r₁ (stmt_then x r) → Outcome (then_rest more rest r₁) (push_all rest (stmt_then x r))
    handled x r r₁ s = then_rest_outcome rest more m r₁ (stmt_then x r) s

    minimize_statement_outcome : (x : Stmt) (r : Stmts)
        → Outcome (minimize_statement st again more x rest r) (push_all rest (stmt_then x r))
    minimize_statement_outcome empty r = handled empty r r (inr (omega arith))
    minimize_statement_outcome (expression e) r = handled (expression e) r _ (handle_expression_statement_sinks st.sequences e r)
    minimize_statement_outcome (declaration d ds) r =
        handled (declaration d ds) r _ (handle_variable_declaration_sinks st.join_vars d ds r)
    minimize_statement_outcome (return_of p) r =
        handled (return_of p) r _ (handle_return_statement_sinks st.sequences st.host st.holder p r)
    minimize_statement_outcome (throw e) r = handled (throw e) r _ (handle_throw_statement_sinks st.sequences e r)
    minimize_statement_outcome (if_then t c a) r = handle_if_statement_outcome t c a r
    minimize_statement_outcome (block ss) r = handled (block ss) r _ (handle_block_sinks ss r)
    minimize_statement_outcome (while t b) r = handled (while t b) r _ (inl refl)
    minimize_statement_outcome (do_while b t) r = handled (do_while b t) r _ (inl refl)
    minimize_statement_outcome (for i t u b) r = handled (for i t u b) r _ (handle_for_statement_sinks st.sequences i t u b r)
    minimize_statement_outcome (switch d cs) r = handled (switch d cs) r _ (handle_switch_statement_sinks st.sequences d cs r)
    minimize_statement_outcome break r = handled break r _ (inl refl)
    minimize_statement_outcome continue r = handled continue r _ (inl refl)

  minimize_onto_with_outcome : OutcomeAgain (λ todo r. minimize_onto_with st again todo r)
  minimize_onto_with_outcome no_stmts r = same refl
  minimize_onto_with_outcome (stmt_then x rest) r =
      minimize_statement_outcome rest (λ r₁. minimize_onto_with st again rest r₁) (λ r₁. minimize_onto_with_outcome rest r₁) x r

-- a list that the work leaves as it is or makes lighter
abbrev pub Lightens : Stmts → Stmts → Type 0
Lightens a b = (a ≡ b) ⊎ Lighter a b

sorted : (ss : Stmts) → in_source_order (push_all ss no_stmts) no_stmts ≡ ss
sorted ss = push_all_order ss no_stmts no_stmts ∙ all ss
  where
    all : (xs : Stmts) → before xs no_stmts ≡ xs
    all no_stmts = refl
    all (stmt_then x xs) = ap (λ (l : Stmts). stmt_then x l) (all xs)

-- the results of the work on a list, in source order
listed : (ss a : Stmts) → Outcome a (push_all ss no_stmts) → Lightens (in_source_order a no_stmts) ss
listed ss a (same e) = inl (ap (λ (l : Stmts). in_source_order l no_stmts) e ∙ sorted ss)
listed ss a (lighter l) =
    let h = in_source_order_weight a no_stmts in let i = push_all_weight ss no_stmts in inr (inl (omega arith))
listed ss a (reordered e l) =
    let h = in_source_order_weight a no_stmts in
    let i = push_all_weight ss no_stmts in
    inr (inr (omega arith, subst (λ (b : Stmts). vars_ahead (in_source_order a no_stmts) < vars_ahead b) (sorted ss) l))

dropped : (a b c : Stmts) → Sinks a b → Outcome b c → Outcome a c
dropped a b c (inl e) h = subst (λ (x : Stmts). Outcome x c) (sym e) h
dropped a b c (inr l) h = let i = outcome_below b c h in lighter (omega arith)

module _ (st : Context) where
  minimize_onto_outcome : (n : ℕ) → OutcomeAgain (λ todo r. minimize_onto n st todo r)
  minimize_onto_outcome zero todo r = minimize_onto_with_outcome st push_all (λ todo₁ r₁. same refl) todo r
  minimize_onto_outcome (suc n) todo r =
      minimize_onto_with_outcome st (λ todo₁ r₁. minimize_onto n st todo₁ r₁) (minimize_onto_outcome n) todo r

  pub minimize_statements_lightens : (n : ℕ) (ss : Stmts) → Lightens (minimize_statements n st ss) ss
  minimize_statements_lightens n ss =
      let out : Stmts = minimize_onto n st ss no_stmts in
      listed ss (drop_last_jump st.holder out)
      (dropped (drop_last_jump st.holder out) out (push_all ss no_stmts) (drop_last_jump_sinks st.holder out)
      (minimize_onto_outcome n ss no_stmts))
