-- The work on a list keeps within the budget.
use Rattle.std.proofs.Common.{◌≡◌, ℕ, zero, suc, Bool, true, false, not as negated, ◌&&◌, ◌||◌, T, arith}
use Rattle.script.specs.declared.LogicalOperator.TheVariants.{Or}
use Rattle.script.specs.Judge.{Spares}
use Rattle.script.specs.Sound.{plus, exprs_only, records_expr, with_stmt}
use Rattle.script.specs.Tree.{Stmt, Stmts, Expr, stmt_then, if_then, no_alternate, alternate, declaration, expression, empty, return_of}
use Rattle.script.specs.Tree.{absent, present, throw, block, while, do_while, for, switch, break, continue, Alternate, no_stmts}
use Rattle.rules.specs.Holder.{Holder}
use Rattle.rules.specs.Equal.{content_eq}
use Rattle.rules.specs.Expressions.{minimize_not}
use Rattle.rules.specs.Statements.{is_terminated, statement_cares_about_scope, any_cares_about_scope, handle_block, push_all}
use Rattle.rules.specs.Merging.{Worked, merge_leading_assignments_to_declaration, merge_last_expression_into_sequence, last_expression?}
use Rattle.rules.specs.Merging.{handle_expression_statement}
use Rattle.rules.specs.Returns.{value_or_void_0, handle_return_statement}
use Rattle.rules.specs.Declarations.{handle_variable_declaration}
use Rattle.rules.specs.For.{handle_for_statement}
use Rattle.rules.specs.Throws.{handle_throw_statement}
use Rattle.rules.specs.Ifs.{branch?, try_minimize_if}
use Rattle.rules.specs.Switches.{handle_switch_statement}
use Rattle.rules.specs.Jumps.{can_remove_termination_statement, in_source_order, drop_last_jump}
use Rattle.rules.specs.Unreachable.{then_rest}
use Rattle.rules.specs.Folding.{merge_same_as, merge_same_if, LastIf?, last_if, no_last_if, worked_if_test, Context, minimized_tail}
use Rattle.rules.specs.Folding.{alternate_then_rest, without_needless_block, append_stmt, push_if, split_alternate, fold_rest, Jump?}
use Rattle.rules.specs.Folding.{is_jump, alternate_cares_about_scope, ends_in_jump, no_jump, handle_if_after_test, MergedTest, last_if?}
use Rattle.rules.specs.Folding.{jump?, handle_if_statement}
use Rattle.rules.specs.Minimize.{minimize_statement, minimize_onto_with, minimize_onto, minimize_statements}
use Rattle.rules.specs.Budget.{AtMost, budget_stmt, budget_stmts, budget_test, budget_worked, to_take, budget_alternate}
use Rattle.rules.proofs.BudgetExpressions.{join_with_left_associative_op_records, minimize_not_records}
use Rattle.rules.proofs.BudgetMerging.{next_work_budget, merge_last_budget, merge_leading_budget, ValueThere, next_work_value}
use Rattle.rules.proofs.BudgetMerging.{merge_leading_value, merge_last_value, either_budget, handle_expression_statement_budget}
use Rattle.rules.proofs.BudgetMerging.{handle_variable_declaration_budget}
use Rattle.rules.proofs.BudgetStatements.{handle_return_statement_budget, handle_throw_statement_budget, handle_block_budget}
use Rattle.rules.proofs.BudgetStatements.{handle_for_statement_budget, handle_switch_statement_budget, push_all_budget}
use Rattle.rules.proofs.BudgetUnreachable.{then_rest_budget, RestWithin}
use Rattle.rules.proofs.BudgetIfs.{braces, one_stmt_or_block_budget, in_source_order_budget, drop_last_jump_budget}
use Rattle.rules.proofs.BudgetIfs.{alternate_then_rest_budget, try_minimize_if_budget, without_needless_block_budget, append_stmt_budget}

-- what again does with a list and the results before it
abbrev pub WorkWithin : (Stmts → Stmts → Stmts) → Type 0
WorkWithin again = (todo r : Stmts) → AtMost (budget_stmts (again todo r)) (plus (budget_stmts todo) (budget_stmts r))

pub merge_same_as_budget : {c₀ c : Stmt} (d : Dec (c₀ ≡ c)) (b : Bool) (t t₀ : Expr) (r : Stmts)
    → AtMost (budget_test (merge_same_as d b t t₀ r))
    (plus (exprs_only (records_expr t)) (budget_stmts (stmt_then (if_then t₀ c₀ no_alternate) r)))
merge_same_as_budget (yes e) true t t₀ r = let a = join_with_left_associative_op_records Or t₀ t in search arith
merge_same_as_budget (yes e) false t t₀ r = search arith
merge_same_as_budget (no e) b t t₀ r = search arith

pub merge_same_if_budget : (t : Expr) (c : Stmt) {r : Stmts} (v : LastIf? r)
    → AtMost (budget_test (merge_same_if t c v)) (plus (exprs_only (records_expr t)) (budget_stmts r))
merge_same_if_budget t c (last_if t₀ c₀ r) = merge_same_as_budget (content_eq c₀ c) (is_terminated c) t t₀ r
merge_same_if_budget t c no_last_if = search arith

pub worked_if_test_budget : (q : Bool) (t : Expr) (r : Stmts)
    → AtMost (budget_worked (worked_if_test q t r)) (plus (exprs_only (records_expr t)) (budget_stmts r))
worked_if_test_budget q t r =
    let m : Worked = merge_leading_assignments_to_declaration false t r in
    let a = next_work_budget m.target m.results (λ e r₁. merge_last_expression_into_sequence q e r₁) (merge_last_budget q) in
    let b = merge_leading_budget false t r in
    (search arith)

pub worked_if_test_value : (q : Bool) (t : Expr) (r : Stmts) → ValueThere (worked_if_test q t r)
worked_if_test_value q t r =
    let m : Worked = merge_leading_assignments_to_declaration false t r in
    next_work_value m.target m.results (λ e r₁. merge_last_expression_into_sequence q e r₁) (merge_leading_value t r)
    (λ e r₁. merge_last_value (last_expression? q r₁) e)

-- a jump that may go has a statement's record, and the weight of a `!`
pub removable_budget : (h : Holder) (x : Stmt) → T (can_remove_termination_statement h x) → AtMost (to_take 1 1) (budget_stmt x)
removable_budget h empty t = absurd t
removable_budget h (expression e) t = absurd t
removable_budget h (declaration k ds) t = absurd t
removable_budget h (return_of absent) t = search arith
removable_budget h (return_of (present e)) t = absurd t
removable_budget h (throw e) t = absurd t
removable_budget h (if_then e c a) t = absurd t
removable_budget h (block ss) t = absurd t
removable_budget h (while e b) t = absurd t
removable_budget h (do_while b e) t = absurd t
removable_budget h (for i e u b) t = absurd t
removable_budget h (switch d cs) t = absurd t
removable_budget h break t = search arith
removable_budget h continue t = search arith

module _ (st : Context) (again : Stmts → Stmts → Stmts) (j : WorkWithin again) where
  -- a block or braces, never both
  pub minimized_tail_budget : (h : Holder) (a : Alternate) (rest : Stmts)
      → AtMost (plus (to_take 0 (braces (branch? (minimized_tail h again a rest)))) (budget_stmt (minimized_tail h again a rest)))
      (with_stmt (plus (budget_alternate a) (budget_stmts rest)))
  minimized_tail_budget h a rest =
      let out : Stmts = again (alternate_then_rest a rest) no_stmts in
      let x = one_stmt_or_block_budget (in_source_order (drop_last_jump h out) no_stmts) in
      let y = in_source_order_budget (drop_last_jump h out) no_stmts in
      let z = drop_last_jump_budget h out in
      let u = j (alternate_then_rest a rest) no_stmts in
      let v = alternate_then_rest_budget a rest in
      (search arith)

  -- a fold spends the jump: its record is the block's or the braces', its weight the `!`'s
  pub folded_budget : (h : Holder) (t : Expr) (x : Stmt) → T (can_remove_termination_statement h x) → (a : Alternate) (rest : Stmts)
      → AtMost (budget_stmt (try_minimize_if st.host (minimize_not t) (minimized_tail h again a rest) no_alternate))
      (plus (budget_stmt (if_then t x a)) (budget_stmts rest))
  folded_budget h t x p a rest =
      let u = try_minimize_if_budget st.host (minimize_not t) (minimized_tail h again a rest) no_alternate in
      let v = minimized_tail_budget h a rest in
      let w = minimize_not_records t in
      let z = removable_budget h x p in
      (search arith)

  pub folded_end_budget : (h : Holder) (t : Expr) (ys : Stmts) (x : Stmt) → T (can_remove_termination_statement h x)
      → (a : Alternate) (rest : Stmts)
      → AtMost (budget_stmt (try_minimize_if st.host t (without_needless_block ys) (alternate (minimized_tail h again a rest))))
      (plus (budget_stmt (if_then t (block (append_stmt ys x)) a)) (budget_stmts rest))
  folded_end_budget h t ys x p a rest =
      let u = try_minimize_if_budget st.host t (without_needless_block ys) (alternate (minimized_tail h again a rest)) in
      let v = minimized_tail_budget h a rest in
      let w = without_needless_block_budget ys in
      let y = append_stmt_budget ys x in
      let z = removable_budget h x p in
      (search arith)

  module _ (rest : Stmts) (more : Stmts → Stmts) (m : RestWithin rest more) where
    pub push_if_budget : (t : Expr) (c : Stmt) (a : Alternate) (r : Stmts)
        → AtMost (budget_stmts (push_if more t c a rest r)) (plus (plus (budget_stmt (if_then t c a)) (budget_stmts rest)) (budget_stmts r))
    push_if_budget t c a r = let x = then_rest_budget rest more m (stmt_then (if_then t c a) r) in search arith

    pub split_alternate_budget : (t : Expr) (c : Stmt) (a : Alternate) (r : Stmts)
        → AtMost (budget_stmts (split_alternate again more t c a rest r))
        (plus (plus (budget_stmt (if_then t c a)) (budget_stmts rest)) (budget_stmts r))
    split_alternate_budget t c no_alternate r = push_if_budget t c no_alternate r
    split_alternate_budget t c (alternate x) r =
        either_budget (is_terminated c && negated (statement_cares_about_scope x))
        (again (stmt_then x rest) (stmt_then (if_then t c no_alternate) r)) (push_if more t c (alternate x) rest r) _
        (let y = j (stmt_then x rest) (stmt_then (if_then t c no_alternate) r) in (search arith)) (push_if_budget t c (alternate x) r)

    pub fold_rest_budget : {h : Holder} (t : Expr) {c : Stmt} (v : Jump? h c) (a : Alternate) (r : Stmts)
        → AtMost (budget_stmts (fold_rest st again more t v a rest r))
        (plus (plus (budget_stmt (if_then t c a)) (budget_stmts rest)) (budget_stmts r))
    fold_rest_budget {h} t (is_jump x p) a r =
        let X : Stmt = try_minimize_if st.host (minimize_not t) (minimized_tail h again a rest) no_alternate in
        either_budget (alternate_cares_about_scope a || any_cares_about_scope rest)
        (split_alternate again more t x a rest r) (again (stmt_then X no_stmts) r) _
        (split_alternate_budget t x a r)
        (let y = j (stmt_then X no_stmts) r in let z = folded_budget h t x p a rest in (search arith))
    fold_rest_budget {h} t (ends_in_jump ys x p) a r =
        let X : Stmt = try_minimize_if st.host t (without_needless_block ys) (alternate (minimized_tail h again a rest)) in
        either_budget (alternate_cares_about_scope a || any_cares_about_scope rest)
        (split_alternate again more t (block (append_stmt ys x)) a rest r) (again (stmt_then X no_stmts) r) _
        (split_alternate_budget t (block (append_stmt ys x)) a r)
        (let y = j (stmt_then X no_stmts) r in let z = folded_end_budget h t ys x p a rest in (search arith))
    fold_rest_budget t {c} no_jump a r = split_alternate_budget t c a r

    pub handle_if_after_test_budget : (q : Bool) (t : Expr) (c : Stmt) (a : Alternate) (r : Stmts)
        → AtMost (budget_stmts (handle_if_after_test st q again more t c a rest r))
        (plus (plus (budget_stmt (if_then t c a)) (budget_stmts rest)) (budget_stmts r))
    handle_if_after_test_budget false t c a r = push_if_budget t c a r
    handle_if_after_test_budget true t c a r =
        let g : MergedTest = merge_same_if t c (last_if? r) in
        let x = fold_rest_budget g.test (jump? st.holder c) a g.results in
        let y = merge_same_if_budget t c (last_if? r) in
        (search arith)

    pub handle_if_statement_budget : (t : Expr) (c : Stmt) (a : Alternate) (r : Stmts)
        → AtMost (budget_stmts (handle_if_statement st again more t c a rest r))
        (plus (plus (budget_stmt (if_then t c a)) (budget_stmts rest)) (budget_stmts r))
    handle_if_statement_budget t c a r =
        let w : Worked = worked_if_test st.sequences t r in
        let x = handle_if_after_test_budget st.sequences (value_or_void_0 w.target) c a w.results in
        let y : AtMost (budget_worked w) (plus (exprs_only (records_expr t)) (budget_stmts r)) = worked_if_test_budget st.sequences t r in
        let z : ValueThere w = worked_if_test_value st.sequences t r in
        (search arith)

    pub then_within : (n : Spares) (r r' : Stmts) → AtMost (budget_stmts r') (plus n (budget_stmts r))
        → AtMost (budget_stmts (then_rest more rest r')) (plus (plus n (budget_stmts rest)) (budget_stmts r))
    then_within n r r' h = let x = then_rest_budget rest more m r' in search arith

    pub minimize_statement_budget : (x : Stmt) (r : Stmts)
        → AtMost (budget_stmts (minimize_statement st again more x rest r))
        (plus (plus (budget_stmt x) (budget_stmts rest)) (budget_stmts r))
    minimize_statement_budget empty r = then_within (budget_stmt empty) r r (search arith)
    minimize_statement_budget (expression e) r =
        then_within (budget_stmt (expression e)) r (handle_expression_statement st.sequences e r)
        (handle_expression_statement_budget st.sequences e r)
    minimize_statement_budget (declaration k ds) r =
        then_within (budget_stmt (declaration k ds)) r (handle_variable_declaration st.join_vars k ds r)
        (handle_variable_declaration_budget st.join_vars k ds r)
    minimize_statement_budget (return_of p) r =
        then_within (budget_stmt (return_of p)) r (handle_return_statement st.sequences st.host st.holder p r)
        (handle_return_statement_budget st.sequences st.host st.holder p r)
    minimize_statement_budget (throw e) r =
        then_within (budget_stmt (throw e)) r (handle_throw_statement st.sequences e r)
        (handle_throw_statement_budget st.sequences e r)
    minimize_statement_budget (if_then t c a) r = handle_if_statement_budget t c a r
    minimize_statement_budget (block ss) r = then_within (budget_stmt (block ss)) r (handle_block ss r) (handle_block_budget ss r)
    minimize_statement_budget (while t b) r = then_within (budget_stmt (while t b)) r (stmt_then (while t b) r) (search arith)
    minimize_statement_budget (do_while b t) r = then_within (budget_stmt (do_while b t)) r (stmt_then (do_while b t) r) (search arith)
    minimize_statement_budget (for i t u b) r =
        then_within (budget_stmt (for i t u b)) r (handle_for_statement st.sequences i t u b r)
        (handle_for_statement_budget st.sequences i t u b r)
    minimize_statement_budget (switch d cs) r =
        then_within (budget_stmt (switch d cs)) r (handle_switch_statement st.sequences d cs r)
        (handle_switch_statement_budget st.sequences d cs r)
    minimize_statement_budget break r = then_within (budget_stmt break) r (stmt_then break r) (search arith)
    minimize_statement_budget continue r = then_within (budget_stmt continue) r (stmt_then continue r) (search arith)

  pub minimize_onto_with_budget : WorkWithin (λ todo r. minimize_onto_with st again todo r)
  minimize_onto_with_budget no_stmts r = search arith
  minimize_onto_with_budget (stmt_then x rest) r =
      let h = minimize_statement_budget rest (λ r₁. minimize_onto_with st again rest r₁) (minimize_onto_with_budget rest) x r in search arith

pub push_all_within : WorkWithin (λ todo r. push_all todo r)
push_all_within todo r = let a = push_all_budget todo r in search arith

pub minimize_onto_budget : (n : ℕ) (st : Context) → WorkWithin (λ todo r. minimize_onto n st todo r)
minimize_onto_budget zero st todo r = minimize_onto_with_budget st (λ todo₁ r₁. push_all todo₁ r₁) push_all_within todo r
minimize_onto_budget (suc n) st todo r =
    minimize_onto_with_budget st (λ todo₁ r₁. minimize_onto n st todo₁ r₁) (minimize_onto_budget n st) todo r

pub minimize_statements_budget : (n : ℕ) (st : Context) (xs : Stmts)
    → AtMost (budget_stmts (minimize_statements n st xs)) (budget_stmts xs)
minimize_statements_budget n st xs =
    let out : Stmts = minimize_onto n st xs no_stmts in
    let a = in_source_order_budget (drop_last_jump st.holder out) no_stmts in
    let b = drop_last_jump_budget st.holder out in
    let c = minimize_onto_budget n st xs no_stmts in
    (search arith)
