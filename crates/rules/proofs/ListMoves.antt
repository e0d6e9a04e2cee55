-- The moves of the work on a list are performed: what is spare is always more than the weight of what is in hand.
use Rattle.std.proofs.Common.{◌≡◌, ℕ, zero, suc, Bool, true, false, not as negated, ◌&&◌, ◌||◌, T, List, [], ◌∷◌, ◌++◌, arith}
use Rattle.script.specs.declared.LogicalOperator.TheVariants.{Or}
use Rattle.script.specs.Judge.{Spares}
use Rattle.script.specs.Sound.{plus, records_stmts, records_stmt, exprs_only, records_expr, records_optional, records_alternate, none_used}
use Rattle.script.specs.Sound.{with_stmt}
use Rattle.script.specs.Tree.{for, Stmts, Stmt, Expr, stmt_then, if_then, no_alternate, alternate, declaration, expression, Alternate}
use Rattle.script.specs.Tree.{no_stmts, block, empty, return_of, throw, while, do_while, switch, break, continue}
use Rattle.rules.specs.Holder.{Holder}
use Rattle.rules.specs.Equal.{content_eq}
use Rattle.rules.specs.Expressions.{minimize_not}
use Rattle.rules.specs.Statements.{is_terminated, statement_cares_about_scope, any_cares_about_scope, handle_block, push_all}
use Rattle.rules.specs.Merging.{Worked, merge_leading_assignments_to_declaration, last_expression?, merge_last_expression_into_sequence}
use Rattle.rules.specs.Merging.{handle_expression_statement}
use Rattle.rules.specs.Returns.{value_or_void_0, handle_return_statement}
use Rattle.rules.specs.Declarations.{handle_variable_declaration}
use Rattle.rules.specs.For.{handle_for_statement}
use Rattle.rules.specs.Throws.{handle_throw_statement}
use Rattle.rules.specs.Ifs.{try_minimize_if}
use Rattle.rules.specs.Switches.{handle_switch_statement}
use Rattle.rules.specs.Jumps.{drop_last_jump, in_source_order, can_remove_termination_statement}
use Rattle.rules.specs.Unreachable.{then_rest}
use Rattle.rules.specs.Folding.{MergedTest, merge_same_as, merge_same_if, LastIf?, last_if, no_last_if, worked_if_test, Context}
use Rattle.rules.specs.Folding.{minimized_tail, alternate_then_rest, append_stmt, without_needless_block, split_alternate, push_if}
use Rattle.rules.specs.Folding.{fold_rest, Jump?, is_jump, alternate_cares_about_scope, ends_in_jump, no_jump, handle_if_after_test}
use Rattle.rules.specs.Folding.{last_if?, jump?, handle_if_statement}
use Rattle.rules.specs.Minimize.{minimize_statement, minimize_onto, minimize_onto_with, minimize_statements}
use Rattle.rules.specs.Budget.{weight_stmts, weight_stmt, to_take, AtMost, budget_worked, budget_stmts, budget_stmt, weight_alternate}
use Rattle.rules.specs.Moves.{Move, gives}
use Rattle.rules.specs.ExpressionMoves.{minimize_not_moves}
use Rattle.rules.specs.StatementMoves.{next_work_moves, merge_last_moves, then_rest_moves}
use Rattle.rules.specs.IfMoves.{drop_last_jump_moves, one_stmt_or_block_moves, try_minimize_if_moves, without_needless_block_moves}
use Rattle.rules.specs.ListMoves.{merge_same_as_moves, merge_same_if_moves, worked_if_test_moves, minimized_tail_moves}
use Rattle.rules.specs.ListMoves.{split_alternate_moves, fold_rest_moves, handle_if_after_test_moves, handle_if_statement_moves}
use Rattle.rules.specs.ListMoves.{minimize_statement_moves, minimize_onto_with_moves, minimize_onto_moves, minimize_statements_moves}
use Rattle.rules.proofs.BudgetExpressions.{join_with_left_associative_op_records, minimize_not_records}
use Rattle.rules.proofs.BudgetMerging.{merge_leading_budget, ValueThere, handle_expression_statement_budget}
use Rattle.rules.proofs.BudgetMerging.{handle_variable_declaration_budget}
use Rattle.rules.proofs.BudgetStatements.{handle_return_statement_budget, handle_throw_statement_budget, handle_block_budget}
use Rattle.rules.proofs.BudgetStatements.{handle_for_statement_budget, handle_switch_statement_budget}
use Rattle.rules.proofs.BudgetIfs.{alternate_then_rest_budget, over_if, try_minimize_if_budget, without_needless_block_budget}
use Rattle.rules.proofs.BudgetIfs.{append_stmt_budget}
use Rattle.rules.proofs.BudgetMinimize.{WorkWithin, minimized_tail_budget, removable_budget, merge_same_if_budget, worked_if_test_budget}
use Rattle.rules.proofs.BudgetMinimize.{worked_if_test_value, push_all_within, minimize_onto_budget}
use Rattle.rules.proofs.Performing.{Performs, in_turn, give, nothing, records_worked, in_use_after, beside, either_performs, then_freely}
use Rattle.rules.proofs.ExpressionMoves.{join_onto_performs, minimize_not_performs}
use Rattle.rules.proofs.MergingMoves.{next_work_performs, merge_last_performs, merge_leading_assignments_performs}
use Rattle.rules.proofs.MergingMoves.{handle_expression_statement_performs, handle_variable_declaration_performs}
use Rattle.rules.proofs.StatementMoves.{RestPerforms, then_rest_performs, handle_return_statement_performs}
use Rattle.rules.proofs.StatementMoves.{handle_throw_statement_performs, handle_block_performs, handle_for_statement_performs}
use Rattle.rules.proofs.StatementMoves.{handle_switch_statement_performs, push_all_records}
use Rattle.rules.proofs.IfMoves.{in_source_order_records, drop_last_jump_performs, alternate_then_rest_records, one_stmt_or_block_performs}
use Rattle.rules.proofs.IfMoves.{try_minimize_if_performs, append_stmt_records, without_needless_block_performs}

-- what again does with a list and the results before it
abbrev pub WorkPerforms : (Stmts → Stmts → Stmts) → (Stmts → Stmts → List Move) → Type 0
WorkPerforms again again_moves =
    (todo r : Stmts)
    → Performs (plus (weight_stmts todo) (weight_stmts r)) (again_moves todo r) (plus (records_stmts todo) (records_stmts r))
    (records_stmts (again todo r))

abbrev pub records_test : MergedTest → Spares
records_test j = plus (exprs_only (records_expr j.test)) (records_stmts j.results)

pub merge_same_as_performs : {c₀ c : Stmt} (d : Dec (c₀ ≡ c)) (b : Bool) (t t₀ : Expr) (r : Stmts)
    → Performs (to_take 1 0) (merge_same_as_moves d b t)
    (plus (exprs_only (records_expr t)) (records_stmts (stmt_then (if_then t₀ c₀ no_alternate) r))) (records_test (merge_same_as d b t t₀ r))
merge_same_as_performs (yes e) true t t₀ r =
    let h = join_with_left_associative_op_records Or t₀ t in in_turn (give _) (join_onto_performs Or t)
    (search arith) (search arith) (search arith)
merge_same_as_performs (yes e) false t t₀ r = nothing (search arith)
merge_same_as_performs (no e) b t t₀ r = nothing (search arith)

pub merge_same_if_performs : (t : Expr) (c : Stmt) {r : Stmts} (v : LastIf? r)
    → Performs (to_take 1 0) (merge_same_if_moves t c v) (plus (exprs_only (records_expr t)) (records_stmts r))
    (records_test (merge_same_if t c v))
merge_same_if_performs t c (last_if t₀ c₀ r) = merge_same_as_performs (content_eq c₀ c) (is_terminated c) t t₀ r
merge_same_if_performs t c no_last_if = nothing (search arith)

pub worked_if_test_performs : (q : Bool) (t : Expr) (r : Stmts)
    → Performs (weight_stmts r) (worked_if_test_moves q t r) (plus (exprs_only (records_expr t)) (records_stmts r))
    (records_worked (worked_if_test q t r))
worked_if_test_performs q t r =
    let m : Worked = merge_leading_assignments_to_declaration false t r in
    let b : AtMost (budget_worked m) (plus (exprs_only (records_expr t)) (budget_stmts r)) = merge_leading_budget false t r in
    let last : Performs (weight_stmts m.results) (next_work_moves m.target m.results (λ e r₁. merge_last_moves (last_expression? q r₁) e))
    (plus (exprs_only (records_optional m.target)) (records_stmts m.results)) (records_worked (worked_if_test q t r)) =
    next_work_performs weight_stmts m.target m.results (λ e r₁. merge_last_expression_into_sequence q e r₁)
    (λ e r₁. merge_last_moves (last_expression? q r₁) e) (λ e r₁. merge_last_performs (last_expression? q r₁) e) in
    in_turn (merge_leading_assignments_performs false t r) last (search arith) (search arith) (search arith)

module _ (st : Context) (again : Stmts → Stmts → Stmts) (again_moves : Stmts → Stmts → List Move) (j : WorkWithin again)
    (w : WorkPerforms again again_moves) where
  pub minimized_tail_performs : (h : Holder) (a : Alternate) (rest : Stmts)
      → Performs (plus (to_take 0 1) (plus (weight_alternate a) (weight_stmts rest))) (minimized_tail_moves h again again_moves a rest)
      (plus (records_alternate a) (records_stmts rest)) (records_stmt (minimized_tail h again a rest))
  minimized_tail_performs h a rest =
      let todo : Stmts = alternate_then_rest a rest in
      let out : Stmts = again todo no_stmts in
      let dropped : Stmts = drop_last_jump h out in
      let x = in_source_order_records dropped no_stmts in
      let y : AtMost (records_stmts dropped) (plus none_used (records_stmts out)) = in_use_after (drop_last_jump_performs h out) in
      let u = j todo no_stmts in
      let v = alternate_then_rest_records a rest in
      let z = alternate_then_rest_budget a rest in
      let last : Performs (to_take 0 1)
      (drop_last_jump_moves h out ++ one_stmt_or_block_moves (in_source_order dropped no_stmts)) (records_stmts out)
      (records_stmt (minimized_tail h again a rest)) =
      in_turn (drop_last_jump_performs h out) (one_stmt_or_block_performs (in_source_order dropped no_stmts))
      (search arith) (search arith) (search arith) in
      in_turn (w todo no_stmts) last (search arith) (search arith) (search arith)

  -- the new `if`, worked on
  pub new_if_performs : (t : Expr) (c : Stmt) (a : Alternate) (r : Stmts)
      → Performs (plus (plus (over_if c a) (weight_stmt (if_then t c a))) (weight_stmts r))
      (try_minimize_if_moves st.host t c a ++ again_moves (stmt_then (try_minimize_if st.host t c a) no_stmts) r)
      (plus (records_stmt (if_then t c a)) (records_stmts r))
      (records_stmts (again (stmt_then (try_minimize_if st.host t c a) no_stmts) r))
  new_if_performs t c a r =
      let h = try_minimize_if_budget st.host t c a in
      in_turn (try_minimize_if_performs st.host t c a) (w (stmt_then (try_minimize_if st.host t c a) no_stmts) r)
      (search arith) (search arith) (search arith)

  pub folded_performs : (h : Holder) (t : Expr) (x : Stmt) → T (can_remove_termination_statement h x) → (a : Alternate) (rest r : Stmts)
      → Performs (plus (plus (weight_stmt (if_then t x a)) (weight_stmts rest)) (weight_stmts r))
      (gives (records_stmt x)
      ∷ (minimized_tail_moves h again again_moves a rest
      ++ (minimize_not_moves t
      ++ (try_minimize_if_moves st.host (minimize_not t) (minimized_tail h again a rest) no_alternate
      ++ again_moves (stmt_then (try_minimize_if st.host (minimize_not t) (minimized_tail h again a rest) no_alternate) no_stmts) r))))
      (plus (plus (records_stmt (if_then t x a)) (records_stmts rest)) (records_stmts r))
      (records_stmts
      (again (stmt_then (try_minimize_if st.host (minimize_not t) (minimized_tail h again a rest) no_alternate) no_stmts) r))
  folded_performs h t x p a rest r =
      let tail : Stmt = minimized_tail h again a rest in
      let new : Stmt = try_minimize_if st.host (minimize_not t) tail no_alternate in
      let out : Stmts = again (stmt_then new no_stmts) r in
      let u = minimized_tail_budget st again j h a rest in
      let v = minimize_not_records t in
      let z = removable_budget h x p in
      let last : Performs (plus (plus (over_if tail no_alternate) (weight_stmt (if_then (minimize_not t) tail no_alternate)))
      (weight_stmts r))
      (try_minimize_if_moves st.host (minimize_not t) tail no_alternate ++ again_moves (stmt_then new no_stmts) r)
      (plus (records_stmt (if_then (minimize_not t) tail no_alternate)) (records_stmts r)) (records_stmts out) =
      new_if_performs (minimize_not t) tail no_alternate r in
      let turned_test : Performs (plus (to_take 1 0) (plus (plus (over_if tail no_alternate)
      (weight_stmt (if_then t tail no_alternate))) (weight_stmts r)))
      (minimize_not_moves t
      ++ (try_minimize_if_moves st.host (minimize_not t) tail no_alternate ++ again_moves (stmt_then new no_stmts) r))
      (plus (records_stmt (if_then t tail no_alternate)) (records_stmts r)) (records_stmts out) =
      in_turn (minimize_not_performs t) last (search arith) (search arith) (search arith) in
      let worked : Performs (plus (to_take 3 1) (plus (plus (weight_alternate a) (weight_stmts rest)) (weight_stmts r)))
      (minimized_tail_moves h again again_moves a rest
      ++ (minimize_not_moves t
      ++ (try_minimize_if_moves st.host (minimize_not t) tail no_alternate ++ again_moves (stmt_then new no_stmts) r)))
      (plus (with_stmt (plus (exprs_only (records_expr t)) (plus (records_alternate a) (records_stmts rest)))) (records_stmts r))
      (records_stmts out) =
      in_turn (minimized_tail_performs h a rest) turned_test (search arith) (search arith) (search arith) in
      in_turn (give _) worked (search arith) (search arith) (search arith)

  pub folded_end_performs : (h : Holder) (t : Expr) (ys : Stmts) (x : Stmt) → T (can_remove_termination_statement h x)
      → (a : Alternate) (rest r : Stmts)
      → Performs (plus (plus (weight_stmt (if_then t (block (append_stmt ys x)) a)) (weight_stmts rest)) (weight_stmts r))
      (gives (records_stmt x)
      ∷ (minimized_tail_moves h again again_moves a rest
      ++ (without_needless_block_moves ys
      ++ (try_minimize_if_moves st.host t (without_needless_block ys) (alternate (minimized_tail h again a rest))
      ++ again_moves
      (stmt_then (try_minimize_if st.host t (without_needless_block ys) (alternate (minimized_tail h again a rest))) no_stmts) r))))
      (plus (plus (records_stmt (if_then t (block (append_stmt ys x)) a)) (records_stmts rest)) (records_stmts r))
      (records_stmts
      (again (stmt_then (try_minimize_if st.host t (without_needless_block ys) (alternate (minimized_tail h again a rest))) no_stmts) r))
  folded_end_performs h t ys x p a rest r =
      let tail : Stmt = minimized_tail h again a rest in
      let c : Stmt = without_needless_block ys in
      let new : Stmt = try_minimize_if st.host t c (alternate tail) in
      let out : Stmts = again (stmt_then new no_stmts) r in
      let u = minimized_tail_budget st again j h a rest in
      let v = without_needless_block_budget ys in
      let y = append_stmt_budget ys x in
      let y' = append_stmt_records ys x in
      let z = removable_budget h x p in
      let last : Performs (plus (plus (over_if c (alternate tail)) (weight_stmt (if_then t c (alternate tail)))) (weight_stmts r))
      (try_minimize_if_moves st.host t c (alternate tail) ++ again_moves (stmt_then new no_stmts) r)
      (plus (records_stmt (if_then t c (alternate tail))) (records_stmts r)) (records_stmts out) =
      new_if_performs t c (alternate tail) r in
      let opened : Performs (plus (to_take 3 0) (plus (plus (weight_stmts ys) (weight_stmt tail)) (weight_stmts r)))
      (without_needless_block_moves ys
      ++ (try_minimize_if_moves st.host t c (alternate tail) ++ again_moves (stmt_then new no_stmts) r))
      (plus (records_stmt (if_then t (block ys) (alternate tail))) (records_stmts r)) (records_stmts out) =
      in_turn (without_needless_block_performs ys) last (search arith) (search arith) (search arith) in
      let worked : Performs (plus (to_take 3 1) (plus (weight_stmts ys) (plus (plus (weight_alternate a) (weight_stmts rest))
      (weight_stmts r))))
      (minimized_tail_moves h again again_moves a rest
      ++ (without_needless_block_moves ys
      ++ (try_minimize_if_moves st.host t c (alternate tail) ++ again_moves (stmt_then new no_stmts) r)))
      (plus (plus (records_stmt (if_then t (block ys) a)) (records_stmts rest)) (records_stmts r)) (records_stmts out) =
      in_turn (minimized_tail_performs h a rest) opened (search arith) (search arith) (search arith) in
      in_turn (give _) worked (search arith) (search arith) (search arith)

  module _ (rest : Stmts) (more : Stmts → Stmts) (more_moves : Stmts → List Move) (m : RestPerforms rest more more_moves)
    where
      -- the statement x and the rest in hand, and the results before them
      abbrev pub StatementPerforms : Stmt → Stmts → List Move → Stmts → Type 0
      StatementPerforms x r ms out =
          Performs (plus (plus (weight_stmt x) (weight_stmts rest)) (weight_stmts r)) ms
          (plus (plus (records_stmt x) (records_stmts rest)) (records_stmts r)) (records_stmts out)

      pub put_performs : (x : Stmt) (r : Stmts)
          → StatementPerforms x r (then_rest_moves more_moves rest (stmt_then x r)) (then_rest more rest (stmt_then x r))
      put_performs x r = beside (then_rest_performs rest more more_moves m (stmt_then x r)) (search arith) (search arith)

      pub split_alternate_performs : (t : Expr) (c : Stmt) (a : Alternate) (r : Stmts)
          → StatementPerforms (if_then t c a) r (split_alternate_moves again_moves more_moves t c a rest r)
          (split_alternate again more t c a rest r)
      split_alternate_performs t c no_alternate r = put_performs (if_then t c no_alternate) r
      split_alternate_performs t c (alternate x) r =
          either_performs (is_terminated c && negated (statement_cares_about_scope x))
          (again (stmt_then x rest) (stmt_then (if_then t c no_alternate) r)) (push_if more t c (alternate x) rest r)
          (beside (w (stmt_then x rest) (stmt_then (if_then t c no_alternate) r)) (search arith) (search arith)) (put_performs (if_then t c (alternate x)) r)

      pub fold_rest_performs : {h : Holder} (t : Expr) {c : Stmt} (v : Jump? h c) (a : Alternate) (r : Stmts)
          → StatementPerforms (if_then t c a) r (fold_rest_moves st again again_moves more_moves t v a rest r)
          (fold_rest st again more t v a rest r)
      fold_rest_performs {h} t (is_jump x p) a r =
          either_performs (alternate_cares_about_scope a || any_cares_about_scope rest) (split_alternate again more t x a rest r) _
          (split_alternate_performs t x a r) (folded_performs h t x p a rest r)
      fold_rest_performs {h} t (ends_in_jump ys x p) a r =
          either_performs (alternate_cares_about_scope a || any_cares_about_scope rest)
          (split_alternate again more t (block (append_stmt ys x)) a rest r) _
          (split_alternate_performs t (block (append_stmt ys x)) a r) (folded_end_performs h t ys x p a rest r)
      fold_rest_performs t {c} no_jump a r = split_alternate_performs t c a r

      pub handle_if_after_test_performs : (q : Bool) (t : Expr) (c : Stmt) (a : Alternate) (r : Stmts)
          → StatementPerforms (if_then t c a) r (handle_if_after_test_moves st q again again_moves more_moves t c a rest r)
          (handle_if_after_test st q again more t c a rest r)
      handle_if_after_test_performs false t c a r = put_performs (if_then t c a) r
      handle_if_after_test_performs true t c a r =
          let g : MergedTest = merge_same_if t c (last_if? r) in
          let y = merge_same_if_budget t c (last_if? r) in
          in_turn (merge_same_if_performs t c (last_if? r)) (fold_rest_performs g.test (jump? st.holder c) a g.results)
          (search arith) (search arith) (search arith)

      pub handle_if_statement_performs : (t : Expr) (c : Stmt) (a : Alternate) (r : Stmts)
          → StatementPerforms (if_then t c a) r (handle_if_statement_moves st again again_moves more_moves t c a rest r)
          (handle_if_statement st again more t c a rest r)
      handle_if_statement_performs t c a r =
          let g : Worked = worked_if_test st.sequences t r in
          let y : AtMost (budget_worked g) (plus (exprs_only (records_expr t)) (budget_stmts r)) = worked_if_test_budget st.sequences t r in
          let z : ValueThere g = worked_if_test_value st.sequences t r in
          in_turn (worked_if_test_performs st.sequences t r)
          (handle_if_after_test_performs st.sequences (value_or_void_0 g.target) c a g.results)
          (search arith) (search arith) (search arith)

      -- first what the rule does to the results, then the rest
      pub then_performs : (x : Stmt) (r r' : Stmts) {n : Spares} {ms : List Move}
          → Performs n ms (plus (records_stmt x) (records_stmts r)) (records_stmts r')
          → AtMost n (plus (weight_stmt x) (weight_stmts r))
          → AtMost (budget_stmts r') (plus (budget_stmt x) (budget_stmts r))
          → StatementPerforms x r (ms ++ then_rest_moves more_moves rest r') (then_rest more rest r')
      then_performs x r r' p u v = in_turn p (then_rest_performs rest more more_moves m r') (search arith) (search arith) (search arith)

      pub minimize_statement_performs : (x : Stmt) (r : Stmts)
          → StatementPerforms x r (minimize_statement_moves st again again_moves more_moves x rest r)
          (minimize_statement st again more x rest r)
      minimize_statement_performs empty r =
          in_turn (give _) (then_rest_performs rest more more_moves m r) (search arith) (search arith) (search arith)
      minimize_statement_performs (expression e) r =
          then_performs (expression e) r (handle_expression_statement st.sequences e r)
          (handle_expression_statement_performs st.sequences e r) (search arith) (handle_expression_statement_budget st.sequences e r)
      minimize_statement_performs (declaration k ds) r =
          then_performs (declaration k ds) r (handle_variable_declaration st.join_vars k ds r)
          (handle_variable_declaration_performs st.join_vars k ds r) (search arith) (handle_variable_declaration_budget st.join_vars k ds r)
      minimize_statement_performs (return_of p) r =
          then_performs (return_of p) r (handle_return_statement st.sequences st.host st.holder p r)
          (handle_return_statement_performs st.sequences st.host st.holder p r) (search arith)
          (handle_return_statement_budget st.sequences st.host st.holder p r)
      minimize_statement_performs (throw e) r =
          then_performs (throw e) r (handle_throw_statement st.sequences e r)
          (handle_throw_statement_performs st.sequences e r) (search arith) (handle_throw_statement_budget st.sequences e r)
      minimize_statement_performs (if_then t c a) r = handle_if_statement_performs t c a r
      minimize_statement_performs (block ss) r =
          then_performs (block ss) r (handle_block ss r) (handle_block_performs ss r) (search arith) (handle_block_budget ss r)
      minimize_statement_performs (while t b) r = put_performs (while t b) r
      minimize_statement_performs (do_while b t) r = put_performs (do_while b t) r
      minimize_statement_performs (for k t u b) r =
          then_performs (for k t u b) r (handle_for_statement st.sequences k t u b r)
          (handle_for_statement_performs st.sequences k t u b r) (search arith) (handle_for_statement_budget st.sequences k t u b r)
      minimize_statement_performs (switch d cs) r =
          then_performs (switch d cs) r (handle_switch_statement st.sequences d cs r)
          (handle_switch_statement_performs st.sequences d cs r) (search arith) (handle_switch_statement_budget st.sequences d cs r)
      minimize_statement_performs break r = put_performs break r
      minimize_statement_performs continue r = put_performs continue r

  pub minimize_onto_with_performs : WorkPerforms (λ todo r. minimize_onto_with st again todo r)
      (λ todo r. minimize_onto_with_moves st again again_moves todo r)
  minimize_onto_with_performs no_stmts r = nothing (search arith)
  minimize_onto_with_performs (stmt_then x rest) r =
      beside (minimize_statement_performs rest (λ r₁. minimize_onto_with st again rest r₁)
      (λ r₁. minimize_onto_with_moves st again again_moves rest r₁) (minimize_onto_with_performs rest) x r) (search arith) (search arith)

pub push_all_performs : WorkPerforms (λ todo r. push_all todo r) (λ todo r. [])
push_all_performs todo r = let h = push_all_records todo r in nothing (search arith)

pub minimize_onto_performs : (n : ℕ) (st : Context) → WorkPerforms (λ todo r. minimize_onto n st todo r)
    (λ todo r. minimize_onto_moves n st todo r)
minimize_onto_performs zero st todo r =
    minimize_onto_with_performs st (λ todo₁ r₁. push_all todo₁ r₁) (λ todo₁ r₁. []) push_all_within push_all_performs todo r
minimize_onto_performs (suc n) st todo r =
    minimize_onto_with_performs st (λ todo₁ r₁. minimize_onto n st todo₁ r₁) (λ todo₁ r₁. minimize_onto_moves n st todo₁ r₁)
    (minimize_onto_budget n st) (minimize_onto_performs n st) todo r

pub minimize_statements_performs : (n : ℕ) (st : Context) (xs : Stmts)
    → Performs (weight_stmts xs) (minimize_statements_moves n st xs) (records_stmts xs)
    (records_stmts (minimize_statements n st xs))
minimize_statements_performs n st xs =
    let out : Stmts = minimize_onto n st xs no_stmts in
    let a = in_source_order_records (drop_last_jump st.holder out) no_stmts in
    then_freely (minimize_onto_performs n st xs no_stmts) (drop_last_jump_performs st.holder out) (search arith) (search arith)
