-- What the work on a list, and on a whole body, takes and gives back.
use Rattle.std.specs.Prelude.{◌≡◌, ℕ, zero, suc, Bool, true, false, cond, not as negated, ◌&&◌, ◌||◌, List, [], ◌∷◌, ◌++◌}
use Rattle.script.specs.declared.LogicalOperator.TheVariants.{Or}
use Rattle.script.specs.Sound.{with_stmt, records_stmt}
use Rattle.script.specs.Tree.{Stmt, Expr, Stmts, declaration, expression, Alternate, stmt_then, if_then, alternate, no_alternate, no_stmts}
use Rattle.script.specs.Tree.{block, empty, return_of, throw, while, do_while, for, switch, break, continue, Cases, no_cases, case_then}
use Rattle.rules.specs.Holder.{Holder, other_list, loop_block, body_list}
use Rattle.rules.specs.Equal.{content_eq}
use Rattle.rules.specs.Expressions.{minimize_not}
use Rattle.rules.specs.Statements.{is_terminated, statement_cares_about_scope, any_cares_about_scope, handle_block, push_all}
use Rattle.rules.specs.Merging.{Worked, merge_leading_assignments_to_declaration, last_expression?, handle_expression_statement}
use Rattle.rules.specs.Returns.{value_or_void_0, handle_return_statement}
use Rattle.rules.specs.Declarations.{handle_variable_declaration}
use Rattle.rules.specs.For.{handle_for_statement}
use Rattle.rules.specs.Throws.{handle_throw_statement}
use Rattle.rules.specs.Ifs.{try_minimize_if}
use Rattle.rules.specs.Switches.{handle_switch_statement}
use Rattle.rules.specs.Jumps.{drop_last_jump, in_source_order}
use Rattle.rules.specs.Folding.{merge_same_if, LastIf?, last_if, no_last_if, worked_if_test, minimized_tail, alternate_then_rest, Context}
use Rattle.rules.specs.Folding.{Jump?, is_jump, alternate_cares_about_scope, ends_in_jump, append_stmt, without_needless_block, no_jump}
use Rattle.rules.specs.Folding.{MergedTest, last_if?, jump?}
use Rattle.rules.specs.Minimize.{minimize_onto}
use Rattle.rules.specs.JumpCount.{jumps_list}
use Rattle.rules.specs.Fuse.{Setting, fuse_list, do_while_holder}
use Rattle.rules.specs.Moves.{Move, gives, gives_statements}
use Rattle.rules.specs.ExpressionMoves.{join_onto_moves, minimize_not_moves}
use Rattle.rules.specs.StatementMoves.{merge_leading_assignments_moves, next_work_moves, merge_last_moves, then_rest_moves}
use Rattle.rules.specs.StatementMoves.{handle_expression_statement_moves, handle_variable_declaration_moves, handle_return_statement_moves}
use Rattle.rules.specs.StatementMoves.{handle_throw_statement_moves, handle_block_moves, handle_for_statement_moves}
use Rattle.rules.specs.StatementMoves.{handle_switch_statement_moves}
use Rattle.rules.specs.IfMoves.{drop_last_jump_moves, one_stmt_or_block_moves, try_minimize_if_moves, without_needless_block_moves}

-- of two `if`s with the same branch, one goes with its branch, then the tests are joined
abbrev pub merge_same_as_moves : {c₀ c : Stmt} → Dec (c₀ ≡ c) → Bool → Expr → List Move
merge_same_as_moves {c₀} (yes e) true t = gives (with_stmt (records_stmt c₀)) ∷ join_onto_moves Or t
merge_same_as_moves (yes e) false t = []
merge_same_as_moves (no e) b t = []

abbrev pub merge_same_if_moves : Expr → Stmt → {r : Stmts} → LastIf? r → List Move
merge_same_if_moves t c (last_if t₀ c₀ r) = merge_same_as_moves (content_eq c₀ c) (is_terminated c) t
merge_same_if_moves t c no_last_if = []

abbrev pub worked_if_test_moves : Bool → Expr → Stmts → List Move
worked_if_test_moves q t r =
    let m : Worked = merge_leading_assignments_to_declaration false t r in
    merge_leading_assignments_moves false t r
    ++ next_work_moves m.target m.results (λ e r₁. merge_last_moves (last_expression? q r₁) e)

-- again and again-moves are the work on any list one level deeper, more-moves is that on the rest

abbrev pub push_if_moves : (Stmts → List Move) → Expr → Stmt → Alternate → Stmts → Stmts → List Move
push_if_moves more_moves t c a rest r = then_rest_moves more_moves rest (stmt_then (if_then t c a) r)

abbrev pub split_alternate_moves : (Stmts → Stmts → List Move) → (Stmts → List Move) → Expr → Stmt → Alternate → Stmts → Stmts → List Move
split_alternate_moves again_moves more_moves t c no_alternate rest r = push_if_moves more_moves t c no_alternate rest r
split_alternate_moves again_moves more_moves t c (alternate x) rest r =
    cond (is_terminated c && negated (statement_cares_about_scope x))
    (again_moves (stmt_then x rest) (stmt_then (if_then t c no_alternate) r)) (push_if_moves more_moves t c (alternate x) rest r)

abbrev pub minimized_tail_moves : Holder → (Stmts → Stmts → Stmts) → (Stmts → Stmts → List Move) → Alternate → Stmts → List Move
minimized_tail_moves h again again_moves a rest =
    let out : Stmts = again (alternate_then_rest a rest) no_stmts in
    again_moves (alternate_then_rest a rest) no_stmts
    ++ (drop_last_jump_moves h out ++ one_stmt_or_block_moves (in_source_order (drop_last_jump h out) no_stmts))

-- the jump goes first, then the tail is worked, then the test is turned and the new `if` worked
abbrev pub fold_rest_moves : Context → (Stmts → Stmts → Stmts) → (Stmts → Stmts → List Move) → (Stmts → List Move) → {h : Holder} → Expr
    → {c : Stmt} → Jump? h c → Alternate → Stmts → Stmts → List Move
fold_rest_moves s again again_moves more_moves {h} t (is_jump x p) a rest r =
    let tail : Stmt = minimized_tail h again a rest in
    cond (alternate_cares_about_scope a || any_cares_about_scope rest) (split_alternate_moves again_moves more_moves t x a rest r)
    (gives (records_stmt x)
    ∷ (minimized_tail_moves h again again_moves a rest
    ++ (minimize_not_moves t
    ++ (try_minimize_if_moves s.host (minimize_not t) tail no_alternate
    ++ again_moves (stmt_then (try_minimize_if s.host (minimize_not t) tail no_alternate) no_stmts) r))))
fold_rest_moves s again again_moves more_moves {h} t (ends_in_jump ys x p) a rest r =
    let tail : Stmt = minimized_tail h again a rest in
    cond (alternate_cares_about_scope a || any_cares_about_scope rest)
    (split_alternate_moves again_moves more_moves t (block (append_stmt ys x)) a rest r)
    (gives (records_stmt x)
    ∷ (minimized_tail_moves h again again_moves a rest
    ++ (without_needless_block_moves ys
    ++ (try_minimize_if_moves s.host t (without_needless_block ys) (alternate tail)
    ++ again_moves (stmt_then (try_minimize_if s.host t (without_needless_block ys) (alternate tail)) no_stmts) r))))
fold_rest_moves s again again_moves more_moves t {c} no_jump a rest r = split_alternate_moves again_moves more_moves t c a rest r

abbrev pub handle_if_after_test_moves : Context → Bool → (Stmts → Stmts → Stmts) → (Stmts → Stmts → List Move) → (Stmts → List Move) → Expr
    → Stmt → Alternate → Stmts → Stmts → List Move
handle_if_after_test_moves s false again again_moves more_moves t c a rest r = push_if_moves more_moves t c a rest r
handle_if_after_test_moves s true again again_moves more_moves t c a rest r =
    let j : MergedTest = merge_same_if t c (last_if? r) in
    merge_same_if_moves t c (last_if? r)
    ++ fold_rest_moves s again again_moves more_moves {h = s.holder} j.test (jump? s.holder c) a rest j.results

abbrev pub handle_if_statement_moves : Context → (Stmts → Stmts → Stmts) → (Stmts → Stmts → List Move) → (Stmts → List Move) → Expr → Stmt
    → Alternate → Stmts → Stmts → List Move
handle_if_statement_moves s again again_moves more_moves t c a rest r =
    let w : Worked = worked_if_test s.sequences t r in
    worked_if_test_moves s.sequences t r
    ++ handle_if_after_test_moves s s.sequences again again_moves more_moves (value_or_void_0 w.target) c a rest w.results

-- one statement, with what its rule does to the results; then the others

abbrev pub minimize_statement_moves : Context → (Stmts → Stmts → Stmts) → (Stmts → Stmts → List Move) → (Stmts → List Move) → Stmt → Stmts
    → Stmts → List Move
minimize_statement_moves s again again_moves more_moves empty rest r = gives_statements 1 ++ then_rest_moves more_moves rest r
minimize_statement_moves s again again_moves more_moves (expression e) rest r =
    handle_expression_statement_moves s.sequences e r
    ++ then_rest_moves more_moves rest (handle_expression_statement s.sequences e r)
minimize_statement_moves s again again_moves more_moves (declaration k ds) rest r =
    handle_variable_declaration_moves s.join_vars k ds r
    ++ then_rest_moves more_moves rest (handle_variable_declaration s.join_vars k ds r)
minimize_statement_moves s again again_moves more_moves (return_of p) rest r =
    handle_return_statement_moves s.sequences s.host s.holder p r
    ++ then_rest_moves more_moves rest (handle_return_statement s.sequences s.host s.holder p r)
minimize_statement_moves s again again_moves more_moves (throw e) rest r =
    handle_throw_statement_moves s.sequences e r ++ then_rest_moves more_moves rest (handle_throw_statement s.sequences e r)
minimize_statement_moves s again again_moves more_moves (if_then t c a) rest r =
    handle_if_statement_moves s again again_moves more_moves t c a rest r
minimize_statement_moves s again again_moves more_moves (block ss) rest r =
    handle_block_moves ss ++ then_rest_moves more_moves rest (handle_block ss r)
minimize_statement_moves s again again_moves more_moves (while t b) rest r = then_rest_moves more_moves rest (stmt_then (while t b) r)
minimize_statement_moves s again again_moves more_moves (do_while b t) rest r = then_rest_moves more_moves rest (stmt_then (do_while b t) r)
minimize_statement_moves s again again_moves more_moves (for i t u b) rest r =
    handle_for_statement_moves s.sequences i r ++ then_rest_moves more_moves rest (handle_for_statement s.sequences i t u b r)
minimize_statement_moves s again again_moves more_moves (switch d cs) rest r =
    handle_switch_statement_moves s.sequences d cs r
    ++ then_rest_moves more_moves rest (handle_switch_statement s.sequences d cs r)
minimize_statement_moves s again again_moves more_moves break rest r = then_rest_moves more_moves rest (stmt_then break r)
minimize_statement_moves s again again_moves more_moves continue rest r = then_rest_moves more_moves rest (stmt_then continue r)

abbrev pub minimize_onto_with_moves : Context → (Stmts → Stmts → Stmts) → (Stmts → Stmts → List Move) → Stmts → Stmts → List Move
minimize_onto_with_moves s again again_moves no_stmts r = []
minimize_onto_with_moves s again again_moves (stmt_then x rest) r =
    minimize_statement_moves s again again_moves (λ r₁. minimize_onto_with_moves s again again_moves rest r₁) x rest r

abbrev pub minimize_onto_moves : ℕ → Context → Stmts → Stmts → List Move
minimize_onto_moves zero s todo r = minimize_onto_with_moves s push_all (λ todo₁ r₁. []) todo r
minimize_onto_moves (suc n) s todo r =
    minimize_onto_with_moves s (λ todo₁ r₁. minimize_onto n s todo₁ r₁) (λ todo₁ r₁. minimize_onto_moves n s todo₁ r₁) todo r

abbrev pub minimize_statements_moves : ℕ → Context → Stmts → List Move
minimize_statements_moves n s ss = minimize_onto_moves n s ss no_stmts ++ drop_last_jump_moves s.holder (minimize_onto n s ss no_stmts)

abbrev pub minimize_list_moves : Setting → Holder → Stmts → List Move
minimize_list_moves m h ss =
    minimize_statements_moves (jumps_list ss) (record { sequences = m.sequences; join_vars = m.join_vars; host = m.host; holder = h }) ss

-- inner lists before outer ones
abbrev mutual
  pub fuse_statement_moves : Setting → Holder → Stmt → List Move
  fuse_statement_moves m h empty = []
  fuse_statement_moves m h (expression e) = []
  fuse_statement_moves m h (declaration k ds) = []
  fuse_statement_moves m h (return_of p) = []
  fuse_statement_moves m h (throw e) = []
  fuse_statement_moves m h (if_then t c a) = fuse_statement_moves m other_list c ++ fuse_alternate_moves m a
  fuse_statement_moves m h (block ss) = fuse_list_moves m ss ++ minimize_list_moves m h (fuse_list m ss)
  fuse_statement_moves m h (while t b) = fuse_statement_moves m loop_block b
  fuse_statement_moves m h (do_while b t) = fuse_statement_moves m (do_while_holder (m.host.truth t)) b
  fuse_statement_moves m h (for i t u b) = fuse_statement_moves m loop_block b
  fuse_statement_moves m h (switch d cs) = fuse_cases_moves m cs
  fuse_statement_moves m h break = []
  fuse_statement_moves m h continue = []

  pub fuse_alternate_moves : Setting → Alternate → List Move
  fuse_alternate_moves m no_alternate = []
  fuse_alternate_moves m (alternate x) = fuse_statement_moves m other_list x

  pub fuse_list_moves : Setting → Stmts → List Move
  fuse_list_moves m no_stmts = []
  fuse_list_moves m (stmt_then x xs) = fuse_statement_moves m other_list x ++ fuse_list_moves m xs

  pub fuse_cases_moves : Setting → Cases → List Move
  fuse_cases_moves m no_cases = []
  fuse_cases_moves m (case_then p ss cs) =
      (fuse_list_moves m ss ++ minimize_list_moves m other_list (fuse_list m ss)) ++ fuse_cases_moves m cs

abbrev pub moves_of_fusing : Setting → Stmts → List Move
moves_of_fusing m body = fuse_list_moves m body ++ minimize_list_moves m body_list (fuse_list m body)
