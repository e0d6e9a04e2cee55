-- A depth of the jumps of a list is enough for the count of opened blocks too.
use Rattle.std.proofs.Common.{◌≡◌, ℕ, zero, suc, ◌+◌, ◌≤◌, Bool, true, false, cond, not as negated, ◌&&◌, ◌||◌, T, refl, ap, ◌∙◌, ap₂, arith}
use mathlib.Core.Path.{fun_ext}
use Rattle.script.specs.Tree.{Stmts, Alternate, no_stmts, Expr, Stmt, no_alternate, alternate, stmt_then, if_then, block, empty, expression}
use Rattle.script.specs.Tree.{declaration, return_of, throw, while, do_while, for, switch, break, continue}
use Rattle.rules.specs.Holder.{Holder}
use Rattle.rules.specs.Expressions.{minimize_not}
use Rattle.rules.specs.Statements.{is_terminated, statement_cares_about_scope, any_cares_about_scope, push_all}
use Rattle.rules.specs.Merging.{Worked}
use Rattle.rules.specs.Returns.{value_or_void_0}
use Rattle.rules.specs.Ifs.{try_minimize_if}
use Rattle.rules.specs.Folding.{Context, minimized_tail, alternate_then_rest, Jump?, is_jump, alternate_cares_about_scope, ends_in_jump}
use Rattle.rules.specs.Folding.{append_stmt, without_needless_block, no_jump, MergedTest, merge_same_if, last_if?, jump?, worked_if_test}
use Rattle.rules.specs.Minimize.{minimize_onto}
use Rattle.rules.specs.JumpCount.{jumps_list, jumps_alternate, jumps}
use Rattle.rules.specs.Opened.{opened_by_push_if, opened_by_split, opened_by_fold, opened_by_if_after_test, opened_by_statement}
use Rattle.rules.specs.Opened.{opened_onto_with, opened_onto}
use Rattle.rules.specs.Laws.{OpenedDepthIsEnough}
use Rattle.rules.proofs.Holders.{goes_unseen}
use Rattle.rules.proofs.IfJumps.{alternate_then_rest_jumps, terminated_has_jump, append_stmt_jumps}
use Rattle.rules.proofs.NoMoreJumps.{NoMoreJumps, folded_jumps, folded_end_jumps, push_all_no_more_jumps, minimize_onto_jumps}
use Rattle.rules.proofs.Depth.{AgreeBelow, both, minimized_tail_same, minimize_onto_same}

module _ (st : Context) (again again' : Stmts → Stmts → Stmts) (j : NoMoreJumps again) (k : ℕ) (e : AgreeBelow k again again')
    (opened opened' : Stmts → Stmts → ℕ) (d : AgreeBelow k opened opened') where
  opened_by_split_same : (more : Stmts → ℕ) (t : Expr) (c : Stmt) (a : Alternate) (rest r : Stmts)
      → (jumps c + jumps_alternate a) + jumps_list rest ≤ k
      → opened_by_split opened more t c a rest r ≡ opened_by_split opened' more t c a rest r
  opened_by_split_same more t c no_alternate rest r b = refl
  opened_by_split_same more t c (alternate x) rest r b = by (is_terminated c) (λ z. terminated_has_jump c z)
    where
      by : (y : Bool) → (T y → 1 ≤ jumps c)
          → cond (y && negated (statement_cares_about_scope x))
          (opened (stmt_then x rest) (stmt_then (if_then t c no_alternate) r)) (opened_by_push_if more t c (alternate x) rest r)
          ≡ cond (y && negated (statement_cares_about_scope x))
          (opened' (stmt_then x rest) (stmt_then (if_then t c no_alternate) r)) (opened_by_push_if more t c (alternate x) rest r)
      by true f =
          both (negated (statement_cares_about_scope x))
          (d (stmt_then x rest) (stmt_then (if_then t c no_alternate) r) (let y = f tt in omega arith)) refl
      by false f = refl

  -- the tail, then the statement that is folded from it
  folded_same : (h : Holder) (a : Alternate) (rest r : Stmts) (X : Stmt → Stmt) → suc (jumps_alternate a + jumps_list rest) ≤ k
      → suc (jumps (X (minimized_tail h again a rest))) ≤ k
      → opened (alternate_then_rest a rest) no_stmts + opened (stmt_then (X (minimized_tail h again a rest)) no_stmts) r
      ≡ opened' (alternate_then_rest a rest) no_stmts + opened' (stmt_then (X (minimized_tail h again' a rest)) no_stmts) r
  folded_same h a rest r X b f =
      ap₂ (λ m n. m + n)
      (d (alternate_then_rest a rest) no_stmts (let x = alternate_then_rest_jumps a rest in omega arith))
      (d (stmt_then (X (minimized_tail h again a rest)) no_stmts) r (omega arith)
      ∙ ap (λ A. opened' (stmt_then (X A) no_stmts) r) (minimized_tail_same st again again' j k e h a rest b))

  opened_by_fold_same : (more : Stmts → ℕ) {h : Holder} (t : Expr) {c : Stmt} (v : Jump? h c) (a : Alternate) (rest r : Stmts)
      → (jumps c + jumps_alternate a) + jumps_list rest ≤ k
      → opened_by_fold st again opened more t v a rest r ≡ opened_by_fold st again' opened' more t v a rest r
  opened_by_fold_same more {h} t (is_jump x p) a rest r b =
      let one : 1 ≤ jumps x = terminated_has_jump x (goes_unseen h x p).stops in
      both (alternate_cares_about_scope a || any_cares_about_scope rest)
      (opened_by_split_same more t x a rest r b)
      (folded_same h a rest r (λ A. try_minimize_if st.host (minimize_not t) A no_alternate) (omega arith)
      (let y = folded_jumps st again j h (minimize_not t) a rest in omega arith))
  opened_by_fold_same more {h} t (ends_in_jump ys x p) a rest r b =
      let one : 1 ≤ jumps x = terminated_has_jump x (goes_unseen h x p).stops in
      let all : jumps_list (append_stmt ys x) ≡ jumps_list ys + jumps x = append_stmt_jumps ys x in
      both (alternate_cares_about_scope a || any_cares_about_scope rest)
      (opened_by_split_same more t (block (append_stmt ys x)) a rest r b)
      (folded_same h a rest r (λ A. try_minimize_if st.host t (without_needless_block ys) (alternate A)) (omega arith)
      (let y = folded_end_jumps st again j h t ys a rest in omega arith))
  opened_by_fold_same more t {c} no_jump a rest r b = opened_by_split_same more t c a rest r b

  opened_by_if_after_test_same : (more : Stmts → ℕ) (q : Bool) (t : Expr) (c : Stmt) (a : Alternate) (rest r : Stmts)
      → (jumps c + jumps_alternate a) + jumps_list rest ≤ k
      → opened_by_if_after_test st q again opened more t c a rest r ≡ opened_by_if_after_test st q again' opened' more t c a rest r
  opened_by_if_after_test_same more false t c a rest r b = refl
  opened_by_if_after_test_same more true t c a rest r b =
      let g : MergedTest = merge_same_if t c (last_if? r) in
      opened_by_fold_same more g.test (jump? st.holder c) a rest g.results b

  opened_by_statement_same : (more : Stmts → ℕ) (x : Stmt) (rest r : Stmts) → jumps x + jumps_list rest ≤ k
      → opened_by_statement st again opened more x rest r ≡ opened_by_statement st again' opened' more x rest r
  opened_by_statement_same more empty rest r b = refl
  opened_by_statement_same more (expression x) rest r b = refl
  opened_by_statement_same more (declaration q ds) rest r b = refl
  opened_by_statement_same more (return_of p) rest r b = refl
  opened_by_statement_same more (throw x) rest r b = refl
  opened_by_statement_same more (if_then t c a) rest r b =
      let w : Worked = worked_if_test st.sequences t r in
      opened_by_if_after_test_same more st.sequences (value_or_void_0 w.target) c a rest w.results b
  opened_by_statement_same more (block ss) rest r b = refl
  opened_by_statement_same more (while t x) rest r b = refl
  opened_by_statement_same more (do_while x t) rest r b = refl
  opened_by_statement_same more (for i t u x) rest r b = refl
  opened_by_statement_same more (switch s cs) rest r b = refl
  opened_by_statement_same more break rest r b = refl
  opened_by_statement_same more continue rest r b = refl

  pub opened_onto_with_same : (todo r : Stmts) → jumps_list todo ≤ k
      → opened_onto_with st again opened todo r ≡ opened_onto_with st again' opened' todo r
  opened_onto_with_same no_stmts r b = refl
  opened_onto_with_same (stmt_then x rest) r b =
      opened_by_statement_same (λ r₁. opened_onto_with st again opened rest r₁) x rest r b
      ∙ ap (λ more. opened_by_statement st again' opened' more x rest r) (fun_ext (λ r₁. opened_onto_with_same rest r₁ (omega arith)))

pub opened_onto_same : (st : Context) (n m : ℕ) (todo r : Stmts) → jumps_list todo ≤ n → jumps_list todo ≤ m
    → opened_onto n st todo r ≡ opened_onto m st todo r
opened_onto_same st zero zero todo r p q = refl
opened_onto_same st zero (suc m) todo r p q =
    opened_onto_with_same st (λ todo₁ r₁. push_all todo₁ r₁) (λ todo₁ r₁. minimize_onto m st todo₁ r₁) push_all_no_more_jumps
    0 (λ todo₁ r₁ h. absurd (omega arith)) (λ todo₁ r₁. 0) (λ todo₁ r₁. opened_onto m st todo₁ r₁)
    (λ todo₁ r₁ h. absurd (omega arith)) todo r p
opened_onto_same st (suc n) zero todo r p q =
    opened_onto_with_same st (λ todo₁ r₁. minimize_onto n st todo₁ r₁) (λ todo₁ r₁. push_all todo₁ r₁) (minimize_onto_jumps st n)
    0 (λ todo₁ r₁ h. absurd (omega arith)) (λ todo₁ r₁. opened_onto n st todo₁ r₁) (λ todo₁ r₁. 0)
    (λ todo₁ r₁ h. absurd (omega arith)) todo r q
opened_onto_same st (suc n) (suc m) todo r p q =
    opened_onto_with_same st (λ todo₁ r₁. minimize_onto n st todo₁ r₁) (λ todo₁ r₁. minimize_onto m st todo₁ r₁)
    (minimize_onto_jumps st n) (jumps_list todo) (λ todo₁ r₁ h. minimize_onto_same st n m todo₁ r₁ (omega arith) (omega arith))
    (λ todo₁ r₁. opened_onto n st todo₁ r₁) (λ todo₁ r₁. opened_onto m st todo₁ r₁)
    (λ todo₁ r₁ h. opened_onto_same st n m todo₁ r₁ (omega arith) (omega arith)) todo r (omega arith)

pub opened_depth_is_enough : OpenedDepthIsEnough
opened_depth_is_enough st n xs h = opened_onto_same st n (jumps_list xs) xs no_stmts h (omega arith)
