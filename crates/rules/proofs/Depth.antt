-- A depth of the jumps of a list is enough: more gives the same.
use Rattle.std.proofs.Common.{◌≡◌, ℕ, zero, suc, ◌+◌, ◌≤◌, Bool, true, false, cond, not as negated, ◌&&◌, ◌||◌, T, refl, ap, ◌∙◌, arith}
use mathlib.Core.Path.{fun_ext}
use Rattle.script.specs.Tree.{Stmts, Alternate, no_stmts, Expr, Stmt, no_alternate, alternate, stmt_then, if_then, block, empty, expression}
use Rattle.script.specs.Tree.{declaration, return_of, throw, while, do_while, for, switch, break, continue}
use Rattle.rules.specs.Holder.{Holder}
use Rattle.rules.specs.Expressions.{minimize_not}
use Rattle.rules.specs.Statements.{is_terminated, statement_cares_about_scope, any_cares_about_scope, push_all}
use Rattle.rules.specs.Merging.{Worked}
use Rattle.rules.specs.Returns.{value_or_void_0}
use Rattle.rules.specs.Ifs.{try_minimize_if}
use Rattle.rules.specs.Jumps.{in_source_order, drop_last_jump}
use Rattle.rules.specs.Folding.{Context, minimized_tail, one_stmt_or_block, alternate_then_rest, split_alternate, push_if, Jump?, fold_rest}
use Rattle.rules.specs.Folding.{is_jump, alternate_cares_about_scope, ends_in_jump, append_stmt, without_needless_block, no_jump}
use Rattle.rules.specs.Folding.{handle_if_after_test, MergedTest, merge_same_if, last_if?, jump?, worked_if_test}
use Rattle.rules.specs.Minimize.{minimize_statement, minimize_onto_with, minimize_onto}
use Rattle.rules.specs.JumpCount.{jumps_list, jumps_alternate, jumps}
use Rattle.rules.specs.Laws.{DepthIsEnough}
use Rattle.rules.proofs.Holders.{goes_unseen}
use Rattle.rules.proofs.IfJumps.{alternate_then_rest_jumps, terminated_has_jump, append_stmt_jumps}
use Rattle.rules.proofs.NoMoreJumps.{NoMoreJumps, folded_jumps, folded_end_jumps, push_all_no_more_jumps, minimize_onto_jumps}

-- two ways to work a list that agree on all lists with fewer jumps than k
abbrev pub AgreeBelow : {A : Type 0} → ℕ → (Stmts → Stmts → A) → (Stmts → Stmts → A) → Type 0
AgreeBelow k again again' = (todo r : Stmts) → suc (jumps_list todo) ≤ k → again todo r ≡ again' todo r

pub both : {A : Type 0} (b : Bool) {xs xs' ys ys' : A} → xs ≡ xs' → ys ≡ ys' → cond b xs ys ≡ cond b xs' ys'
both b p q = λ i. cond b (p i) (q i)

module _ (st : Context) (again again' : Stmts → Stmts → Stmts) (j : NoMoreJumps again) (k : ℕ) (e : AgreeBelow k again again') where
  pub minimized_tail_same : (h : Holder) (a : Alternate) (rest : Stmts) → suc (jumps_alternate a + jumps_list rest) ≤ k
      → minimized_tail h again a rest ≡ minimized_tail h again' a rest
  minimized_tail_same h a rest b =
      ap (λ out. one_stmt_or_block (in_source_order (drop_last_jump h out) no_stmts))
      (e (alternate_then_rest a rest) no_stmts (let x = alternate_then_rest_jumps a rest in omega arith))

  split_alternate_same : (more : Stmts → Stmts) (t : Expr) (c : Stmt) (a : Alternate) (rest r : Stmts)
      → (jumps c + jumps_alternate a) + jumps_list rest ≤ k
      → split_alternate again more t c a rest r ≡ split_alternate again' more t c a rest r
  split_alternate_same more t c no_alternate rest r b = refl
  split_alternate_same more t c (alternate x) rest r b = by (is_terminated c) (λ z. terminated_has_jump c z)
    where
      by : (d : Bool) → (T d → 1 ≤ jumps c)
          → cond (d && negated (statement_cares_about_scope x))
          (again (stmt_then x rest) (stmt_then (if_then t c no_alternate) r)) (push_if more t c (alternate x) rest r)
          ≡ cond (d && negated (statement_cares_about_scope x))
          (again' (stmt_then x rest) (stmt_then (if_then t c no_alternate) r)) (push_if more t c (alternate x) rest r)
      by true f =
          both (negated (statement_cares_about_scope x))
          (e (stmt_then x rest) (stmt_then (if_then t c no_alternate) r) (let y = f tt in omega arith)) refl
      by false f = refl

  fold_rest_same : (more : Stmts → Stmts) {h : Holder} (t : Expr) {c : Stmt} (v : Jump? h c) (a : Alternate) (rest r : Stmts)
      → (jumps c + jumps_alternate a) + jumps_list rest ≤ k
      → fold_rest st again more t v a rest r ≡ fold_rest st again' more t v a rest r
  fold_rest_same more {h} t (is_jump x p) a rest r b =
      let one : 1 ≤ jumps x = terminated_has_jump x (goes_unseen h x p).stops in
      let X : Stmt → Stmt = λ A. try_minimize_if st.host (minimize_not t) A no_alternate in
      both (alternate_cares_about_scope a || any_cares_about_scope rest)
      (split_alternate_same more t x a rest r b)
      (e (stmt_then (X (minimized_tail h again a rest)) no_stmts) r
      (let y = folded_jumps st again j h (minimize_not t) a rest in omega arith)
      ∙ ap (λ A. again' (stmt_then (X A) no_stmts) r) (minimized_tail_same h a rest (omega arith)))
  fold_rest_same more {h} t (ends_in_jump ys x p) a rest r b =
      let one : 1 ≤ jumps x = terminated_has_jump x (goes_unseen h x p).stops in
      let all : jumps_list (append_stmt ys x) ≡ jumps_list ys + jumps x = append_stmt_jumps ys x in
      let X : Stmt → Stmt = λ A. try_minimize_if st.host t (without_needless_block ys) (alternate A) in
      both (alternate_cares_about_scope a || any_cares_about_scope rest)
      (split_alternate_same more t (block (append_stmt ys x)) a rest r b)
      (e (stmt_then (X (minimized_tail h again a rest)) no_stmts) r
      (let y = folded_end_jumps st again j h t ys a rest in omega arith)
      ∙ ap (λ A. again' (stmt_then (X A) no_stmts) r) (minimized_tail_same h a rest (omega arith)))
  fold_rest_same more t {c} no_jump a rest r b = split_alternate_same more t c a rest r b

  handle_if_after_test_same : (more : Stmts → Stmts) (q : Bool) (t : Expr) (c : Stmt) (a : Alternate) (rest r : Stmts)
      → (jumps c + jumps_alternate a) + jumps_list rest ≤ k
      → handle_if_after_test st q again more t c a rest r ≡ handle_if_after_test st q again' more t c a rest r
  handle_if_after_test_same more false t c a rest r b = refl
  handle_if_after_test_same more true t c a rest r b =
      let g : MergedTest = merge_same_if t c (last_if? r) in
      fold_rest_same more g.test (jump? st.holder c) a rest g.results b

  minimize_statement_same : (more : Stmts → Stmts) (x : Stmt) (rest r : Stmts) → jumps x + jumps_list rest ≤ k
      → minimize_statement st again more x rest r ≡ minimize_statement st again' more x rest r
  minimize_statement_same more empty rest r b = refl
  minimize_statement_same more (expression x) rest r b = refl
  minimize_statement_same more (declaration q ds) rest r b = refl
  minimize_statement_same more (return_of p) rest r b = refl
  minimize_statement_same more (throw x) rest r b = refl
  minimize_statement_same more (if_then t c a) rest r b =
      let w : Worked = worked_if_test st.sequences t r in
      handle_if_after_test_same more st.sequences (value_or_void_0 w.target) c a rest w.results b
  minimize_statement_same more (block ss) rest r b = refl
  minimize_statement_same more (while t x) rest r b = refl
  minimize_statement_same more (do_while x t) rest r b = refl
  minimize_statement_same more (for i t u x) rest r b = refl
  minimize_statement_same more (switch d cs) rest r b = refl
  minimize_statement_same more break rest r b = refl
  minimize_statement_same more continue rest r b = refl

  pub minimize_onto_with_same : (todo r : Stmts) → jumps_list todo ≤ k
      → minimize_onto_with st again todo r ≡ minimize_onto_with st again' todo r
  minimize_onto_with_same no_stmts r b = refl
  minimize_onto_with_same (stmt_then x rest) r b =
      minimize_statement_same (λ r₁. minimize_onto_with st again rest r₁) x rest r b
      ∙ ap (λ more. minimize_statement st again' more x rest r) (fun_ext (λ r₁. minimize_onto_with_same rest r₁ (omega arith)))

pub minimize_onto_same : (st : Context) (n m : ℕ) (todo r : Stmts) → jumps_list todo ≤ n → jumps_list todo ≤ m
    → minimize_onto n st todo r ≡ minimize_onto m st todo r
minimize_onto_same st zero zero todo r p q = refl
minimize_onto_same st zero (suc m) todo r p q =
    minimize_onto_with_same st (λ todo₁ r₁. push_all todo₁ r₁) (λ todo₁ r₁. minimize_onto m st todo₁ r₁) push_all_no_more_jumps
    0 (λ todo₁ r₁ h. absurd (omega arith)) todo r p
minimize_onto_same st (suc n) zero todo r p q =
    minimize_onto_with_same st (λ todo₁ r₁. minimize_onto n st todo₁ r₁) (λ todo₁ r₁. push_all todo₁ r₁) (minimize_onto_jumps st n)
    0 (λ todo₁ r₁ h. absurd (omega arith)) todo r q
minimize_onto_same st (suc n) (suc m) todo r p q =
    minimize_onto_with_same st (λ todo₁ r₁. minimize_onto n st todo₁ r₁) (λ todo₁ r₁. minimize_onto m st todo₁ r₁)
    (minimize_onto_jumps st n)
    (jumps_list todo) (λ todo₁ r₁ h. minimize_onto_same st n m todo₁ r₁ (omega arith) (omega arith)) todo r (omega arith)

pub depth_is_enough : DepthIsEnough
depth_is_enough st n xs h =
    ap (λ r. in_source_order (drop_last_jump st.holder r) no_stmts) (minimize_onto_same st n (jumps_list xs) xs no_stmts h (omega arith))
