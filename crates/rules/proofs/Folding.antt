-- The rule on an `if` in its list.
use Rattle.std.proofs.Common.{◌≡◌, ℕ, Bool, true, false, cond, not as negated, ◌&&◌, ◌||◌, T, List, [], ◌++◌, sym, refl, ap, ◌∙◌, subst, append_assoc, append-nil}
use Rattle.script.specs.declared.LogicalOperator.TheVariants.{Or}
use Rattle.script.specs.Tree.{Stmts, no_stmts, stmt_then, block, Expr, Stmt, Alternate, no_alternate, alternate, if_then, present}
use Rattle.script.specs.Tree.{OptionalExpr}
use Rattle.run.specs.Values.{to_boolean, Value, undefined}
use Rattle.run.specs.Environment.{among}
use Rattle.run.specs.Completion.{State, and_then, normal, branch}
use Rattle.run.specs.Evaluate.{evaluate, evaluate_optional}
use Rattle.run.specs.Names.{lexically_declared_list, var_declared_list, lexically_declared, var_declared, var_declared_alternate}
use Rattle.run.specs.Execute.{execute_list, execute, in_scope_of, Step, done, execute_alternate}
use Rattle.hosts.specs.Meaning.{Meaning, Lawful}
use Rattle.rules.specs.Holder.{Holder, settle}
use Rattle.rules.specs.Equal.{content_eq}
use Rattle.rules.specs.Expressions.{minimize_not, join_with_left_associative_op}
use Rattle.rules.specs.Statements.{statement_cares_about_scope, is_terminated, is_terminated_list, any_cares_about_scope}
use Rattle.rules.specs.Merging.{Worked, merge_leading_assignments_to_declaration, merge_last_expression_as, last_expression?}
use Rattle.rules.specs.Returns.{value_or_void_0}
use Rattle.rules.specs.Ifs.{branch?, try_minimize_if}
use Rattle.rules.specs.Jumps.{in_source_order, drop_last_jump, can_remove_termination_statement}
use Rattle.rules.specs.Folding.{one_stmt_or_block, without_needless_block, is_if, append_stmt, alternate_then_rest}
use Rattle.rules.specs.Folding.{alternate_cares_about_scope, minimized_tail, push_if, split_alternate, Context, Jump?, fold_rest, is_jump}
use Rattle.rules.specs.Folding.{ends_in_jump, no_jump, merge_same_as, LastIf?, merge_same_if, last_if, no_last_if, worked_if_test}
use Rattle.rules.specs.Results.{gather, results_then}
use Rattle.rules.proofs.Booleans.{or_right}
use Rattle.rules.proofs.Completions.{and_then_normal, and_then_assoc, and_then_cong, branch_and_then}
use Rattle.rules.proofs.Expressions.{join_with_left_associative_op_evaluates}
use Rattle.rules.proofs.Statements.{open_block, after_abrupt_any, terminated_is_abrupt, list_declares_nothing, results_then_cong, declares_nothing}
use Rattle.rules.proofs.Merging.{SameTarget, next_work_same, merge_last_same, merge_leading_assignments_same, evaluate_then}
use Rattle.rules.proofs.Returns.{value_or_void_0_evaluates}
use Rattle.rules.proofs.Names.{NamesOfList, next_work_names, merge_last_names, merge_leading_assignments_names, lexical_names_of_list}
use Rattle.rules.proofs.Names.{var_names_of_list}
use Rattle.rules.proofs.Ifs.{test_then, try_minimize_if_executes, test_minimize_not, test_then_cong}
use Rattle.rules.proofs.Holders.{Agree, agree_same, in_source_order_executes, ◌then◌, drop_last_jump_executes, in_source_order_lexical}
use Rattle.rules.proofs.Holders.{drop_last_jump_names, goes_unseen, in_source_order_var, agree_in_scope, append_stmt_executes, settle_last}
use Rattle.rules.proofs.Holders.{append_stmt_lexical, agree_results_then, agree_test, append_stmt_var}
use Rattle.rules.proofs.Membership.{among_right, among_append}
use Rattle.rules.proofs.Keeping.{Minimized, Minimizes, SameWork, Rest, minimized_via, keeps_same_work, then_rest_minimized}
use Rattle.rules.proofs.IfNames.{Declares, try_minimize_if_names}

-- a whole list, worked

pub record ListKept (h : Holder) (ss out : Stmts) : Type 0 where
  pub does : Agree h (execute_list out) (execute_list ss)
  pub lexical : lexically_declared_list out ≡ lexically_declared_list ss
  pub var : (n : ℕ) → among n (var_declared_list out) ≡ among n (var_declared_list ss)

pub list_kept : {h : Holder} (ss out : Stmts) → Minimized h ss no_stmts out
    → ListKept h ss (in_source_order (drop_last_jump h out) no_stmts)
list_kept {h} ss out o = record {
  does = agree_same (in_source_order_executes (drop_last_jump h out) no_stmts) then drop_last_jump_executes h out then o.does;
  lexical =
      in_source_order_lexical (drop_last_jump h out) no_stmts ∙ append-nil (gather lexically_declared (drop_last_jump h out))
      ∙ drop_last_jump_names lexically_declared h (λ x t. (goes_unseen h x t).no_lexical) out ∙ o.lexical;
  var = λ n.
      ap (among n) (in_source_order_var (drop_last_jump h out) no_stmts ∙ append-nil (gather var_declared (drop_last_jump h out))
      ∙ drop_last_jump_names var_declared h (λ x t. (goes_unseen h x t).no_var) out)
      ∙ o.var n;
}

one_stmt_or_block_executes : (ss : Stmts) → lexically_declared_list ss ≡ [] → (s : State)
    → execute (one_stmt_or_block ss) s ≡ execute_list ss s
one_stmt_or_block_executes no_stmts e s = refl
one_stmt_or_block_executes (stmt_then x no_stmts) e s = sym (and_then_normal (execute x s))
one_stmt_or_block_executes (stmt_then x (stmt_then y ys)) e s =
    ap (λ l. in_scope_of l (λ s₁. execute_list (stmt_then x (stmt_then y ys)) s₁) s) e

one_stmt_or_block_var : (ss : Stmts) → var_declared (one_stmt_or_block ss) ≡ var_declared_list ss
one_stmt_or_block_var no_stmts = refl
one_stmt_or_block_var (stmt_then x no_stmts) = sym (append-nil (var_declared x))
one_stmt_or_block_var (stmt_then x (stmt_then y ys)) = refl

without_needless_block_executes : (ss : Stmts) (s : State) → execute (without_needless_block ss) s ≡ execute (block ss) s
without_needless_block_executes no_stmts s = refl
without_needless_block_executes (stmt_then x no_stmts) s = by (is_if (branch? x) || statement_cares_about_scope x) refl
  where
    by : (b : Bool) → is_if (branch? x) || statement_cares_about_scope x ≡ b
        → execute (cond b (block (stmt_then x no_stmts)) x) s ≡ execute (block (stmt_then x no_stmts)) s
    by true e = refl
    by false e =
        sym (open_block (stmt_then x no_stmts) (ap (λ c. c || false) (or_right (is_if (branch? x)) (statement_cares_about_scope x) e)) s
        ∙ and_then_normal (execute x s))
without_needless_block_executes (stmt_then x (stmt_then y ys)) s = refl

without_needless_block_var : (ss : Stmts) → var_declared (without_needless_block ss) ≡ var_declared_list ss
without_needless_block_var no_stmts = refl
without_needless_block_var (stmt_then x no_stmts) = by (is_if (branch? x) || statement_cares_about_scope x)
  where
    by : (b : Bool) → var_declared (cond b (block (stmt_then x no_stmts)) x) ≡ var_declared x ++ []
    by true = refl
    by false = sym (append-nil (var_declared x))
without_needless_block_var (stmt_then x (stmt_then y ys)) = refl

pub test_then_and_then : (t : Expr) (f g k : Step) (s : State)
    → and_then (test_then t f g s) (λ _ s₁. k s₁)
    ≡ test_then t (λ s₁. and_then (f s₁) (λ _ s₂. k s₂)) (λ s₁. and_then (g s₁) (λ _ s₂. k s₂)) s
test_then_and_then t f g k s =
    and_then_assoc (evaluate t s) _ _ ∙ and_then_cong (evaluate t s) (λ v s₁. branch_and_then (to_boolean v) f g s₁ (λ _ s₂. k s₂))

-- a jump that may go, or a list that ends in one

or_T : (a b : Bool) → T b → T (a || b)
or_T true b t = tt
or_T false b t = t

append_stmt_terminated : (ys : Stmts) (x : Stmt) → T (is_terminated x) → T (is_terminated_list (append_stmt ys x))
append_stmt_terminated no_stmts x t = left (is_terminated x) t
  where
    left : (a : Bool) → T a → T (a || false)
    left true t = tt
    left false t = t
append_stmt_terminated (stmt_then y ys) x t = or_T (is_terminated y) (is_terminated_list (append_stmt ys x)) (append_stmt_terminated ys x t)

-- what follows a terminated statement may be left out
terminated_alone : (x : Stmt) → T (is_terminated x) → (k : Step) (s : State) → and_then (execute x s) (λ _ s₁. k s₁) ≡ execute x s
terminated_alone x t k s =
    after_abrupt_any (execute x s) (λ _ s₁. k s₁) (λ a s₁. normal a s₁) (terminated_is_abrupt x t s) ∙ and_then_normal (execute x s)

jump_agrees : (h : Holder) (x : Stmt) → T (can_remove_termination_statement h x) → (k : Step)
    → Agree h done (λ s. and_then (execute x s) (λ _ s₁. k s₁))
jump_agrees h x t k =
    record { at = λ s. sym (ap (settle h) (terminated_alone x (goes_unseen h x t).stops k s) ∙ (goes_unseen h x t).ends s) }

block_agrees : (h : Holder) (ys : Stmts) (x : Stmt) → T (can_remove_termination_statement h x) → (k : Step)
    → Agree h (execute (block ys)) (λ s. and_then (execute (block (append_stmt ys x)) s) (λ _ s₁. k s₁))
block_agrees h ys x t k =
    agree_in_scope h (lexically_declared_list ys)
    (record {
      at = λ s. sym
          (ap (settle h) (append_stmt_executes ys x s) ∙ settle_last h (execute_list ys s) (execute x) (goes_unseen h x t).ends);
    })
    then agree_same (λ s.
    ap (λ l. in_scope_of l (λ s₁. execute_list (append_stmt ys x) s₁) s)
    (sym (append_stmt_lexical ys x ∙ ap (λ l. lexically_declared_list ys ++ l) (goes_unseen h x t).no_lexical
    ∙ append-nil (lexically_declared_list ys)))
    ∙ sym (terminated_alone (block (append_stmt ys x)) (append_stmt_terminated ys x (goes_unseen h x t).stops) k s))

alternate_then_rest_executes : (a : Alternate) (rest : Stmts) (s : State)
    → execute_list (alternate_then_rest a rest) s ≡ and_then (execute_alternate a s) (λ _ s₁. execute_list rest s₁)
alternate_then_rest_executes no_alternate rest s = refl
alternate_then_rest_executes (alternate x) rest s = refl

alternate_then_rest_var : (a : Alternate) (rest : Stmts)
    → var_declared_list (alternate_then_rest a rest) ≡ var_declared_alternate a ++ var_declared_list rest
alternate_then_rest_var no_alternate rest = refl
alternate_then_rest_var (alternate x) rest = refl

pub alternate_then_rest_declares_nothing : (a : Alternate) (rest : Stmts)
    → alternate_cares_about_scope a || any_cares_about_scope rest ≡ false → lexically_declared_list (alternate_then_rest a rest) ≡ []
alternate_then_rest_declares_nothing no_alternate rest e = list_declares_nothing rest e
alternate_then_rest_declares_nothing (alternate x) rest e = list_declares_nothing (stmt_then x rest) e

module _ (host : Meaning) (law : Lawful host) {h : Holder} (again : Stmts → Stmts → Stmts) (w : Minimizes h again) where
  tail_kept : (a : Alternate) (rest : Stmts)
      → ListKept h (alternate_then_rest a rest) (in_source_order (drop_last_jump h (again (alternate_then_rest a rest) no_stmts)) no_stmts)
  tail_kept a rest =
      list_kept (alternate_then_rest a rest) (again (alternate_then_rest a rest) no_stmts) (w (alternate_then_rest a rest) no_stmts)

  tail_executes : (a : Alternate) (rest : Stmts) → alternate_cares_about_scope a || any_cares_about_scope rest ≡ false
      → Agree h (execute (minimized_tail h again a rest)) (λ s. and_then (execute_alternate a s) (λ _ s₁. execute_list rest s₁))
  tail_executes a rest e =
      agree_same (one_stmt_or_block_executes (in_source_order (drop_last_jump h (again (alternate_then_rest a rest) no_stmts)) no_stmts)
      ((tail_kept a rest).lexical ∙ alternate_then_rest_declares_nothing a rest e))
      then (tail_kept a rest).does
      then agree_same (alternate_then_rest_executes a rest)

  tail_var : (a : Alternate) (rest : Stmts) (n : ℕ)
      → among n (var_declared (minimized_tail h again a rest)) ≡ among n (var_declared_alternate a ++ var_declared_list rest)
  tail_var a rest n =
      ap (among n) (one_stmt_or_block_var (in_source_order (drop_last_jump h (again (alternate_then_rest a rest) no_stmts)) no_stmts))
      ∙ (tail_kept a rest).var n
      ∙ ap (among n) (alternate_then_rest_var a rest)

  fold_jump : (t : Expr) (x : Stmt) → T (can_remove_termination_statement h x) → (a : Alternate) (rest r : Stmts)
      → alternate_cares_about_scope a || any_cares_about_scope rest ≡ false
      → SameWork h (stmt_then (try_minimize_if host (minimize_not t) (minimized_tail h again a rest) no_alternate) no_stmts) r
      (stmt_then (if_then t x a) rest) r
  fold_jump t x p a rest r e =
      let A : Stmt = minimized_tail h again a rest in
      let X : Stmt = try_minimize_if host (minimize_not t) A no_alternate in
      let N : Declares X (var_declared A ++ []) = try_minimize_if_names host (minimize_not t) A no_alternate in
      record {
        does = agree_results_then h r (
            agree_same (λ s. and_then_normal (execute X s) ∙ try_minimize_if_executes host law (minimize_not t) A no_alternate s
            ∙ test_minimize_not t (execute A) done s)
            then agree_test h t (jump_agrees h x p (execute_list rest)) (tail_executes a rest e)
            then agree_same (λ s. sym (test_then_and_then t (execute x) (execute_alternate a) (execute_list rest) s)));
        lexical = ap (λ l. gather lexically_declared r ++ l)
            (ap (λ l. l ++ []) N.lexical
            ∙ sym (list_declares_nothing rest (or_right (alternate_cares_about_scope a) (any_cares_about_scope rest) e)));
        var = λ n. among_right n (gather var_declared r) (var_declared X ++ [])
            ((var_declared x ++ var_declared_alternate a) ++ var_declared_list rest)
            (ap (among n) (append-nil (var_declared X)) ∙ N.var n ∙ ap (among n) (append-nil (var_declared A)) ∙ tail_var a rest n
            ∙ sym (ap (λ l. among n ((l ++ var_declared_alternate a) ++ var_declared_list rest)) (goes_unseen h x p).no_var));
      }

  fold_end : (t : Expr) (ys : Stmts) (x : Stmt) → T (can_remove_termination_statement h x) → (a : Alternate) (rest r : Stmts)
      → alternate_cares_about_scope a || any_cares_about_scope rest ≡ false
      → SameWork h (stmt_then (try_minimize_if host t (without_needless_block ys) (alternate (minimized_tail h again a rest))) no_stmts) r
      (stmt_then (if_then t (block (append_stmt ys x)) a) rest) r
  fold_end t ys x p a rest r e =
      let A : Stmt = minimized_tail h again a rest in
      let X : Stmt = try_minimize_if host t (without_needless_block ys) (alternate A) in
      let N : Declares X (var_declared (without_needless_block ys) ++ var_declared A) =
      try_minimize_if_names host t (without_needless_block ys) (alternate A) in
      record {
        does = agree_results_then h r (
            agree_same (λ s. and_then_normal (execute X s) ∙ try_minimize_if_executes host law t (without_needless_block ys) (alternate A) s)
            then agree_test h t (agree_same (without_needless_block_executes ys) then block_agrees h ys x p (execute_list rest))
            (tail_executes a rest e)
            then agree_same
            (λ s. sym (test_then_and_then t (execute (block (append_stmt ys x))) (execute_alternate a) (execute_list rest) s)));
        lexical = ap (λ l. gather lexically_declared r ++ l)
            (ap (λ l. l ++ []) N.lexical
            ∙ sym (list_declares_nothing rest (or_right (alternate_cares_about_scope a) (any_cares_about_scope rest) e)));
        var = λ n. among_right n (gather var_declared r) (var_declared X ++ [])
            ((var_declared_list (append_stmt ys x) ++ var_declared_alternate a) ++ var_declared_list rest)
            (ap (among n) (append-nil (var_declared X)) ∙ N.var n
            ∙ ap (λ l. among n (l ++ var_declared A)) (without_needless_block_var ys)
            ∙ among_right n (var_declared_list ys) (var_declared A) (var_declared_alternate a ++ var_declared_list rest) (tail_var a rest n)
            ∙ ap (among n) (sym (append_assoc (var_declared_list ys) (var_declared_alternate a) (var_declared_list rest)))
            ∙ sym (ap (λ l. among n ((l ++ var_declared_alternate a) ++ var_declared_list rest))
            (append_stmt_var ys x ∙ ap (λ l. var_declared_list ys ++ l) (goes_unseen h x p).no_var ∙ append-nil (var_declared_list ys))));
      }

  -- `if (t) c else x` with c terminated is `if (t) c; x`

  pub push_if_minimized : (rest : Stmts) (more : Stmts → Stmts) → Rest h rest more → (t : Expr) (c : Stmt) (a : Alternate) (r : Stmts)
      → Minimized h (stmt_then (if_then t c a) rest) r (push_if more t c a rest r)
  push_if_minimized rest more v t c a r =
      minimized_via (keeps_same_work rest (record { same = λ f. refl; lexical = refl; var = refl }))
      (then_rest_minimized rest more v (stmt_then (if_then t c a) r))

  split_work : (t : Expr) (c x : Stmt) (rest r : Stmts) → T (is_terminated c) → statement_cares_about_scope x ≡ false
      → SameWork h (stmt_then x rest) (stmt_then (if_then t c no_alternate) r) (stmt_then (if_then t c (alternate x)) rest) r
  split_work t c x rest r p e = record {
    does = agree_same (λ s. ap (λ f. f s) (results_then_cong r (λ s₁.
        test_then_and_then t (execute c) done (execute_list (stmt_then x rest)) s₁
        ∙ test_then_cong t
        (λ s₂. terminated_alone c p (execute_list (stmt_then x rest)) s₂ ∙ sym (terminated_alone c p (execute_list rest) s₂))
        (λ s₂. refl) s₁
        ∙ sym (test_then_and_then t (execute c) (execute x) (execute_list rest) s₁))));
    lexical = ap (λ l. l ++ (lexically_declared x ++ lexically_declared_list rest)) (append-nil (gather lexically_declared r))
        ∙ ap (λ l. gather lexically_declared r ++ (l ++ lexically_declared_list rest)) (declares_nothing x e);
    var = λ n. ap (among n) (simp (append_assoc, append-nil));
  }

  split_alternate_as : (rest : Stmts) (more : Stmts → Stmts) → Rest h rest more → (b d : Bool) (t : Expr) (c x : Stmt) (r : Stmts)
      → (T b → T (is_terminated c)) → statement_cares_about_scope x ≡ d
      → Minimized h (stmt_then (if_then t c (alternate x)) rest) r
      (cond (b && negated d) (again (stmt_then x rest) (stmt_then (if_then t c no_alternate) r))
      (push_if more t c (alternate x) rest r))
  split_alternate_as rest more v true true t c x r p e = push_if_minimized rest more v t c (alternate x) r
  split_alternate_as rest more v true false t c x r p e =
      minimized_via (split_work t c x rest r (p tt) e) (w (stmt_then x rest) (stmt_then (if_then t c no_alternate) r))
  split_alternate_as rest more v false d t c x r p e = push_if_minimized rest more v t c (alternate x) r

  split_alternate_minimized : (rest : Stmts) (more : Stmts → Stmts) → Rest h rest more → (t : Expr) (c : Stmt) (a : Alternate) (r : Stmts)
      → Minimized h (stmt_then (if_then t c a) rest) r (split_alternate again more t c a rest r)
  split_alternate_minimized rest more v t c no_alternate r = push_if_minimized rest more v t c no_alternate r
  split_alternate_minimized rest more v t c (alternate x) r =
      split_alternate_as rest more v (is_terminated c) (statement_cares_about_scope x) t c x r (λ p. p) refl

  pub fold_rest_minimized : (rest : Stmts) (more : Stmts → Stmts) → Rest h rest more → (st : Context) → st.host ≡ host
      → (t : Expr) {c : Stmt} (k : Jump? h c) (a : Alternate) (r : Stmts)
      → Minimized h (stmt_then (if_then t c a) rest) r (fold_rest st again more t k a rest r)
  fold_rest_minimized rest more v st e t (is_jump x p) a r = by (alternate_cares_about_scope a || any_cares_about_scope rest) refl
    where
      by : (b : Bool) → alternate_cares_about_scope a || any_cares_about_scope rest ≡ b → Minimized h (stmt_then (if_then t x a) rest) r
          (cond b (split_alternate again more t x a rest r)
          (again (stmt_then (try_minimize_if st.host (minimize_not t) (minimized_tail h again a rest) no_alternate) no_stmts) r))
      by true d = split_alternate_minimized rest more v t x a r
      by false d = rw e
          (minimized_via (fold_jump t x p a rest r d)
          (w (stmt_then (try_minimize_if host (minimize_not t) (minimized_tail h again a rest) no_alternate) no_stmts) r))
  fold_rest_minimized rest more v st e t (ends_in_jump ys x p) a r = by (alternate_cares_about_scope a || any_cares_about_scope rest) refl
    where
      by : (b : Bool) → alternate_cares_about_scope a || any_cares_about_scope rest ≡ b
          → Minimized h (stmt_then (if_then t (block (append_stmt ys x)) a) rest) r
          (cond b (split_alternate again more t (block (append_stmt ys x)) a rest r)
          (again (stmt_then
          (try_minimize_if st.host t (without_needless_block ys) (alternate (minimized_tail h again a rest))) no_stmts) r))
      by true d = split_alternate_minimized rest more v t (block (append_stmt ys x)) a r
      by false d = rw e
          (minimized_via (fold_end t ys x p a rest r d)
          (w (stmt_then (try_minimize_if host t (without_needless_block ys) (alternate (minimized_tail h again a rest))) no_stmts) r))
  fold_rest_minimized rest more v st e t {c} no_jump a r = split_alternate_minimized rest more v t c a r

-- `if (a) JUMP; if (b) JUMP` is `if (a || b) JUMP`

join_or_test_branch : (b : Bool) (v : Value) → to_boolean v ≡ b → (t : Expr) (c : Stmt) (g : Step) → T (is_terminated c) → (s : State)
    → and_then (branch (negated b) (λ s₁. evaluate t s₁) (λ s₁. normal v s₁) s) (λ u s₁. branch (to_boolean u) (execute c) g s₁)
    ≡ branch b (λ s₁. and_then (execute c s₁) (λ _ s₂. test_then t (execute c) g s₂)) (λ s₁. test_then t (execute c) g s₁) s
join_or_test_branch true v e t c g p s = ap (λ b. branch b (execute c) g s) e ∙ sym (terminated_alone c p (test_then t (execute c) g) s)
join_or_test_branch false v e t c g p s = refl

join_or_test : (t₀ t : Expr) (c : Stmt) (g : Step) → T (is_terminated c) → (s : State)
    → test_then (join_with_left_associative_op Or t₀ t) (execute c) g s
    ≡ and_then (test_then t₀ (execute c) done s) (λ _ s₁. test_then t (execute c) g s₁)
join_or_test t₀ t c g p s =
    ap (λ r. and_then r (λ u s₁. branch (to_boolean u) (execute c) g s₁)) (join_with_left_associative_op_evaluates Or t₀ t s)
    ∙ and_then_assoc (evaluate t₀ s) _ _
    ∙ and_then_cong (evaluate t₀ s) (λ v s₁. join_or_test_branch (to_boolean v) v refl t c g p s₁)
    ∙ sym (test_then_and_then t₀ (execute c) done (test_then t (execute c) g) s)

same_refl : {h : Holder} {todo r : Stmts} → SameWork h todo r todo r
same_refl = record { does = agree_same (λ s. refl); lexical = refl; var = λ n. refl }

absorbed : (a c x y : Bool) → a || ((c || x) || y) ≡ (a || (c || false)) || ((c || x) || y)
absorbed true c x y = refl
absorbed false true x y = refl
absorbed false false x y = refl

merge_same_or : {h : Holder} (t t₀ : Expr) (c : Stmt) (a : Alternate) (rest r : Stmts) → T (is_terminated c)
    → SameWork h (stmt_then (if_then (join_with_left_associative_op Or t₀ t) c a) rest) r (stmt_then (if_then t c a) rest)
    (stmt_then (if_then t₀ c no_alternate) r)
merge_same_or t t₀ c a rest r p = record {
  does = agree_same (λ s. ap (λ f. f s) (results_then_cong r (λ s₁.
      ap (λ x. and_then x (λ _ s₂. execute_list rest s₂)) (join_or_test t₀ t c (execute_alternate a) p s₁)
      ∙ and_then_assoc (test_then t₀ (execute c) done s₁) _ _)));
  lexical = ap (λ l. l ++ lexically_declared_list rest) (sym (append-nil (gather lexically_declared r)));
  var = λ n. simp among_append
      (absorbed (among n (gather var_declared r)) (among n (var_declared c)) (among n (var_declared_alternate a))
      (among n (var_declared_list rest)));
}

merge_same_as_work : {h : Holder} {c₀ c : Stmt} (d : Dec (c₀ ≡ c)) (b : Bool) → (T b → T (is_terminated c))
    → (t t₀ : Expr) (a : Alternate) (rest r : Stmts)
    → SameWork h (stmt_then (if_then (merge_same_as d b t t₀ r).test c a) rest) (merge_same_as d b t t₀ r).results
    (stmt_then (if_then t c a) rest) (stmt_then (if_then t₀ c₀ no_alternate) r)
merge_same_as_work {h} {c₀} {c} (yes e) true p t t₀ a rest r =
    subst (λ (x : Stmt). SameWork h (stmt_then (if_then (join_with_left_associative_op Or t₀ t) c a) rest) r
    (stmt_then (if_then t c a) rest) (stmt_then (if_then t₀ x no_alternate) r))
    (sym e) (merge_same_or t t₀ c a rest r (p tt))
merge_same_as_work (yes e) false p t t₀ a rest r = same_refl
merge_same_as_work (no e) b p t t₀ a rest r = same_refl

pub merge_same_if_work : {h : Holder} (t : Expr) (c : Stmt) {r : Stmts} (v : LastIf? r) (a : Alternate) (rest : Stmts)
    → SameWork h (stmt_then (if_then (merge_same_if t c v).test c a) rest) (merge_same_if t c v).results
    (stmt_then (if_then t c a) rest) r
merge_same_if_work t c (last_if t₀ c₀ r) a rest = merge_same_as_work (content_eq c₀ c) (is_terminated c) (λ p. p) t t₀ a rest r
merge_same_if_work t c no_last_if a rest = same_refl

-- the test of an `if`, with what goes into the statement before it

worked_if_test_same : (q : Bool) (t : Expr) (r : Stmts) → SameTarget false (worked_if_test q t r) (present t) r
worked_if_test_same q t r k z =
    let m : Worked = merge_leading_assignments_to_declaration false t r in
    next_work_same false m.target m.results (λ e r₁. merge_last_expression_as (last_expression? q r₁) e)
    (λ e r₁. merge_last_same (last_expression? q r₁) e) k z
    ∙ merge_leading_assignments_same false t r k z

worked_if_test_names : (g : Stmt → List ℕ) → NamesOfList g → (q : Bool) (t : Expr) (r : Stmts)
    → gather g (worked_if_test q t r).results ≡ gather g r
worked_if_test_names g N q t r =
    let m : Worked = merge_leading_assignments_to_declaration false t r in
    next_work_names g N m.target m.results (λ e r₁. merge_last_expression_as (last_expression? q r₁) e)
    (λ e r₁. merge_last_names g N (last_expression? q r₁) e)
    ∙ merge_leading_assignments_names g N false t r

if_value_or_void_0 : (p : OptionalExpr) (c : Stmt) (a : Alternate) (rest r : Stmts)
    → results_then r (execute_list (stmt_then (if_then (value_or_void_0 p) c a) rest))
    ≡ results_then r
    (evaluate_then p (λ v s₁. and_then (branch (to_boolean v) (execute c) (execute_alternate a) s₁) (λ _ s₂. execute_list rest s₂)))
if_value_or_void_0 p c a rest r = results_then_cong r (λ s.
    ap (λ x. and_then (and_then x (λ v s₁. branch (to_boolean v) (execute c) (execute_alternate a) s₁)) (λ _ s₂. execute_list rest s₂))
    (value_or_void_0_evaluates p s)
    ∙ and_then_assoc (evaluate_optional undefined p s) _ _)

pub worked_if_test_work : {h : Holder} (q : Bool) (t : Expr) (c : Stmt) (a : Alternate) (rest r : Stmts)
    → SameWork h (stmt_then (if_then (value_or_void_0 (worked_if_test q t r).target) c a) rest) (worked_if_test q t r).results
    (stmt_then (if_then t c a) rest) r
worked_if_test_work q t c a rest r = record {
  does = agree_same (λ s. ap (λ f. f s)
      (if_value_or_void_0 (worked_if_test q t r).target c a rest (worked_if_test q t r).results
      ∙ worked_if_test_same q t r
      (λ v s₁. and_then (branch (to_boolean v) (execute c) (execute_alternate a) s₁) (λ _ s₂. execute_list rest s₂)) (λ x. absurd x)
      ∙ sym (if_value_or_void_0 (present t) c a rest r)));
  lexical = ap (λ l. l ++ lexically_declared_list rest) (worked_if_test_names lexically_declared lexical_names_of_list q t r);
  var = λ n. ap (λ l. among n (l ++ var_declared_list (stmt_then (if_then t c a) rest)))
      (worked_if_test_names var_declared var_names_of_list q t r);
}
