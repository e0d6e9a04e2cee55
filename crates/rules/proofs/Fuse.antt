-- A fused body runs as before.
use Rattle.std.proofs.Common.{◌≡◌, ℕ, zero, suc, Bool, true, false, cond, List, [], ◌∷◌, ◌++◌, Some, None, Option, sym, refl, ap, ◌∙◌, ap₂}
use mathlib.Core.Path.{fun_ext}
use Rattle.script.specs.Tree.{Stmts, Expr, Stmt, empty, expression, declaration, return_of, throw, if_then, block, while, do_while, for}
use Rattle.script.specs.Tree.{switch, break, continue, no_stmts, stmt_then, Cases, no_cases, case_then, absent, present, Alternate}
use Rattle.script.specs.Tree.{no_alternate, alternate}
use Rattle.run.specs.Values.{Value, to_boolean, is_strictly_equal, undefined}
use Rattle.run.specs.Environment.{among, new_record, initialised, mutable, unbound}
use Rattle.run.specs.Completion.{Completion, normal, abrupt, State, Abrupt, returned, thrown, broke, continued, cut, and_then, branch}
use Rattle.run.specs.Evaluate.{evaluate, evaluate_optional}
use Rattle.run.specs.Names.{lexically_declared, lexically_declared_list, lexically_declared_cases, lexically_declared_init, var_declared}
use Rattle.run.specs.Names.{var_declared_init, var_declared_alternate, var_declared_list, var_declared_cases}
use Rattle.run.specs.Execute.{Step, after_body, done, repeat, spend_turn, test_then_repeat, default_place, select_case, execute_list}
use Rattle.run.specs.Execute.{execute, in_scope_of, start_loop, take_break, execute_alternate, execute_cases}
use Rattle.run.specs.Run.{ended}
use Rattle.hosts.specs.Meaning.{Lawful}
use Rattle.rules.specs.Holder.{settle, other_list, loop_block, once_block, Holder, body_list}
use Rattle.rules.specs.JumpCount.{jumps_list}
use Rattle.rules.specs.Fuse.{Setting, minimize_list, do_while_holder, fuse_statement, fuse_list, fuse_cases, fuse_alternate, fuse_body}
use Rattle.rules.specs.Laws.{FusingKeepsRuns, FusingKeepsNames}
use Rattle.rules.proofs.Completions.{and_then_cong}
use Rattle.rules.proofs.Ifs.{test_then_cong}
use Rattle.rules.proofs.Holders.{Agree, agree_same, ◌then◌, agree_in_scope}
use Rattle.rules.proofs.Membership.{among_left, among_right}
use Rattle.rules.proofs.Folding.{ListKept}
use Rattle.rules.proofs.Minimize.{minimize_statements_kept}

settle_other : (r : Completion (Unit {0})) → settle other_list r ≡ r
settle_other (normal a s) = refl
settle_other (abrupt j s) = refl

same_other : {f g : Step} → Agree other_list f g → (s : State) → f s ≡ g s
same_other {f} {g} p s = sym (settle_other (f s)) ∙ p.at s ∙ settle_other (g s)

-- a loop's body may differ in how it goes on to the next turn

after_body_settled_abrupt : (j : Abrupt) (s : State) (k : Step) → after_body (settle loop_block (abrupt j s)) k ≡ after_body (abrupt j s) k
after_body_settled_abrupt (returned v) s k = refl
after_body_settled_abrupt (thrown v) s k = refl
after_body_settled_abrupt broke s k = refl
after_body_settled_abrupt continued s k = refl
after_body_settled_abrupt cut s k = refl

after_body_settled : (r : Completion (Unit {0})) (k : Step) → after_body (settle loop_block r) k ≡ after_body r k
after_body_settled (normal a s) k = refl
after_body_settled (abrupt j s) k = after_body_settled_abrupt j s k

once_settled_abrupt : (j : Abrupt) (s : State) → settle once_block (abrupt j s) ≡ after_body (abrupt j s) done
once_settled_abrupt (returned v) s = refl
once_settled_abrupt (thrown v) s = refl
once_settled_abrupt broke s = refl
once_settled_abrupt continued s = refl
once_settled_abrupt cut s = refl

once_settled : (r : Completion (Unit {0})) → settle once_block r ≡ after_body r done
once_settled (normal a s) = refl
once_settled (abrupt j s) = once_settled_abrupt j s

-- how a body is used: k is what comes between it and the next turn
abbrev Fits : Holder → Step → Type 0
Fits body_list k = ⊥
Fits other_list k = Unit {0}
Fits loop_block k = Unit {0}
Fits once_block k = (s : State) → k s ≡ done s

after_body_agree : (h : Holder) {f g : Step} → Agree h f g → (k : Step) → Fits h k → (s : State) → after_body (f s) k ≡ after_body (g s) k
after_body_agree body_list p k t s = absurd t
after_body_agree other_list p k t s = ap (λ r. after_body r k) (same_other p s)
after_body_agree loop_block {f} {g} p k t s =
    sym (after_body_settled (f s) k) ∙ ap (λ r. after_body r k) (p.at s) ∙ after_body_settled (g s) k
after_body_agree once_block {f} {g} p k t s =
    ap (after_body (f s)) (fun_ext t) ∙ sym (once_settled (f s)) ∙ p.at s ∙ once_settled (g s) ∙ sym (ap (after_body (g s)) (fun_ext t))

abbrev onward : (State → Completion Value) → Step → Step → Step
onward t step next s = and_then (step s) (λ _ s₁. and_then (t s₁) (λ v s₂. branch (to_boolean v) next done s₂))

repeat_agree : (h : Holder) (t : State → Completion Value) {f g : Step} (step : Step) → Agree h f g
    → ((next : Step) → Fits h (onward t step next)) → (n : ℕ)
    → repeat n t f step ≡ repeat n t g step
repeat_agree h t step p fits zero = refl
repeat_agree h t {f} {g} step p fits (suc n) = fun_ext (λ s. ap (λ x. spend_turn s.turns x s) (fun_ext (λ s₁.
    ap (λ x. after_body (f s₁) (onward t step x)) (repeat_agree h t step p fits n)
    ∙ after_body_agree h p (onward t step (repeat n t g step)) (fits (repeat n t g step)) s₁)))

test_then_repeat_agree : (t : State → Completion Value) {f g : Step} (step : Step) → Agree loop_block f g → (s : State)
    → test_then_repeat t f step s ≡ test_then_repeat t g step s
test_then_repeat_agree t {f} {g} step p s = and_then_cong (t s) (λ v s₁. by (to_boolean v) s₁)
  where
    by : (b : Bool) (s₁ : State)
        → branch b (λ s₂. repeat s₂.turns t f step s₂) done s₁ ≡ branch b (λ s₂. repeat s₂.turns t g step s₂) done s₁
    by true s₁ = ap (λ x. x s₁) (repeat_agree loop_block t step p (λ _. tt) s₁.turns)
    by false s₁ = refl

module _ (m : Setting) (law : Lawful m.host) where
  minimize_list_kept : (h : Holder) (ss : Stmts) → ListKept h ss (minimize_list m h ss)
  minimize_list_kept h ss =
      minimize_statements_kept (record { sequences = m.sequences; join_vars = m.join_vars; host = m.host; holder = h }) law
      (jumps_list ss) ss

  -- a do-while whose test is known to be false runs once
  once_fits : (t : Expr) (o : Option Bool) → m.host.truth t ≡ o → (next : Step)
      → Fits (do_while_holder o) (onward (λ s. evaluate t s) done next)
  once_fits t None e next = tt
  once_fits t (Some true) e next = tt
  once_fits t (Some false) e next = λ s.
      let h = law.truth_law t false e s in
      ap (λ r. and_then r (λ v s₂. branch (to_boolean v) next done s₂)) h.1 ∙ ap (λ b. branch b next done s) h.2

  fuse_statement_lexical : (h : Holder) (x : Stmt) → lexically_declared (fuse_statement m h x) ≡ lexically_declared x
  fuse_statement_lexical h empty = refl
  fuse_statement_lexical h (expression e) = refl
  fuse_statement_lexical h (declaration k ds) = refl
  fuse_statement_lexical h (return_of p) = refl
  fuse_statement_lexical h (throw e) = refl
  fuse_statement_lexical h (if_then t c a) = refl
  fuse_statement_lexical h (block ss) = refl
  fuse_statement_lexical h (while t b) = refl
  fuse_statement_lexical h (do_while b t) = refl
  fuse_statement_lexical h (for i t u b) = refl
  fuse_statement_lexical h (switch d cs) = refl
  fuse_statement_lexical h break = refl
  fuse_statement_lexical h continue = refl

  fuse_list_lexical : (ss : Stmts) → lexically_declared_list (fuse_list m ss) ≡ lexically_declared_list ss
  fuse_list_lexical no_stmts = refl
  fuse_list_lexical (stmt_then x xs) = ap₂ (λ a b. a ++ b) (fuse_statement_lexical other_list x) (fuse_list_lexical xs)

  minimize_list_lexical : (h : Holder) (ss : Stmts)
      → lexically_declared_list (minimize_list m h (fuse_list m ss)) ≡ lexically_declared_list ss
  minimize_list_lexical h ss = (minimize_list_kept h (fuse_list m ss)).lexical ∙ fuse_list_lexical ss

  fuse_cases_lexical : (cs : Cases) → lexically_declared_cases (fuse_cases m cs) ≡ lexically_declared_cases cs
  fuse_cases_lexical no_cases = refl
  fuse_cases_lexical (case_then p ss cs) = ap₂ (λ a b. a ++ b) (minimize_list_lexical other_list ss) (fuse_cases_lexical cs)

  fuse_default : (cs : Cases) → default_place (fuse_cases m cs) ≡ default_place cs
  fuse_default no_cases = refl
  fuse_default (case_then absent ss cs) = refl
  fuse_default (case_then (present e) ss cs) = ap suc (fuse_default cs)

  fuse_select_case : (cs : Cases) (v : Value) (i d : ℕ) (s : State) → select_case (fuse_cases m cs) v i d s ≡ select_case cs v i d s
  fuse_select_case no_cases v i d s = refl
  fuse_select_case (case_then absent ss cs) v i d s = fuse_select_case cs v (suc i) d s
  fuse_select_case (case_then (present e) ss cs) v i d s =
      and_then_cong (evaluate e s)
      (λ u s₁. ap (λ f. branch (is_strictly_equal v u) (λ s₂. normal i s₂) f s₁) (fun_ext (fuse_select_case cs v (suc i) d)))

  block_agree : (h : Holder) (ss : Stmts) → ((s : State) → execute_list (fuse_list m ss) s ≡ execute_list ss s)
      → Agree h (execute (block (minimize_list m h (fuse_list m ss)))) (execute (block ss))
  block_agree h ss p =
      agree_same (λ s. ap (λ l. in_scope_of l (λ s₁. execute_list (minimize_list m h (fuse_list m ss)) s₁) s) (minimize_list_lexical h ss))
      then agree_in_scope h (lexically_declared_list ss) ((minimize_list_kept h (fuse_list m ss)).does then agree_same p)

  mutual
    fuse_statement_executes : (x : Stmt) (h : Holder) → Agree h (execute (fuse_statement m h x)) (execute x)
    fuse_statement_executes empty h = agree_same (λ s. refl)
    fuse_statement_executes (expression e) h = agree_same (λ s. refl)
    fuse_statement_executes (declaration k ds) h = agree_same (λ s. refl)
    fuse_statement_executes (return_of p) h = agree_same (λ s. refl)
    fuse_statement_executes (throw e) h = agree_same (λ s. refl)
    fuse_statement_executes (if_then t c a) h =
        agree_same (test_then_cong t (same_other (fuse_statement_executes c other_list)) (fuse_alternate_executes a))
    fuse_statement_executes (block ss) h = block_agree h ss (fuse_list_executes ss)
    fuse_statement_executes (while t b) h =
        agree_same (test_then_repeat_agree (λ s. evaluate t s) done (fuse_statement_executes b loop_block))
    fuse_statement_executes (do_while b t) h =
        agree_same (λ s. ap (λ f. f s)
        (repeat_agree (do_while_holder (m.host.truth t)) (λ s₁. evaluate t s₁) done
        (fuse_statement_executes b (do_while_holder (m.host.truth t)))
        (once_fits t (m.host.truth t) refl) s.turns))
    fuse_statement_executes (for i t u b) h =
        agree_same (λ s. ap (λ f. in_scope_of (lexically_declared_init i) (λ s₁. and_then (start_loop i s₁) (λ _ s₂. f s₂)) s)
        (fun_ext (test_then_repeat_agree (λ s₃. evaluate_optional _ t s₃)
        (λ s₃. and_then (evaluate_optional _ u s₃) (λ _ s₄. normal tt s₄)) (fuse_statement_executes b loop_block))))
    fuse_statement_executes (switch d cs) h =
        agree_same (λ s. and_then_cong (evaluate d s) (λ v s₁. λ i. take_break (in_scope_of (fuse_cases_lexical cs i)
        (λ s₂. and_then
        ((ap (λ k. select_case (fuse_cases m cs) v 0 k s₂) (fuse_default cs) ∙ fuse_select_case cs v 0 (default_place cs) s₂) i)
        (λ k s₃. fuse_cases_executes cs k s₃ i)) s₁)))
    fuse_statement_executes break h = agree_same (λ s. refl)
    fuse_statement_executes continue h = agree_same (λ s. refl)

    fuse_alternate_executes : (a : Alternate) (s : State) → execute_alternate (fuse_alternate m a) s ≡ execute_alternate a s
    fuse_alternate_executes no_alternate s = refl
    fuse_alternate_executes (alternate x) s = same_other (fuse_statement_executes x other_list) s

    fuse_list_executes : (ss : Stmts) (s : State) → execute_list (fuse_list m ss) s ≡ execute_list ss s
    fuse_list_executes no_stmts s = refl
    fuse_list_executes (stmt_then x xs) s =
        ap (λ r. and_then r (λ _ s₁. execute_list (fuse_list m xs) s₁)) (same_other (fuse_statement_executes x other_list) s)
        ∙ and_then_cong (execute x s) (λ _ s₁. fuse_list_executes xs s₁)

    fuse_cases_executes : (cs : Cases) (k : ℕ) (s : State) → execute_cases (fuse_cases m cs) k s ≡ execute_cases cs k s
    fuse_cases_executes no_cases k s = refl
    fuse_cases_executes (case_then p ss cs) zero s =
        ap (λ r. and_then r (λ _ s₁. execute_cases (fuse_cases m cs) zero s₁))
        (same_other (minimize_list_kept other_list (fuse_list m ss)).does s ∙ fuse_list_executes ss s)
        ∙ and_then_cong (execute_list ss s) (λ _ s₁. fuse_cases_executes cs zero s₁)
    fuse_cases_executes (case_then p ss cs) (suc k) s = fuse_cases_executes cs k s

  -- var names

  both : (n : ℕ) (a a' b b' : List ℕ) → among n a ≡ among n a' → among n b ≡ among n b' → among n (a ++ b) ≡ among n (a' ++ b')
  both n a a' b b' p q = among_left n a a' b p ∙ among_right n a' b b' q

  mutual
    fuse_statement_var : (x : Stmt) (h : Holder) (n : ℕ) → among n (var_declared (fuse_statement m h x)) ≡ among n (var_declared x)
    fuse_statement_var empty h n = refl
    fuse_statement_var (expression e) h n = refl
    fuse_statement_var (declaration k ds) h n = refl
    fuse_statement_var (return_of p) h n = refl
    fuse_statement_var (throw e) h n = refl
    fuse_statement_var (if_then t c a) h n = both n _ _ _ _ (fuse_statement_var c other_list n) (fuse_alternate_var a n)
    fuse_statement_var (block ss) h n = (minimize_list_kept h (fuse_list m ss)).var n ∙ fuse_list_var ss n
    fuse_statement_var (while t b) h n = fuse_statement_var b loop_block n
    fuse_statement_var (do_while b t) h n = fuse_statement_var b (do_while_holder (m.host.truth t)) n
    fuse_statement_var (for i t u b) h n = among_right n (var_declared_init i) _ _ (fuse_statement_var b loop_block n)
    fuse_statement_var (switch d cs) h n = fuse_cases_var cs n
    fuse_statement_var break h n = refl
    fuse_statement_var continue h n = refl

    fuse_alternate_var : (a : Alternate) (n : ℕ)
        → among n (var_declared_alternate (fuse_alternate m a)) ≡ among n (var_declared_alternate a)
    fuse_alternate_var no_alternate n = refl
    fuse_alternate_var (alternate x) n = fuse_statement_var x other_list n

    fuse_list_var : (ss : Stmts) (n : ℕ) → among n (var_declared_list (fuse_list m ss)) ≡ among n (var_declared_list ss)
    fuse_list_var no_stmts n = refl
    fuse_list_var (stmt_then x xs) n = both n _ _ _ _ (fuse_statement_var x other_list n) (fuse_list_var xs n)

    fuse_cases_var : (cs : Cases) (n : ℕ) → among n (var_declared_cases (fuse_cases m cs)) ≡ among n (var_declared_cases cs)
    fuse_cases_var no_cases n = refl
    fuse_cases_var (case_then p ss cs) n =
        both n _ _ _ _ ((minimize_list_kept other_list (fuse_list m ss)).var n ∙ fuse_list_var ss n) (fuse_cases_var cs n)

ended_settled : (r : Completion (Unit {0})) → ended (settle body_list r) ≡ ended r
ended_settled (normal a s) = refl
ended_settled (abrupt j s) = refl

pub fusing_keeps_runs : FusingKeepsRuns
fusing_keeps_runs m law w turns body =
    let s : State =
    record {
      world = w;
      events = [];
      environment = new_record (initialised mutable undefined)
          (var_declared_list body) ∷ [];
      turns = turns;
    } in
    ap (λ c. ended (execute (block (fuse_body m body)) (record { world = w; events = []; environment = c ∷ []; turns = turns }))) scope_same
    ∙ sym (ended_settled (execute (block (fuse_body m body)) s))
    ∙ ap ended ((block_agree m law body_list body (fuse_list_executes m law body)).at s)
    ∙ ended_settled (execute (block body) s)
  where
    scope_same : new_record (initialised mutable undefined) (var_declared_list (fuse_body m body))
        ≡ new_record (initialised mutable undefined) (var_declared_list body)
    scope_same = fun_ext (λ n. ap (λ b. cond b (initialised mutable undefined) unbound)
        ((minimize_list_kept m law body_list (fuse_list m body)).var n ∙ fuse_list_var m law body n))

pub fusing_keeps_names : FusingKeepsNames
fusing_keeps_names m law h xs =
    (minimize_list_lexical m law h xs, λ n. (minimize_list_kept m law h (fuse_list m xs)).var n ∙ fuse_list_var m law xs n)
