-- Two steps that come to the same for the holder of a list.
use Rattle.std.proofs.Common.{◌≡◌, ℕ, Bool, true, false, cond, T, List, [], ◌∷◌, ◌++◌, sym, refl, ap, ◌∙◌, subst, append_assoc, append-nil}
use Rattle.script.specs.Tree.{Stmts, no_stmts, stmt_then, Expr, Stmt, OptionalExpr, return_of, absent, present, break, continue, empty}
use Rattle.script.specs.Tree.{expression, declaration, throw, if_then, block, while, do_while, for, switch}
use Rattle.run.specs.Values.{to_boolean}
use Rattle.run.specs.Environment.{new_record, uninitialised}
use Rattle.run.specs.Completion.{State, Completion, and_then, normal, abrupt, branch, Abrupt, with_environment, returned, thrown, broke}
use Rattle.run.specs.Completion.{continued, cut}
use Rattle.run.specs.Evaluate.{evaluate}
use Rattle.run.specs.Names.{lexically_declared, var_declared, lexically_declared_list, var_declared_list}
use Rattle.run.specs.Execute.{Step, execute, outer_environment, leave_record, in_scope_of, done, execute_list}
use Rattle.rules.specs.Holder.{Holder, settle, settle_end, settle_abrupt, body_list, other_list, loop_block, once_block}
use Rattle.rules.specs.Statements.{is_terminated}
use Rattle.rules.specs.Jumps.{drops_return_of, can_remove_termination_statement, drop_last_jump, in_source_order}
use Rattle.rules.specs.Folding.{append_stmt}
use Rattle.rules.specs.Results.{results_then, gather}
use Rattle.rules.proofs.Completions.{and_then_normal, and_then_cong, and_then_assoc}
use Rattle.rules.proofs.Ifs.{test_then}

pub record Agree (h : Holder) (f g : Step) : Type 0 where
  pub at : (s : State) → settle h (f s) ≡ settle h (g s)

pub agree_same : {h : Holder} {f g : Step} → ((s : State) → f s ≡ g s) → Agree h f g
agree_same {h} p = record { at = λ s. ap (settle h) (p s) }

infixr 30 ◌then◌
pub ◌then◌ : {h : Holder} {f g k : Step} → Agree h f g → Agree h g k → Agree h f k
p then q = record { at = λ s. p.at s ∙ q.at s }

pub settle_cong : (h : Holder) {A : Type 0} (r : Completion A) (k l : A → State → Completion (Unit {0}))
    → ((a : A) (s : State) → settle h (k a s) ≡ settle h (l a s))
    → settle h (and_then r k) ≡ settle h (and_then r l)
settle_cong h (normal a s) k l p = p a s
settle_cong h (abrupt j s) k l p = refl

-- what comes to the end of the list may be left out
pub settle_last : (h : Holder) (r : Completion (Unit {0})) (k : Step) → ((s : State) → settle h (k s) ≡ settle_end h s)
    → settle h (and_then r (λ _ s₁. k s₁)) ≡ settle h r
settle_last h (normal a s) k p = p s
settle_last h (abrupt j s) k p = refl

pub agree_results_then : (h : Holder) (r : Stmts) {f g : Step} → Agree h f g → Agree h (results_then r f) (results_then r g)
agree_results_then h no_stmts p = record { at = p.at }
agree_results_then h (stmt_then x r) p = agree_results_then h r (record { at = λ s₁. settle_cong h (execute x s₁) _ _ (λ _ s₂. p.at s₂) })

agree_branch : (h : Holder) (b : Bool) {f f' g g' : Step} → Agree h f f' → Agree h g g' → Agree h (branch b f g) (branch b f' g')
agree_branch h true p q = record { at = p.at }
agree_branch h false p q = record { at = q.at }

pub agree_test : (h : Holder) (t : Expr) {f f' g g' : Step} → Agree h f f' → Agree h g g' → Agree h (test_then t f g) (test_then t f' g')
agree_test h t p q = record { at = λ s. settle_cong h (evaluate t s) _ _ (λ v s₁. (agree_branch h (to_boolean v) p q).at s₁) }

leave_settle_abrupt : (h : Holder) (j : Abrupt) (s : State)
    → settle_abrupt h j (with_environment (outer_environment s.environment) s) ≡ leave_record (settle_abrupt h j s)
leave_settle_abrupt body_list j s = refl
leave_settle_abrupt other_list j s = refl
leave_settle_abrupt loop_block (returned v) s = refl
leave_settle_abrupt loop_block (thrown v) s = refl
leave_settle_abrupt loop_block broke s = refl
leave_settle_abrupt loop_block continued s = refl
leave_settle_abrupt loop_block cut s = refl
leave_settle_abrupt once_block (returned v) s = refl
leave_settle_abrupt once_block (thrown v) s = refl
leave_settle_abrupt once_block broke s = refl
leave_settle_abrupt once_block continued s = refl
leave_settle_abrupt once_block cut s = refl

leave_settle_end : (h : Holder) (s : State)
    → settle_end h (with_environment (outer_environment s.environment) s) ≡ leave_record (settle_end h s)
leave_settle_end body_list s = refl
leave_settle_end other_list s = refl
leave_settle_end loop_block s = refl
leave_settle_end once_block s = refl

settle_leave : (h : Holder) (r : Completion (Unit {0})) → settle h (leave_record r) ≡ leave_record (settle h r)
settle_leave h (normal a s) = leave_settle_end h s
settle_leave h (abrupt j s) = leave_settle_abrupt h j s

pub agree_in_scope : (h : Holder) (ns : List ℕ) {f g : Step} → Agree h f g → Agree h (in_scope_of ns f) (in_scope_of ns g)
agree_in_scope h [] p = record { at = p.at }
agree_in_scope h (n ∷ ns) {f} {g} p =
    record { at = λ s. settle_leave h (f (inside s)) ∙ ap leave_record (p.at (inside s)) ∙ sym (settle_leave h (g (inside s))) }
  where
    inside : State → State
    inside s = with_environment (new_record uninitialised (n ∷ ns) ∷ s.environment) s

-- a jump that may go comes to the end, halts, and declares nothing

pub record GoesUnseen (h : Holder) (x : Stmt) : Type 0 where
  pub ends : (s : State) → settle h (execute x s) ≡ settle_end h s
  pub stops : T (is_terminated x)
  pub no_lexical : lexically_declared x ≡ []
  pub no_var : var_declared x ≡ []

return_goes_unseen : (h : Holder) (p : OptionalExpr) → T (drops_return_of h p) → GoesUnseen h (return_of p)
return_goes_unseen body_list absent t = record { ends = λ s. refl; stops = tt; no_lexical = refl; no_var = refl }
return_goes_unseen other_list absent t = absurd t
return_goes_unseen loop_block absent t = absurd t
return_goes_unseen once_block absent t = absurd t
return_goes_unseen h (present e) t = absurd t

break_goes_unseen : (h : Holder) → T (can_remove_termination_statement h break) → GoesUnseen h break
break_goes_unseen body_list t = absurd t
break_goes_unseen other_list t = absurd t
break_goes_unseen loop_block t = absurd t
break_goes_unseen once_block t = record { ends = λ s. refl; stops = tt; no_lexical = refl; no_var = refl }

continue_goes_unseen : (h : Holder) → T (can_remove_termination_statement h continue) → GoesUnseen h continue
continue_goes_unseen body_list t = absurd t
continue_goes_unseen other_list t = absurd t
continue_goes_unseen loop_block t = record { ends = λ s. refl; stops = tt; no_lexical = refl; no_var = refl }
continue_goes_unseen once_block t = record { ends = λ s. refl; stops = tt; no_lexical = refl; no_var = refl }

pub goes_unseen : (h : Holder) (x : Stmt) → T (can_remove_termination_statement h x) → GoesUnseen h x
goes_unseen h empty t = absurd t
goes_unseen h (expression e) t = absurd t
goes_unseen h (declaration k ds) t = absurd t
goes_unseen h (return_of p) t = return_goes_unseen h p t
goes_unseen h (throw e) t = absurd t
goes_unseen h (if_then c x a) t = absurd t
goes_unseen h (block ss) t = absurd t
goes_unseen h (while c b) t = absurd t
goes_unseen h (do_while b c) t = absurd t
goes_unseen h (for i c u b) t = absurd t
goes_unseen h (switch d cs) t = absurd t
goes_unseen h break t = break_goes_unseen h t
goes_unseen h continue t = continue_goes_unseen h t

-- the end of the results

drop_last_jump_as : (h : Holder) (x : Stmt) (r : Stmts) (b : Bool) → can_remove_termination_statement h x ≡ b
    → Agree h (results_then (cond b r (stmt_then x r)) done) (results_then (stmt_then x r) done)
drop_last_jump_as h x r true e =
    agree_results_then h r
    (record { at = λ s₁. sym (ap (settle h) (and_then_normal (execute x s₁)) ∙ (goes_unseen h x (subst T (sym e) tt)).ends s₁) })
drop_last_jump_as h x r false e = record { at = λ s. refl }

pub drop_last_jump_executes : (h : Holder) (r : Stmts) → Agree h (results_then (drop_last_jump h r) done) (results_then r done)
drop_last_jump_executes h no_stmts = record { at = λ s. refl }
drop_last_jump_executes h (stmt_then x r) = drop_last_jump_as h x r (can_remove_termination_statement h x) refl

drop_last_jump_as_names : (g : Stmt → List ℕ) (h : Holder) (x : Stmt) (r : Stmts) (b : Bool) → (T b → g x ≡ [])
    → gather g (cond b r (stmt_then x r)) ≡ gather g (stmt_then x r)
drop_last_jump_as_names g h x r true e = sym (ap (λ l. gather g r ++ l) (e tt) ∙ append-nil (gather g r))
drop_last_jump_as_names g h x r false e = refl

pub drop_last_jump_names : (g : Stmt → List ℕ) (h : Holder) → ((x : Stmt) → T (can_remove_termination_statement h x) → g x ≡ [])
    → (r : Stmts) → gather g (drop_last_jump h r) ≡ gather g r
drop_last_jump_names g h e no_stmts = refl
drop_last_jump_names g h e (stmt_then x r) = drop_last_jump_as_names g h x r (can_remove_termination_statement h x) (e x)

-- results in source order

pub in_source_order_executes : (r l : Stmts) (s : State) → execute_list (in_source_order r l) s ≡ results_then r (execute_list l) s
in_source_order_executes no_stmts l s = refl
in_source_order_executes (stmt_then x r) l s = in_source_order_executes r (stmt_then x l) s

pub in_source_order_lexical : (r l : Stmts)
    → lexically_declared_list (in_source_order r l) ≡ gather lexically_declared r ++ lexically_declared_list l
in_source_order_lexical no_stmts l = refl
in_source_order_lexical (stmt_then x r) l =
    in_source_order_lexical r (stmt_then x l)
    ∙ sym (append_assoc (gather lexically_declared r) (lexically_declared x) (lexically_declared_list l))

pub in_source_order_var : (r l : Stmts) → var_declared_list (in_source_order r l) ≡ gather var_declared r ++ var_declared_list l
in_source_order_var no_stmts l = refl
in_source_order_var (stmt_then x r) l =
    in_source_order_var r (stmt_then x l) ∙ sym (append_assoc (gather var_declared r) (var_declared x) (var_declared_list l))

-- one more at the end

pub append_stmt_executes : (ys : Stmts) (x : Stmt) (s : State)
    → execute_list (append_stmt ys x) s ≡ and_then (execute_list ys s) (λ _ s₁. execute x s₁)
append_stmt_executes no_stmts x s = and_then_normal (execute x s)
append_stmt_executes (stmt_then y ys) x s =
    and_then_cong (execute y s) (λ _ s₁. append_stmt_executes ys x s₁) ∙ sym (and_then_assoc (execute y s) _ _)

pub append_stmt_lexical : (ys : Stmts) (x : Stmt)
    → lexically_declared_list (append_stmt ys x) ≡ lexically_declared_list ys ++ lexically_declared x
append_stmt_lexical no_stmts x = append-nil (lexically_declared x)
append_stmt_lexical (stmt_then y ys) x =
    ap (λ l. lexically_declared y ++ l) (append_stmt_lexical ys x)
    ∙ sym (append_assoc (lexically_declared y) (lexically_declared_list ys) (lexically_declared x))

pub append_stmt_var : (ys : Stmts) (x : Stmt) → var_declared_list (append_stmt ys x) ≡ var_declared_list ys ++ var_declared x
append_stmt_var no_stmts x = append-nil (var_declared x)
append_stmt_var (stmt_then y ys) x =
    ap (λ l. var_declared y ++ l) (append_stmt_var ys x) ∙ sym (append_assoc (var_declared y) (var_declared_list ys) (var_declared x))
