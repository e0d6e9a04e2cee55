-- What the rules on statements execute.
use Rattle.std.proofs.Common.{◌≡◌, ℕ, Bool, true, false, cond, ◌||◌, T, List, [], ◌∷◌, ◌++◌, sym, refl, ap, ◌∙◌}
use mathlib.Core.Path.{fun_ext}
use Rattle.script.specs.declared.DeclarationKind.{DeclarationKind}
use Rattle.script.specs.declared.DeclarationKind.TheVariants.{Var, Let, Const}
use Rattle.script.specs.Tree.{Stmt, Stmts, stmt_then, empty, expression, declaration, return_of, throw, if_then, block, while, do_while, for}
use Rattle.script.specs.Tree.{switch, break, continue, Alternate, no_alternate, alternate, no_stmts, Declarators}
use Rattle.run.specs.Values.{undefined, to_boolean}
use Rattle.run.specs.Completion.{Completion, normal, abrupt, State, and_then, branch}
use Rattle.run.specs.Evaluate.{evaluate_optional, evaluate}
use Rattle.run.specs.Names.{lexically_declared_list, lexical_names, lexically_declared}
use Rattle.run.specs.Execute.{leave_record, Step, in_scope_of, execute, execute_list, execute_alternate}
use Rattle.rules.specs.Statements.{is_terminated, is_terminated_list, is_terminated_alternate, is_lexical, statement_cares_about_scope}
use Rattle.rules.specs.Statements.{any_cares_about_scope, push_all, handle_block}
use Rattle.rules.specs.Results.{results_then}
use Rattle.rules.proofs.Booleans.{and_left, and_right, or_left, or_right}
use Rattle.rules.proofs.Completions.{and_then_assoc}

-- halted results

abbrev pub is_abrupt : {A : Type 0} → Completion A → Bool
is_abrupt (normal a s) = false
is_abrupt (abrupt j s) = true

pub is_abrupt_and_then : {A B : Type 0} (r : Completion A) (k : A → State → Completion B) → T (is_abrupt r) → T (is_abrupt (and_then r k))
is_abrupt_and_then (normal a s) k t = absurd t
is_abrupt_and_then (abrupt j s) k t = tt

pub is_abrupt_after : {A B : Type 0} (r : Completion A) (k : A → State → Completion B) → ((a : A) (s : State) → T (is_abrupt (k a s)))
    → T (is_abrupt (and_then r k))
is_abrupt_after (normal a s) k h = h a s
is_abrupt_after (abrupt j s) k h = tt

is_abrupt_leave : {A : Type 0} (r : Completion A) → T (is_abrupt r) → T (is_abrupt (leave_record r))
is_abrupt_leave (normal a s) t = absurd t
is_abrupt_leave (abrupt j s) t = tt

is_abrupt_branch : {A : Type 0} (b : Bool) (f g : State → Completion A) (s : State) → ((s₁ : State) → T (is_abrupt (f s₁)))
    → ((s₁ : State) → T (is_abrupt (g s₁)))
    → T (is_abrupt (branch b f g s))
is_abrupt_branch true f g s p q = p s
is_abrupt_branch false f g s p q = q s

is_abrupt_in_scope : (ns : List ℕ) (f : Step) (s : State) → ((s₁ : State) → T (is_abrupt (f s₁))) → T (is_abrupt (in_scope_of ns f s))
is_abrupt_in_scope [] f s h = h s
is_abrupt_in_scope (n ∷ ns) f s h = is_abrupt_leave _ (h _)

-- what stands behind a halted result does not count
pub after_abrupt_any : {A B : Type 0} (r : Completion A) (k l : A → State → Completion B) → T (is_abrupt r) → and_then r k ≡ and_then r l
after_abrupt_any (normal a s) k l t = absurd t
after_abrupt_any (abrupt j s) k l t = refl

list_is_abrupt : (x : Stmt) (xs : Stmts) (a : Bool) → (T a → (s : State) → T (is_abrupt (execute x s))) → is_terminated x ≡ a
    → (T (is_terminated_list xs) → (s : State) → T (is_abrupt (execute_list xs s)))
    → T (a || is_terminated_list xs) → (s : State) → T (is_abrupt (execute_list (stmt_then x xs) s))
list_is_abrupt x xs true p e q t s = is_abrupt_and_then (execute x s) _ (p tt s)
list_is_abrupt x xs false p e q t s = is_abrupt_after (execute x s) _ (λ _ s₁. q t s₁)

-- a terminated statement never completes normally
mutual
  pub terminated_is_abrupt : (x : Stmt) → T (is_terminated x) → (s : State) → T (is_abrupt (execute x s))
  terminated_is_abrupt empty t s = absurd t
  terminated_is_abrupt (expression e) t s = absurd t
  terminated_is_abrupt (declaration k ds) t s = absurd t
  terminated_is_abrupt (return_of p) t s = is_abrupt_after (evaluate_optional undefined p s) _ (λ _ _. tt)
  terminated_is_abrupt (throw e) t s = is_abrupt_after (evaluate e s) _ (λ _ _. tt)
  terminated_is_abrupt (if_then e c a) t s =
      is_abrupt_after (evaluate e s) _ (λ v s₁. is_abrupt_branch (to_boolean v) _ _ s₁
      (terminated_is_abrupt c (and_left _ _ t)) (terminated_alternate_is_abrupt a (and_right (is_terminated c) _ t)))
  terminated_is_abrupt (block ss) t s = is_abrupt_in_scope (lexically_declared_list ss) _ s (terminated_list_is_abrupt ss t)
  terminated_is_abrupt (while e b) t s = absurd t
  terminated_is_abrupt (do_while b e) t s = absurd t
  terminated_is_abrupt (for i e u b) t s = absurd t
  terminated_is_abrupt (switch d cs) t s = absurd t
  terminated_is_abrupt break t s = tt
  terminated_is_abrupt continue t s = tt

  terminated_alternate_is_abrupt : (a : Alternate) → T (is_terminated_alternate a) → (s : State) → T (is_abrupt (execute_alternate a s))
  terminated_alternate_is_abrupt no_alternate t s = absurd t
  terminated_alternate_is_abrupt (alternate x) t s = terminated_is_abrupt x t s

  pub terminated_list_is_abrupt : (xs : Stmts) → T (is_terminated_list xs) → (s : State) → T (is_abrupt (execute_list xs s))
  terminated_list_is_abrupt no_stmts t s = absurd t
  terminated_list_is_abrupt (stmt_then x xs) t s =
      list_is_abrupt x xs (is_terminated x) (terminated_is_abrupt x) refl (terminated_list_is_abrupt xs) t s

-- opening a block

kind_declares_nothing : (k : DeclarationKind) (ds : Declarators) → is_lexical k ≡ false → lexical_names k ds ≡ []
kind_declares_nothing Var ds e = refl
kind_declares_nothing Let ds e = cc
kind_declares_nothing Const ds e = cc

pub declares_nothing : (x : Stmt) → statement_cares_about_scope x ≡ false → lexically_declared x ≡ []
declares_nothing empty e = refl
declares_nothing (expression x) e = refl
declares_nothing (declaration k ds) e = kind_declares_nothing k ds e
declares_nothing (return_of p) e = refl
declares_nothing (throw x) e = refl
declares_nothing (if_then t c a) e = refl
declares_nothing (block ss) e = refl
declares_nothing (while t b) e = refl
declares_nothing (do_while b t) e = refl
declares_nothing (for i t u b) e = refl
declares_nothing (switch d cs) e = refl
declares_nothing break e = refl
declares_nothing continue e = refl

pub list_declares_nothing : (xs : Stmts) → any_cares_about_scope xs ≡ false → lexically_declared_list xs ≡ []
list_declares_nothing no_stmts e = refl
list_declares_nothing (stmt_then x xs) e =
    ap (λ l. l ++ lexically_declared_list xs) (declares_nothing x (or_left _ _ e))
    ∙ list_declares_nothing xs (or_right (statement_cares_about_scope x) _ e)

pub open_block : (ss : Stmts) → any_cares_about_scope ss ≡ false → (s : State) → execute (block ss) s ≡ execute_list ss s
open_block ss e s = ap (λ l. in_scope_of l (λ s₁. execute_list ss s₁) s) (list_declares_nothing ss e)

-- results: what follows may be put in another form

pub results_then_cong : (r : Stmts) {f g : Step} → ((s : State) → f s ≡ g s) → results_then r f ≡ results_then r g
results_then_cong r h = ap (results_then r) (fun_ext h)

pub results_then_push_all : (ss r : Stmts) (f : Step)
    → results_then (push_all ss r) f ≡ results_then r (λ s. and_then (execute_list ss s) (λ _ s₁. f s₁))
results_then_push_all no_stmts r f = refl
results_then_push_all (stmt_then x xs) r f =
    results_then_push_all xs (stmt_then x r) f ∙ results_then_cong r (λ s. sym (and_then_assoc (execute x s) _ _))

handle_block_executes : (ss r : Stmts) (b : Bool) → any_cares_about_scope ss ≡ b → (f : Step)
    → results_then (cond b (stmt_then (block ss) r) (push_all ss r)) f ≡ results_then (stmt_then (block ss) r) f
handle_block_executes ss r true e f = refl
handle_block_executes ss r false e f =
    results_then_push_all ss r f ∙ results_then_cong r (λ s. ap (λ x. and_then x (λ _ s₁. f s₁)) (sym (open_block ss e s)))

pub handle_block_same : (ss r : Stmts) (f : Step) → results_then (handle_block ss r) f ≡ results_then (stmt_then (block ss) r) f
handle_block_same ss r f = handle_block_executes ss r (any_cares_about_scope ss) refl f
