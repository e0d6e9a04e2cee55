-- When results are as good as others, and what is kept behind a jump.
use Rattle.std.proofs.Common.{◌≡◌, ℕ, Bool, true, false, cond, ◌&&◌, T, List, [], ◌∷◌, ◌++◌, sym, refl, ap, ◌∙◌, append_assoc, append-nil}
use Rattle.script.specs.declared.DeclarationKind.{DeclarationKind}
use Rattle.script.specs.declared.DeclarationKind.TheVariants.{Var, Let, Const}
use Rattle.script.specs.Tree.{Stmts, Stmt, stmt_then, no_stmts, Declarators, empty, expression, declaration, return_of, throw, if_then}
use Rattle.script.specs.Tree.{block, while, do_while, for, switch, break, continue}
use Rattle.run.specs.Environment.{among}
use Rattle.run.specs.Names.{lexically_declared, lexically_declared_list, var_declared, var_declared_list, var_names}
use Rattle.run.specs.Execute.{done, execute_list, Step, execute}
use Rattle.rules.specs.Holder.{Holder}
use Rattle.rules.specs.Statements.{push_all, statement_cares_about_scope, is_lexical}
use Rattle.rules.specs.Unreachable.{last_is_terminated, push_kept_vars, lexical_declarations, keep_declarations, note_hoisted_names, then_rest}
use Rattle.rules.specs.Unreachable.{is_nonempty}
use Rattle.rules.specs.Results.{results_then, gather}
use Rattle.rules.proofs.Booleans.{and_left}
use Rattle.rules.proofs.Statements.{results_then_cong, after_abrupt_any, terminated_is_abrupt, results_then_push_all, declares_nothing}
use Rattle.rules.proofs.Holders.{Agree, ◌then◌, agree_same}
use Rattle.rules.proofs.Membership.{bound_names_bare, among_right, among_noted}

pub record Minimized (h : Holder) (todo r out : Stmts) : Type 0 where
  pub does : Agree h (results_then out done) (results_then r (execute_list todo))
  pub lexical : gather lexically_declared out ≡ gather lexically_declared r ++ lexically_declared_list todo
  pub var : (n : ℕ) → among n (gather var_declared out) ≡ among n (gather var_declared r ++ var_declared_list todo)

-- the same work to do, put in another way
pub record SameWork (h : Holder) (todo' r' todo r : Stmts) : Type 0 where
  pub does : Agree h (results_then r' (execute_list todo')) (results_then r (execute_list todo))
  pub lexical : gather lexically_declared r' ++ lexically_declared_list todo' ≡ gather lexically_declared r ++ lexically_declared_list todo
  pub var : (n : ℕ)
      → among n (gather var_declared r' ++ var_declared_list todo') ≡ among n (gather var_declared r ++ var_declared_list todo)

pub minimized_via : {h : Holder} {todo' r' todo r out : Stmts} → SameWork h todo' r' todo r → Minimized h todo' r' out
    → Minimized h todo r out
minimized_via w o = record { does = o.does then w.does; lexical = o.lexical ∙ w.lexical; var = λ n. o.var n ∙ w.var n }

-- r' is as good as x behind r
pub record Keeps (x : Stmt) (r r' : Stmts) : Type 0 where
  pub same : (f : Step) → results_then r' f ≡ results_then (stmt_then x r) f
  pub lexical : gather lexically_declared r' ≡ gather lexically_declared (stmt_then x r)
  pub var : gather var_declared r' ≡ gather var_declared (stmt_then x r)

pub keeps_same_work : {h : Holder} {x : Stmt} {r r' : Stmts} (rest : Stmts) → Keeps x r r' → SameWork h rest r' (stmt_then x rest) r
keeps_same_work {x = x} {r = r} rest p = record {
  does = agree_same (λ s. ap (λ f. f s) (p.same (execute_list rest)));
  lexical = ap (λ l. l ++ lexically_declared_list rest) p.lexical
      ∙ append_assoc (gather lexically_declared r) (lexically_declared x) (lexically_declared_list rest);
  var = λ n. ap (λ l. among n (l ++ var_declared_list rest)) p.var
      ∙ ap (among n) (append_assoc (gather var_declared r) (var_declared x) (var_declared_list rest));
}

-- behind a statement that does not complete normally nothing counts

unreachable_any : (r : Stmts) → T (last_is_terminated r) → (f g : Step) → results_then r f ≡ results_then r g
unreachable_any no_stmts t f g = absurd t
unreachable_any (stmt_then x r) t f g =
    results_then_cong r (λ s. after_abrupt_any (execute x s) (λ _ s₁. f s₁) (λ _ s₁. g s₁) (terminated_is_abrupt x t s))

push_kept_vars_unreachable : (ns : List ℕ) (l r : Stmts) → T (last_is_terminated r) → (f g : Step)
    → results_then (push_kept_vars ns (push_all l r)) f ≡ results_then r g
push_kept_vars_unreachable [] l r t f g = results_then_push_all l r f ∙ unreachable_any r t _ g
push_kept_vars_unreachable (n ∷ ns) l r t f g = results_then_push_all l r _ ∙ unreachable_any r t _ g

push_all_names : (g : Stmt → List ℕ) (all : Stmts → List ℕ) → all no_stmts ≡ []
    → ((x : Stmt) (xs : Stmts) → all (stmt_then x xs) ≡ g x ++ all xs)
    → (l r : Stmts) → gather g (push_all l r) ≡ gather g r ++ all l
push_all_names g all e c no_stmts r = sym (ap (λ l. gather g r ++ l) e ∙ append-nil (gather g r))
push_all_names g all e c (stmt_then x l) r =
    push_all_names g all e c l (stmt_then x r) ∙ append_assoc (gather g r) (g x) (all l) ∙ ap (λ l₁. gather g r ++ l₁) (sym (c x l))

pub push_all_lexical : (l r : Stmts) → gather lexically_declared (push_all l r) ≡ gather lexically_declared r ++ lexically_declared_list l
push_all_lexical = push_all_names lexically_declared lexically_declared_list refl (λ x xs. refl)

pub push_all_var : (l r : Stmts) → gather var_declared (push_all l r) ≡ gather var_declared r ++ var_declared_list l
push_all_var = push_all_names var_declared var_declared_list refl (λ x xs. refl)

lexical_declarations_lexical : (xs : Stmts) → lexically_declared_list (lexical_declarations xs) ≡ lexically_declared_list xs
lexical_declarations_lexical no_stmts = refl
lexical_declarations_lexical (stmt_then x xs) = by (statement_cares_about_scope x) refl (lexical_declarations_lexical xs)
  where
    by : (b : Bool) → statement_cares_about_scope x ≡ b → lexically_declared_list (lexical_declarations xs) ≡ lexically_declared_list xs
        → lexically_declared_list (cond b (stmt_then x (lexical_declarations xs)) (lexical_declarations xs))
        ≡ lexically_declared x ++ lexically_declared_list xs
    by true e h = ap (λ l. lexically_declared x ++ l) h
    by false e h = h ∙ sym (ap (λ l. l ++ lexically_declared_list xs) (declares_nothing x e))

kind_declares_no_var : (k : DeclarationKind) (ds : Declarators) → is_lexical k ≡ true → var_names k ds ≡ []
kind_declares_no_var Var ds e = cc
kind_declares_no_var Let ds e = refl
kind_declares_no_var Const ds e = refl

cares_declares_no_var : (x : Stmt) → statement_cares_about_scope x ≡ true → var_declared x ≡ []
cares_declares_no_var empty e = refl
cares_declares_no_var (expression x) e = refl
cares_declares_no_var (declaration k ds) e = kind_declares_no_var k ds e
cares_declares_no_var (return_of p) e = refl
cares_declares_no_var (throw x) e = refl
cares_declares_no_var (if_then t c a) e = cc
cares_declares_no_var (block ss) e = cc
cares_declares_no_var (while t b) e = cc
cares_declares_no_var (do_while b t) e = cc
cares_declares_no_var (for i t u b) e = cc
cares_declares_no_var (switch d cs) e = cc
cares_declares_no_var break e = refl
cares_declares_no_var continue e = refl

lexical_declarations_no_var : (xs : Stmts) → var_declared_list (lexical_declarations xs) ≡ []
lexical_declarations_no_var no_stmts = refl
lexical_declarations_no_var (stmt_then x xs) = by (statement_cares_about_scope x) refl (lexical_declarations_no_var xs)
  where
    by : (b : Bool) → statement_cares_about_scope x ≡ b → var_declared_list (lexical_declarations xs) ≡ []
        → var_declared_list (cond b (stmt_then x (lexical_declarations xs)) (lexical_declarations xs)) ≡ []
    by true e h = ap (λ l. l ++ var_declared_list (lexical_declarations xs)) (cares_declares_no_var x e) ∙ h
    by false e h = h

push_kept_vars_lexical : (ns : List ℕ) (r : Stmts) → gather lexically_declared (push_kept_vars ns r) ≡ gather lexically_declared r
push_kept_vars_lexical [] r = refl
push_kept_vars_lexical (n ∷ ns) r = append-nil (gather lexically_declared r)

push_kept_vars_var : (ns : List ℕ) (r : Stmts) → gather var_declared (push_kept_vars ns r) ≡ gather var_declared r ++ ns
push_kept_vars_var [] r = sym (append-nil (gather var_declared r))
push_kept_vars_var (n ∷ ns) r = ap (λ l. gather var_declared r ++ l) (bound_names_bare (n ∷ ns))

keep_declarations_minimized : {h : Holder} (rest r : Stmts) → T (last_is_terminated r) → Minimized h rest r (keep_declarations rest r)
keep_declarations_minimized rest r t = record {
  does = agree_same
      (λ s. ap (λ f. f s)
      (push_kept_vars_unreachable (note_hoisted_names (var_declared_list rest) []) (lexical_declarations rest) r t done
      (execute_list rest)));
  lexical =
      push_kept_vars_lexical (note_hoisted_names (var_declared_list rest) []) (push_all (lexical_declarations rest) r)
      ∙ push_all_lexical (lexical_declarations rest) r
      ∙ ap (λ l. gather lexically_declared r ++ l) (lexical_declarations_lexical rest);
  var = λ n.
      ap (among n) (push_kept_vars_var (note_hoisted_names (var_declared_list rest) []) (push_all (lexical_declarations rest) r)
      ∙ ap (λ l. l ++ note_hoisted_names (var_declared_list rest) [])
      (push_all_var (lexical_declarations rest) r ∙ ap (λ l. gather var_declared r ++ l) (lexical_declarations_no_var rest)
      ∙ append-nil (gather var_declared r)))
      ∙ among_right n (gather var_declared r) (note_hoisted_names (var_declared_list rest) []) (var_declared_list rest)
      (among_noted n (var_declared_list rest) []);
}

abbrev pub Minimizes : Holder → (Stmts → Stmts → Stmts) → Type 0
Minimizes h again = (todo r : Stmts) → Minimized h todo r (again todo r)

-- what more does with the rest
abbrev pub Rest : Holder → Stmts → (Stmts → Stmts) → Type 0
Rest h rest more = (r : Stmts) → Minimized h rest r (more r)

pub then_rest_minimized : {h : Holder} (rest : Stmts) (more : Stmts → Stmts) → Rest h rest more → (r : Stmts)
    → Minimized h rest r (then_rest more rest r)
then_rest_minimized {h} rest more w r =
    by (last_is_terminated r && is_nonempty rest) (λ t. and_left (last_is_terminated r) (is_nonempty rest) t)
  where
    by : (b : Bool) → (T b → T (last_is_terminated r)) → Minimized h rest r (cond b (keep_declarations rest r) (more r))
    by true t = keep_declarations_minimized rest r (t tt)
    by false t = w r

pub pushed_keeps : (x : Stmt) (r : Stmts) → Keeps x r (stmt_then x r)
pushed_keeps x r = record { same = λ f. refl; lexical = refl; var = refl }
