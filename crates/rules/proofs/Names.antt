-- The rules on the newest results keep the declared names.
use Rattle.std.proofs.Common.{◌≡◌, ℕ, Bool, true, false, cond, ◌||◌, eqb, List, [], ◌∷◌, ◌++◌, refl, ap, ◌∙◌, append-nil}
use Rattle.script.specs.declared.DeclarationKind.{DeclarationKind}
use Rattle.script.specs.declared.DeclarationKind.TheVariants.{Var, Let, Const}
use Rattle.script.specs.Tree.{Declarators, OptionalExpr, declarator_then, Expr, absent, present, no_declarators, Exprs, no_exprs, expr_then}
use Rattle.script.specs.Tree.{Stmt, expression, return_of, if_then, no_alternate, declaration, Stmts, stmt_then, no_stmts}
use Rattle.run.specs.Names.{bound_names, lexically_declared, var_declared}
use Rattle.hosts.specs.Meaning.{Meaning}
use Rattle.rules.specs.Holder.{Holder}
use Rattle.rules.specs.Literals.{is_literal_value}
use Rattle.rules.specs.Expressions.{Assignment?, is_assignment, no_assignment, assignment?, sequence?}
use Rattle.rules.specs.Merging.{Merge, merged, blocked, clear, merge_in_later_or, merge_in_declarator, mergeable, merge_into_declarators}
use Rattle.rules.specs.Merging.{Leading, merge_leading_after, merge_leading_item, merge_assignment_to_declaration, merge_leading, has_items}
use Rattle.rules.specs.Merging.{LastExpression?, push_expression_as, last_expression, no_last_expression, push_new_expression_stmt_to_result}
use Rattle.rules.specs.Merging.{last_expression?, merge_last_expression_as, LastDeclaration?, merge_leading_assignments_as, last_declaration}
use Rattle.rules.specs.Merging.{items_of, no_last_declaration, merge_leading_assignments_to_declaration, last_declaration?}
use Rattle.rules.specs.Merging.{push_optional_expression, Worked, next_work, push_worked, handle_expression_statement}
use Rattle.rules.specs.Returns.{merge_return, may_merge_return, IfReturn?, return_step, if_return, no_if_return, return_loop, if_return?}
use Rattle.rules.specs.Returns.{merge_returns, drop_undefined_as, drop_undefined_argument, merge_leading_into_declaration}
use Rattle.rules.specs.Returns.{handle_return_statement}
use Rattle.rules.specs.Results.{gather}

abbrev SameNames : Declarators → Merge → Type 0
SameNames ds (merged ds') = bound_names ds' ≡ bound_names ds
SameNames ds blocked = Unit {0}
SameNames ds clear = Unit {0}

merge_in_later_or_names : (n : ℕ) (p : OptionalExpr) (ds : Declarators) (m here : Merge) → SameNames ds m
    → SameNames (declarator_then n p ds) here
    → SameNames (declarator_then n p ds) (merge_in_later_or m n p here)
merge_in_later_or_names n p ds (merged ds') here h g = ap (λ l. n ∷ l) h
merge_in_later_or_names n p ds blocked here h g = tt
merge_in_later_or_names n p ds clear here h g = g

merged_names : (b : Bool) (m : ℕ) (e : Expr) (ds : Declarators)
    → SameNames (declarator_then m absent ds) (cond b (merged (declarator_then m (present e) ds)) blocked)
merged_names true m e ds = refl
merged_names false m e ds = tt

merge_in_declarator_names : (k : DeclarationKind) (l : Bool) (n : ℕ) (e : Expr) (b : Bool) (m : ℕ) (p : OptionalExpr) (ds : Declarators)
    → SameNames (declarator_then m p ds) (merge_in_declarator k l n e b m p ds)
merge_in_declarator_names k l n e b m (present x) ds = tt
merge_in_declarator_names k l n e true m absent ds = merged_names (mergeable k l) m e ds
merge_in_declarator_names Var l n e false m absent ds = tt
merge_in_declarator_names Let l n e false m absent ds = tt
merge_in_declarator_names Const l n e false m absent ds = tt

merge_into_declarators_names : (k : DeclarationKind) (l : Bool) (n : ℕ) (e : Expr) (ds : Declarators)
    → SameNames ds (merge_into_declarators k l n e ds)
merge_into_declarators_names k l n e no_declarators = tt
merge_into_declarators_names k l n e (declarator_then m p ds) =
    merge_in_later_or_names m p ds (merge_into_declarators k l n e ds) _ (merge_into_declarators_names k l n e ds)
    (merge_in_declarator_names k l n e (eqb m n) m p ds)

merge_leading_after_names : (m : Merge) (xs : Exprs) (ds : Declarators) (f : Declarators → Leading) → SameNames ds m
    → ((ds' : Declarators) → bound_names (f ds').declarators ≡ bound_names ds')
    → bound_names (merge_leading_after m xs ds f).declarators ≡ bound_names ds
merge_leading_after_names (merged ds') xs ds f h g = g ds' ∙ h
merge_leading_after_names blocked xs ds f h g = refl
merge_leading_after_names clear xs ds f h g = refl

merge_leading_item_names : (c : Bool) {x : Expr} (a : Assignment? x) (xs : Exprs) (k : DeclarationKind) (ds : Declarators)
    (f : Declarators → Leading)
    → ((ds' : Declarators) → bound_names (f ds').declarators ≡ bound_names ds')
    → bound_names (merge_leading_item c a xs k ds f).declarators ≡ bound_names ds
merge_leading_item_names false a xs k ds f g = refl
merge_leading_item_names true (is_assignment n e) xs k ds f g =
    merge_leading_after_names (merge_assignment_to_declaration k ds n e) _ ds f
    (merge_into_declarators_names k (is_literal_value e) n e ds) g
merge_leading_item_names true no_assignment xs k ds f g = refl

merge_leading_names : (d : Bool) (xs : Exprs) (k : DeclarationKind) (ds : Declarators)
    → bound_names (merge_leading d xs k ds).declarators ≡ bound_names ds
merge_leading_names d no_exprs k ds = refl
merge_leading_names d (expr_then x xs) k ds =
    merge_leading_item_names (d || has_items xs) (assignment? x) xs k ds (λ ds'. merge_leading d xs k ds') (merge_leading_names d xs k)

-- the names that g finds, where g is as the let and const names of a list and the var names are

pub record NamesOfList (g : Stmt → List ℕ) : Type 0 where
  pub of_expression : (e : Expr) → g (expression e) ≡ []
  pub of_return : (p : OptionalExpr) → g (return_of p) ≡ []
  pub of_if_return : (t : Expr) (p : OptionalExpr) → g (if_then t (return_of p) no_alternate) ≡ []
  pub of_declaration : (k : DeclarationKind) (ds ds' : Declarators) → bound_names ds ≡ bound_names ds'
      → g (declaration k ds) ≡ g (declaration k ds')

pub lexical_names_of_list : NamesOfList lexically_declared
lexical_names_of_list = record { of_expression = λ e. refl; of_return = λ p. refl; of_if_return = λ t p. refl; of_declaration = by }
  where
    by : (k : DeclarationKind) (ds ds' : Declarators) → bound_names ds ≡ bound_names ds'
        → lexically_declared (declaration k ds) ≡ lexically_declared (declaration k ds')
    by Var ds ds' e = refl
    by Let ds ds' e = e
    by Const ds ds' e = e

pub var_names_of_list : NamesOfList var_declared
var_names_of_list = record { of_expression = λ e. refl; of_return = λ p. refl; of_if_return = λ t p. refl; of_declaration = by }
  where
    by : (k : DeclarationKind) (ds ds' : Declarators) → bound_names ds ≡ bound_names ds'
        → var_declared (declaration k ds) ≡ var_declared (declaration k ds')
    by Var ds ds' e = e
    by Let ds ds' e = refl
    by Const ds ds' e = refl

module _ (g : Stmt → List ℕ) (N : NamesOfList g) where
  push_expression_as_names : {r : Stmts} (v : LastExpression? r) (e : Expr) → gather g (push_expression_as v e) ≡ gather g r
  push_expression_as_names (last_expression a r) e = simp N.of_expression
  push_expression_as_names no_last_expression e = simp (N.of_expression, append-nil)

  pub push_new_expression_names : (q : Bool) (e : Expr) (r : Stmts) → gather g (push_new_expression_stmt_to_result q e r) ≡ gather g r
  push_new_expression_names q e r = push_expression_as_names (last_expression? q r) e

  pub merge_last_names : {r : Stmts} (v : LastExpression? r) (e : Expr) → gather g (merge_last_expression_as v e).results ≡ gather g r
  merge_last_names (last_expression a r) e = simp (N.of_expression, append-nil)
  merge_last_names no_last_expression e = refl

  merge_leading_assignments_as_names : {r : Stmts} (v : LastDeclaration? r) (d : Bool) (e : Expr)
      → gather g (merge_leading_assignments_as v d e).results ≡ gather g r
  merge_leading_assignments_as_names (last_declaration k ds r) d e =
      ap (λ l. gather g r ++ l) (N.of_declaration k _ ds (merge_leading_names d (items_of (sequence? e)) k ds))
  merge_leading_assignments_as_names no_last_declaration d e = refl

  pub merge_leading_assignments_names : (d : Bool) (e : Expr) (r : Stmts)
      → gather g (merge_leading_assignments_to_declaration d e r).results ≡ gather g r
  merge_leading_assignments_names d e r = merge_leading_assignments_as_names (last_declaration? r) d e

  push_optional_expression_names : (p : OptionalExpr) (r : Stmts) → gather g (push_optional_expression p r) ≡ gather g r
  push_optional_expression_names absent r = refl
  push_optional_expression_names (present e) r = simp (N.of_expression, append-nil)

  pub next_work_names : (p : OptionalExpr) (r : Stmts) (f : Expr → Stmts → Worked)
      → ((e : Expr) (r₁ : Stmts) → gather g (f e r₁).results ≡ gather g r₁)
      → gather g (next_work p r f).results ≡ gather g r
  next_work_names absent r f h = refl
  next_work_names (present e) r f h = h e r

  handle_expression_statement_as_names : {r : Stmts} (v : LastExpression? r) (e : Expr)
      → gather g (push_worked
      (next_work (merge_last_expression_as v e).target (merge_last_expression_as v e).results
      (λ e₁ r₁. merge_leading_assignments_to_declaration true e₁ r₁)))
      ≡ gather g r
  handle_expression_statement_as_names {r} v e =
      let m : Worked = merge_last_expression_as v e in
      let w : Worked = next_work m.target m.results (λ e₁ r₁. merge_leading_assignments_to_declaration true e₁ r₁) in
      push_optional_expression_names w.target w.results
      ∙ next_work_names m.target m.results (λ e₁ r₁. merge_leading_assignments_to_declaration true e₁ r₁)
      (merge_leading_assignments_names true)
      ∙ merge_last_names v e

  pub handle_expression_statement_names : (q : Bool) (e : Expr) (r : Stmts) → gather g (handle_expression_statement q e r) ≡ gather g r
  handle_expression_statement_names q e r = handle_expression_statement_as_names (last_expression? q r) e

  -- returns

  merge_if_allowed_names : (b : Bool) (t : Expr) (p p' p₁ : OptionalExpr) (r : Stmts) (more : OptionalExpr → Stmts)
      → ((p₂ : OptionalExpr) → gather g (more p₂) ≡ gather g r)
      → gather g (cond b (more p₁) (stmt_then (return_of p) (stmt_then (if_then t (return_of p') no_alternate) r))) ≡ gather g r
  merge_if_allowed_names true t p p' p₁ r more h = h p₁
  merge_if_allowed_names false t p p' p₁ r more h = simp (N.of_return, N.of_if_return, append-nil)

  merge_return_names : (h : Holder) (t : Expr) (p' p : OptionalExpr) (r : Stmts) (more : OptionalExpr → Stmts)
      → ((p₂ : OptionalExpr) → gather g (more p₂) ≡ gather g r) → gather g (merge_return h t p' p r more) ≡ gather g r
  merge_return_names h t absent absent r more m = simp (N.of_return, append-nil) (push_new_expression_names true t r)
  merge_return_names h t absent (present e) r more m =
      merge_if_allowed_names (may_merge_return h (present e)) t (present e) absent _ r more m
  merge_return_names h t (present x) absent r more m = merge_if_allowed_names (may_merge_return h absent) t absent (present x) _ r more m
  merge_return_names h t (present x) (present e) r more m =
      merge_if_allowed_names (may_merge_return h (present e)) t (present e) (present x) _ r more m

  return_step_names : (h : Holder) {x : Stmt} (v : IfReturn? x) (p : OptionalExpr) (r : Stmts) (more : OptionalExpr → Stmts)
      → ((p₂ : OptionalExpr) → gather g (more p₂) ≡ gather g r) → gather g (return_step h v p r more) ≡ gather g (stmt_then x r)
  return_step_names h (if_return t p') p r more m = merge_return_names h t p' p r more m ∙ simp (N.of_if_return, append-nil)
  return_step_names h {x} no_if_return p r more m = simp (N.of_return, append-nil)

  return_loop_names : (h : Holder) (r : Stmts) (p : OptionalExpr) → gather g (return_loop h r p) ≡ gather g r
  return_loop_names h no_stmts p = simp N.of_return
  return_loop_names h (stmt_then x r) p = return_step_names h (if_return? x) p r (λ p₁. return_loop h r p₁) (return_loop_names h r)

  merge_returns_names : (q : Bool) (h : Holder) (p : OptionalExpr) (r : Stmts) → gather g (merge_returns q h p r) ≡ gather g r
  merge_returns_names true h p r = return_loop_names h r p
  merge_returns_names false h p r = simp (N.of_return, append-nil)

  drop_undefined_as_names : (q a b : Bool) (e : Expr) (r : Stmts) → gather g (drop_undefined_as q a b e r).results ≡ gather g r
  drop_undefined_as_names q true true e r = refl
  drop_undefined_as_names q true false e r = push_new_expression_names q e r
  drop_undefined_as_names q false b e r = merge_last_names (last_expression? q r) e

  drop_undefined_argument_names : (q : Bool) (host : Meaning) (p : OptionalExpr) (r : Stmts)
      → gather g (drop_undefined_argument q host p r).results ≡ gather g r
  drop_undefined_argument_names q host absent r = refl
  drop_undefined_argument_names q host (present e) r = drop_undefined_as_names q (host.undefined e) (host.harmless e) e r

  merge_leading_into_declaration_names : (p : OptionalExpr) (r : Stmts)
      → gather g (merge_leading_into_declaration p r).results ≡ gather g r
  merge_leading_into_declaration_names absent r = refl
  merge_leading_into_declaration_names (present e) r = merge_leading_assignments_names false e r

  pub handle_return_statement_names : (q : Bool) (host : Meaning) (h : Holder) (p : OptionalExpr) (r : Stmts)
      → gather g (handle_return_statement q host h p r) ≡ gather g r
  handle_return_statement_names q host h p r =
      let m : Worked = merge_leading_into_declaration p r in
      let a : Worked = drop_undefined_argument q host m.target m.results in
      merge_returns_names q h a.target a.results ∙ drop_undefined_argument_names q host m.target m.results
      ∙ merge_leading_into_declaration_names p r
