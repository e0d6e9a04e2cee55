-- What the rule on declarations executes.
use Rattle.std.proofs.Common.{◌≡◌, ℕ, Bool, true, false, T, ◌∷◌, ◌++◌, sym, refl, ap, ◌∙◌, subst, ap₂, append_assoc}
use Rattle.script.specs.declared.DeclarationKind.{DeclarationKind}
use Rattle.script.specs.declared.DeclarationKind.TheVariants.{Var, Let, Const}
use Rattle.script.specs.Tree.{Declarators, no_declarators, declarator_then, Stmts, declaration, stmt_then, Expr, present, OptionalExpr}
use Rattle.script.specs.Tree.{absent}
use Rattle.run.specs.Environment.{initialise, initialised, mutable, immutable}
use Rattle.run.specs.Completion.{State, and_then, normal, with_environment}
use Rattle.run.specs.Evaluate.{put_value, evaluate}
use Rattle.run.specs.Names.{bound_names, lexical_names, var_names, lexically_declared, var_declared}
use Rattle.run.specs.Execute.{declare, declare_name, Step}
use Rattle.rules.specs.Equal.{same_kind, same_kind_is}
use Rattle.rules.specs.Merging.{LastDeclaration?, last_declaration, no_last_declaration, last_declaration?, Worked}
use Rattle.rules.specs.Merging.{merge_leading_assignments_to_declaration}
use Rattle.rules.specs.Returns.{value_or_void_0}
use Rattle.rules.specs.Declarations.{append_declarators, join_declarations_as, join_declarations, handle_variable_declaration}
use Rattle.rules.specs.Results.{gather, results_then}
use Rattle.rules.proofs.Completions.{and_then_cong, and_then_assoc}
use Rattle.rules.proofs.Statements.{results_then_cong}
use Rattle.rules.proofs.Merging.{Continuation, evaluate_then, merge_leading_assignments_same}
use Rattle.rules.proofs.Returns.{value_or_void_0_evaluates}
use Rattle.rules.proofs.Names.{merge_leading_assignments_names, lexical_names_of_list, var_names_of_list}
use Rattle.rules.proofs.Keeping.{Keeps, pushed_keeps}

pub append_declarators_same : (k : DeclarationKind) (a b : Declarators) (s : State)
    → declare k (append_declarators a b) s ≡ and_then (declare k a s) (λ _ s₁. declare k b s₁)
append_declarators_same k no_declarators b s = refl
append_declarators_same k (declarator_then n p ds) b s =
    and_then_cong (declare_name k n p s) (λ _ s₁. append_declarators_same k ds b s₁) ∙ sym (and_then_assoc (declare_name k n p s) _ _)

pub bound_names_append : (a b : Declarators) → bound_names (append_declarators a b) ≡ bound_names a ++ bound_names b
bound_names_append no_declarators b = refl
bound_names_append (declarator_then n p ds) b = ap (λ l. n ∷ l) (bound_names_append ds b)

lexical_names_append : (k : DeclarationKind) (a b : Declarators)
    → lexical_names k (append_declarators a b) ≡ lexical_names k a ++ lexical_names k b
lexical_names_append Var a b = refl
lexical_names_append Let a b = bound_names_append a b
lexical_names_append Const a b = bound_names_append a b

var_names_append : (k : DeclarationKind) (a b : Declarators) → var_names k (append_declarators a b) ≡ var_names k a ++ var_names k b
var_names_append Var a b = bound_names_append a b
var_names_append Let a b = refl
var_names_append Const a b = refl

join_declarations_here : (k : DeclarationKind) (ds₀ ds : Declarators) (r : Stmts)
    → Keeps (declaration k ds) (stmt_then (declaration k ds₀) r) (stmt_then (declaration k (append_declarators ds₀ ds)) r)
join_declarations_here k ds₀ ds r = record {
  same = λ f. results_then_cong r
      (λ s. ap (λ x. and_then x (λ _ s₁. f s₁)) (append_declarators_same k ds₀ ds s) ∙ and_then_assoc (declare k ds₀ s) _ _);
  lexical = ap (λ l. gather lexically_declared r ++ l) (lexical_names_append k ds₀ ds)
      ∙ sym (append_assoc (gather lexically_declared r) _ _);
  var = ap (λ l. gather var_declared r ++ l) (var_names_append k ds₀ ds) ∙ sym (append_assoc (gather var_declared r) _ _);
}

join_declarations_as_keeps : (b : Bool) (k₀ : DeclarationKind) (ds₀ : Declarators) (k : DeclarationKind) (ds : Declarators) (r : Stmts)
    → (T b → k₀ ≡ k)
    → Keeps (declaration k ds) (stmt_then (declaration k₀ ds₀) r) (join_declarations_as b k₀ ds₀ k ds r)
join_declarations_as_keeps true k₀ ds₀ k ds r e =
    subst (λ (x : DeclarationKind). Keeps (declaration x ds) (stmt_then (declaration k₀ ds₀) r)
    (stmt_then (declaration k₀ (append_declarators ds₀ ds)) r)) (e tt) (join_declarations_here k₀ ds₀ ds r)
join_declarations_as_keeps false k₀ ds₀ k ds r e = pushed_keeps (declaration k ds) (stmt_then (declaration k₀ ds₀) r)

join_declarations_keeps : (j : Bool) (k : DeclarationKind) (ds : Declarators) {r : Stmts} (v : LastDeclaration? r)
    → Keeps (declaration k ds) r (join_declarations j k ds v)
join_declarations_keeps true k ds (last_declaration k₀ ds₀ r) =
    join_declarations_as_keeps (same_kind k₀ k) k₀ ds₀ k ds r (same_kind_is k₀ k)
join_declarations_keeps true k ds {r} no_last_declaration = pushed_keeps (declaration k ds) r
join_declarations_keeps false k ds {r} v = pushed_keeps (declaration k ds) r

-- what a declarator does with its value
abbrev initialise_with : DeclarationKind → ℕ → Continuation
initialise_with Var n v s = and_then (put_value n v s) (λ _ s₂. normal tt s₂)
initialise_with Let n v s = normal tt (with_environment (initialise n (initialised mutable v) s.environment) s)
initialise_with Const n v s = normal tt (with_environment (initialise n (initialised immutable v) s.environment) s)

declare_name_evaluates : (k : DeclarationKind) (n : ℕ) (e : Expr) (s : State)
    → declare_name k n (present e) s ≡ and_then (evaluate e s) (initialise_with k n)
declare_name_evaluates Var n e s = refl
declare_name_evaluates Let n e s = refl
declare_name_evaluates Const n e s = refl

declared_from : (k : DeclarationKind) (n : ℕ) (p : OptionalExpr) (ds : Declarators) (r : Stmts) (f : Step)
    → results_then (stmt_then (declaration k (declarator_then n (present (value_or_void_0 p)) ds)) r) f
    ≡ results_then r (evaluate_then p (λ v s. and_then (and_then (initialise_with k n v s) (λ _ s₁. declare k ds s₁)) (λ _ s₁. f s₁)))
declared_from k n p ds r f = results_then_cong r (λ s.
    ap (λ x. and_then (and_then x (λ _ s₁. declare k ds s₁)) (λ _ s₁. f s₁))
    (declare_name_evaluates k n (value_or_void_0 p) s ∙ ap (λ x. and_then x (initialise_with k n)) (value_or_void_0_evaluates p s))
    ∙ simp and_then_assoc)

pub handle_variable_declaration_keeps : (j : Bool) (k : DeclarationKind) (ds : Declarators) (r : Stmts)
    → Keeps (declaration k ds) r (handle_variable_declaration j k ds r)
handle_variable_declaration_keeps j k no_declarators r = join_declarations_keeps j k no_declarators (last_declaration? r)
handle_variable_declaration_keeps j k (declarator_then n absent ds) r =
    join_declarations_keeps j k (declarator_then n absent ds) (last_declaration? r)
handle_variable_declaration_keeps j k (declarator_then n (present e) ds) r =
    let w : Worked = merge_leading_assignments_to_declaration false e r in
    let d : Declarators = declarator_then n (present (value_or_void_0 w.target)) ds in
    let p : Keeps (declaration k d) w.results (join_declarations j k d (last_declaration? w.results)) =
    join_declarations_keeps j k d (last_declaration? w.results) in
    record {
      same = λ f. p.same f ∙ declared_from k n w.target ds w.results f ∙ merge_leading_assignments_same false e r _ (λ x. absurd x)
          ∙ sym (declared_from k n (present e) ds r f);
      lexical = p.lexical
          ∙ ap₂ (λ a b. a ++ b) (merge_leading_assignments_names lexically_declared lexical_names_of_list false e r)
          (lexical_names_of_list.of_declaration k d (declarator_then n (present e) ds) refl);
      var = p.var
          ∙ ap₂ (λ a b. a ++ b) (merge_leading_assignments_names var_declared var_names_of_list false e r)
          (var_names_of_list.of_declaration k d (declarator_then n (present e) ds) refl);
    }
