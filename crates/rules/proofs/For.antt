-- What the rule on the head of a `for` executes.
use Rattle.std.proofs.Common.{◌≡◌, Bool, true, false, [], ◌++◌, sym, refl, ap, ◌∙◌, ap₂, append_assoc, append-nil}
use Rattle.script.specs.declared.DeclarationKind.{DeclarationKind}
use Rattle.script.specs.declared.DeclarationKind.TheVariants.{Var, Let, Const}
use Rattle.script.specs.Tree.{OptionalExpr, Stmt, for, absent, present, Stmts, stmt_then, Init, Expr, expression, no_init, declaration}
use Rattle.script.specs.Tree.{init_expression, Declarators, init_declaration}
use Rattle.run.specs.Values.{boolean, undefined}
use Rattle.run.specs.Completion.{and_then, normal, State}
use Rattle.run.specs.Evaluate.{evaluate_optional, evaluate}
use Rattle.run.specs.Names.{lexically_declared, var_declared, var_declared_init, bound_names}
use Rattle.run.specs.Execute.{Step, test_then_repeat, execute, declare}
use Rattle.rules.specs.Merging.{LastDeclaration?, last_declaration, no_last_declaration, LastExpression?, last_expression}
use Rattle.rules.specs.Merging.{no_last_expression, last_declaration?, last_expression?, Worked, merge_leading_assignments_to_declaration}
use Rattle.rules.specs.For.{init_from, WorkedHead, join_init_expression, declaration_into_head, expression_into_head, head_from}
use Rattle.rules.specs.For.{var_into_head, head_from_declaration, for_head, handle_for_statement}
use Rattle.rules.specs.Results.{results_then, gather}
use Rattle.rules.proofs.Completions.{and_then_assoc}
use Rattle.rules.proofs.Expressions.{join_sequence_evaluates}
use Rattle.rules.proofs.Statements.{results_then_cong}
use Rattle.rules.proofs.Merging.{evaluate_then, merge_leading_assignments_same}
use Rattle.rules.proofs.Names.{merge_leading_assignments_names, lexical_names_of_list, var_names_of_list}
use Rattle.rules.proofs.Keeping.{Keeps}
use Rattle.rules.proofs.Declarations.{append_declarators_same, bound_names_append}

module _ (t u : OptionalExpr) (b : Stmt) where
  abbrev repeat_for : Step
  repeat_for s = test_then_repeat (λ s₃. evaluate_optional (boolean true) t s₃) (λ s₃. execute b s₃)
      (λ s₃. and_then (evaluate_optional undefined u s₃) (λ _ s₄. normal tt s₄)) s

  for_executes : (p : OptionalExpr) (s : State) → execute (for (init_from p) t u b) s ≡ evaluate_then p (λ _ s₁. repeat_for s₁) s
  for_executes absent s = refl
  for_executes (present e) s = and_then_assoc (evaluate e s) _ _

  for_then : (p : OptionalExpr) (r : Stmts) (f : Step)
      → results_then (stmt_then (for (init_from p) t u b) r) f
      ≡ results_then r (evaluate_then p (λ _ s₁. and_then (repeat_for s₁) (λ _ s₂. f s₂)))
  for_then p r f =
      results_then_cong r
      (λ s. ap (λ x. and_then x (λ _ s₂. f s₂)) (for_executes p s) ∙ and_then_assoc (evaluate_optional undefined p s) _ _)

  record HeadKeeps (i : Init) (r : Stmts) (h : WorkedHead) : Type 0 where
    same : (f : Step) → results_then (stmt_then (for h.init t u b) h.results) f ≡ results_then (stmt_then (for i t u b) r) f
    lexical : gather lexically_declared h.results ≡ gather lexically_declared r
    var : gather var_declared h.results ++ var_declared_init h.init ≡ gather var_declared r ++ var_declared_init i

  as_it_is : (i : Init) (r : Stmts) → HeadKeeps i r (record { init = i; results = r })
  as_it_is i r = record { same = λ f. refl; lexical = refl; var = refl }

  join_init_executes : (a : Expr) (p : OptionalExpr) (k : Step) (s : State)
      → evaluate_then (join_init_expression a p) (λ _ s₁. k s₁) s
      ≡ and_then (execute (expression a) s) (λ _ s₁. evaluate_then p (λ _ s₂. k s₂) s₁)
  join_init_executes a absent k s = simp and_then_assoc
  join_init_executes a (present e) k s = simp (join_sequence_evaluates, and_then_assoc)

  init_from_var_names : (p : OptionalExpr) → var_declared_init (init_from p) ≡ []
  init_from_var_names absent = refl
  init_from_var_names (present e) = refl

  declaration_into_head_keeps : (p : OptionalExpr) {r : Stmts} (v : LastDeclaration? r)
      → HeadKeeps (init_from p) r (declaration_into_head p v)
  declaration_into_head_keeps absent (last_declaration Var ds r) = record {
    same = λ f. results_then_cong r (λ s. and_then_assoc (declare Var ds s) _ _);
    lexical = sym (append-nil (gather lexically_declared r));
    var = sym (append-nil (gather var_declared r ++ bound_names ds));
  }
  declaration_into_head_keeps absent (last_declaration Let ds r) = as_it_is no_init (stmt_then (declaration Let ds) r)
  declaration_into_head_keeps absent (last_declaration Const ds r) = as_it_is no_init (stmt_then (declaration Const ds) r)
  declaration_into_head_keeps absent {r} no_last_declaration = as_it_is no_init r
  declaration_into_head_keeps (present e) {r} v = as_it_is (init_expression e) r

  expression_into_head_keeps : (p : OptionalExpr) {r : Stmts} (v : LastExpression? r)
      → HeadKeeps (init_from p) r (expression_into_head p v)
  expression_into_head_keeps p (last_expression a r) = record {
    same = λ f. for_then (join_init_expression a p) r f
        ∙ results_then_cong r (λ s. join_init_executes a p (λ s₁. and_then (repeat_for s₁) (λ _ s₂. f s₂)) s)
        ∙ sym (for_then p (stmt_then (expression a) r) f);
    lexical = sym (append-nil (gather lexically_declared r));
    var = ap (λ l. gather var_declared r ++ l) (init_from_var_names (join_init_expression a p))
        ∙ sym (ap₂ (λ l m. l ++ m) (append-nil (gather var_declared r)) (init_from_var_names p));
  }
  expression_into_head_keeps p {r} no_last_expression = declaration_into_head_keeps p (last_declaration? r)

  head_from_keeps : (q : Bool) (p : OptionalExpr) (r : Stmts) → HeadKeeps (init_from p) r (head_from q p r)
  head_from_keeps true p r = expression_into_head_keeps p (last_expression? true r)
  head_from_keeps false p r = as_it_is (init_from p) r

  var_into_head_keeps : (ds : Declarators) {r : Stmts} (v : LastDeclaration? r)
      → HeadKeeps (init_declaration Var ds) r (var_into_head ds v)
  var_into_head_keeps ds (last_declaration Var ds₀ r) = record {
    same = λ f. results_then_cong r
        (λ s. ap (λ x. and_then (and_then x (λ _ s₁. repeat_for s₁)) (λ _ s₂. f s₂)) (append_declarators_same Var ds₀ ds s)
        ∙ simp and_then_assoc);
    lexical = sym (append-nil (gather lexically_declared r));
    var = ap (λ l. gather var_declared r ++ l) (bound_names_append ds₀ ds) ∙ sym (append_assoc (gather var_declared r) _ _);
  }
  var_into_head_keeps ds (last_declaration Let ds₀ r) = as_it_is (init_declaration Var ds) (stmt_then (declaration Let ds₀) r)
  var_into_head_keeps ds (last_declaration Const ds₀ r) = as_it_is (init_declaration Var ds) (stmt_then (declaration Const ds₀) r)
  var_into_head_keeps ds {r} no_last_declaration = as_it_is (init_declaration Var ds) r

  head_from_declaration_keeps : (q : Bool) (k : DeclarationKind) (ds : Declarators) (r : Stmts)
      → HeadKeeps (init_declaration k ds) r (head_from_declaration q k ds r)
  head_from_declaration_keeps true Var ds r = var_into_head_keeps ds (last_declaration? r)
  head_from_declaration_keeps true Let ds r = as_it_is (init_declaration Let ds) r
  head_from_declaration_keeps true Const ds r = as_it_is (init_declaration Const ds) r
  head_from_declaration_keeps false k ds r = as_it_is (init_declaration k ds) r

  for_head_keeps : (q : Bool) (i : Init) (r : Stmts) → HeadKeeps i r (for_head q i r)
  for_head_keeps q no_init r = head_from_keeps q absent r
  for_head_keeps q (init_expression e) r =
      let w : Worked = merge_leading_assignments_to_declaration true e r in
      let p : HeadKeeps (init_from w.target) w.results (head_from q w.target w.results) =
      head_from_keeps q w.target w.results in
      record {
        same = λ f. p.same f ∙ for_then w.target w.results f ∙ merge_leading_assignments_same true e r _ (λ _ _ _ _. refl)
            ∙ sym (for_then (present e) r f);
        lexical = p.lexical ∙ merge_leading_assignments_names lexically_declared lexical_names_of_list true e r;
        var = p.var
            ∙ ap₂ (λ l m. l ++ m) (merge_leading_assignments_names var_declared var_names_of_list true e r) (init_from_var_names w.target);
      }
  for_head_keeps q (init_declaration k ds) r = head_from_declaration_keeps q k ds r

  pub handle_for_statement_keeps : (q : Bool) (i : Init) (r : Stmts) → Keeps (for i t u b) r (handle_for_statement q i t u b r)
  handle_for_statement_keeps q i r =
      let p : HeadKeeps i r (for_head q i r) = for_head_keeps q i r in
      record {
        same = p.same;
        lexical = ap (λ l. l ++ []) p.lexical;
        var = sym (append_assoc (gather var_declared (for_head q i r).results) _ _) ∙ ap (λ l. l ++ var_declared b) p.var
            ∙ append_assoc (gather var_declared r) _ _;
      }
