-- What the rule on `switch` executes.
use Rattle.std.proofs.Common.{◌≡◌, ℕ, Bool, true, false, cond, T, List, [], ◌∷◌, ◌++◌, sym, refl, ap, ◌∙◌, ap₂, append-nil}
use mathlib.Core.Path.{fun_ext}
use Rattle.script.specs.Tree.{Stmt, block, stmt_then, no_stmts, Stmts, OptionalExpr, case_then, no_cases, Expr, if_then, strict_equality}
use Rattle.script.specs.Tree.{no_alternate, switch, present, expression, absent, Cases}
use Rattle.run.specs.Values.{is_strictly_equal, undefined}
use Rattle.run.specs.Completion.{State, normal, branch, and_then}
use Rattle.run.specs.Evaluate.{evaluate, evaluate_optional}
use Rattle.run.specs.Names.{var_declared, var_declared_list, lexically_declared, lexically_declared_list, lexically_declared_cases}
use Rattle.run.specs.Names.{var_declared_cases}
use Rattle.run.specs.Execute.{execute, take_break, in_scope_of, execute_cases, execute_list, Step, select_case, default_place}
use Rattle.rules.specs.Literals.{is_literal}
use Rattle.rules.specs.Merging.{Worked, merge_last_expression_as, last_expression?, merge_leading_assignments_to_declaration}
use Rattle.rules.specs.Returns.{value_or_void_0}
use Rattle.rules.specs.Ifs.{Block?, is_block, no_block, block?}
use Rattle.rules.specs.Switches.{as_block, case_block, has_nested_break_in_list, push_discriminant, OneCase?, inline_switch_case, one_test}
use Rattle.rules.specs.Switches.{one_default, no_one_case, worked_discriminant, handle_switch_statement, one_case?}
use Rattle.rules.specs.Results.{results_then, gather}
use Rattle.rules.proofs.Completions.{and_then_normal, and_then_assoc, and_then_cong}
use Rattle.rules.proofs.Statements.{results_then_cong}
use Rattle.rules.proofs.Literals.{literal_evaluates, literal_is_value}
use Rattle.rules.proofs.Merging.{push_new_expression_same, Continuation, evaluate_then, SameTarget, next_work_same}
use Rattle.rules.proofs.Merging.{merge_leading_assignments_same, merge_last_same}
use Rattle.rules.proofs.Returns.{value_or_void_0_evaluates}
use Rattle.rules.proofs.Names.{NamesOfList, push_new_expression_names, lexical_names_of_list, var_names_of_list, next_work_names}
use Rattle.rules.proofs.Names.{merge_leading_assignments_names, merge_last_names}
use Rattle.rules.proofs.Keeping.{Keeps, pushed_keeps}
use Rattle.rules.proofs.Breaks.{take_break_not_broke, not_broke_execute}

-- the block that takes the place of the cases

as_block_executes : {x : Stmt} (v : Block? x) (s : State) → execute (as_block v) s ≡ execute (block (stmt_then x no_stmts)) s
as_block_executes (is_block ss) s = sym (and_then_normal (execute (block ss) s))
as_block_executes no_block s = refl

case_block_executes : (ss : Stmts) (s : State) → execute (case_block ss) s ≡ execute (block ss) s
case_block_executes no_stmts s = refl
case_block_executes (stmt_then x no_stmts) s = as_block_executes (block? x) s
case_block_executes (stmt_then x (stmt_then y ys)) s = refl

as_block_var : {x : Stmt} (v : Block? x) → var_declared (as_block v) ≡ var_declared x ++ []
as_block_var (is_block ss) = sym (append-nil (var_declared_list ss))
as_block_var no_block = refl

as_block_lexical : {x : Stmt} (v : Block? x) → lexically_declared (as_block v) ≡ []
as_block_lexical (is_block ss) = refl
as_block_lexical no_block = refl

case_block_var : (ss : Stmts) → var_declared (case_block ss) ≡ var_declared_list ss
case_block_var no_stmts = refl
case_block_var (stmt_then x no_stmts) = as_block_var (block? x)
case_block_var (stmt_then x (stmt_then y ys)) = refl

case_block_lexical : (ss : Stmts) → lexically_declared (case_block ss) ≡ []
case_block_lexical no_stmts = refl
case_block_lexical (stmt_then x no_stmts) = as_block_lexical (block? x)
case_block_lexical (stmt_then x (stmt_then y ys)) = refl

-- the cases are run from the first on, or not at all

run_case : (p : OptionalExpr) (ss : Stmts) → has_nested_break_in_list ss ≡ false → (s : State)
    → take_break (in_scope_of (lexically_declared_list ss ++ []) (λ s₂. execute_cases (case_then p ss no_cases) 0 s₂) s)
    ≡ execute (case_block ss) s
run_case p ss e s =
    ap₂ (λ l f. take_break (in_scope_of l f s)) (append-nil (lexically_declared_list ss))
    (fun_ext (λ s₂. and_then_normal (execute_list ss s₂)))
    ∙ take_break_not_broke (execute (block ss) s) (not_broke_execute (block ss) e s)
    ∙ sym (case_block_executes ss s)

pass_case : (ns : List ℕ) (s : State) → take_break (in_scope_of ns (λ s₂. normal tt s₂) s) ≡ normal tt s
pass_case [] s = refl
pass_case (n ∷ ns) s = refl

test_branch : (b : Bool) (p : OptionalExpr) (ss : Stmts) → has_nested_break_in_list ss ≡ false → (s : State)
    → branch b (execute (case_block ss)) (λ s₂. normal tt s₂) s
    ≡ take_break (in_scope_of (lexically_declared_list ss ++ [])
    (λ s₂. and_then (branch b (λ s₃. normal 0 s₃) (λ s₃. normal 1 s₃) s₂) (λ k s₃. execute_cases (case_then p ss no_cases) k s₃)) s)
test_branch true p ss e s = sym (run_case p ss e s)
test_branch false p ss e s = sym (pass_case (lexically_declared_list ss ++ []) s)

test_case_executes : (d e : Expr) → T (is_literal e) → (ss : Stmts) → has_nested_break_in_list ss ≡ false → (s : State)
    → execute (if_then (strict_equality d e) (case_block ss) no_alternate) s ≡ execute (switch d (case_then (present e) ss no_cases)) s
test_case_executes d e t ss n s =
    let h = literal_evaluates e (literal_is_value e t) in
    let q = h.1 in
    and_then_assoc (evaluate d s) _ _
    ∙ and_then_cong (evaluate d s) (λ u s₁. simp q (test_branch (is_strictly_equal u h.0) (present e) ss n s₁))

push_discriminant_same : (q b : Bool) (d : Expr) → (T b → T (is_literal d)) → (r : Stmts) (f : Step)
    → results_then (push_discriminant q b d r) f ≡ results_then (stmt_then (expression d) r) f
push_discriminant_same q true d t r f =
    results_then_cong r
    (λ s. ap (λ x. and_then (and_then x (λ _ s₁. normal tt s₁)) (λ _ s₁. f s₁))
    (sym ((literal_evaluates d (literal_is_value d (t tt))).1 s)))
push_discriminant_same q false d t r f = push_new_expression_same q d r f

push_discriminant_names : (g : Stmt → List ℕ) → NamesOfList g → (q b : Bool) (d : Expr) (r : Stmts)
    → gather g (push_discriminant q b d r) ≡ gather g r
push_discriminant_names g N q true d r = refl
push_discriminant_names g N q false d r = push_new_expression_names g N q d r

default_case_executes : (d : Expr) (ss : Stmts) → has_nested_break_in_list ss ≡ false → (f : Step) (s : State)
    → and_then (execute (expression d) s) (λ _ s₁. and_then (execute (case_block ss) s₁) (λ _ s₂. f s₂))
    ≡ and_then (execute (switch d (case_then absent ss no_cases)) s) (λ _ s₂. f s₂)
default_case_executes d ss e f s =
    and_then_assoc (evaluate d s) _ _
    ∙ and_then_cong (evaluate d s) (λ v s₁. ap (λ x. and_then x (λ _ s₂. f s₂)) (sym (run_case absent ss e s₁)))
    ∙ sym (and_then_assoc (evaluate d s) _ _)

inline_test_case : (b : Bool) (d e : Expr) → T (is_literal e) → (ss r : Stmts) → has_nested_break_in_list ss ≡ b
    → Keeps (switch d (case_then (present e) ss no_cases)) r
    (cond b (stmt_then (switch d (case_then (present e) ss no_cases)) r)
    (stmt_then (if_then (strict_equality d e) (case_block ss) no_alternate) r))
inline_test_case true d e t ss r n = pushed_keeps (switch d (case_then (present e) ss no_cases)) r
inline_test_case false d e t ss r n = record {
  same = λ f. results_then_cong r (λ s. ap (λ x. and_then x (λ _ s₂. f s₂)) (test_case_executes d e t ss n s));
  lexical = refl;
  var = ap (λ l. gather var_declared r ++ (l ++ [])) (case_block_var ss);
}

inline_default_case : (b q : Bool) (d : Expr) (ss r : Stmts) → has_nested_break_in_list ss ≡ b
    → Keeps (switch d (case_then absent ss no_cases)) r
    (cond b (stmt_then (switch d (case_then absent ss no_cases)) r)
    (stmt_then (case_block ss) (push_discriminant q (is_literal d) d r)))
inline_default_case true q d ss r e = pushed_keeps (switch d (case_then absent ss no_cases)) r
inline_default_case false q d ss r e = record {
  same = λ f. push_discriminant_same q (is_literal d) d (λ t. t) r _ ∙ results_then_cong r (λ s. default_case_executes d ss e f s);
  lexical = ap₂ (λ l m. l ++ m) (push_discriminant_names lexically_declared lexical_names_of_list q (is_literal d) d r)
      (case_block_lexical ss);
  var = ap₂ (λ l m. l ++ m) (push_discriminant_names var_declared var_names_of_list q (is_literal d) d r)
      (case_block_var ss ∙ sym (append-nil (var_declared_list ss)));
}

inline_switch_case_keeps : (q : Bool) (d : Expr) {cs : Cases} (v : OneCase? cs) (r : Stmts)
    → Keeps (switch d cs) r (inline_switch_case q d v r)
inline_switch_case_keeps q d (one_test e t ss) r = inline_test_case (has_nested_break_in_list ss) d e t ss r refl
inline_switch_case_keeps q d (one_default ss) r = inline_default_case (has_nested_break_in_list ss) q d ss r refl
inline_switch_case_keeps q d {cs} no_one_case r = pushed_keeps (switch d cs) r

abbrev execute_selected : Cases → Continuation
execute_selected cs v s =
    take_break (in_scope_of (lexically_declared_cases cs)
    (λ s₂. and_then (select_case cs v 0 (default_place cs) s₂) (λ k s₃. execute_cases cs k s₃)) s)

switch_then : (p : OptionalExpr) (cs : Cases) (r : Stmts) (f : Step)
    → results_then (stmt_then (switch (value_or_void_0 p) cs) r) f
    ≡ results_then r (evaluate_then p (λ v s. and_then (execute_selected cs v s) (λ _ s₁. f s₁)))
switch_then p cs r f = results_then_cong r (λ s.
    ap (λ x. and_then (and_then x (execute_selected cs)) (λ _ s₁. f s₁)) (value_or_void_0_evaluates p s)
    ∙ and_then_assoc (evaluate_optional undefined p s) _ _)

worked_discriminant_same : (q : Bool) (e : Expr) (r : Stmts) → SameTarget false (worked_discriminant q e r) (present e) r
worked_discriminant_same q e r k z =
    let m : Worked = merge_last_expression_as (last_expression? q r) e in
    next_work_same false m.target m.results (λ e₁ r₁. merge_leading_assignments_to_declaration false e₁ r₁)
    (merge_leading_assignments_same false) k z
    ∙ merge_last_same (last_expression? q r) e k z

worked_discriminant_names : (g : Stmt → List ℕ) → NamesOfList g → (q : Bool) (e : Expr) (r : Stmts)
    → gather g (worked_discriminant q e r).results ≡ gather g r
worked_discriminant_names g N q e r =
    let m : Worked = merge_last_expression_as (last_expression? q r) e in
    next_work_names g N m.target m.results (λ e₁ r₁. merge_leading_assignments_to_declaration false e₁ r₁)
    (merge_leading_assignments_names g N false)
    ∙ merge_last_names g N (last_expression? q r) e

pub handle_switch_statement_keeps : (q : Bool) (d : Expr) (cs : Cases) (r : Stmts)
    → Keeps (switch d cs) r (handle_switch_statement q d cs r)
handle_switch_statement_keeps q d cs r =
    let w : Worked = worked_discriminant q d r in
    let p : Keeps (switch (value_or_void_0 w.target) cs) w.results
    (inline_switch_case q (value_or_void_0 w.target) (one_case? cs) w.results)
    = inline_switch_case_keeps q (value_or_void_0 w.target) (one_case? cs) w.results in
    record {
      same = λ f. p.same f ∙ switch_then w.target cs w.results f ∙ worked_discriminant_same q d r _ (λ x. absurd x)
          ∙ sym (switch_then (present d) cs r f);
      lexical = p.lexical ∙ ap (λ l. l ++ []) (worked_discriminant_names lexically_declared lexical_names_of_list q d r);
      var = p.var ∙ ap (λ l. l ++ var_declared_cases cs) (worked_discriminant_names var_declared var_names_of_list q d r);
    }
