-- Performing a command puts what the command makes.
use Rattle.std.proofs.Common.{◌≡◌, ℕ, ◌+◌, ◌≤◌, Bool, true, false, not as negated, ◌&&◌, List, [], ◌∷◌, None, sym, refl, ap, subst, ◌∙◌, ap₂, inl, inr, arith}
use mathlib.Core.Bool.{and-false}
use borrow.Author.Tests.{not-true, not-false}
use Rattle.script.specs.declared.DeclarationKind.{DeclarationKind}
use Rattle.script.specs.declared.ExpressionKind.{ExpressionKind}
use Rattle.script.specs.declared.ExpressionKind.TheVariants as expression_kind
use Rattle.script.specs.declared.StatementKind.TheVariants as kind
use Rattle.script.specs.declared.Command.{Command}
use Rattle.script.specs.declared.Command.TheVariants as command
use Rattle.script.specs.Tree.{Expr, no_alternate, alternate}
use Rattle.script.specs.Tree.{number, word, name, assignment, call, sequence, conditional, logical, not, void, strict_equality}
use Rattle.script.specs.Tree.{empty, expression, declaration, return_of, throw, if_then, block, while, do_while, switch, break, continue}
use Rattle.script.specs.Stacks.{Item, statement, case, Stacks, Performed, puts_expr, pop, exprs_of, declarators_of, as_sequence, sound_declaration, sound_cases, left, perform}
use Rattle.reading.specs.declared.making.Making.{Making}
use Rattle.reading.specs.declared.making.Making.TheVariants as makes
use Rattle.records.specs.Heap.{expr_label, stmt_label}
use Rattle.records.specs.Rows.{Row, end, node}
use Rattle.records.specs.Embedding.{expr_row, item_row}
use Rattle.shapes.specs.Shape.{fits_stmt, survey, decl_survey}
use Rattle.records.specs.Flags.{one_if as flag_number}
use Rattle.reading.specs.Making.{made_by, parts_of, Listed, Matches}
use Rattle.reading.proofs.TakenParts.{Taken, none, pop_taken, all_taken, optional_stack, first_if_taken, stmts_front}
use Rattle.reading.proofs.Made.{enough, remains, misplaced, made, expr_made, decl_made}
use Rattle.reading.proofs.ItemSurveys.{plain, unless_taken, branch_taken, stmts_taken, cases_taken, declarators_stack}
use Rattle.reading.proofs.Fitting.{if_one, if_two, while_one, block_good, block_bad, case_as_block, switch_bad, switch_sound, declaration_sound}
use Rattle.reading.proofs.ForMatching.{for_matches}
use Rattle.shapes.proofs.Decoding.{exprs_row_of}

-- expressions

module _ (s : Stacks) where
  one : (k : ExpressionKind) (make : Expr → Expr) → ((e : Expr) (w : Row) → expr_row (make e) w ≡ node (expr_label k) (expr_row e end) end end w) →
      Matches (makes.Expr k 1) s (pop s.exprs (λ e es. puts_expr (make e) (left es s.stmts s.decls)))
  one k make row = pop_taken (Matches (makes.Expr k 1) s) s.exprs _ none (λ lack. lack) (λ e es t. expr_made s t k (make e) (row e))

  two : (k : ExpressionKind) (make : Expr → Expr → Expr) →
      ((a b : Expr) (w : Row) → expr_row (make a b) w ≡ node (expr_label k) (expr_row a (expr_row b end)) end end w) →
      Matches (makes.Expr k 2) s (pop s.exprs (λ b es₁. pop es₁ (λ a es. puts_expr (make a b) (left es s.stmts s.decls))))
  two k make row =
      let P = Matches (makes.Expr k 2) s in
      pop_taken P s.exprs _ none (λ lack. omega arith)
      (λ b es₁ t₁. pop_taken P es₁ _ t₁ (λ lack. lack) (λ a es t. expr_made s t k (make a b) (row a b)))

  conditional_matches : Matches (makes.Expr expression_kind.Conditional 3) s (perform command.Conditional s)
  conditional_matches =
      let P = Matches (makes.Expr expression_kind.Conditional 3) s in
      pop_taken P s.exprs _ none (λ lack. omega arith) (λ b es₁ t₁.
      pop_taken P es₁ _ t₁ (λ lack. omega arith) (λ a es₂ t₂.
      pop_taken P es₂ _ t₂ (λ lack. lack) (λ c es t. expr_made s t expression_kind.Conditional (conditional c a b) (λ w. refl))))

  call_matches : (n c : ℕ) → Matches (makes.Expr (expression_kind.Call n) c) s (perform (command.Call n c) s)
  call_matches n c =
      all_taken (Matches (makes.Expr (expression_kind.Call n) c) s) c s.exprs _ (λ lack. lack) (λ parts es t.
      expr_made s t (expression_kind.Call n) (call n (exprs_of parts)) (λ w. ap (λ (x : Row). node (expr_label (expression_kind.Call n)) x end end w) (exprs_row_of parts)))

  sequence_matches : (c : ℕ) → 2 ≤ c → Matches (makes.Expr expression_kind.Sequence c) s (perform (command.Sequence c) s)
  sequence_matches c ok = all_taken P c s.exprs _ (λ lack. lack) (λ parts es t. by parts es t)
    where
      P : Performed → Type 0
      P = Matches (makes.Expr expression_kind.Sequence c) s

      by : (parts es : List Expr) → Taken c s.exprs parts es → P (as_sequence parts (λ e. puts_expr e (left es s.stmts s.decls)))
      by [] es t = absurd (let e = t.count in omega arith)
      by (e ∷ parts) es t =
          expr_made s t expression_kind.Sequence (sequence e (exprs_of parts))
          (λ w. ap (λ (x : Row). node (expr_label expression_kind.Sequence) (expr_row e x) end end w) (exprs_row_of parts))

  declarator_matches : (n : ℕ) (v : Bool) → Matches (makes.Decl n (flag_number v)) s (perform (command.Declarator n v) s)
  declarator_matches n v =
      first_if_taken (Matches (makes.Decl n (flag_number v)) s) v s.exprs _ (λ lack. lack)
      (λ e es p t. decl_made s t n e (sym (optional_stack e [])))

-- statements of expressions

module _ (s : Stacks) where
  expression_matches : Matches (makes.Stmt kind.Expression (parts_of 1 0 0)) s (perform command.Expression s)
  expression_matches =
      pop_taken (Matches (makes.Stmt kind.Expression (parts_of 1 0 0)) s) s.exprs _ none (λ lack. inl lack)
      (λ e es t. made s t none none kind.Expression (statement (expression e)) refl (λ w. refl))

  throw_matches : Matches (makes.Stmt kind.Throw (parts_of 1 0 0)) s (perform command.Throw s)
  throw_matches =
      pop_taken (Matches (makes.Stmt kind.Throw (parts_of 1 0 0)) s) s.exprs _ none (λ lack. inl lack)
      (λ e es t. made s t none none kind.Throw (statement (throw e)) refl (λ w. refl))

  return_fits : (v : Bool) → fits_stmt kind.Return (flag_number v) (survey end) (decl_survey end) None ≡ true
  return_fits true = refl
  return_fits false = refl

  return_matches : (v : Bool) → Matches (makes.Stmt kind.Return (parts_of (flag_number v) 0 0)) s (perform (command.Return v) s)
  return_matches v =
      first_if_taken (Matches (makes.Stmt kind.Return (parts_of (flag_number v) 0 0)) s) v s.exprs _ (λ lack. inl lack)
      (λ e es p t. made s t none none kind.Return (statement (return_of e)) (return_fits v)
      (λ w. ap (λ (x : Row). node (stmt_label kind.Return) x end end w) (sym (optional_stack e []))))

  declaration_matches : (k : DeclarationKind) (c : ℕ) → 1 ≤ c →
      Matches (makes.Stmt (kind.Declaration k) (parts_of 0 0 c)) s (perform (command.Declaration k c) s)
  declaration_matches k c ok =
      let P = Matches (makes.Stmt (kind.Declaration k) (parts_of 0 0 c)) s in
      all_taken P c s.decls _ (λ lack. inr (inr lack)) (λ parts ds t.
      let fits = declaration_sound k parts (let e = t.count in omega arith) in
      unless_taken P (negated (sound_declaration k (declarators_of parts))) _
      (λ e. misplaced s none none t (kind.Declaration k) (fits ∙ not-true _ e))
      (λ e. made s none none t (kind.Declaration k) (statement (declaration k (declarators_of parts))) (fits ∙ not-false _ e)
      (λ w. ap (λ (z : Row). node (stmt_label (kind.Declaration k)) end end z w) (declarators_stack parts))))

-- branches and loops

both_false : (x y : Bool) → y ≡ false → (x && y) ≡ false
both_false x y e = ap (λ (b : Bool). x && b) e ∙ and-false x

first_false : (x y : Bool) → x ≡ false → (x && y) ≡ false
first_false x y e = ap (λ (b : Bool). b && y) e

both_true : (x y : Bool) → x ≡ true → y ≡ true → (x && y) ≡ true
both_true x y e f = ap₂ ◌&&◌ e f

module _ (s : Stacks) where
  if_one_matches : Matches (makes.Stmt kind.If (parts_of 1 1 0)) s (perform (command.If false) s)
  if_one_matches =
      let P = Matches (makes.Stmt kind.If (parts_of 1 1 0)) s in
      pop_taken P s.exprs _ none (λ lack. inl lack) (λ t es te.
      pop_taken P s.stmts _ none (λ lack. inr (inl lack)) (λ c is ti.
      branch_taken P c _
      (λ bad. misplaced s te ti none kind.If (if_one c ∙ bad))
      (λ c' p good. made s te ti none kind.If (statement (if_then t c' no_alternate)) (if_one c ∙ good)
      (λ w. ap (λ (i : Item). node (stmt_label kind.If) (expr_row t end) (item_row i end) end w) (sym p)))))

  if_two_matches : Matches (makes.Stmt kind.If (parts_of 1 2 0)) s (perform (command.If true) s)
  if_two_matches =
      let P = Matches (makes.Stmt kind.If (parts_of 1 2 0)) s in
      pop_taken P s.exprs _ none (λ lack. inl lack) (λ t es te.
      pop_taken P s.stmts _ none (λ lack. inr (inl (omega arith))) (λ a is₁ ti₁.
      pop_taken P is₁ _ ti₁ (λ lack. inr (inl lack)) (λ c is ti.
      branch_taken P c _ (λ bad. misplaced s te ti none kind.If (if_two c a ∙ first_false (plain c) (plain a) bad)) (λ c' p good.
      branch_taken P a _ (λ bad. misplaced s te ti none kind.If (if_two c a ∙ both_false (plain c) (plain a) bad)) (λ a' q fine.
      made s te ti none kind.If (statement (if_then t c' (alternate a'))) (if_two c a ∙ both_true (plain c) (plain a) good fine)
      (λ w. ap₂ (λ (i j : Item). node (stmt_label kind.If) (expr_row t end) (item_row i (item_row j end)) end w) (sym p) (sym q)))))))

  if_matches : (a : Bool) → Matches (makes.Stmt kind.If (parts_of 1 (1 + flag_number a) 0)) s (perform (command.If a) s)
  if_matches false = if_one_matches
  if_matches true = if_two_matches

  while_matches : Matches (makes.Stmt kind.While (parts_of 1 1 0)) s (perform command.While s)
  while_matches =
      let P = Matches (makes.Stmt kind.While (parts_of 1 1 0)) s in
      pop_taken P s.exprs _ none (λ lack. inl lack) (λ t es te.
      pop_taken P s.stmts _ none (λ lack. inr (inl lack)) (λ b is ti.
      branch_taken P b _
      (λ bad. misplaced s te ti none kind.While (while_one b ∙ bad))
      (λ b' p good. made s te ti none kind.While (statement (while t b')) (while_one b ∙ good)
      (λ w. ap (λ (i : Item). node (stmt_label kind.While) (expr_row t end) (item_row i end) end w) (sym p)))))

  do_while_matches : Matches (makes.Stmt kind.DoWhile (parts_of 1 1 0)) s (perform command.DoWhile s)
  do_while_matches =
      let P = Matches (makes.Stmt kind.DoWhile (parts_of 1 1 0)) s in
      pop_taken P s.exprs _ none (λ lack. inl lack) (λ t es te.
      pop_taken P s.stmts _ none (λ lack. inr (inl lack)) (λ b is ti.
      branch_taken P b _
      (λ bad. misplaced s te ti none kind.DoWhile (while_one b ∙ bad))
      (λ b' p good. made s te ti none kind.DoWhile (statement (do_while b' t)) (while_one b ∙ good)
      (λ w. ap (λ (i : Item). node (stmt_label kind.DoWhile) (expr_row t end) (item_row i end) end w) (sym p)))))

  -- lists of statements

  block_matches : (c : ℕ) → Matches (makes.Stmt kind.Block (parts_of 0 c 0)) s (perform (command.Block c) s)
  block_matches c =
      let P = Matches (makes.Stmt kind.Block (parts_of 0 c 0)) s in
      all_taken P c s.stmts _ (λ lack. inr (inl lack)) (λ parts is ti.
      stmts_taken P parts _
      (λ bad. misplaced s none ti none kind.Block (block_bad parts bad))
      (λ ss good row. made s none ti none kind.Block (statement (block ss)) (block_good parts good)
      (λ w. ap (λ (y : Row). node (stmt_label kind.Block) end y end w) row)))

  case_matches : (tested : Bool) (c : ℕ) → Matches (makes.Stmt kind.Case (parts_of (flag_number tested) c 0)) s (perform (command.Case tested c) s)
  case_matches tested c =
      let P = Matches (makes.Stmt kind.Case (parts_of (flag_number tested) c 0)) s in
      first_if_taken P tested s.exprs _ (λ lack. inl lack) (λ e es p te.
      all_taken P c s.stmts _ (λ lack. inr (inl lack)) (λ parts is ti.
      stmts_taken P parts _
      (λ bad. misplaced s te ti none kind.Case (case_as_block parts tested ∙ block_bad parts bad))
      (λ ss good row. made s te ti none kind.Case (case e ss) (case_as_block parts tested ∙ block_good parts good)
      (λ w. ap₂ (λ (x y : Row). node (stmt_label kind.Case) x y end w) (sym (optional_stack e [])) row))))

  switch_matches : (c : ℕ) → Matches (makes.Stmt kind.Switch (parts_of 1 c 0)) s (perform (command.Switch c) s)
  switch_matches c =
      let P = Matches (makes.Stmt kind.Switch (parts_of 1 c 0)) s in
      pop_taken P s.exprs _ none (λ lack. inl lack) (λ d es te.
      all_taken P c s.stmts _ (λ lack. inr (inl lack)) (λ parts is ti.
      cases_taken P parts _ (λ bad. misplaced s te ti none kind.Switch (switch_bad parts bad)) (λ cs a.
      unless_taken P (negated (sound_cases cs)) _
      (λ e. misplaced s te ti none kind.Switch (switch_sound parts a ∙ not-true _ e))
      (λ e. made s te ti none kind.Switch (statement (switch d cs)) (switch_sound parts a ∙ not-false _ e)
      (λ w. ap (λ (y : Row). node (stmt_label kind.Switch) (expr_row d end) y end w) a.rows)))))

  body_matches : (c : ℕ) → Matches (makes.Body c) s (perform (command.Body c) s)
  body_matches c =
      let P = Matches (makes.Body c) s in
      all_taken P c s.stmts _ (λ lack. lack) (λ parts is ti.
      stmts_taken P parts _
      (λ bad. (enough s none ti none, λ e. bad (ap (λ (y : Row). (survey y).cases) (sym (stmts_front ti)) ∙ e)))
      (λ ss good row. (
        enough s none ti none,
        remains s none ti none,
        ap (λ (y : Row). (survey y).cases) (stmts_front ti) ∙ good,
        row ∙ sym (stmts_front ti),
      )))

made_matches : (c : Command) (s : Stacks) → Listed c → Matches (made_by c) s (perform c s)
made_matches (command.Number b) s ok = expr_made s none (expression_kind.Number b) (number b) (λ w. refl)
made_matches (command.Word w) s ok = expr_made s none (expression_kind.Word w) (word w) (λ w'. refl)
made_matches (command.Name n) s ok = expr_made s none (expression_kind.Name n) (name n) (λ w. refl)
made_matches (command.Assignment n) s ok = one s (expression_kind.Assignment n) (assignment n) (λ e w. refl)
made_matches (command.Call n c) s ok = call_matches s n c
made_matches (command.Sequence c) s ok = sequence_matches s c ok
made_matches command.Conditional s ok = conditional_matches s
made_matches (command.Logical o) s ok = two s (expression_kind.Logical o) (logical o) (λ a b w. refl)
made_matches command.Not s ok = one s expression_kind.Not not (λ e w. refl)
made_matches command.Void s ok = one s expression_kind.Void void (λ e w. refl)
made_matches command.StrictEquality s ok = two s expression_kind.StrictEquality strict_equality (λ a b w. refl)
made_matches (command.Declarator n v) s ok = declarator_matches s n v
made_matches command.Empty s ok = made s none none none kind.Empty (statement empty) refl (λ w. refl)
made_matches command.Expression s ok = expression_matches s
made_matches (command.Declaration k c) s ok = declaration_matches s k c ok
made_matches (command.Return v) s ok = return_matches s v
made_matches command.Throw s ok = throw_matches s
made_matches (command.If a) s ok = if_matches s a
made_matches (command.Block c) s ok = block_matches s c
made_matches command.While s ok = while_matches s
made_matches command.DoWhile s ok = do_while_matches s
made_matches (command.For h) s ok = for_matches h.init h.test h.update s
made_matches command.Break s ok = made s none none none kind.Break (statement break) refl (λ w. refl)
made_matches command.Continue s ok = made s none none none kind.Continue (statement continue) refl (λ w. refl)
made_matches (command.Case t c) s ok = case_matches s t c
made_matches (command.Switch c) s ok = switch_matches s c
made_matches (command.Body c) s ok = body_matches s c

pub making_matches : (c : Command) (s : Stacks) (m : Making) → m ≡ made_by c → Listed c → Matches m s (perform c s)
making_matches c s m made ok = subst (λ (x : Making). Matches x s (perform c s)) (sym made) (made_matches c s ok)
