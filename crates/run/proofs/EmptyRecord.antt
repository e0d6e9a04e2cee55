-- A record for a list that declares nothing changes nothing: for one list, and for all lists of a run.
use mathlib.Core.Path.{◌≡◌, refl, sym, ap, ◌∙◌, fun_ext}
use mathlib.Core.Bool.{true, false}
use mathlib.Core.List.{List, [], ◌∷◌, ◌++◌}
use Prim.Native.Nat.{ℕ, zero, suc}
use native.Mathlib.Omega.{arith}
use Rattle.script.specs.declared.DeclarationKind.{DeclarationKind}
use Rattle.script.specs.declared.DeclarationKind.TheVariants.{Var, Let, Const}
use Rattle.script.specs.Tree.{OptionalExpr, Init}
use Rattle.script.specs.Tree.{Stmt, empty, expression, declaration, return_of, throw, if_then, block, while, do_while, for, switch, break, continue}
use Rattle.script.specs.Tree.{Alternate, no_alternate, alternate, Stmts, no_stmts, stmt_then, Cases, no_cases, case_then}
use Rattle.script.specs.Stacks.{lexical_declaration, lexical_kind}
use Rattle.script.specs.Sound.{SoundStmt, SoundAlternate, SoundStmts, SoundCases}
use Rattle.run.specs.Values.{Value, undefined, boolean, to_boolean}
use Rattle.run.specs.Completion.{State, and_then, branch}
use Rattle.run.specs.Evaluate.{evaluate, evaluate_optional}
use Rattle.run.specs.Names.{lexical_names, lexically_declared, lexically_declared_list, lexically_declared_cases, lexically_declared_init}
use Rattle.run.specs.Execute.{Step, done, discard_value, in_scope_of, repeat, test_then_repeat, start_loop, take_break, default_place, select_case}
use Rattle.run.specs.Execute.{execute, execute_alternate, execute_list, execute_cases}
use Rattle.run.specs.EveryList.{in_record_of, execute_entering, execute_entering_alternate, execute_entering_list, execute_entering_cases}
use Rattle.run.specs.Run.{ended, at_start}
use Rattle.run.specs.Laws.{EmptyRecordChangesNothing, RecordsForAllLists}
use Rattle.run.proofs.Following.{NoLexical, NoLexicalAlternate, NoLexicalList, NoLexicalCases, Followed, execute_follows, list_follows, cases_follow, for_follows, switch_follows}
use Rattle.run.proofs.Padding.{padded, pad_carried, in_empty_record}

-- the rules of trees see to it that a list which declares nothing meets no let or const outside inner lists

not_lexical : (x : Stmt) → lexical_declaration x ≡ false → lexically_declared x ≡ []
not_lexical empty h = refl
not_lexical (expression e) h = refl
not_lexical (declaration k ds) h = by k h
  where
    by : (k : DeclarationKind) → lexical_kind k ≡ false → lexical_names k ds ≡ []
    by Var h = refl
    by Let h = cc
    by Const h = cc
not_lexical (return_of e) h = refl
not_lexical (throw e) h = refl
not_lexical (if_then t c a) h = refl
not_lexical (block xs) h = refl
not_lexical (while t b) h = refl
not_lexical (do_while b t) h = refl
not_lexical (for i t u b) h = refl
not_lexical (switch d cs) h = refl
not_lexical break h = refl
not_lexical continue h = refl

left_empty : (a b : List ℕ) → a ++ b ≡ [] → a ≡ []
left_empty [] b h = refl
left_empty (n ∷ a) b h = let z : ◌≡◌ {A = ℕ} 0 1 = cc in absurd (omega arith)

right_empty : (a b : List ℕ) → a ++ b ≡ [] → b ≡ []
right_empty [] b h = h
right_empty (n ∷ a) b h = let z : ◌≡◌ {A = ℕ} 0 1 = cc in absurd (omega arith)

mutual
  no_lexical : (x : Stmt) → SoundStmt x → lexically_declared x ≡ [] → NoLexical x
  no_lexical empty ok h = tt
  no_lexical (expression e) ok h = tt
  no_lexical (declaration k ds) ok h = h
  no_lexical (return_of e) ok h = tt
  no_lexical (throw e) ok h = tt
  no_lexical (if_then t c a) ok h = (no_lexical c ok.2 (not_lexical c ok.1), no_lexical_alternate a ok.3)
  no_lexical (block xs) ok h = no_lexical_list xs ok
  no_lexical (while t b) ok h = no_lexical b ok.2 (not_lexical b ok.1)
  no_lexical (do_while b t) ok h = no_lexical b ok.1 (not_lexical b ok.0)
  no_lexical (for i t u b) ok h = λ _. no_lexical b ok.4 (not_lexical b ok.3)
  no_lexical (switch d cs) ok h = no_lexical_cases cs ok.2
  no_lexical break ok h = tt
  no_lexical continue ok h = tt

  no_lexical_alternate : (a : Alternate) → SoundAlternate a → NoLexicalAlternate a
  no_lexical_alternate no_alternate ok = tt
  no_lexical_alternate (alternate x) ok = no_lexical x ok.1 (not_lexical x ok.0)

  no_lexical_list : (xs : Stmts) → SoundStmts xs → lexically_declared_list xs ≡ [] → NoLexicalList xs
  no_lexical_list no_stmts ok h = tt
  no_lexical_list (stmt_then x xs) ok h =
      (no_lexical x ok.0 (left_empty _ _ h), no_lexical_list xs ok.1 (right_empty (lexically_declared x) _ h))

  no_lexical_cases : (cs : Cases) → SoundCases cs → lexically_declared_cases cs ≡ [] → NoLexicalCases cs
  no_lexical_cases no_cases ok h = tt
  no_lexical_cases (case_then t xs cs) ok h =
      (no_lexical_list xs ok.1 (left_empty _ _ h), no_lexical_cases cs ok.2 (right_empty (lexically_declared_list xs) _ h))

-- one list

abbrev FollowedAtZero : Step → Type 0
FollowedAtZero step = Followed ⊥ padded pad_carried 0 (Unit {0}) step

-- with a record or without, by whether a name is declared
entering : (names : List ℕ) (step : Step) → (names ≡ [] → FollowedAtZero step) → (s : State) → in_record_of names step s ≡ in_scope_of names step s
entering [] step h s = in_empty_record step (h refl) s
entering (n ∷ names) step h s = refl

list_followed : (xs : Stmts) → SoundStmts xs → lexically_declared_list xs ≡ [] → FollowedAtZero (execute_list xs)
list_followed xs ok h = list_follows ⊥ padded pad_carried xs 0 (no_lexical_list xs ok h)

pub empty_record_changes_nothing : EmptyRecordChangesNothing
empty_record_changes_nothing xs ok h s =
    ap (λ names. in_record_of names (λ s₁. execute_list xs s₁) s) (sym h)
    ∙ entering (lexically_declared_list xs) (execute_list xs) (list_followed xs ok) s

-- all lists

for_followed : (i : Init) (t u : OptionalExpr) (b : Stmt) → SoundStmt b → lexical_declaration b ≡ false → lexically_declared_init i ≡ []
    → FollowedAtZero (λ s₁. and_then (start_loop i s₁) (λ _ s₂.
    test_then_repeat (λ s₃. evaluate_optional (boolean true) t s₃) (λ s₃. execute b s₃)
    (λ s₃. discard_value (evaluate_optional undefined u s₃)) s₂))
for_followed i t u b ok plain h =
    for_follows ⊥ padded pad_carried i t u b 0 h (execute_follows ⊥ padded pad_carried b 0 (no_lexical b ok (not_lexical b plain)))

switch_followed : (cs : Cases) (v : Value) → SoundCases cs → lexically_declared_cases cs ≡ []
    → FollowedAtZero (λ s₂. and_then (select_case cs v 0 (default_place cs) s₂) (λ place s₃. execute_cases cs place s₃))
switch_followed cs v ok h =
    switch_follows ⊥ padded pad_carried cs v 0 (λ place s. cases_follow ⊥ padded pad_carried cs place 0 (no_lexical_cases cs ok h) s)

mutual
  same : (x : Stmt) → SoundStmt x → execute_entering x ≡ execute x
  same empty ok = refl
  same (expression e) ok = refl
  same (declaration k ds) ok = refl
  same (return_of e) ok = refl
  same (throw e) ok = refl
  same (if_then t c a) ok = λ i s. and_then (evaluate t s) (λ v s₁. branch (to_boolean v) (same c ok.2 i) (same_alternate a ok.3 i) s₁)
  same (block xs) ok =
      ap (in_record_of (lexically_declared_list xs)) (same_list xs ok)
      ∙ fun_ext (entering (lexically_declared_list xs) (execute_list xs) (list_followed xs ok))
  same (while t b) ok = λ i s. test_then_repeat (λ s₁. evaluate t s₁) (same b ok.2 i) (λ s₁. done s₁) s
  same (do_while b t) ok = λ i s. repeat s.turns (λ s₁. evaluate t s₁) (same b ok.1 i) (λ s₁. done s₁) s
  same (for init t u b) ok =
      ap (λ step. in_record_of (lexically_declared_init init) (λ s₁. and_then (start_loop init s₁) (λ _ s₂.
      test_then_repeat (λ s₃. evaluate_optional (boolean true) t s₃) step (λ s₃. discard_value (evaluate_optional undefined u s₃)) s₂)))
      (same b ok.4)
      ∙ fun_ext (entering (lexically_declared_init init) _ (for_followed init t u b ok.4 ok.3))
  same (switch d cs) ok =
      (λ i s. and_then (evaluate d s) (λ v s₁. take_break (in_record_of (lexically_declared_cases cs)
      (λ s₂. and_then (select_case cs v 0 (default_place cs) s₂) (λ place s₃. same_cases cs place ok.2 i s₃)) s₁)))
      ∙ (λ i s. and_then (evaluate d s) (λ v s₁. take_break
      (entering (lexically_declared_cases cs) _ (switch_followed cs v ok.2) s₁ i)))
  same break ok = refl
  same continue ok = refl

  same_alternate : (a : Alternate) → SoundAlternate a → execute_entering_alternate a ≡ execute_alternate a
  same_alternate no_alternate ok = refl
  same_alternate (alternate x) ok = same x ok.1

  same_list : (xs : Stmts) → SoundStmts xs → execute_entering_list xs ≡ execute_list xs
  same_list no_stmts ok = refl
  same_list (stmt_then x xs) ok = λ i s. and_then (same x ok.0 i s) (λ _ s₁. same_list xs ok.1 i s₁)

  same_cases : (cs : Cases) (place : ℕ) → SoundCases cs → execute_entering_cases cs place ≡ execute_cases cs place
  same_cases no_cases place ok = refl
  same_cases (case_then t xs cs) zero ok = λ i s. and_then (same_list xs ok.1 i s) (λ _ s₁. same_cases cs zero ok.2 i s₁)
  same_cases (case_then t xs cs) (suc place) ok = same_cases cs place ok.2

pub records_for_all_lists : RecordsForAllLists
records_for_all_lists body ok world turns = ap (λ step. ended (step (at_start world turns body))) (same (block body) ok)
