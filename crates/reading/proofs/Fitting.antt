-- Which items fit a statement of each kind, once they are taken.
use Rattle.std.proofs.Common.{◌≡◌, ℕ, ◌≤◌, Bool, true, false, not as negated, ◌&&◌, eqb, leb, List, [], ◌∷◌, length, Some, None, Option, sym, refl, ap, ◌∙◌, arith, eq-eqb, ne_eqb, le-leb}
use mathlib.Core.Bool.{and-true, and-false}
use Rattle.script.specs.declared.DeclarationKind.{DeclarationKind}
use Rattle.script.specs.declared.DeclarationKind.TheVariants.{Var, Let, Const}
use Rattle.script.specs.declared.StatementKind.TheVariants as kind
use Rattle.script.specs.declared.ForInit.{ForInit}
use Rattle.script.specs.declared.ForInit.TheVariants as init
use Rattle.script.specs.declared.ForHead.{ForHead}
use Rattle.script.specs.Tree.{Declarators, declaration, Cases}
use Rattle.script.specs.Stacks.{Item, statement, Declarator, declarators_of, sound_declaration, sound_cases, defaults}
use Rattle.shapes.specs.declared.rule.StmtSurvey.{StmtSurvey}
use Rattle.shapes.specs.declared.rule.DeclSurvey.{DeclSurvey}
use Rattle.records.specs.Rows.{Row, end}
use Rattle.records.specs.Embedding.{item_row, stmt_stack, decl_stack}
use Rattle.shapes.specs.Shape.{fits_stmt, for_fits, survey, decl_survey, first_declared, no_survey, head_expressions, values_fit, surveyed}
use Rattle.records.specs.Flags.{one_if as flag_number}
use Rattle.reading.proofs.ItemSurveys.{case_item, default_item, lexical_item, counted, plain, item_survey, AsCases, declarators_count, values_sound}

abbrev no_declarators : DeclSurvey
no_declarators = record { count = 0; bare = 0 }

-- one branch, two branches

pub if_one : (b : Item) → fits_stmt kind.If 1 (survey (stmt_stack (b ∷ []))) no_declarators None ≡ plain b
if_one b = rw item_survey (by (case_item b) (default_item b) (lexical_item b))
  where
    by : (c d l : Bool) → fits_stmt kind.If 1 (counted c d l no_survey) no_declarators None ≡ (negated c && negated l)
    by true d l = refl
    by false d true = refl
    by false d false = refl

pub while_one : (b : Item) → fits_stmt kind.While 1 (survey (stmt_stack (b ∷ []))) no_declarators None ≡ plain b
while_one b = rw item_survey (by (case_item b) (default_item b) (lexical_item b))
  where
    by : (c d l : Bool) → fits_stmt kind.While 1 (counted c d l no_survey) no_declarators None ≡ (negated c && negated l)
    by true d l = refl
    by false d true = refl
    by false d false = refl

pub if_two : (a b : Item) → fits_stmt kind.If 1 (survey (stmt_stack (a ∷ b ∷ []))) no_declarators None ≡ (plain a && plain b)
if_two a b =
    ap (λ (v : StmtSurvey). fits_stmt kind.If 1 v no_declarators None)
    (item_survey a (item_row b end) ∙ ap (counted (case_item a) (default_item a) (lexical_item a)) (item_survey b end))
    ∙ by (case_item a) (default_item a) (lexical_item a) (case_item b) (default_item b) (lexical_item b)
  where
    by : (c₁ d₁ l₁ c₂ d₂ l₂ : Bool) →
        fits_stmt kind.If 1 (counted c₁ d₁ l₁ (counted c₂ d₂ l₂ no_survey)) no_declarators None ≡ ((negated c₁ && negated l₁) && (negated c₂ && negated l₂))
    by true d₁ l₁ true d₂ l₂ = refl
    by true d₁ l₁ false d₂ l₂ = refl
    by false d₁ true true d₂ l₂ = refl
    by false d₁ false true d₂ l₂ = refl
    by false d₁ true false d₂ true = refl
    by false d₁ true false d₂ false = refl
    by false d₁ false false d₂ true = refl
    by false d₁ false false d₂ false = refl

-- a for

for_head_fits : (h : ForHead) (v : StmtSurvey) (f : Option DeclarationKind) →
    fits_stmt (kind.For h) (head_expressions h) v no_declarators f ≡ (eqb v.cases 0 && for_fits h.init v f)
for_head_fits h v f = ap (λ (b : Bool). b && (eqb v.cases 0 && for_fits h.init v f)) (eq-eqb (head_expressions h) (head_expressions h) refl)

abbrev pub head_of : ForInit → Bool → Bool → ForHead
head_of i test update = record { init = i; test = test; update = update }

module _ (test update : Bool) (b : Item) where
  body_fits : (c d l : Bool) →
      (eqb (counted c d l no_survey).cases 0 && for_fits init.Absent (counted c d l no_survey) None) ≡ (negated c && negated l)
  body_fits true d l = refl
  body_fits false d true = refl
  body_fits false d false = refl

  pub for_absent :
      fits_stmt (kind.For (head_of init.Absent test update)) (head_expressions (head_of init.Absent test update)) (survey (stmt_stack (b ∷ []))) no_declarators None ≡ plain b
  for_absent =
      for_head_fits (head_of init.Absent test update) (survey (stmt_stack (b ∷ []))) None
      ∙ rw item_survey (body_fits (case_item b) (default_item b) (lexical_item b))

  pub for_expression :
      fits_stmt (kind.For (head_of init.Expression test update)) (head_expressions (head_of init.Expression test update)) (survey (stmt_stack (b ∷ []))) no_declarators None ≡ plain b
  for_expression =
      for_head_fits (head_of init.Expression test update) (survey (stmt_stack (b ∷ []))) None
      ∙ rw item_survey (body_fits (case_item b) (default_item b) (lexical_item b))

  abbrev pub for_declaration_test : Item → Bool
  for_declaration_test i =
      fits_stmt (kind.For (head_of init.Declaration test update)) (head_expressions (head_of init.Declaration test update))
      (survey (stmt_stack (i ∷ b ∷ []))) no_declarators (first_declared (stmt_stack (i ∷ b ∷ [])))

  pub for_other : (i : Item) → ((w : Row) → first_declared (item_row i w) ≡ None) → for_declaration_test i ≡ false
  for_other i none =
      for_head_fits (head_of init.Declaration test update) (survey (stmt_stack (i ∷ b ∷ []))) (first_declared (stmt_stack (i ∷ b ∷ [])))
      ∙ ap (λ (f : Option DeclarationKind). eqb (survey (stmt_stack (i ∷ b ∷ []))).cases 0 && for_fits init.Declaration (survey (stmt_stack (i ∷ b ∷ []))) f) (none (item_row b end))
      ∙ and-false (eqb (survey (stmt_stack (i ∷ b ∷ []))).cases 0)

  declared_fits : (k : DeclarationKind) (c d l : Bool) →
      (eqb (surveyed (kind.Declaration k) 0 (counted c d l no_survey)).cases 0 && for_fits init.Declaration (surveyed (kind.Declaration k) 0 (counted c d l no_survey)) (Some k))
      ≡ (negated c && negated l)
  declared_fits k true d l = refl
  declared_fits Var false d true = refl
  declared_fits Var false d false = refl
  declared_fits Let false d true = refl
  declared_fits Let false d false = refl
  declared_fits Const false d true = refl
  declared_fits Const false d false = refl

  pub for_declaration : (k : DeclarationKind) (ds : Declarators) → for_declaration_test (statement (declaration k ds)) ≡ plain b
  for_declaration k ds =
      for_head_fits (head_of init.Declaration test update) (survey (stmt_stack (statement (declaration k ds) ∷ b ∷ []))) (Some k)
      ∙ ap (λ (v : StmtSurvey). eqb (surveyed (kind.Declaration k) 0 v).cases 0 && for_fits init.Declaration (surveyed (kind.Declaration k) 0 v) (Some k)) (item_survey b end)
      ∙ declared_fits k (case_item b) (default_item b) (lexical_item b)

-- lists

module _ (is : List Item) where
  abbrev block_test : Bool
  block_test = fits_stmt kind.Block 0 (survey (stmt_stack is)) no_declarators (first_declared (stmt_stack is))

  pub block_good : (survey (stmt_stack is)).cases ≡ 0 → block_test ≡ true
  block_good e = ap (λ (b : Bool). b && true) (eq-eqb (survey (stmt_stack is)).cases 0 e)

  pub block_bad : ((survey (stmt_stack is)).cases ≡ 0 → ⊥) → block_test ≡ false
  block_bad some = ap (λ (b : Bool). b && true) (ne_eqb (survey (stmt_stack is)).cases 0 some)

  abbrev case_test : Bool → Bool
  case_test tested = fits_stmt kind.Case (flag_number tested) (survey (stmt_stack is)) no_declarators (first_declared (stmt_stack is))

  pub case_as_block : (tested : Bool) → case_test tested ≡ block_test
  case_as_block true = refl
  case_as_block false = refl

  abbrev switch_test : Bool
  switch_test = fits_stmt kind.Switch 1 (survey (stmt_stack is)) no_declarators (first_declared (stmt_stack is))

  pub switch_bad : ((survey (stmt_stack is)).cases ≡ (survey (stmt_stack is)).count → ⊥) → switch_test ≡ false
  switch_bad other = rw (ne_eqb (survey (stmt_stack is)).cases (survey (stmt_stack is)).count other) (and-false (leb 1 (survey (stmt_stack is)).count))

  pub switch_sound : {cs : Cases} → AsCases is cs → switch_test ≡ sound_cases cs
  switch_sound {cs} a =
      let v = survey (stmt_stack is) in
      ap (λ (b : Bool). leb 1 v.count && (b && (leb v.defaults 1 && true))) (eq-eqb v.cases v.count a.cases)
      ∙ ap (λ (n : ℕ). leb 1 v.count && (leb n 1 && true)) a.defaults
      ∙ ap (λ (b : Bool). leb 1 v.count && b) (and-true (leb (defaults cs) 1))
      ∙ ap (λ (b : Bool). b && leb (defaults cs) 1) (sym a.some)

pub declaration_sound : (k : DeclarationKind) (ds : List Declarator) → 1 ≤ length ds →
    fits_stmt (kind.Declaration k) 0 no_survey (decl_survey (decl_stack ds)) None ≡ sound_declaration k (declarators_of ds)
declaration_sound k ds some =
    ap (λ (b : Bool). b && values_fit k (decl_survey (decl_stack ds)).bare)
    (le-leb 1 (decl_survey (decl_stack ds)).count (let e = declarators_count ds in omega arith))
    ∙ sym (values_sound k ds)
