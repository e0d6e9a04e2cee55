-- Whether two statements, or two lists of statements, are the same.
use Rattle.std.specs.Prelude.{◌≡◌, Bool, true, false, T, refl}
use Rattle.std.proofs.Common.{subst}
use Rattle.std.proofs.Math.Decide.{ℕ_discrete}
use Rattle.script.specs.declared.DeclarationKind.{DeclarationKind}
use Rattle.script.specs.declared.DeclarationKind.TheVariants.{Var, Let, Const}
use Rattle.script.specs.declared.LogicalOperator.{LogicalOperator}
use Rattle.script.specs.declared.LogicalOperator.TheVariants.{And, Or, Nullish}
use Rattle.script.specs.declared.Word.{Word}
use Rattle.script.specs.declared.Word.TheVariants.{False, True, Null}
use Rattle.script.specs.Tree.{Expr, Expr-discrete, OptionalExpr, OptionalExpr-discrete, Declarators, Declarators-discrete, Init}
use Rattle.script.specs.Tree.{Init-discrete, Stmt, Stmt-discrete, Stmts, Stmts-discrete}

abbrev pub same_operator : LogicalOperator → LogicalOperator → Bool
same_operator And And = true
same_operator And Or = false
same_operator And Nullish = false
same_operator Or And = false
same_operator Or Or = true
same_operator Or Nullish = false
same_operator Nullish And = false
same_operator Nullish Or = false
same_operator Nullish Nullish = true

abbrev pub same_word : Word → Word → Bool
same_word False False = true
same_word False True = false
same_word False Null = false
same_word True False = false
same_word True True = true
same_word True Null = false
same_word Null False = false
same_word Null True = false
same_word Null Null = true

abbrev pub same_kind : DeclarationKind → DeclarationKind → Bool
same_kind Var Var = true
same_kind Var Let = false
same_kind Var Const = false
same_kind Let Var = false
same_kind Let Let = true
same_kind Let Const = false
same_kind Const Var = false
same_kind Const Let = false
same_kind Const Const = true

-- where a test of two things holds for equal things and for no others, equality is decided
decide : {A : Type 0} (same : A → A → Bool) → ((a b : A) → T (same a b) → a ≡ b) → ((a : A) → T (same a a)) → (a b : A) → Dec (a ≡ b)
decide {A} same is_same self a b = by (same a b) (λ t. is_same a b t) (λ e. subst (λ (x : A). T (same a x)) e (self a))
  where
    by : (c : Bool) → (T c → a ≡ b) → (a ≡ b → T c) → Dec (a ≡ b)
    by true f g = yes (f tt)
    by false f g = no g

pub same_operator_is : (a b : LogicalOperator) → T (same_operator a b) → a ≡ b
same_operator_is And And t = refl
same_operator_is And Or t = absurd t
same_operator_is And Nullish t = absurd t
same_operator_is Or And t = absurd t
same_operator_is Or Or t = refl
same_operator_is Or Nullish t = absurd t
same_operator_is Nullish And t = absurd t
same_operator_is Nullish Or t = absurd t
same_operator_is Nullish Nullish t = refl

pub same_operator_self : (a : LogicalOperator) → T (same_operator a a)
same_operator_self And = tt
same_operator_self Or = tt
same_operator_self Nullish = tt

pub same_word_is : (a b : Word) → T (same_word a b) → a ≡ b
same_word_is False False t = refl
same_word_is False True t = absurd t
same_word_is False Null t = absurd t
same_word_is True False t = absurd t
same_word_is True True t = refl
same_word_is True Null t = absurd t
same_word_is Null False t = absurd t
same_word_is Null True t = absurd t
same_word_is Null Null t = refl

pub same_word_self : (a : Word) → T (same_word a a)
same_word_self False = tt
same_word_self True = tt
same_word_self Null = tt

pub same_kind_is : (a b : DeclarationKind) → T (same_kind a b) → a ≡ b
same_kind_is Var Var t = refl
same_kind_is Var Let t = absurd t
same_kind_is Var Const t = absurd t
same_kind_is Let Var t = absurd t
same_kind_is Let Let t = refl
same_kind_is Let Const t = absurd t
same_kind_is Const Var t = absurd t
same_kind_is Const Let t = absurd t
same_kind_is Const Const t = refl

pub same_kind_self : (a : DeclarationKind) → T (same_kind a a)
same_kind_self Var = tt
same_kind_self Let = tt
same_kind_self Const = tt

operator_eq : (a b : LogicalOperator) → Dec (a ≡ b)
operator_eq = decide same_operator same_operator_is same_operator_self

word_eq : (a b : Word) → Dec (a ≡ b)
word_eq = decide same_word same_word_is same_word_self

kind_eq : (a b : DeclarationKind) → Dec (a ≡ b)
kind_eq = decide same_kind same_kind_is same_kind_self

expr_eq : (a b : Expr) → Dec (a ≡ b)
expr_eq = Expr-discrete ℕ_discrete word_eq operator_eq

optional_eq : (a b : OptionalExpr) → Dec (a ≡ b)
optional_eq = OptionalExpr-discrete expr_eq

declarators_eq : (a b : Declarators) → Dec (a ≡ b)
declarators_eq = Declarators-discrete ℕ_discrete optional_eq

init_eq : (a b : Init) → Dec (a ≡ b)
init_eq = Init-discrete expr_eq kind_eq declarators_eq

unfoldable pub content_eq : (x y : Stmt) → Dec (x ≡ y)
unfolding decide operator_eq word_eq kind_eq expr_eq optional_eq declarators_eq init_eq
content_eq = Stmt-discrete expr_eq kind_eq declarators_eq optional_eq init_eq

unfoldable pub stmts_eq : (xs ys : Stmts) → Dec (xs ≡ ys)
unfolding decide operator_eq word_eq kind_eq expr_eq optional_eq declarators_eq init_eq
stmts_eq = Stmts-discrete expr_eq kind_eq declarators_eq optional_eq init_eq
