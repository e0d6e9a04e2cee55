-- Rows of expressions and declarators whose parts fit are trees that break no rule.
use Rattle.std.proofs.Common.{◌≡◌, ℕ, suc, ◌≤◌, true, List, [], ◌∷◌, length, sym, refl, ap, ◌∙◌, arith, eqb-true, leb-true}
use Rattle.script.specs.declared.ExpressionKind.{ExpressionKind}
use Rattle.script.specs.declared.ExpressionKind.TheVariants as kind
use Rattle.script.specs.Tree.{Expr, number, word, name, assignment, call, sequence, conditional, logical, not, void, strict_equality}
use Rattle.script.specs.Tree.{OptionalExpr, absent, present}
use Rattle.script.specs.Stacks.{Stacks, no_items, Declarator, declarator, exprs_of, declarators_of}
use Rattle.script.specs.Sound.{SoundExpr, SoundOptional, SoundDeclarator, Every}
use Rattle.records.specs.Heap.{expr_label, stmt_label, decl_label}
use Rattle.records.specs.Rows.{Row, end, node, row_length}
use Rattle.records.specs.Embedding.{expr_row, exprs_row, optional_row, declarators_row, expr_stack, decl_stack}
use Rattle.shapes.specs.Shape.{fits_expr, ShapedExprs, ShapedDecls, decl_survey}
use Rattle.script.proofs.Keeping.{count_exprs_of, exprs_of_sound}
use Rattle.records.proofs.RowLengths.{expr_row_length}

pub expr_stack_length : (es : List Expr) → row_length (expr_stack es) ≡ length es
expr_stack_length [] = refl
expr_stack_length (e ∷ es) = expr_row_length e (expr_stack es) ∙ ap suc (expr_stack_length es)

pub decl_stack_length : (ds : List Declarator) → (decl_survey (decl_stack ds)).count ≡ length ds
decl_stack_length [] = refl
decl_stack_length (declarator n v ∷ ds) = omega (arith, decl_stack_length ds)

-- stacks of no length have no items
empty_list : {A : Type 0} (xs : List A) → length xs ≡ 0 → xs ≡ []
empty_list [] e = refl
empty_list (x ∷ xs) e = absurd (omega arith)

pub no_items_left : (s : Stacks) → length s.exprs ≡ 0 → length s.stmts ≡ 0 → length s.decls ≡ 0 → s ≡ no_items
no_items_left s a b c = λ i. record { exprs = empty_list s.exprs a i; stmts = empty_list s.stmts b i; decls = empty_list s.decls c i }

-- the lists of the trees
pub exprs_row_of : (es : List Expr) → exprs_row (exprs_of es) ≡ expr_stack es
exprs_row_of [] = refl
exprs_row_of (e ∷ es) = ap (expr_row e) (exprs_row_of es)

pub declarators_row_of : (ds : List Declarator) → declarators_row (declarators_of ds) ≡ decl_stack ds
declarators_row_of [] = refl
declarators_row_of (declarator n v ∷ ds) = ap (node (decl_label n) (optional_row v end) end end) (declarators_row_of ds)

-- what rows are decoded to
abbrev pub ExprsOf : Row → Type 0
ExprsOf r = (es : List Expr) × (expr_stack es ≡ r) × Every SoundExpr es

abbrev pub DeclaratorsOf : Row → Type 0
DeclaratorsOf r = (ds : List Declarator) × (decl_stack ds ≡ r) × Every SoundDeclarator ds

-- an expression with its parts; what follows it in the row does not matter
abbrev ExprOf : ExpressionKind → List Expr → Type 0
ExprOf k es = (e : Expr) × ((w : Row) → expr_row e w ≡ node (expr_label k) (expr_stack es) end end w) × SoundExpr e

no_parts : (k : ExpressionKind) (e : Expr) → ((w : Row) → expr_row e w ≡ node (expr_label k) end end end w) → SoundExpr e → (es : List Expr) → length es ≡ 0 → ExprOf k es
no_parts k e r s [] n = (e, r, s)
no_parts k e r s (a ∷ es) n = absurd (omega arith)

one_part : (k : ExpressionKind) (put : Expr → Expr) → ((a : Expr) (w : Row) → expr_row (put a) w ≡ node (expr_label k) (expr_row a end) end end w) →
    ((a : Expr) → SoundExpr a → SoundExpr (put a)) → (es : List Expr) → Every SoundExpr es → length es ≡ 1 → ExprOf k es
one_part k put r s [] h n = absurd (omega arith)
one_part k put r s (a ∷ []) h n = (put a, r a, s a h.0)
one_part k put r s (a ∷ b ∷ es) h n = absurd (omega arith)

two_parts : (k : ExpressionKind) (put : Expr → Expr → Expr) →
    ((a b : Expr) (w : Row) → expr_row (put a b) w ≡ node (expr_label k) (expr_row a (expr_row b end)) end end w) →
    ((a b : Expr) → SoundExpr a → SoundExpr b → SoundExpr (put a b)) → (es : List Expr) → Every SoundExpr es → length es ≡ 2 → ExprOf k es
two_parts k put r s [] h n = absurd (omega arith)
two_parts k put r s (a ∷ []) h n = absurd (omega arith)
two_parts k put r s (a ∷ b ∷ []) h n = (put a b, r a b, s a b h.0 h.1.0)
two_parts k put r s (a ∷ b ∷ c ∷ es) h n = absurd (omega arith)

sequence_parts : (es : List Expr) → Every SoundExpr es → 2 ≤ length es → ExprOf kind.Sequence es
sequence_parts [] h n = absurd (omega arith)
sequence_parts (a ∷ es) h n = (
  sequence a (exprs_of es),
  (λ w. ap (λ (x : Row). node (expr_label kind.Sequence) (expr_row a x) end end w) (exprs_row_of es)),
  (omega (arith, count_exprs_of es), h.0, exprs_of_sound es h.1),
)

conditional_parts : (es : List Expr) → Every SoundExpr es → length es ≡ 3 → ExprOf kind.Conditional es
conditional_parts [] h n = absurd (omega arith)
conditional_parts (t ∷ []) h n = absurd (omega arith)
conditional_parts (t ∷ a ∷ []) h n = absurd (omega arith)
conditional_parts (t ∷ a ∷ b ∷ []) h n = (conditional t a b, (λ w. refl), (h.0, h.1.0, h.1.1.0))
conditional_parts (t ∷ a ∷ b ∷ c ∷ es) h n = absurd (omega arith)

expr_of : (k : ExpressionKind) (es : List Expr) → Every SoundExpr es → fits_expr k (length es) ≡ true → ExprOf k es
expr_of (kind.Number b) es h f = no_parts (kind.Number b) (number b) (λ w. refl) tt es (eqb-true _ _ f)
expr_of (kind.Word c) es h f = no_parts (kind.Word c) (word c) (λ w. refl) tt es (eqb-true _ _ f)
expr_of (kind.Name n) es h f = no_parts (kind.Name n) (name n) (λ w. refl) tt es (eqb-true _ _ f)
expr_of (kind.Assignment n) es h f = one_part (kind.Assignment n) (assignment n) (λ a w. refl) (λ a s. s) es h (eqb-true _ _ f)
expr_of (kind.Call n) es h f = (
  call n (exprs_of es),
  (λ w. ap (λ (x : Row). node (expr_label (kind.Call n)) x end end w) (exprs_row_of es)),
  (omega (arith, count_exprs_of es, leb-true _ _ f), exprs_of_sound es h),
)
expr_of kind.Sequence es h f = sequence_parts es h (leb-true _ _ f)
expr_of kind.Conditional es h f = conditional_parts es h (eqb-true _ _ f)
expr_of (kind.Logical o) es h f = two_parts (kind.Logical o) (logical o) (λ a b w. refl) (λ a b s t. (s, t)) es h (eqb-true _ _ f)
expr_of kind.Not es h f = one_part kind.Not not (λ a w. refl) (λ a s. s) es h (eqb-true _ _ f)
expr_of kind.Void es h f = one_part kind.Void void (λ a w. refl) (λ a s. s) es h (eqb-true _ _ f)
expr_of kind.StrictEquality es h f = two_parts kind.StrictEquality strict_equality (λ a b w. refl) (λ a b s t. (s, t)) es h (eqb-true _ _ f)

pub decoded_length : {x : Row} (p : ExprsOf x) → row_length x ≡ length p.0
decoded_length p = ap row_length (sym p.1) ∙ expr_stack_length p.0

expr_more : (k : ExpressionKind) (x w : Row) → fits_expr k (row_length x) ≡ true → ExprsOf x → ExprsOf w → ExprsOf (node (expr_label k) x end end w)
expr_more k x w f p q =
    let n : fits_expr k (length p.0) ≡ true = rw (decoded_length p) at f in
    let e = expr_of k p.0 p.2 n in (
      e.0 ∷ q.0,
      e.1 (expr_stack q.0) ∙ (λ i. node (expr_label k) (p.1 i) end end (q.1 i)),
      (e.2, q.2),
    )

pub exprs_decoded : (r : Row) → ShapedExprs r → (es : List Expr) × (expr_stack es ≡ r) × Every SoundExpr es
exprs_decoded end h = ([], refl, tt)
exprs_decoded (node (expr_label k) x end end w) h = expr_more k x w h.0 (exprs_decoded x h.1) (exprs_decoded w h.4)
exprs_decoded (node (expr_label k) x end (node l a b c d) w) h = absurd h.3
exprs_decoded (node (expr_label k) x (node l a b c d) z w) h = absurd h.2
exprs_decoded (node (stmt_label k) x y z w) h = absurd h
exprs_decoded (node (decl_label n) x y z w) h = absurd h

-- a row of one expression or none
pub optional_decoded : (x : Row) → row_length x ≤ 1 → ExprsOf x → (v : OptionalExpr) × (optional_row v end ≡ x) × SoundOptional v
optional_decoded x n p = by p.0 p.1 p.2 (decoded_length p)
  where
    by : (es : List Expr) → expr_stack es ≡ x → Every SoundExpr es → row_length x ≡ length es → (v : OptionalExpr) × (optional_row v end ≡ x) × SoundOptional v
    by [] e h m = (absent, e, tt)
    by (a ∷ []) e h m = (present a, e, h.0)
    by (a ∷ b ∷ es) e h m = absurd (omega arith)

decl_more : (n : ℕ) (x w : Row) → row_length x ≤ 1 → ExprsOf x → DeclaratorsOf w → DeclaratorsOf (node (decl_label n) x end end w)
decl_more n x w l p q =
    let v = optional_decoded x l p in
    (declarator n v.0 ∷ q.0, (λ i. node (decl_label n) (v.1 i) end end (q.1 i)), (v.2, q.2))

pub declarators_decoded : (r : Row) → ShapedDecls r → (ds : List Declarator) × (decl_stack ds ≡ r) × Every SoundDeclarator ds
declarators_decoded end h = ([], refl, tt)
declarators_decoded (node (expr_label k) x y z w) h = absurd h
declarators_decoded (node (stmt_label k) x y z w) h = absurd h
declarators_decoded (node (decl_label n) x end end w) h = decl_more n x w (leb-true _ _ h.0) (exprs_decoded x h.1) (declarators_decoded w h.4)
declarators_decoded (node (decl_label n) x end (node l a b c d) w) h = absurd h.3
declarators_decoded (node (decl_label n) x (node l a b c d) z w) h = absurd h.2
