-- The walk from an expression to a part that has the same fact, and what kinds of expressions tell.
use mathlib.Core.Path.{◌≡◌, ◌∙◌, ap, refl, subst, sym}
use mathlib.Core.Bool.{Bool, false, true}
use mathlib.Core.List.{List}
use Prim.Native.Nat.{ℕ, ◌+◌, ◌<◌, ◌≤◌}
use native.Mathlib.Omega.{arith}
use lib.ListN.{get_or, length}
use borrow.Author.Tests.{lt-leb}
use Rattle.script.specs.declared.ExpressionKind.TheVariants as expression
use Rattle.script.specs.declared.Word.{Word}
use Rattle.script.specs.Sound.{count_exprs, records_expr, records_exprs}
use Rattle.script.specs.Tree.{Expr, Exprs, assignment, call, conditional, expr_then, logical, name, no_exprs, not, number, sequence, strict_equality}
use Rattle.script.specs.Tree.{void, word}
use Rattle.records.specs.declared.record.DeclRecord.{DeclRecord}
use Rattle.records.specs.declared.record.ExprRecord.{ExprRecord}
use Rattle.records.specs.declared.record.StmtRecord.{StmtRecord}
use Rattle.records.specs.Embedding.{expr_row, exprs_row}
use Rattle.records.specs.Heap.{Heap, Place, blank_expr, expr_at}
use Rattle.records.specs.Owned.{Short}
use Rattle.records.specs.Readable.{tables}
use Rattle.records.specs.Rows.{At, Row, end}
use Rattle.rules.specs.Ifs.{has_negated_result, has_negated_results, last_has_negated_result}
use Rattle.rules.specs.Literals.{is_literal_value}
use Rattle.rules.specs.Returns.{conditional_count, conditional_expression_count_exceeded}
use Rattle.moves.specs.First.{expr_kind}
use Rattle.moves.specs.Last.{last_behind}
use Rattle.moves.specs.Read.{TellsExpr}
use Rattle.moves.proofs.ByKind.{expr_of_kind}
use Rattle.moves.proofs.Told.{told_expr_kind, told_expr_next, told_expr_parts}

pub expr_records : (x : Expr) → 1 ≤ records_expr x
expr_records (number b) = omega arith
expr_records (word w) = omega arith
expr_records (name n) = omega arith
expr_records (assignment n x) = omega arith
expr_records (call n xs) = omega arith
expr_records (sequence x xs) = omega arith
expr_records (conditional t a b) = omega arith
expr_records (logical k a b) = omega arith
expr_records (not x) = omega arith
expr_records (void x) = omega arith
expr_records (strict_equality a b) = omega arith

pub exprs_records : (xs : Exprs) → count_exprs xs ≤ records_exprs xs
exprs_records no_exprs = omega arith
exprs_records (expr_then x xs) = let a = expr_records x in let b = exprs_records xs in omega arith

-- after i steps a part is reached that has the same fact
abbrev pub Reached : (Expr → Bool) → List ExprRecord → ℕ → ℕ → ℕ → Type 0
Reached fact exprs at part i =
    (ss : List StmtRecord) (ds : List DeclRecord) (e : Expr) (w : Row) → Short (tables exprs ss ds)
    → At (tables exprs ss ds) (expr_at at) (expr_row e w) → records_expr e ≤ length exprs
    → (x : Expr) × (v : Row) × At (tables exprs ss ds) (expr_at part) (expr_row x v) × (fact e ≡ fact x) × (records_expr x + i ≤ records_expr e)

-- a step into a part
abbrev pub StepsInto : (Expr → Bool) → List ExprRecord → ℕ → ℕ → Type 0
StepsInto fact exprs part next =
    (ss : List StmtRecord) (ds : List DeclRecord) (e : Expr) (w : Row) → Short (tables exprs ss ds)
    → At (tables exprs ss ds) (expr_at part) (expr_row e w) → records_expr e ≤ length exprs
    → (x : Expr) × (v : Row) × At (tables exprs ss ds) (expr_at next) (expr_row x v) × (fact e ≡ fact x) × (records_expr x + 1 ≤ records_expr e)

module _ (fact : Expr → Bool) (exprs : List ExprRecord) (at part i : ℕ) (inv : Reached fact exprs at part i) where
  pub reached_told : {b : Bool} → TellsExpr fact exprs part b → TellsExpr fact exprs at b
  reached_told f ss ds e w s a n =
      let q = inv ss ds e w s a n in let m = q.4 in f ss ds q.0 q.1 s q.2 (omega arith) ∙ sym q.3

  pub reached_next : {next : ℕ} → StepsInto fact exprs part next → Reached fact exprs at next (i + 1)
  reached_next f ss ds e w s a n =
      let q = inv ss ds e w s a n in
      let m = q.4 in
      let r = f ss ds q.0 q.1 s q.2 (omega arith) in
      let k = r.4 in
      (r.0, r.1, r.2, q.3 ∙ r.3, omega arith)

  pub reached_nothing : {b : Bool} → length exprs ≤ i → TellsExpr fact exprs at b
  reached_nothing l ss ds e w s a n = let q = inv ss ds e w s a n in let m = q.4 in let k = expr_records q.0 in absurd (omega arith)

-- what a record's kind alone tells
pub by_kind : (fact : Expr → Bool) (exprs : List ExprRecord) (at : ℕ) (r : ExprRecord) (b : Bool) → r ≡ get_or exprs at blank_expr
    → ((e : Expr) → r.kind ≡ expr_kind e → b ≡ fact e) → TellsExpr fact exprs at b
by_kind fact exprs at r b read f ss ds e w s a n = f e (told_expr_kind (tables exprs ss ds) at e w read a)

pub number_value : (e : Expr) (b : ℕ) → expression.Number b ≡ expr_kind e → true ≡ is_literal_value e
number_value e b k = ap is_literal_value (sym (expr_of_kind e k))

pub word_value : (e : Expr) (c : Word) → expression.Word c ≡ expr_kind e → true ≡ is_literal_value e
word_value e c k = ap is_literal_value (sym (expr_of_kind e k))

pub not_value : (e : Expr) → ((b : ℕ) → expr_kind e ≡ expression.Number b → ⊥) → ((c : Word) → expr_kind e ≡ expression.Word c → ⊥)
    → (expr_kind e ≡ expression.Not → ⊥) → (expr_kind e ≡ expression.Void → ⊥) → false ≡ is_literal_value e
not_value (number b) n m o u = absurd (n b refl)
not_value (word c) n m o u = absurd (m c refl)
not_value (name v) n m o u = refl
not_value (assignment v e) n m o u = refl
not_value (call v es) n m o u = refl
not_value (sequence e es) n m o u = refl
not_value (conditional t a b) n m o u = refl
not_value (logical p a b) n m o u = refl
not_value (not e) n m o u = absurd (o refl)
not_value (void e) n m o u = absurd (u refl)
not_value (strict_equality a b) n m o u = refl

pub not_negated_told : (e : Expr) → expression.Not ≡ expr_kind e → true ≡ has_negated_result e
not_negated_told e k = let q = expr_of_kind e k in ap has_negated_result (sym q.1)

pub others_negated : (e : Expr) → (expr_kind e ≡ expression.Not → ⊥) → (expr_kind e ≡ expression.Sequence → ⊥) → false ≡ has_negated_result e
others_negated (number b) n m = refl
others_negated (word c) n m = refl
others_negated (name v) n m = refl
others_negated (assignment v e) n m = refl
others_negated (call v es) n m = refl
others_negated (sequence e es) n m = absurd (m refl)
others_negated (conditional t a b) n m = refl
others_negated (logical p a b) n m = refl
others_negated (not e) n m = absurd (n refl)
others_negated (void e) n m = refl
others_negated (strict_equality a b) n m = refl

-- into a `!` or a `void`
module _ (exprs : List ExprRecord) (at : ℕ) (r : ExprRecord) (read : r ≡ get_or exprs at blank_expr) where
  pub into_not : expression.Not ≡ r.kind → StepsInto is_literal_value exprs at r.first
  into_not k ss ds e w s a n =
      let h = tables exprs ss ds in
      let q = expr_of_kind e (k ∙ told_expr_kind h at e w read a) in
      let a' = subst (λ (v : Expr). At h (expr_at at) (expr_row v w)) q.1 a in
      let m = ap records_expr q.1 in
      (q.0, end, told_expr_parts h at (not q.0) w read a', ap is_literal_value q.1, omega arith)

  pub into_void : expression.Void ≡ r.kind → StepsInto is_literal_value exprs at r.first
  into_void k ss ds e w s a n =
      let h = tables exprs ss ds in
      let q = expr_of_kind e (k ∙ told_expr_kind h at e w read a) in
      let a' = subst (λ (v : Expr). At h (expr_at at) (expr_row v w)) q.1 a in
      let m = ap records_expr q.1 in
      (q.0, end, told_expr_parts h at (void q.0) w read a', ap is_literal_value q.1, omega arith)

-- the last item of a row
last_there : (es : Exprs) (e : Expr) (h : Heap) (i : ℕ) → At h (expr_at i) (expr_row e (exprs_row es))
    → (x : Expr) × At h (last_behind h (expr_at i) es) (expr_row x end)
    × (last_has_negated_result es (has_negated_result e) (has_negated_results es) ≡ has_negated_result x)
    × (records_expr x ≤ records_expr e + records_exprs es)
last_there no_exprs e h i a = (e, a, refl, omega arith)
last_there (expr_then y ys) e h i a =
    let q = last_there ys y h (get_or h.exprs i blank_expr).next (told_expr_next h i e (exprs_row (expr_then y ys)) refl a) in
    let m = q.3 in
    (q.0, q.1, q.2, omega arith)

-- into the last item of a sequence
pub into_last : (exprs : List ExprRecord) (at next : ℕ) (r : ExprRecord) → r ≡ get_or exprs at blank_expr → expression.Sequence ≡ r.kind
    → ((ss : List StmtRecord) (ds : List DeclRecord) (e : Expr) (es : Exprs) → Short (tables exprs ss ds)
    → At (tables exprs ss ds) (expr_at r.first) (expr_row e (exprs_row es)) → count_exprs es < length exprs
    → expr_at next ≡ last_behind (tables exprs ss ds) (expr_at r.first) es)
    → StepsInto has_negated_result exprs at next
into_last exprs at next r read k lasts ss ds e w s a n =
    let h = tables exprs ss ds in
    let q = expr_of_kind e (k ∙ told_expr_kind h at e w read a) in
    let a' = subst (λ (v : Expr). At h (expr_at at) (expr_row v w)) q.2 a in
    let b = told_expr_parts h at (sequence q.0 q.1) w read a' in
    let m = ap records_expr q.2 in
    let c = exprs_records q.1 in
    let f = expr_records q.0 in
    let t = last_there q.1 q.0 h r.first b in
    let u = t.3 in
    let z = lasts ss ds q.0 q.1 s b (omega arith) in
    (t.0, end, subst (λ (p : Place). At h p (expr_row t.0 end)) (sym z) t.1, ap has_negated_result q.2 ∙ t.2, omega arith)

-- conditionals one in the other's last part: i are passed
abbrev pub Counted : List ExprRecord → ℕ → ℕ → ℕ → Type 0
Counted exprs at part i =
    (ss : List StmtRecord) (ds : List DeclRecord) (e : Expr) (w : Row) → Short (tables exprs ss ds)
    → At (tables exprs ss ds) (expr_at at) (expr_row e w)
    → (x : Expr) × (v : Row) × At (tables exprs ss ds) (expr_at part) (expr_row x v) × (conditional_count e ≡ i + conditional_count x)

none_counted : (e : Expr) → (expr_kind e ≡ expression.Conditional → ⊥) → conditional_count e ≡ 0
none_counted (number b) n = refl
none_counted (word c) n = refl
none_counted (name v) n = refl
none_counted (assignment v e) n = refl
none_counted (call v es) n = refl
none_counted (sequence e es) n = refl
none_counted (conditional t a b) n = absurd (n refl)
none_counted (logical p a b) n = refl
none_counted (not e) n = refl
none_counted (void e) n = refl
none_counted (strict_equality a b) n = refl

module _ (exprs : List ExprRecord) (at part i : ℕ) (inv : Counted exprs at part i) where
  pub counted_few : (r : ExprRecord) → r ≡ get_or exprs part blank_expr → (r.kind ≡ expression.Conditional → ⊥) → i < 500
      → TellsExpr conditional_expression_count_exceeded exprs at false
  counted_few r read ne l ss ds e w s a n =
      let q = inv ss ds e w s a in
      let k = told_expr_kind (tables exprs ss ds) part q.0 q.1 read q.2 in
      let z = none_counted q.0 (λ c. ne (k ∙ c)) in
      let m = q.3 in
      sym (lt-leb 500 (conditional_count e) (omega arith))

  pub counted_next : (r : ExprRecord) (next : ℕ) → r ≡ get_or exprs part blank_expr → expression.Conditional ≡ r.kind
      → next ≡ (get_or exprs (get_or exprs r.first blank_expr).next blank_expr).next → Counted exprs at next (i + 1)
  counted_next r next read k third ss ds e w s a =
      let h = tables exprs ss ds in
      let q = inv ss ds e w s a in
      let x = q.0 in
      let v = q.1 in
      let c = expr_of_kind x (k ∙ told_expr_kind h part x v read q.2) in
      let a' = subst (λ (y : Expr). At h (expr_at part) (expr_row y v)) c.3 q.2 in
      let b = told_expr_parts h part (conditional c.0 c.1 c.2) v read a' in
      let b₁ = told_expr_next h r.first c.0 (expr_row c.1 (expr_row c.2 end)) refl b in
      let b₂ = told_expr_next h (get_or exprs r.first blank_expr).next c.1 (expr_row c.2 end) refl b₁ in
      let m = q.3 in
      let m' = ap conditional_count c.3 in
      (c.2, end, subst (λ (p : ℕ). At h (expr_at p) (expr_row c.2 end)) (sym third) b₂, omega arith)
