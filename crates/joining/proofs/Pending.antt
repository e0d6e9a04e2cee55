-- What is owned while a row of pending expressions is joined onto an expression in place.
use mathlib.Core.Path.{◌≡◌, ◌∙◌, ap, refl, sym}
use mathlib.Core.Bool.{Bool, cond, false, true}
use mathlib.Core.List.{List, [], ◌∷◌}
use mathlib.Core.Logic.{◌≢◌}
use Prim.Native.Nat.{ℕ, ◌+◌, ◌≤◌, suc}
use native.Mathlib.Omega.{arith}
use lib.ListN.{get_or}
use Rattle.pool.specs.Chain.{nowhere}
use Rattle.pool.specs.declared.Pool.{Pool}
use Rattle.script.specs.declared.ExpressionKind.{ExpressionKind}
use Rattle.script.specs.declared.ExpressionKind.TheVariants as expression
use Rattle.script.specs.declared.LogicalOperator.{LogicalOperator}
use Rattle.script.specs.declared.LogicalOperator.TheVariants.{And, Nullish, Or}
use Rattle.script.specs.Sound.{count_exprs, records_expr, records_exprs}
use Rattle.script.specs.Tree.{Expr, Exprs, assignment, call, conditional, expr_then, logical, name, no_exprs, not, number, sequence, strict_equality, void}
use Rattle.script.specs.Tree.{word}
use Rattle.records.specs.declared.record.DeclRecord.{DeclRecord}
use Rattle.records.specs.declared.record.ExprRecord.{ExprRecord}
use Rattle.records.specs.declared.record.Pools.{Pools}
use Rattle.records.specs.declared.record.StmtRecord.{StmtRecord}
use Rattle.records.specs.Embedding.{expr_row, exprs_row}
use Rattle.records.specs.Heap.{Heap, Place, blank_expr, expr_at, expr_label}
use Rattle.records.specs.Owned.{Owns, Root}
use Rattle.records.specs.Readable.{tables}
use Rattle.records.specs.Rows.{Row, end, node}
use Rattle.records.specs.Turning.{expr_relinked}
use Rattle.rules.specs.Equal.{same_operator, same_operator_is}
use Rattle.rules.specs.Expressions.{join_onto}
use Rattle.moves.specs.Cells.{Gave}
use Rattle.moves.specs.First.{expr_kind}
use Rattle.moves.specs.Last.{exprs_before}
use Rattle.moves.specs.Moved.{Moved, Turns}
use Rattle.joining.specs.Pending.{has_operator, onto_first, pending_then}
use Rattle.records.proofs.Moves.{end_out, pick}
use Rattle.records.proofs.Tallies.{lengths, records_expr_row, records_exprs_row}
use Rattle.moves.proofs.ByKind.{expr_of_kind}
use Rattle.moves.proofs.Frames.{arrange, regroup, then_move, then_use}
use Rattle.moves.proofs.Open.{kind_of_expr, open_expr}
use Rattle.moves.proofs.Rows.{expr_within}
use Rattle.moves.proofs.Single.{give_expr_of}
use Rattle.moves.proofs.Spared.{spared}
use Rattle.joining.proofs.WayToLast.{records_some}

false_true : {A : Type 0} → false ≡ true → A
false_true e = let z : ◌≡◌ {A = ℕ} 0 1 = cc in absurd (omega arith)

same_self : (o : LogicalOperator) → same_operator o o ≡ true
same_self And = refl
same_self Or = refl
same_self Nullish = refl

operator_of : (o : LogicalOperator) (k : ExpressionKind) → has_operator o k ≡ true → expression.Logical o ≡ k
operator_of o (expression.Number b) e = false_true e
operator_of o (expression.Word c) e = false_true e
operator_of o (expression.Name n) e = false_true e
operator_of o (expression.Assignment n) e = false_true e
operator_of o (expression.Call n) e = false_true e
operator_of o expression.Sequence e = false_true e
operator_of o expression.Conditional e = false_true e
operator_of o (expression.Logical p) e = ap (λ (q : LogicalOperator). expression.Logical q) (same_operator_is o p (rw e tt))
operator_of o expression.Not e = false_true e
operator_of o expression.Void e = false_true e
operator_of o expression.StrictEquality e = false_true e

pending_rest : (o : LogicalOperator) (x : Expr) (xs : Exprs) → has_operator o (expr_kind x) ≡ false → pending_then o x xs ≡ xs
pending_rest o (number b) xs e = refl
pending_rest o (word c) xs e = refl
pending_rest o (name n) xs e = refl
pending_rest o (assignment n x) xs e = refl
pending_rest o (call n es) xs e = refl
pending_rest o (sequence x es) xs e = refl
pending_rest o (conditional t a b) xs e = refl
pending_rest o (logical p l r) xs e = ap (λ (b : Bool). cond b (expr_then l (expr_then r xs)) xs) e
pending_rest o (not x) xs e = refl
pending_rest o (void x) xs e = refl
pending_rest o (strict_equality a b) xs e = refl

module _ {exprs exprs₁ : List ExprRecord} {ss : List StmtRecord} {ds : List DeclRecord} {p : Pools}
    {loose : List Place} {rest : List Root} {at pending : ℕ} where
  -- the first pending has the operator: its parts are linked before the others, and its record is given back
  pub taken_apart : {exprs₂ : List ExprRecord} {p₂ : Pool} (o : LogicalOperator) (x y : Expr) (xs : Exprs) (w : Row)
      → has_operator o (get_or exprs pending blank_expr).kind ≡ true
      → ((e : Expr) (es : Exprs) (v : Row)
      → Turns (tables exprs ss ds) p (tables exprs₁ ss ds) p []
      ((expr_at (get_or exprs pending blank_expr).first, expr_row e (exprs_row es)) ∷ (expr_at (get_or exprs pending blank_expr).next, v) ∷ [])
      ((expr_at (get_or exprs pending blank_expr).first, expr_row e (exprs_before es v)) ∷ []))
      → Gave expr_relinked exprs₁ p.exprs pending exprs₂ p₂
      → Owns (tables exprs ss ds) p loose ((expr_at at, expr_row y w) ∷ (expr_at pending, expr_row x (exprs_row xs)) ∷ rest)
      → Moved (tables exprs ss ds) (tables exprs₂ ss ds) (record { exprs = p₂; stmts = p.stmts; decls = p.decls }) loose
      ((expr_at at, expr_row (onto_first o x y) w) ∷ (expr_at (get_or exprs pending blank_expr).first, exprs_row (pending_then o x xs)) ∷ rest)
  taken_apart {exprs₂} {p₂} o x y xs w k appends g q =
      let s = expr_of_kind x (operator_of o (get_or exprs pending blank_expr).kind k ∙ kind_of_expr x (exprs_row xs) (pick 1 q)) in
      let l = s.0 in
      let r = s.1 in
      let q₁ = open_expr (logical o l r) (exprs_row xs) (pick 1 (rw s.2 at q)) in
      rw (s.2, same_self o)
      (then_use (appends l (expr_then r no_exprs) (exprs_row xs) (expr_at pending ∷ loose) ((expr_at at, expr_row y w) ∷ rest) q₁)
      (λ m. give_expr_of pending exprs₂ p₂ g (pick 1 m)))

  -- it has not: it is taken out of the row, and becomes the right side
  pub set_aside : {p₁ : Pools} {cut : List ExprRecord} {behind : ℕ} (o : LogicalOperator) (x y : Expr) (xs : Exprs) (w : Row)
      → has_operator o (get_or exprs pending blank_expr).kind ≡ false
      → ((e : Expr) (v : Row)
      → Turns (tables exprs ss ds) p (tables cut ss ds) p []
      ((expr_at pending, expr_row e v) ∷ []) ((expr_at pending, expr_row e end) ∷ (expr_at behind, v) ∷ []))
      → ((e : Expr) (u v : Row)
      → Turns (tables cut ss ds) p (tables exprs₁ ss ds) p₁ []
      ((expr_at at, expr_row e u) ∷ (expr_at pending, v) ∷ []) ((expr_at at, node (expr_label (expression.Logical o)) (expr_row e v) end end u) ∷ []))
      → Owns (tables exprs ss ds) p loose ((expr_at at, expr_row y w) ∷ (expr_at pending, expr_row x (exprs_row xs)) ∷ rest)
      → Moved (tables exprs ss ds) (tables exprs₁ ss ds) p₁ loose
      ((expr_at at, expr_row (onto_first o x y) w) ∷ (expr_at behind, exprs_row (pending_then o x xs)) ∷ rest)
  set_aside {behind = behind} o x y xs w k cuts wraps q =
      let t = kind_of_expr x (exprs_row xs) (pick 1 q) in
      let f : has_operator o (expr_kind x) ≡ false = rw t at k in
      rw (pending_rest o x xs f, f)
      (then_move (cuts x (exprs_row xs) loose ((expr_at at, expr_row y w) ∷ rest) (pick 1 q))
      (λ v. wraps y w (expr_row x end) loose ((expr_at behind, exprs_row xs) ∷ rest) (arrange (2 ∷ 0 ∷ []) v)))

-- all of a row joined, one after the other
abbrev pub join_all : LogicalOperator → Exprs → Expr → Expr
join_all o no_exprs a = a
join_all o (expr_then e es) a = join_all o es (join_onto o e a)

-- a step leaves what will have been joined in the end
joins_same : (o : LogicalOperator) (x : Expr) (xs : Exprs) (y : Expr) → join_all o (pending_then o x xs) (onto_first o x y) ≡ join_all o xs (join_onto o x y)
joins_same o (number b) xs y = refl
joins_same o (word c) xs y = refl
joins_same o (name n) xs y = refl
joins_same o (assignment n x) xs y = refl
joins_same o (call n es) xs y = refl
joins_same o (sequence x es) xs y = refl
joins_same o (conditional t a b) xs y = refl
joins_same o (logical p l r) xs y = by (same_operator o p)
  where
    by : (b : Bool) → join_all o (cond b (expr_then l (expr_then r xs)) xs) (cond b y (logical o y (logical p l r)))
        ≡ join_all o xs (cond b (join_onto o r (join_onto o l y)) (logical o y (logical p l r)))
    by true = refl
    by false = refl
joins_same o (not x) xs y = refl
joins_same o (void x) xs y = refl
joins_same o (strict_equality a b) xs y = refl

-- as many records are taken as expressions are pending no more, and each step has fewer records pending
record Step (o : LogicalOperator) (x : Expr) (xs : Exprs) (y : Expr) : Type 0 where
  pub balance : records_expr (onto_first o x y) + (records_exprs (pending_then o x xs) + count_exprs (pending_then o x xs))
      ≡ records_expr y + ((records_expr x + records_exprs xs) + suc (count_exprs xs))
  pub fewer : suc (records_exprs (pending_then o x xs)) ≤ records_expr x + records_exprs xs

step : (o : LogicalOperator) (x : Expr) (xs : Exprs) (y : Expr) → Step o x xs y
step o (number b) xs y = record { balance = omega arith; fewer = omega arith }
step o (word c) xs y = record { balance = omega arith; fewer = omega arith }
step o (name n) xs y = record { balance = omega arith; fewer = omega arith }
step o (assignment n x) xs y = record { balance = omega arith; fewer = omega arith }
step o (call n es) xs y = record { balance = omega arith; fewer = omega arith }
step o (sequence x es) xs y = record { balance = omega arith; fewer = omega arith }
step o (conditional t a b) xs y = record { balance = omega arith; fewer = omega arith }
step o (logical p l r) xs y = record { balance = by (same_operator o p); fewer = less (same_operator o p) }
  where
    by : (b : Bool) → records_expr (cond b y (logical o y (logical p l r)))
        + (records_exprs (cond b (expr_then l (expr_then r xs)) xs) + count_exprs (cond b (expr_then l (expr_then r xs)) xs))
        ≡ records_expr y + ((records_expr (logical p l r) + records_exprs xs) + suc (count_exprs xs))
    by true = omega arith
    by false = omega arith

    less : (b : Bool) → suc (records_exprs (cond b (expr_then l (expr_then r xs)) xs)) ≤ records_expr (logical p l r) + records_exprs xs
    less true = omega arith
    less false = omega arith
step o (not x) xs y = record { balance = omega arith; fewer = omega arith }
step o (void x) xs y = record { balance = omega arith; fewer = omega arith }
step o (strict_equality a b) xs y = record { balance = omega arith; fewer = omega arith }

-- after n steps: what is joined, what is pending, and enough spare records for it
pub record JoinedSoFar (h h' : Heap) (p' : Pools) (loose : List Place) (rest : List Root) (o : LogicalOperator)
    (at pending n : ℕ) (x y : Expr) (w : Row) : Type 0 where
  pub joined : Expr
  pub left : Exprs
  pub moved : Moved h h' p' loose ((expr_at at, expr_row joined w) ∷ (expr_at pending, exprs_row left) ∷ rest)
  pub same : join_all o left joined ≡ join_onto o x y
  pub spares : count_exprs left ≤ p'.exprs.count
  pub fewer : records_exprs left + n ≤ records_expr x

abbrev pub JoinsOn : List ExprRecord → Pools → List ExprRecord → Pools → LogicalOperator → ℕ → ℕ → ℕ → ℕ → Type 0
JoinsOn exprs p exprs' p' o at b pending n =
    (ss : List StmtRecord) (ds : List DeclRecord) (x y : Expr) (w : Row) → 1 ≤ p.exprs.count → (loose : List Place) (rest : List Root)
    → Owns (tables exprs ss ds) p loose ((expr_at at, expr_row y w) ∷ (expr_at b, expr_row x end) ∷ rest)
    → JoinedSoFar (tables exprs ss ds) (tables exprs' ss ds) p' loose rest o at pending n x y w

module _ {h h₁ : Heap} {p₁ : Pools} {loose : List Place} {rest : List Root} {o : LogicalOperator} {at pending n : ℕ} {x y : Expr} {w : Row} where
  -- nothing is pending any more
  pub none_left : JoinedSoFar h h₁ p₁ loose rest o at pending n x y w → pending ≡ nowhere
      → Moved h h₁ p₁ loose ((expr_at at, expr_row (join_onto o x y) w) ∷ rest)
  none_left s z = by s.left s.joined s.moved s.same
    where
      by : (es : Exprs) (e : Expr) → Moved h h₁ p₁ loose ((expr_at at, expr_row e w) ∷ (expr_at pending, exprs_row es) ∷ rest)
          → join_all o es e ≡ join_onto o x y → Moved h h₁ p₁ loose ((expr_at at, expr_row (join_onto o x y) w) ∷ rest)
      by no_exprs e m j = rw (sym j) (regroup m (λ q. end_out (pick 1 q)))
      by (expr_then a es) e m j =
          let v = expr_within h₁ pending a (exprs_row es) m.owned.held.1.0 in let u = m.owned.short.exprs in absurd (omega arith)

  -- as many steps as there are records leave nothing
  pub ran_out : JoinedSoFar h h₁ p₁ loose rest o at pending n x y w → records_expr x ≤ n
      → Moved h h₁ p₁ loose ((expr_at at, expr_row (join_onto o x y) w) ∷ rest)
  ran_out s l = by s.left s.moved s.fewer
    where
      by : (es : Exprs) → Moved h h₁ p₁ loose ((expr_at at, expr_row s.joined w) ∷ (expr_at pending, exprs_row es) ∷ rest)
          → records_exprs es + n ≤ records_expr x → Moved h h₁ p₁ loose ((expr_at at, expr_row (join_onto o x y) w) ∷ rest)
      by no_exprs m f = none_left s m.owned.held.1.0
      by (expr_then a es) m f = let r = records_some a in absurd (omega arith)

  -- one step more
  pub one_more : {h₂ : Heap} {p₂ : Pools} {pending₂ : ℕ} → JoinedSoFar h h₁ p₁ loose rest o at pending n x y w → pending ≢ nowhere
      → lengths h₁ ≡ lengths h₂
      → ((e a : Expr) (es : Exprs) (v : Row) → 1 ≤ p₁.exprs.count
      → Turns h₁ p₁ h₂ p₂ [] ((expr_at at, expr_row a v) ∷ (expr_at pending, expr_row e (exprs_row es)) ∷ [])
      ((expr_at at, expr_row (onto_first o e a) v) ∷ (expr_at pending₂, exprs_row (pending_then o e es)) ∷ []))
      → JoinedSoFar h h₂ p₂ loose rest o at pending₂ (n + 1) x y w
  one_more {h₂} {p₂} {pending₂} s ne k turns = by s.left s.joined s.moved s.same s.spares s.fewer
    where
      by : (es : Exprs) (a : Expr) → Moved h h₁ p₁ loose ((expr_at at, expr_row a w) ∷ (expr_at pending, exprs_row es) ∷ rest)
          → join_all o es a ≡ join_onto o x y → count_exprs es ≤ p₁.exprs.count → records_exprs es + n ≤ records_expr x
          → JoinedSoFar h h₂ p₂ loose rest o at pending₂ (n + 1) x y w
      by no_exprs a m j c f = absurd (ne m.owned.held.1.0)
      by (expr_then e es) a m j c f =
          let t = turns e a es w (omega arith) loose rest m.owned in
          let g = step o e es a in
          let b = spared loose rest [] ((expr_at at, expr_row a w) ∷ (expr_at pending, expr_row e (exprs_row es)) ∷ [])
          ((expr_at at, expr_row (onto_first o e a) w) ∷ (expr_at pending₂, exprs_row (pending_then o e es)) ∷ []) k m.owned t.owned in
          let bx = b.exprs in
          let r₁ = (records_expr_row a w).exprs in
          let r₂ = (records_expr_row e (exprs_row es)).exprs in
          let r₃ = (records_exprs_row es).exprs in
          let r₄ = (records_expr_row (onto_first o e a) w).exprs in
          let r₅ = (records_exprs_row (pending_then o e es)).exprs in
          let g₁ = g.balance in
          let g₂ = g.fewer in
          record {
            joined = onto_first o e a;
            left = pending_then o e es;
            moved = then_move m (λ q. t);
            same = joins_same o e es a ∙ j;
            spares = omega arith;
            fewer = omega arith;
          }
