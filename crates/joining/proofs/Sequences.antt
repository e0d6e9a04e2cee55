-- What is owned after two expressions were joined in a sequence.
use mathlib.Core.Path.{◌≡◌, ◌∙◌, ap, refl, sym}
use mathlib.Core.List.{List, [], ◌∷◌}
use Prim.Native.Nat.{ℕ}
use lib.ListN.{get_or, set}
use Rattle.pool.specs.Chain.{nowhere}
use Rattle.script.specs.declared.ExpressionKind.TheVariants as expression
use Rattle.script.specs.Tree.{Expr, Exprs, assignment, call, conditional, expr_then, logical, name, no_exprs, not, number, sequence, strict_equality, void}
use Rattle.script.specs.Tree.{word}
use Rattle.records.specs.declared.record.DeclRecord.{DeclRecord}
use Rattle.records.specs.declared.record.ExprRecord.{ExprRecord}
use Rattle.records.specs.declared.record.Pools.{Pools}
use Rattle.records.specs.declared.record.StmtRecord.{StmtRecord}
use Rattle.records.specs.Embedding.{expr_row, exprs_row}
use Rattle.records.specs.Heap.{Place, blank_expr, expr_at, expr_label}
use Rattle.records.specs.Owned.{Owns, Root}
use Rattle.records.specs.Readable.{tables}
use Rattle.records.specs.Rows.{Row, end, node}
use Rattle.rules.specs.Expressions.{Sequence?, append_expr, join_sequence, join_sequence_as, no_sequence, sequence?}
use Rattle.moves.specs.First.{expr_kind}
use Rattle.moves.specs.Last.{exprs_before}
use Rattle.moves.specs.Moved.{Moved, Turns}
use Rattle.records.proofs.Moves.{end_in, end_out, pick}
use Rattle.moves.proofs.ByKind.{expr_of_kind}
use Rattle.moves.proofs.Frames.{arrange, then_move, then_use}
use Rattle.moves.proofs.Lenses.{inside_expr}
use Rattle.moves.proofs.Open.{close_expr, kind_of_expr, open_expr}

-- the items of a sequence with one more behind them
pub items_before : (es : Exprs) (b : Expr) → exprs_before es (expr_row b end) ≡ exprs_row (append_expr es b)
items_before no_exprs b = refl
items_before (expr_then e es) b = ap (λ (r : Row). expr_row e r) (items_before es b)

pub no_sequence_here : (x : Expr) → (expr_kind x ≡ expression.Sequence → ⊥) → sequence? x ≡ no_sequence
no_sequence_here (number b) n = refl
no_sequence_here (word w) n = refl
no_sequence_here (name m) n = refl
no_sequence_here (assignment m e) n = refl
no_sequence_here (call m es) n = refl
no_sequence_here (sequence e es) n = absurd (n refl)
no_sequence_here (conditional t a b) n = refl
no_sequence_here (logical o a b) n = refl
no_sequence_here (not e) n = refl
no_sequence_here (void e) n = refl
no_sequence_here (strict_equality a b) n = refl

pub joined_in_second : (x e : Expr) (es : Exprs) → (expr_kind x ≡ expression.Sequence → ⊥)
    → join_sequence x (sequence e es) ≡ sequence x (expr_then e es)
joined_in_second x e es n = ap (λ (v : Sequence? x). join_sequence_as v (sequence? (sequence e es))) (no_sequence_here x n)

pub joined_anew : (x y : Expr) → (expr_kind x ≡ expression.Sequence → ⊥) → (expr_kind y ≡ expression.Sequence → ⊥)
    → join_sequence x y ≡ sequence x (expr_then y no_exprs)
joined_anew x y n m =
    ap (λ (v : Sequence? x). join_sequence_as v (sequence? y)) (no_sequence_here x n)
    ∙ ap (λ (v : Sequence? y). join_sequence_as (no_sequence {e = x}) v) (no_sequence_here y m)

module _ {exprs exprs₁ : List ExprRecord} {ss : List StmtRecord} {ds : List DeclRecord} {p : Pools} {loose : List Place} {rest : List Root} {a b : ℕ} where
  -- the first is a sequence, and its row of items got the second behind it
  pub in_first : (x y : Expr) → expression.Sequence ≡ (get_or exprs a blank_expr).kind
      → ((e : Expr) (es : Exprs) (w : Row)
      → Turns (tables exprs ss ds) p (tables exprs₁ ss ds) p [] ((expr_at (get_or exprs a blank_expr).first, expr_row e (exprs_row es)) ∷ (expr_at b, w) ∷ [])
      ((expr_at (get_or exprs a blank_expr).first, expr_row e (exprs_before es w)) ∷ []))
      → Owns (tables exprs ss ds) p loose ((expr_at a, expr_row x end) ∷ (expr_at b, expr_row y end) ∷ rest)
      → Moved (tables exprs ss ds) (tables exprs₁ ss ds) p loose ((expr_at a, expr_row (join_sequence x y) end) ∷ rest)
  in_first x y k appends o =
      let s = expr_of_kind x (k ∙ kind_of_expr x end o) in
      let e = s.0 in
      let es = s.1 in
      rw s.2
      (inside_expr (sequence e es) (sequence e (append_expr es y)) end end refl (rw s.2 at o)
      (λ o₁. rw (sym (items_before es y))
      (appends e es (expr_row y end) (expr_at a ∷ loose) ((expr_at (get_or exprs a blank_expr).next, end) ∷ rest) (arrange (0 ∷ 1 ∷ []) o₁))))

  -- the second is a sequence: the first is linked before its items, and it begins with the first
  pub in_second : (x y : Expr) → ((get_or exprs a blank_expr).kind ≡ expression.Sequence → ⊥) → expression.Sequence ≡ (get_or exprs b blank_expr).kind
      → ((e : Expr) (w : Row)
      → Turns (tables exprs ss ds) p (tables exprs₁ ss ds) p [] ((expr_at a, expr_row e end) ∷ (expr_at (get_or exprs b blank_expr).first, w) ∷ [])
      ((expr_at a, expr_row e w) ∷ []))
      → Owns (tables exprs ss ds) p loose ((expr_at a, expr_row x end) ∷ (expr_at b, expr_row y end) ∷ rest)
      → Moved (tables exprs ss ds) (tables (set exprs₁ b (record { kind = expression.Sequence; first = a; next = nowhere })) ss ds) p loose
      ((expr_at b, expr_row (join_sequence x y) end) ∷ rest)
  in_second x y n k links o =
      let s = expr_of_kind y (k ∙ kind_of_expr y end (pick 1 o)) in
      let e = s.0 in
      let es = s.1 in
      let o₁ = open_expr (sequence e es) end (pick 1 (rw s.2 at o)) in
      rw (s.2, joined_in_second x e es (λ z. n (kind_of_expr x end o ∙ z)))
      (then_use (links x (expr_row e (exprs_row es)) (expr_at b ∷ loose) rest (arrange (1 ∷ 0 ∷ []) (end_out (pick 1 o₁))))
      (λ q. close_expr (sequence x (expr_then e es)) end _ refl (pick 1 (end_in (expr_at nowhere) refl q))))

  -- neither is: the first is linked before the second, and a new record begins with the first
  pub in_new : {exprs₂ : List ExprRecord} {p' : Pools} {at : ℕ} (x y : Expr) → ((get_or exprs a blank_expr).kind ≡ expression.Sequence → ⊥)
      → ((get_or exprs b blank_expr).kind ≡ expression.Sequence → ⊥)
      → ((e : Expr) (w : Row)
      → Turns (tables exprs ss ds) p (tables exprs₁ ss ds) p [] ((expr_at a, expr_row e end) ∷ (expr_at b, w) ∷ []) ((expr_at a, expr_row e w) ∷ []))
      → ((v : Row)
      → Turns (tables exprs₁ ss ds) p (tables exprs₂ ss ds) p' []
      ((expr_at a, v) ∷ []) ((expr_at at, node (expr_label expression.Sequence) v end end end) ∷ []))
      → Owns (tables exprs ss ds) p loose ((expr_at a, expr_row x end) ∷ (expr_at b, expr_row y end) ∷ rest)
      → Moved (tables exprs ss ds) (tables exprs₂ ss ds) p' loose ((expr_at at, expr_row (join_sequence x y) end) ∷ rest)
  in_new x y n m links makes o =
      rw (joined_anew x y (λ z. n (kind_of_expr x end o ∙ z)) (λ z. m (kind_of_expr y end (pick 1 o) ∙ z)))
      (then_move (links x (expr_row y end) loose rest o) (λ q. makes (expr_row x (expr_row y end)) loose rest q))
