-- What is owned after an expression was negated in place.
use mathlib.Core.Path.{◌≡◌, ◌∙◌, refl}
use mathlib.Core.List.{List, ◌∷◌}
use Prim.Native.Nat.{ℕ}
use lib.ListN.{get_or, set}
use Rattle.pool.specs.declared.Pool.{Pool}
use Rattle.script.specs.declared.ExpressionKind.TheVariants as expression
use Rattle.script.specs.Tree.{Expr, assignment, call, conditional, logical, name, not, number, sequence, strict_equality, void, word}
use Rattle.records.specs.declared.record.DeclRecord.{DeclRecord}
use Rattle.records.specs.declared.record.ExprRecord.{ExprRecord}
use Rattle.records.specs.declared.record.Pools.{Pools}
use Rattle.records.specs.declared.record.StmtRecord.{StmtRecord}
use Rattle.records.specs.Embedding.{expr_row}
use Rattle.records.specs.Heap.{Place, blank_expr, expr_at}
use Rattle.records.specs.Owned.{Owns, Root}
use Rattle.records.specs.Readable.{tables}
use Rattle.records.specs.Rows.{Row, end}
use Rattle.records.specs.Turning.{expr_relinked}
use Rattle.rules.specs.Expressions.{negate}
use Rattle.moves.specs.Cells.{Gave}
use Rattle.moves.specs.First.{expr_kind}
use Rattle.moves.specs.Moved.{Moved}
use Rattle.records.proofs.Moves.{end_out, pick}
use Rattle.moves.proofs.ByKind.{expr_of_kind}
use Rattle.moves.proofs.Frames.{then_use}
use Rattle.moves.proofs.Open.{close_expr, kind_of_expr, open_expr}
use Rattle.moves.proofs.Single.{give_expr_of}

pub negated_anew : (e : Expr) → (expr_kind e ≡ expression.Not → ⊥) → negate e ≡ not e
negated_anew (number b) n = refl
negated_anew (word c) n = refl
negated_anew (name m) n = refl
negated_anew (assignment m e) n = refl
negated_anew (call m es) n = refl
negated_anew (sequence e es) n = refl
negated_anew (conditional t a b) n = refl
negated_anew (logical o a b) n = refl
negated_anew (not e) n = absurd (n refl)
negated_anew (void e) n = refl
negated_anew (strict_equality a b) n = refl

-- what a `!` at a place becomes: what is under it, before the same row
abbrev up : List ExprRecord → ℕ → ExprRecord
up exprs at = record {
  kind = (get_or exprs (get_or exprs at blank_expr).first blank_expr).kind;
  first = (get_or exprs (get_or exprs at blank_expr).first blank_expr).first;
  next = (get_or exprs at blank_expr).next;
}

module _ {exprs exprs₁ : List ExprRecord} {ss : List StmtRecord} {ds : List DeclRecord} {p : Pools} {p₁ : Pool}
    {loose : List Place} {rest : List Root} {at : ℕ} where
  -- the content under a `!` moves up, and its record is given back
  pub moved_up : expression.Not ≡ (get_or exprs at blank_expr).kind → Gave expr_relinked exprs p.exprs (get_or exprs at blank_expr).first exprs₁ p₁
      → (e : Expr) (w : Row) → Owns (tables exprs ss ds) p loose ((expr_at at, expr_row e w) ∷ rest)
      → Moved (tables exprs ss ds) (tables (set exprs₁ at (up exprs at)) ss ds)
      (record { exprs = p₁; stmts = p.stmts; decls = p.decls }) loose ((expr_at at, expr_row (negate e) w) ∷ rest)
  moved_up k g e w o =
      let s = expr_of_kind e (k ∙ kind_of_expr e w o) in
      let x = s.0 in
      let o₁ = open_expr (not x) w (rw s.1 at o) in
      rw s.1
      (then_use (give_expr_of (get_or exprs at blank_expr).first exprs₁ p₁ g (open_expr x end o₁))
      (λ q. close_expr x w (up exprs at) (kind_of_expr x end o₁) (end_out (pick 1 q))))
