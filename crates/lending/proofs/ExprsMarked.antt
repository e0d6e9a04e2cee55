-- Marking a row of expressions, case by case.
use Rattle.std.proofs.Common.{◌≡◌, ℕ, ◌+◌, ◌<◌, ◌≤◌, true, false, ◌≢◌, List, length, get_or, Some, None, Option, sym, refl, ap, ◌∙◌, arith}
use Rattle.pool.specs.Chain.{nowhere}
use Rattle.records.specs.declared.record.ExprRecord.{ExprRecord}
use Rattle.records.specs.declared.record.StmtRecord.{StmtRecord}
use Rattle.records.specs.declared.record.DeclRecord.{DeclRecord}
use Rattle.records.specs.Heap.{Place, expr_at, stmt_at, decl_at, expr_label, stmt_label, decl_label, blank_expr, same}
use Rattle.records.specs.Rows.{Row, end, node, row_length}
use Rattle.records.specs.Owned.{Short}
use Rattle.shapes.specs.Shape.{fits_expr, ShapedExprs}
use Rattle.records.specs.Readable.{tables}
use Rattle.lending.specs.Marked.{marks_of, Fits, Claims, unmarked, ExprsMarked, MarksExprs}
use Rattle.lending.proofs.Counts.{length_is}
use Rattle.lending.proofs.Marking.{claimed_unmarked, unmarked_length, not_within, mark_expr, end_found, unclaimed, rows_fit, node_found, four_found, exprs_fit, exprs_same, next_fit}

module _ (es : List ExprRecord) (at count : ℕ) (me : List ℕ) (ss : List StmtRecord) (ds : List DeclRecord) (ms md : List ℕ) (short : Short (tables es ss ds)) where
  pub exprs_ended : at ≡ nowhere → ExprsMarked (Some count) (marks_of me ms md) (tables es ss ds) at count (marks_of me ms md)
  exprs_ended e = (end, end_found (marks_of me ms md) (tables es ss ds) (expr_at at) e, tt, refl)

  pub exprs_unclaimed : (me' : List ℕ) → length me ≡ length es → at ≢ nowhere → (at < length me → get_or me at 0 ≡ 0 → ⊥) →
      ExprsMarked None (marks_of me ms md) (tables es ss ds) at count (marks_of me' ms md)
  exprs_unclaimed me' fit ne out x f s = unclaimed ne (λ w. out (omega arith)) x f

  module _ (me₀ : List ℕ) (fit : length me ≡ length es) (claimed : Claims true me at (length me) me₀) where
    inside : at < length es
    inside = let a = claimed.0 in omega arith

    abbrev here : ExprRecord
    here = get_or es at blank_expr

    own : (q : Place) → marks_of me₀ ms md q ≡ marks_of me ms md q + same q (expr_at at)
    own q = ap (λ v. marks_of v ms md q) claimed.2 ∙ mark_expr me ms md at claimed.0 claimed.1 q

    module _ (me₁ : List ℕ) where
      pub exprs_first : (r : Option ℕ) → r ≡ None → ExprsMarked None (marks_of me₀ ms md) (tables es ss ds) here.first 0 (marks_of me₁ ms md) → ExprsMarked r (marks_of me ms md) (tables es ss ds) at count (marks_of me₁ ms md)
      exprs_first (Some v) e refuted = let i : ◌≡◌ {A = ℕ} 0 1 = cc in absurd (omega arith)
      exprs_first None e refuted = go
        where
          go : (x : Row) → Fits (marks_of me ms md) (tables es ss ds) (expr_at at) x → ShapedExprs x → ⊥
          go end f s = not_within short (expr_at at) inside f.held
          go (node (expr_label k) x y z w) f s = refuted x (exprs_fit short (rows_fit own f)) s.1
          go (node (stmt_label k) x y z w) f s = s
          go (node (decl_label k) x y z w) f s = s

      module _ (n : ℕ) (found : ExprsMarked (Some n) (marks_of me₀ ms md) (tables es ss ds) here.first 0 (marks_of me₁ ms md)) where
        pub exprs_misfit : false ≡ fits_expr here.kind n → ExprsMarked None (marks_of me ms md) (tables es ss ds) at count (marks_of me₁ ms md)
        exprs_misfit no_fit end f s = not_within short (expr_at at) inside f.held
        exprs_misfit no_fit (node (expr_label k) x y z w) f s =
            let e = exprs_same short (rows_fit own f) found.1 in
            let l : n ≡ row_length x = found.3 ∙ length_is found.0 ∙ ap row_length e in
            let c : here.kind ≡ k = let g = f.held.1 in cc in
            let z : fits_expr here.kind n ≡ true = ap (λ v. fits_expr v n) c ∙ ap (fits_expr k) l ∙ s.0 in
            let i : ◌≡◌ {A = ℕ} 0 1 = cc in
            omega arith
        exprs_misfit no_fit (node (stmt_label k) x y z w) f s = s
        exprs_misfit no_fit (node (decl_label k) x y z w) f s = s

        pub exprs_next : (r : Option ℕ) (me₂ : List ℕ) → true ≡ fits_expr here.kind n → ExprsMarked r (marks_of me₁ ms md) (tables es ss ds) here.next (count + 1) (marks_of me₂ ms md) → ExprsMarked r (marks_of me ms md) (tables es ss ds) at count (marks_of me₂ ms md)
        exprs_next (Some v) me₂ fits rest = (
          node (expr_label here.kind) found.0 end end rest.0,
          node_found own inside (four_found found.1 (end_found _ _ (decl_at nowhere) refl) (end_found _ _ (stmt_at nowhere) refl) rest.1),
          (ap (fits_expr here.kind) (sym (length_is found.0) ∙ sym found.3) ∙ sym fits, found.2, tt, tt, rest.2),
          rest.3,
        )
        exprs_next None me₂ fits rest = go
          where
            go : (x : Row) → Fits (marks_of me ms md) (tables es ss ds) (expr_at at) x → ShapedExprs x → ⊥
            go end f s = not_within short (expr_at at) inside f.held
            go (node (expr_label k) x y z w) f s =
                rest w (next_fit short (rows_fit own f) found.1 (end_found _ _ (decl_at nowhere) refl) (end_found _ _ (stmt_at nowhere) refl)) s.4
            go (node (stmt_label k) x y z w) f s = s
            go (node (decl_label k) x y z w) f s = s

-- what marking the rest of a row answers is the answer for the whole row
pub record ExprsGoing (es : List ExprRecord) (me₀ : List ℕ) (row : ℕ) (me : List ℕ) (at count : ℕ) : Type 0 where
  pub on : (ss : List StmtRecord) (ds : List DeclRecord) (ms md : List ℕ) → Short (tables es ss ds) → (r : Option ℕ) (me' : List ℕ) → ExprsMarked r (marks_of me ms md) (tables es ss ds) at count (marks_of me' ms md) → ExprsMarked r (marks_of me₀ ms md) (tables es ss ds) row 0 (marks_of me' ms md)
  pub fit : length me ≡ length es
  pub room : count + unmarked me ≤ nowhere
  pub left : unmarked me ≤ unmarked me₀

pub exprs_start : (es : List ExprRecord) (me : List ℕ) (row : ℕ) → length es ≤ nowhere → length me ≡ length es → ExprsGoing es me row me row 0
exprs_start es me row short fit =
    let u = unmarked_length me in record { on = λ ss ds ms md s r me' x. x; fit = fit; room = omega arith; left = omega arith }

pub exprs_again : {es : List ExprRecord} {me₀ : List ℕ} {row : ℕ} {me : List ℕ} {at count : ℕ} → ExprsGoing es me₀ row me at count → (me₁ : List ℕ) →
    Claims true me at (length me) me₁ → (me₂ : List ℕ) → length me₂ ≡ length es → (n : ℕ) →
    MarksExprs (Some n) es me₁ (get_or es at blank_expr).first me₂ → unmarked me₂ ≤ unmarked me₁ → true ≡ fits_expr (get_or es at blank_expr).kind n →
    ExprsGoing es me₀ row me₂ (get_or es at blank_expr).next (count + 1)
exprs_again {es} {me₀} {row} {me} {at} {count} o me₁ claimed me₂ fit n found fewer fits =
    let u = claimed_unmarked me at me₁ claimed in
    let a = o.room in
    let b = o.left in
    record {
      on = λ ss ds ms md s r me' x. o.on ss ds ms md s r me'
          (exprs_next es at count me ss ds ms md s me₁ o.fit claimed me₂ n (found ss ds ms md s) r me' fits x);
      fit = fit;
      room = omega arith;
      left = omega arith;
    }
