-- Marking a row of declarators, case by case.
use Rattle.std.proofs.Common.{◌≡◌, ℕ, ◌+◌, ◌<◌, ◌≤◌, true, ◌≢◌, List, length, get_or, Some, None, Option, sym, refl, ap, ◌∙◌, subst, length-set, arith, le-leb, leb-true}
use Rattle.pool.specs.Chain.{nowhere}
use Rattle.records.specs.declared.record.ExprRecord.{ExprRecord}
use Rattle.records.specs.declared.record.StmtRecord.{StmtRecord}
use Rattle.records.specs.declared.record.DeclRecord.{DeclRecord}
use Rattle.shapes.specs.declared.rule.DeclSurvey.{DeclSurvey}
use Rattle.records.specs.Heap.{Place, stmt_at, decl_at, expr_label, stmt_label, decl_label, blank_decl, same}
use Rattle.records.specs.Rows.{Row, end, node, row_length}
use Rattle.records.specs.Owned.{Short}
use Rattle.shapes.specs.Shape.{ShapedDecls}
use Rattle.records.specs.Readable.{tables}
use Rattle.lending.specs.Marked.{unmarked, no_declarators, MarksExprs, marks_of, Fits, Claims, ExprsMarked, DeclsMarked, with_declarator, declarators_from}
use Rattle.lending.proofs.Counts.{length_is, declarator_few}
use Rattle.lending.proofs.Marking.{claimed_unmarked, unmarked_length, not_within, mark_decl, end_found, unclaimed, rows_fit, node_found, four_found, exprs_fit, exprs_same, next_fit}

module _ (es : List ExprRecord) (ds : List DeclRecord) (at : ℕ) (s : DeclSurvey) (me md : List ℕ) (ss : List StmtRecord) (ms : List ℕ) (short : Short (tables es ss ds)) where
  pub decls_ended : at ≡ nowhere → DeclsMarked (Some s) (marks_of me ms md) (tables es ss ds) at s (marks_of me ms md)
  decls_ended e = (end, end_found (marks_of me ms md) (tables es ss ds) (decl_at at) e, tt, refl)

  pub decls_unclaimed : (me' md' : List ℕ) → length md ≡ length ds → at ≢ nowhere → (at < length md → get_or md at 0 ≡ 0 → ⊥) →
      DeclsMarked None (marks_of me ms md) (tables es ss ds) at s (marks_of me' ms md')
  decls_unclaimed me' md' fit ne out x f q = unclaimed ne (λ w. out (omega arith)) x f

  module _ (md₀ : List ℕ) (fit : length md ≡ length ds) (claimed : Claims true md at (length md) md₀) where
    inside : at < length ds
    inside = let a = claimed.0 in omega arith

    abbrev here : DeclRecord
    here = get_or ds at blank_decl

    own : (q : Place) → marks_of me ms md₀ q ≡ marks_of me ms md q + same q (decl_at at)
    own q = ap (λ v. marks_of me ms v q) claimed.2 ∙ mark_decl me ms md at claimed.0 claimed.1 q

    module _ (me₁ : List ℕ) where
      pub decls_value : (r : Option DeclSurvey) → r ≡ None → ExprsMarked None (marks_of me ms md₀) (tables es ss ds) here.value 0 (marks_of me₁ ms md₀) → DeclsMarked r (marks_of me ms md) (tables es ss ds) at s (marks_of me₁ ms md₀)
      decls_value (Some v) e refuted = let i : ◌≡◌ {A = ℕ} 0 1 = cc in absurd (omega arith)
      decls_value None e refuted = go
        where
          go : (x : Row) → Fits (marks_of me ms md) (tables es ss ds) (decl_at at) x → ShapedDecls x → ⊥
          go end f q = not_within short (decl_at at) inside f.held
          go (node (expr_label k) x y z w) f q = q
          go (node (stmt_label k) x y z w) f q = q
          go (node (decl_label k) x y z w) f q = refuted x (exprs_fit short (rows_fit own f)) q.1

      module _ (n : ℕ) (found : ExprsMarked (Some n) (marks_of me ms md₀) (tables es ss ds) here.value 0 (marks_of me₁ ms md₀)) where
        pub decls_misfit : 1 < n → DeclsMarked None (marks_of me ms md) (tables es ss ds) at s (marks_of me₁ ms md₀)
        decls_misfit many end f q = not_within short (decl_at at) inside f.held
        decls_misfit many (node (expr_label k) x y z w) f q = q
        decls_misfit many (node (stmt_label k) x y z w) f q = q
        decls_misfit many (node (decl_label k) x y z w) f q =
            let e = exprs_same short (rows_fit own f) found.1 in
            let l : n ≡ row_length x = found.3 ∙ length_is found.0 ∙ ap row_length e in
            let few = leb-true (row_length x) 1 q.0 in
            omega arith

        pub decls_next : (r : Option DeclSurvey) (s' : DeclSurvey) (me₂ md₂ : List ℕ) → n ≤ 1 → s' ≡ with_declarator n s → DeclsMarked r (marks_of me₁ ms md₀) (tables es ss ds) here.next s' (marks_of me₂ ms md₂) → DeclsMarked r (marks_of me ms md) (tables es ss ds) at s (marks_of me₂ ms md₂)
        decls_next (Some v) s' me₂ md₂ few t rest =
            let l : n ≡ row_length found.0 = found.3 ∙ length_is found.0 in (
              node (decl_label here.name) found.0 end end rest.0,
              node_found own inside (four_found found.1 (end_found _ _ (decl_at nowhere) refl) (end_found _ _ (stmt_at nowhere) refl) rest.1),
              (le-leb (row_length found.0) 1 (omega arith), found.2, tt, tt, rest.2),
              rest.3 ∙ ap (λ u. declarators_from u rest.0) (t ∙ ap (λ u. with_declarator u s) l),
            )
        decls_next None s' me₂ md₂ few t rest = go
          where
            go : (x : Row) → Fits (marks_of me ms md) (tables es ss ds) (decl_at at) x → ShapedDecls x → ⊥
            go end f q = not_within short (decl_at at) inside f.held
            go (node (expr_label k) x y z w) f q = q
            go (node (stmt_label k) x y z w) f q = q
            go (node (decl_label k) x y z w) f q =
                rest w (next_fit short (rows_fit own f) found.1 (end_found _ _ (decl_at nowhere) refl) (end_found _ _ (stmt_at nowhere) refl)) q.4

-- what marking the rest of a row answers is the answer for the whole row
pub record DeclsGoing (es : List ExprRecord) (ds : List DeclRecord) (me₀ md₀ : List ℕ) (row : ℕ) (me md : List ℕ) (at : ℕ) (s : DeclSurvey) : Type 0 where
  pub on : (ss : List StmtRecord) (ms : List ℕ) → Short (tables es ss ds) → (r : Option DeclSurvey) (me' md' : List ℕ) → DeclsMarked r (marks_of me ms md) (tables es ss ds) at s (marks_of me' ms md') → DeclsMarked r (marks_of me₀ ms md₀) (tables es ss ds) row no_declarators (marks_of me' ms md')
  pub fit : length md ≡ length ds
  pub room : s.count + unmarked md ≤ nowhere
  pub few : s.bare ≤ s.count

pub decls_start : (es : List ExprRecord) (ds : List DeclRecord) (me md : List ℕ) (row : ℕ) (s : DeclSurvey) → s ≡ no_declarators → length ds ≤ nowhere →
    length md ≡ length ds → DeclsGoing es ds me md row me md row s
decls_start es ds me md row s none short fit =
    let u = unmarked_length md in
    subst (DeclsGoing es ds me md row me md row) (sym none) (record { on = λ ss ms q r me' md' x. x; fit = fit; room = omega arith; few = omega arith })

pub decls_again : {es : List ExprRecord} {ds : List DeclRecord} {me₀ md₀ : List ℕ} {row : ℕ} {me md : List ℕ} {at : ℕ} {s : DeclSurvey} →
    DeclsGoing es ds me₀ md₀ row me md at s → (md₁ : List ℕ) → Claims true md at (length md) md₁ → (me₁ : List ℕ) (n : ℕ) →
    MarksExprs (Some n) es me (get_or ds at blank_decl).value me₁ → n ≤ 1 → (s' : DeclSurvey) → s' ≡ with_declarator n s →
    DeclsGoing es ds me₀ md₀ row me₁ md₁ (get_or ds at blank_decl).next s'
decls_again {es} {ds} {me₀} {md₀} {row} {me} {md} {at} {s} o md₁ claimed me₁ n found one s' t =
    let u = claimed_unmarked md at md₁ claimed in
    let a = o.room in
    let b : s'.count ≡ s.count + 1 = ap (λ (v : DeclSurvey). v.count) t in
    record {
      on = λ ss ms q r me' md' x. o.on ss ms q r me' md'
          (decls_next es ds at s me md ss ms q md₁ o.fit claimed me₁ n (found ss ds ms md₁ q) r s' me' md' one t x);
      fit = ap length claimed.2 ∙ length-set md at 1 ∙ o.fit;
      room = omega arith;
      few = subst (λ (v : DeclSurvey). v.bare ≤ v.count) (sym t) (declarator_few n s o.few);
    }
