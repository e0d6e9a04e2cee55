-- Marking a row of statements, case by case.
use Rattle.std.proofs.Common.{◌≡◌, ℕ, ◌+◌, ◌<◌, ◌≤◌, Bool, true, false, cond, ◌≢◌, List, length, get_or, Some, None, Option, sym, refl, ap, ◌∙◌, subst, arith, le-ltb, lt-ltb}
use Rattle.pool.specs.Chain.{nowhere}
use Rattle.script.specs.declared.DeclarationKind.{DeclarationKind}
use Rattle.script.specs.declared.StatementKind.{StatementKind}
use Rattle.records.specs.declared.record.StmtRecord.{StmtRecord}
use Rattle.shapes.specs.declared.rule.StmtSurvey.{StmtSurvey}
use Rattle.shapes.specs.declared.rule.DeclSurvey.{DeclSurvey}
use Rattle.lending.specs.declared.check.Parts.{Parts}
use Rattle.records.specs.Heap.{Heap, Place, expr_at, stmt_at, decl_at, expr_label, stmt_label, decl_label, blank_stmt, same}
use Rattle.records.specs.Rows.{Row, end, node, row_length, At}
use Rattle.records.specs.Owned.{Short}
use Rattle.shapes.specs.Shape.{fits_stmt, surveyed, no_survey, survey, decl_survey, kind_declared, first_declared, ShapedStmts}
use Rattle.lending.specs.Marked.{unmarked, Sized, marks_of, Fits, Claims, FourFit, PartsMarked, PartsFound, StmtsMarked, declared_at, weighed, survey_from}
use Rattle.lending.proofs.Counts.{length_is, declarators_are, survey_is, Few, surveyed_few}
use Rattle.lending.proofs.Marking.{claimed_unmarked, unmarked_length, not_within, mark_stmt, end_found, unclaimed, rows_fit, node_found, four_found, exprs_same, decls_same, stmts_fit, stmts_same, next_fit}

-- how the first statement of a row is declared, by its record
pub declared_first : (h : Heap) → Short h → (at : ℕ) (y : Row) → At h (stmt_at at) y → declared_at h.stmts at ≡ first_declared y
declared_first h short at end a =
    let e = le-ltb at (length h.stmts) (let b = short.stmts in omega arith) in
    ap (λ v. cond v (kind_declared (get_or h.stmts at blank_stmt).kind) None) e
declared_first h short at (node (expr_label k) x y z w) a = let g = a.1 in let i : ◌≡◌ {A = ℕ} 0 1 = cc in absurd (omega arith)
declared_first h short at (node (stmt_label k) x y z w) a =
    let e = lt-ltb at (length h.stmts) a.0 in
    let c : (get_or h.stmts at blank_stmt).kind ≡ k = let g = a.1 in cc in
    ap (λ v. cond v (kind_declared (get_or h.stmts at blank_stmt).kind) None) e ∙ ap kind_declared c
declared_first h short at (node (decl_label k) x y z w) a = let g = a.1 in let i : ◌≡◌ {A = ℕ} 0 1 = cc in absurd (omega arith)

-- the rule of a statement at equal counts
fits_same : {k k' : StatementKind} {n n' : ℕ} {s s' : StmtSurvey} {d d' : DeclSurvey} {o o' : Option DeclarationKind} → k ≡ k' → n ≡ n' → s ≡ s' → d ≡ d' → o ≡ o' → fits_stmt k n s d o ≡ fits_stmt k' n' s' d' o'
fits_same a b c d e = λ i. fits_stmt (a i) (b i) (c i) (d i) (e i)

weighed_none : (b : Bool) (s : StmtSurvey) → cond b (Some s) None ≡ None → b ≡ false
weighed_none true s e = let i : ◌≡◌ {A = ℕ} 0 1 = cc in absurd (omega arith)
weighed_none false s e = refl

weighed_some : (b : Bool) (s s' : StmtSurvey) → cond b (Some s) None ≡ Some s' → (b ≡ true) × (s ≡ s')
weighed_some true s s' e = (refl, cc)
weighed_some false s s' e = let i : ◌≡◌ {A = ℕ} 0 1 = cc in absurd (omega arith)

module _ (h : Heap) (at : ℕ) (s : StmtSurvey) (me ms md : List ℕ) (short : Short h) where
  pub stmts_ended : at ≡ nowhere → StmtsMarked (Some s) (marks_of me ms md) h at s (marks_of me ms md)
  stmts_ended e = (end, end_found (marks_of me ms md) h (stmt_at at) e, tt, refl)

  pub stmts_unclaimed : (m' : Place → ℕ) → length ms ≡ length h.stmts → at ≢ nowhere → (at < length ms → get_or ms at 0 ≡ 0 → ⊥) →
      StmtsMarked None (marks_of me ms md) h at s m'
  stmts_unclaimed m' fit ne out x f q = unclaimed ne (λ w. out (omega arith)) x f

  module _ (ms₀ : List ℕ) (fit : length ms ≡ length h.stmts) (claimed : Claims true ms at (length ms) ms₀) where
    inside : at < length h.stmts
    inside = let a = claimed.0 in omega arith

    abbrev here : StmtRecord
    here = get_or h.stmts at blank_stmt

    own : (q : Place) → marks_of me ms₀ md q ≡ marks_of me ms md q + same q (stmt_at at)
    own q = ap (λ v. marks_of me v md q) claimed.2 ∙ mark_stmt me ms md at claimed.0 claimed.1 q

    -- a row that fits there begins with a statement
    refute : ((k : StatementKind) (x y z w : Row) → FourFit (marks_of me ms₀ md) h (expr_at here.exprs) (stmt_at here.stmts) (decl_at here.decls)
        (stmt_at here.next) x y z w → here.kind ≡ k → ShapedStmts (node (stmt_label k) x y z w) → ⊥) →
        (x : Row) → Fits (marks_of me ms md) h (stmt_at at) x → ShapedStmts x → ⊥
    refute no_rows end f q = not_within short (stmt_at at) inside f.held
    refute no_rows (node (expr_label k) x y z w) f q = q
    refute no_rows (node (stmt_label k) x y z w) f q = no_rows k x y z w (rows_fit own f) (let g = f.held.1 in cc) q
    refute no_rows (node (decl_label k) x y z w) f q = q

    refuted : (r : Option StmtSurvey) (m' : Place → ℕ) → r ≡ None →
        ((k : StatementKind) (x y z w : Row) → FourFit (marks_of me ms₀ md) h (expr_at here.exprs) (stmt_at here.stmts) (decl_at here.decls)
        (stmt_at here.next) x y z w → here.kind ≡ k → ShapedStmts (node (stmt_label k) x y z w) → ⊥) → StmtsMarked r (marks_of me ms md) h at s m'
    refuted (Some v) m' e no_rows = let i : ◌≡◌ {A = ℕ} 0 1 = cc in absurd (omega arith)
    refuted None m' e no_rows = refute no_rows

    module _ (m₁ : Place → ℕ) where
      pub stmts_parts : (r : Option StmtSurvey) → r ≡ None → PartsMarked None (marks_of me ms₀ md) h here.exprs here.decls m₁ →
          StmtsMarked r (marks_of me ms md) h at s m₁
      stmts_parts r e no_parts = refuted r m₁ e (λ k x y z w f c q.
          no_parts x z (record { exprs = f.exprs; decls = f.decls; once = λ p. let a = f.once p in omega arith; exprs_shaped = q.1; decls_shaped = q.3 }))

      module _ (n : Parts) (parts : PartsFound (marks_of me ms₀ md) h here.exprs here.decls m₁ n) (m₂ : Place → ℕ) where
        pub stmts_inner : (r : Option StmtSurvey) → r ≡ None → StmtsMarked None m₁ h here.stmts no_survey m₂ → StmtsMarked r (marks_of me ms md) h at s m₂
        stmts_inner r e no_inner = refuted r m₂ e (λ k x y z w f c q. no_inner y (stmts_fit short f parts.exprs_found parts.decls_found) q.2)

        module _ (i : StmtSurvey) (inner : StmtsMarked (Some i) m₁ h here.stmts no_survey m₂) where
          -- the rule as it was asked is the rule of the rows found
          rule : fits_stmt here.kind n.exprs i n.decls (declared_at h.stmts here.stmts) ≡ fits_stmt here.kind (row_length parts.exprs) (survey inner.0)
              (decl_survey parts.decls) (first_declared inner.0)
          rule =
              fits_same refl
              (parts.exprs_count ∙ length_is parts.exprs)
              (inner.3 ∙ survey_is inner.0)
              (parts.decls_count ∙ declarators_are parts.decls)
              (declared_first h short here.stmts inner.0 inner.1.held)

          pub stmts_misfit : (r : Option StmtSurvey) → r ≡ None → None ≡ weighed h.stmts here n i s → StmtsMarked r (marks_of me ms md) h at s m₂
          stmts_misfit r e none = refuted r m₂ e (λ k x y z w f c q.
              let b = weighed_none _ (surveyed here.kind n.exprs s) (sym none) in
              let ex = exprs_same short f parts.exprs_found in
              let ez = decls_same short f parts.exprs_found parts.decls_found in
              let ey = stmts_same short f parts.exprs_found parts.decls_found inner.1 in
              let g : fits_stmt here.kind (row_length parts.exprs) (survey inner.0) (decl_survey parts.decls) (first_declared inner.0) ≡ true = fits_same c (ap row_length ex) (ap survey ey) (ap decl_survey ez) (ap first_declared ey) ∙ q.0 in
              let t : ◌≡◌ {A = Bool} true false = sym g ∙ sym rule ∙ b in
              let o : ◌≡◌ {A = ℕ} 0 1 = cc in
              omega arith)

          pub stmts_next : (r : Option StmtSurvey) (s' : StmtSurvey) (m₃ : Place → ℕ) → Some s' ≡ weighed h.stmts here n i s →
              StmtsMarked r m₂ h here.next s' m₃ → StmtsMarked r (marks_of me ms md) h at s m₃
          stmts_next (Some v) s' m₃ some rest =
              let b = weighed_some _ (surveyed here.kind n.exprs s) s' (sym some) in (
                node (stmt_label here.kind) parts.exprs inner.0 parts.decls rest.0,
                node_found own inside (four_found parts.exprs_found parts.decls_found inner.1 rest.1),
                (sym rule ∙ b.0, parts.exprs_shaped, inner.2, parts.decls_shaped, rest.2),
                rest.3 ∙ ap (λ u. survey_from u rest.0) (sym b.1 ∙ ap (λ u. surveyed here.kind u s) (parts.exprs_count ∙ length_is parts.exprs)),
              )
          stmts_next None s' m₃ some rest = refute (λ k x y z w f c q.
              rest w (next_fit short f parts.exprs_found parts.decls_found inner.1) q.4)

-- one statement more counts one more
weighed_more : (ss : List StmtRecord) (r : StmtRecord) (n : Parts) (i s s' : StmtSurvey) → Some s' ≡ weighed ss r n i s → Few s → (s'.count ≡ s.count + 1) × Few s'
weighed_more ss r n i s s' e f =
    let b = (weighed_some _ (surveyed r.kind n.exprs s) s' (sym e)).1 in
    (ap (λ (v : StmtSurvey). v.count) (sym b), subst Few b (surveyed_few r.kind n.exprs s f))

-- what marking the rest of a row answers is the answer for the whole row
pub record StmtsGoing (h : Heap) (m₀ : Place → ℕ) (ms₀ : List ℕ) (row : ℕ) (me ms md : List ℕ) (at : ℕ) (s : StmtSurvey) : Type 0 where
  pub on : (r : Option StmtSurvey) (m' : Place → ℕ) → StmtsMarked r (marks_of me ms md) h at s m' → StmtsMarked r m₀ h row no_survey m'
  pub sized : Sized h me ms md
  pub room : s.count + unmarked ms ≤ nowhere
  pub few : Few s
  pub left : unmarked ms ≤ unmarked ms₀

pub stmts_start : (h : Heap) (me ms md : List ℕ) (row : ℕ) (s : StmtSurvey) → s ≡ no_survey → Short h → Sized h me ms md →
    StmtsGoing h (marks_of me ms md) ms row me ms md row s
stmts_start h me ms md row s none short sized =
    let u = unmarked_length ms in
    let a = short.stmts in
    let b = sized.stmts in
    subst (StmtsGoing h (marks_of me ms md) ms row me ms md row) (sym none) (record {
      on = λ r m' x. x;
      sized = sized;
      room = omega arith;
      few = record { cases = omega arith; defaults = omega arith; lexicals = omega arith };
      left = omega arith;
    })

module _ {h : Heap} (short : Short h) {m₀ : Place → ℕ} {ms₀ : List ℕ} {row : ℕ} {me ms md : List ℕ} {at : ℕ} {s : StmtSurvey}
    (o : StmtsGoing h m₀ ms₀ row me ms md at s) where
  pub stmts_again : (ms₁ : List ℕ) → Claims true ms at (length ms) ms₁ → (me₁ md₁ : List ℕ) (n : Parts) →
      PartsFound (marks_of me ms₁ md) h (get_or h.stmts at blank_stmt).exprs (get_or h.stmts at blank_stmt).decls (marks_of me₁ ms₁ md₁) n →
      (me₂ ms₂ md₂ : List ℕ) → Sized h me₂ ms₂ md₂ → (i : StmtSurvey) →
      StmtsMarked (Some i) (marks_of me₁ ms₁ md₁) h (get_or h.stmts at blank_stmt).stmts no_survey (marks_of me₂ ms₂ md₂) → unmarked ms₂ ≤ unmarked ms₁ →
      (s' : StmtSurvey) → Some s' ≡ weighed h.stmts (get_or h.stmts at blank_stmt) n i s →
      StmtsGoing h m₀ ms₀ row me₂ ms₂ md₂ (get_or h.stmts at blank_stmt).next s'
  stmts_again ms₁ claimed me₁ md₁ n parts me₂ ms₂ md₂ sized i inner fewer s' e =
      let u = claimed_unmarked ms at ms₁ claimed in
      let a = o.room in
      let b = o.left in
      let w = weighed_more h.stmts (get_or h.stmts at blank_stmt) n i s s' e o.few in
      let c = w.0 in
      record {
        on = λ r m' x. o.on r m'
            (stmts_next h at s me ms md short ms₁ o.sized.stmts claimed (marks_of me₁ ms₁ md₁) n parts (marks_of me₂ ms₂ md₂) i inner r s' m' e x);
        sized = sized;
        room = omega arith;
        few = w.1;
        left = omega arith;
      }
