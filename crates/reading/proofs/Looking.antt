-- Looking over the topmost records of a row, one after another.
use Rattle.std.proofs.Common.{◌≡◌, ℕ, zero, suc, ◌+◌, ◌≤◌, ◌<◌, Bool, true, false, not, ◌&&◌, eqb, List, [], ◌∷◌, take, fold, length, get_or}
use Rattle.std.proofs.Common.{sym, refl, ap, ◌∙◌, subst, arith, lit≤, eq-eqb, ne_eqb}
use mir.Val.{bool_byte}
use Rattle.pool.specs.Chain.{nowhere}
use Rattle.script.specs.declared.StatementKind.{StatementKind}
use Rattle.shapes.specs.declared.rule.StmtSurvey.{StmtSurvey}
use Rattle.shapes.specs.declared.rule.DeclSurvey.{DeclSurvey}
use Rattle.reading.specs.declared.build.Surveyed.{Surveyed}
use Rattle.records.specs.declared.record.ExprRecord.{ExprRecord}
use Rattle.records.specs.declared.record.StmtRecord.{StmtRecord}
use Rattle.records.specs.declared.record.DeclRecord.{DeclRecord}
use Rattle.records.specs.Heap.{Heap, expr_at, Label, stmt_label, blank_stmt, blank_decl}
use Rattle.records.specs.Rows.{Row, end, node, At, row_length}
use Rattle.records.specs.Owned.{Short}
use Rattle.shapes.specs.Shape.{survey, surveyed, decl_survey, kind_declared, is_case, lexical_option}
use Rattle.records.specs.Flags.{one_if}
use Rattle.records.specs.Turning.{front, stmt_next, decl_next}
use Rattle.records.specs.Walked.{walked}
use Rattle.records.proofs.Counting.{stmt_chain, decl_chain}
use Rattle.records.proofs.Fits.{linked_fits}
use Rattle.records.proofs.Tables.{stmts_tabled, decls_tabled}
use Rattle.records.proofs.Walked.{walked_node}
use Rattle.reading.specs.Surveying.{Surveys, SurveyedAs, DeclSurveys}

-- a row of expressions is empty where its place is nowhere
empty_told : (h : Heap) (at : ℕ) (x : Row) → Short h → At h (expr_at at) x → eqb at nowhere ≡ eqb (row_length x) 0
empty_told h at end s a = eq-eqb at nowhere a
empty_told h at (node l x y z w) s a =
    ne_eqb at nowhere (λ e. let q = a.0 in let k = s.exprs in omega arith) ∙ sym (ne_eqb (suc (row_length w)) 0 (omega arith))

flag_zero : (b : Bool) → eqb (bool_byte (not b)) 0 ≡ b
flag_zero true = refl
flag_zero false = refl

flag_one : (b : Bool) → bool_byte b ≡ one_if b
flag_one true = refl
flag_one false = refl

pub byte_at_most : (b : Bool) → bool_byte b ≤ 1
byte_at_most true = lit≤ tt
byte_at_most false = lit≤ tt

one_at_most : (b : Bool) → one_if b ≤ 1
one_at_most true = lit≤ tt
one_at_most false = lit≤ tt

-- with n statements still to come, no more than k are seen
pub record Counted (n k : ℕ) (v : StmtSurvey) : Type 0 where
  pub count : v.count + n ≤ k
  pub cases : v.cases ≤ v.count
  pub defaults : v.defaults ≤ v.count
  pub lexicals : v.lexicals ≤ v.count

pub counted_more : (n m k : ℕ) (s : StatementKind) (tests : ℕ) (v : StmtSurvey) → Counted n k v → m + 1 ≡ n → Counted m k (surveyed s tests v)
counted_more n m k s tests v h e =
    let a = one_at_most (is_case s) in
    let b = one_at_most (is_case s && eqb tests 0) in
    let c = one_at_most (lexical_option (kind_declared s)) in
    record { count = omega arith; cases = omega arith; defaults = omega arith; lexicals = omega arith }

-- what is seen with one more record
abbrev pub sees : Surveyed → ℕ × StmtRecord → Surveyed
sees seen x = record { survey = surveyed x.1.kind (bool_byte (not (eqb x.1.exprs nowhere))) seen.survey; first = kind_declared x.1.kind }

abbrev pub decl_sees : DeclSurvey → ℕ × DeclRecord → DeclSurvey
decl_sees seen x = record { count = seen.count + 1; bare = seen.bare + bool_byte (eqb x.1.value nowhere) }

-- the first n items: none where the walk ends, and one before those that are left
pub none_taken : {A : Type 0} (n : ℕ) (xs : List A) → (0 < n → xs ≡ []) → take n xs ≡ []
none_taken zero xs e = refl
none_taken (suc n) xs e = rw (e (omega arith)) refl

pub one_taken : {A : Type 0} (n m : ℕ) (xs ys : List A) (x : A) → xs ≡ x ∷ ys → m + 1 ≡ n → take n xs ≡ x ∷ take m ys
one_taken zero m xs ys x e f = absurd (omega arith)
one_taken (suc n) m xs ys x e f = let g : n ≡ m = omega arith in rw e (rw g refl)

module _ (es : List ExprRecord) (ss : List StmtRecord) (ds : List DeclRecord) where
  abbrev tables : Heap
  tables = record { exprs = es; stmts = ss; decls = ds }

  -- a walk along a row sees its topmost records
  stmts_front : (at n m : ℕ) (s acc : Row) (seen : Surveyed) → Surveys es ss ds at n s acc seen → n ≤ m
      → SurveyedAs (fold sees seen (take n (walked stmt_next ss at m))) (front n s acc)
  stmts_front at zero m s acc seen h f = h.seen_as
  stmts_front at (suc n) m end acc seen h f = let l = h.long in absurd (omega arith)
  stmts_front at (suc n) zero (node l x y z w) acc seen h f = absurd (omega arith)
  stmts_front at (suc n) (suc m) (node l x y z w) acc seen h f =
      let r = get_or ss at blank_stmt in
      let k = r.kind in
      let none : eqb (bool_byte (not (eqb r.exprs nowhere))) 0 ≡ eqb (row_length x) 0 = flag_zero _ ∙ empty_told tables _ x h.short h.held.2 in
      let v : surveyed k (bool_byte (not (eqb r.exprs nowhere))) seen.survey ≡ survey (node (stmt_label k) x y z acc) =
      ap (λ (b : Bool). record {
        count = seen.survey.count + 1;
        cases = seen.survey.cases + one_if (is_case k);
        defaults = seen.survey.defaults + one_if (is_case k && b);
        lexicals = seen.survey.lexicals + one_if (lexical_option (kind_declared k));
      }) none
      ∙ ap (surveyed k (row_length x)) h.seen_as.survey in
      rw (walked_node stmts_tabled tables at m h.held.0)
      (stmts_front r.next n m w (node l x y z acc) (sees seen (at, r)) (record {
        short = h.short;
        held = h.held.5;
        long = (let g = h.long in omega arith);
        seen_as = subst (λ (j : Label). SurveyedAs (sees seen (at, r)) (node j x y z acc)) h.held.1 (record { survey = v; first = refl });
      }) (omega arith))

  pub stmts_seen : (at n : ℕ) (s acc : Row) (seen : Surveyed) → Surveys es ss ds at n s acc seen
      → SurveyedAs (fold sees seen (take n (walked stmt_next ss at (length ss)))) (front n s acc)
  stmts_seen at n s acc seen h =
      let f = linked_fits stmt_next ss h.short.stmts at (row_length s) (stmt_chain tables at s h.held) in
      let g = h.long in
      stmts_front at n (length ss) s acc seen h (omega arith)

  -- the same for declarators
  decls_front : (at n m : ℕ) (s acc : Row) (seen : DeclSurvey) → DeclSurveys es ss ds at n s acc seen → n ≤ m
      → fold decl_sees seen (take n (walked decl_next ds at m)) ≡ decl_survey (front n s acc)
  decls_front at zero m s acc seen h f = h.seen_as
  decls_front at (suc n) m end acc seen h f = let l = h.long in absurd (omega arith)
  decls_front at (suc n) zero (node l x y z w) acc seen h f = absurd (omega arith)
  decls_front at (suc n) (suc m) (node l x y z w) acc seen h f =
      let r = get_or ds at blank_decl in
      let none : bool_byte (eqb r.value nowhere) ≡ one_if (eqb (row_length x) 0) = flag_one _ ∙ ap one_if (empty_told tables _ x h.short h.held.2) in
      rw (walked_node decls_tabled tables at m h.held.0)
      (decls_front r.next n m w (node l x y z acc) (decl_sees seen (at, r)) (record {
        short = h.short;
        held = h.held.5;
        long = (let g = h.long in omega arith);
        seen_as = (λ i. record { count = (h.seen_as i).count + 1; bare = (h.seen_as i).bare + none i });
      }) (omega arith))

  pub decls_seen : (at n : ℕ) (s acc : Row) (seen : DeclSurvey) → DeclSurveys es ss ds at n s acc seen
      → fold decl_sees seen (take n (walked decl_next ds at (length ds))) ≡ decl_survey (front n s acc)
  decls_seen at n s acc seen h =
      let f = linked_fits decl_next ds h.short.decls at (row_length s) (decl_chain tables at s h.held) in
      let g = h.long in
      decls_front at n (length ds) s acc seen h (omega arith)
