-- What a record at a place says of the expression there, and the steps to the last item and under a not.
use Rattle.std.proofs.Common.{◌≡◌, ℕ, ◌+◌, ◌<◌, ◌≤◌, Bool, true, false, ◌&&◌, List, length, None, Option, Break, Continue, ControlFlow, slice_get}
use Rattle.std.proofs.Common.{sym, refl, ap, ◌∙◌, subst, arith}
use Rattle.script.specs.declared.ExpressionKind.{ExpressionKind}
use Rattle.script.specs.declared.ExpressionKind.TheVariants as expression
use Rattle.script.specs.Tree.{Expr, number, word, name, assignment, call, sequence, conditional, logical, not, void, strict_equality}
use Rattle.script.specs.Tree.{Exprs, no_exprs, expr_then}
use Rattle.script.specs.Sound.{records_expr, records_exprs}
use Rattle.records.specs.declared.record.ExprRecord.{ExprRecord}
use Rattle.records.specs.declared.record.StmtRecord.{StmtRecord}
use Rattle.records.specs.declared.record.DeclRecord.{DeclRecord}
use Rattle.records.specs.Heap.{expr_at}
use Rattle.records.specs.Rows.{Row, end, At}
use Rattle.records.specs.Owned.{Short}
use Rattle.records.specs.Readable.{tables}
use Rattle.records.specs.Embedding.{expr_row, exprs_row}
use Rattle.hosts.specs.Known.{reader_harmless, all_harmless, reader_undefined, last_undefined, turned, false_if, reader_truth}
use Rattle.hosts.specs.Asked.{AskedSo, Answers, AnswersRow}
use Rattle.hosts.specs.Walked.{kind_truth, LastStepped, StepsLast, StepsTruth}
use Rattle.hosts.proofs.Standing.{Found, found_within, found_there, none_found, kind_of, parts_of, stands, records_parts, ended, outside}

-- its kind, its parts and what follows, where it is an expression's
found_stands : (exprs : List ExprRecord) (at : ℕ) (x : ExprRecord) (ss : List StmtRecord) (ds : List DeclRecord) (e : Expr) (w : Row)
    → Found exprs at x → At (tables exprs ss ds) (expr_at at) (expr_row e w)
    → (kind_of e ≡ x.kind) × At (tables exprs ss ds) (expr_at x.first) (exprs_row (parts_of e)) × At (tables exprs ss ds) (expr_at x.next) w
found_stands exprs at x ss ds e w f a =
    let o = stands (tables exprs ss ds) at e w a in
    let q = found_there exprs at x f in (
      sym o.kind ∙ ap (λ (y : ExprRecord). y.kind) q,
      subst (λ (y : ExprRecord). At (tables exprs ss ds) (expr_at y.first) (exprs_row (parts_of e))) q o.parts,
      subst (λ (y : ExprRecord). At (tables exprs ss ds) (expr_at y.next) w) q o.next,
    )

-- no expression stands outside the table
pub nothing_asked : (P : Expr → Type 0) (exprs : List ExprRecord) (at : ℕ) → None ≡ slice_get exprs at → AskedSo P exprs at
nothing_asked P exprs at o ss ds e w s a n =
    let i = (stands (tables exprs ss ds) at e w a).within in let l = none_found exprs at o in absurd (omega arith)

-- the last item

abbrev undefined_by : ExpressionKind → Bool → Bool
undefined_by (expression.Number b) u = false
undefined_by (expression.Word w) u = false
undefined_by (expression.Name n) u = false
undefined_by (expression.Assignment n) u = false
undefined_by (expression.Call n) u = false
undefined_by expression.Sequence u = u
undefined_by expression.Conditional u = false
undefined_by (expression.Logical o) u = false
undefined_by expression.Not u = false
undefined_by expression.Void u = true
undefined_by expression.StrictEquality u = false

undefined_kind : (e : Expr) → reader_undefined e ≡ undefined_by (kind_of e) (last_undefined (parts_of e))
undefined_kind (number b) = refl
undefined_kind (word w) = refl
undefined_kind (name n) = refl
undefined_kind (assignment n e) = refl
undefined_kind (call n es) = refl
undefined_kind (sequence e es) = refl
undefined_kind (conditional t a b) = refl
undefined_kind (logical o a b) = refl
undefined_kind (not e) = refl
undefined_kind (void e) = refl
undefined_kind (strict_equality a b) = refl

abbrev pub Other : ExpressionKind → ExpressionKind → Type 0
Other k l = k ≡ l → ⊥

undefined_rest : (k : ExpressionKind) (u : Bool) → Other k expression.Void → Other k expression.Sequence → undefined_by k u ≡ false
undefined_rest (expression.Number b) u p q = refl
undefined_rest (expression.Word w) u p q = refl
undefined_rest (expression.Name n) u p q = refl
undefined_rest (expression.Assignment n) u p q = refl
undefined_rest (expression.Call n) u p q = refl
undefined_rest expression.Sequence u p q = absurd (q refl)
undefined_rest expression.Conditional u p q = refl
undefined_rest (expression.Logical o) u p q = refl
undefined_rest expression.Not u p q = refl
undefined_rest expression.Void u p q = absurd (p refl)
undefined_rest expression.StrictEquality u p q = refl

undefined_found : (e : Expr) (k l : ExpressionKind) → kind_of e ≡ k → k ≡ l → reader_undefined e ≡ undefined_by l (last_undefined (parts_of e))
undefined_found e k l p q = undefined_kind e ∙ ap (λ (m : ExpressionKind). undefined_by m (last_undefined (parts_of e))) (p ∙ q)

pub void_undefined : (exprs : List ExprRecord) (at : ℕ) (x : ExprRecord) → Found exprs at x → x.kind ≡ expression.Void → Answers reader_undefined exprs at true
void_undefined exprs at x f k ss ds e w s a n = sym (undefined_found e x.kind expression.Void (found_stands exprs at x ss ds e w f a).0 k)

pub sequence_undefined : (exprs : List ExprRecord) (at : ℕ) (x : ExprRecord) (r : Bool) → Found exprs at x → x.kind ≡ expression.Sequence
    → AnswersRow last_undefined exprs x.first r → Answers reader_undefined exprs at r
sequence_undefined exprs at x r f k h ss ds e w s a n =
    let o = found_stands exprs at x ss ds e w f a in
    let m = records_parts e in
    h ss ds (parts_of e) s o.1 (omega arith) ∙ sym (undefined_found e x.kind expression.Sequence o.0 k)

pub other_undefined : (exprs : List ExprRecord) (at : ℕ) (x : ExprRecord) → Found exprs at x → Other x.kind expression.Void → Other x.kind expression.Sequence
    → Answers reader_undefined exprs at false
other_undefined exprs at x f p q ss ds e w s a n =
    sym (undefined_found e x.kind x.kind (found_stands exprs at x ss ds e w f a).0 refl ∙ undefined_rest x.kind (last_undefined (parts_of e)) p q)

pub step_outside : (exprs : List ExprRecord) (at : ℕ) → None ≡ slice_get exprs at → StepsLast exprs at (Break false)
step_outside exprs at o ss ds es s a = sym (ap last_undefined (ended (tables exprs ss ds) at es a (none_found exprs at o)))

pub step_next : (exprs : List ExprRecord) (at : ℕ) (x : ExprRecord) → Found exprs at x → x.next < length exprs → StepsLast exprs at (Continue x.next)
step_next exprs at x f i ss ds no_exprs s a = let o = outside (tables exprs ss ds) at s a in let l = found_within exprs at x f in absurd (omega arith)
step_next exprs at x f i ss ds (expr_then e no_exprs) s a =
    let o = outside (tables exprs ss ds) x.next s (found_stands exprs at x ss ds e end f a).2 in absurd (omega arith)
step_next exprs at x f i ss ds (expr_then e (expr_then u us)) s a =
    let m = records_parts e in
    (expr_then u us, (found_stands exprs at x ss ds e (exprs_row (expr_then u us)) f a).2, omega arith, refl)

-- the only item of a row, whose record has no next
only : (exprs : List ExprRecord) (at : ℕ) (x : ExprRecord) (ss : List StmtRecord) (ds : List DeclRecord) (es : Exprs)
    → Found exprs at x → length exprs ≤ x.next → Short (tables exprs ss ds) → At (tables exprs ss ds) (expr_at at) (exprs_row es)
    → (e : Expr) × (es ≡ expr_then e no_exprs)
only exprs at x ss ds no_exprs f i s a = let o = outside (tables exprs ss ds) at s a in let l = found_within exprs at x f in absurd (omega arith)
only exprs at x ss ds (expr_then e es) f i s a =
    (e, ap (λ fs. expr_then e fs) (ended (tables exprs ss ds) x.next es (found_stands exprs at x ss ds e (exprs_row es) f a).2 i))

-- so a step at it is a step at that item
stepped_only : (exprs : List ExprRecord) (at : ℕ) (x : ExprRecord) (r : ControlFlow Bool ℕ) → Found exprs at x → length exprs ≤ x.next
    → ((ss : List StmtRecord) (ds : List DeclRecord) (e : Expr) → At (tables exprs ss ds) (expr_at at) (expr_row e end)
    → LastStepped exprs ss ds (expr_then e no_exprs) r)
    → StepsLast exprs at r
stepped_only exprs at x r f i h ss ds es s a =
    let o = only exprs at x ss ds es f i s a in
    subst (λ (fs : Exprs). LastStepped exprs ss ds fs r) (sym o.1)
    (h ss ds o.0 (subst (λ (fs : Exprs). At (tables exprs ss ds) (expr_at at) (exprs_row fs)) o.1 a))

pub step_void : (exprs : List ExprRecord) (at : ℕ) (x : ExprRecord) → Found exprs at x → length exprs ≤ x.next → x.kind ≡ expression.Void
    → StepsLast exprs at (Break true)
step_void exprs at x f i k = stepped_only exprs at x (Break true) f i (λ ss ds e a.
    sym (undefined_found e x.kind expression.Void (found_stands exprs at x ss ds e end f a).0 k))

pub step_sequence : (exprs : List ExprRecord) (at : ℕ) (x : ExprRecord) → Found exprs at x → length exprs ≤ x.next → x.kind ≡ expression.Sequence
    → StepsLast exprs at (Continue x.first)
step_sequence exprs at x f i k = stepped_only exprs at x (Continue x.first) f i (λ ss ds e a.
    let o = found_stands exprs at x ss ds e end f a in
    let m = records_parts e in
    (parts_of e, o.1, omega arith, sym (undefined_found e x.kind expression.Sequence o.0 k)))

pub step_other : (exprs : List ExprRecord) (at : ℕ) (x : ExprRecord) → Found exprs at x → length exprs ≤ x.next
    → Other x.kind expression.Void → Other x.kind expression.Sequence → StepsLast exprs at (Break false)
step_other exprs at x f i p q = stepped_only exprs at x (Break false) f i (λ ss ds e a.
    sym (undefined_found e x.kind x.kind (found_stands exprs at x ss ds e end f a).0 refl ∙ undefined_rest x.kind (last_undefined (parts_of e)) p q))

-- after so many steps what is left of a row has the same last item
abbrev pub ToLast : List ExprRecord → ℕ → ℕ → ℕ → Type 0
ToLast exprs row at steps =
    (ss : List StmtRecord) (ds : List DeclRecord) (es : Exprs) → Short (tables exprs ss ds) → At (tables exprs ss ds) (expr_at row) (exprs_row es)
    → records_exprs es ≤ length exprs
    → (fs : Exprs) × At (tables exprs ss ds) (expr_at at) (exprs_row fs) × (records_exprs fs + steps ≤ length exprs) × (last_undefined fs ≡ last_undefined es)

no_records : (es : Exprs) → records_exprs es ≤ 0 → false ≡ last_undefined es
no_records no_exprs n = refl
no_records (expr_then e es) n = let m = records_parts e in absurd (omega arith)

pub to_last_end : (exprs : List ExprRecord) (row at steps : ℕ) → ToLast exprs row at steps → length exprs ≤ steps → AnswersRow last_undefined exprs row false
to_last_end exprs row at steps g i ss ds es s a n =
    let o = g ss ds es s a n in
    let m = o.2 in
    no_records o.0 (omega arith) ∙ o.3

-- truths

truth_not : (e : Expr) → kind_of e ≡ expression.Not → (f : Expr) × (parts_of e ≡ expr_then f no_exprs) × (turned (reader_truth f) ≡ reader_truth e)
truth_not (number b) k = let z : ◌≡◌ {A = ℕ} 0 1 = cc in absurd (omega arith)
truth_not (word w) k = let z : ◌≡◌ {A = ℕ} 0 1 = cc in absurd (omega arith)
truth_not (name n) k = let z : ◌≡◌ {A = ℕ} 0 1 = cc in absurd (omega arith)
truth_not (assignment n e) k = let z : ◌≡◌ {A = ℕ} 0 1 = cc in absurd (omega arith)
truth_not (call n es) k = let z : ◌≡◌ {A = ℕ} 0 1 = cc in absurd (omega arith)
truth_not (sequence e es) k = let z : ◌≡◌ {A = ℕ} 0 1 = cc in absurd (omega arith)
truth_not (conditional t a b) k = let z : ◌≡◌ {A = ℕ} 0 1 = cc in absurd (omega arith)
truth_not (logical o a b) k = let z : ◌≡◌ {A = ℕ} 0 1 = cc in absurd (omega arith)
truth_not (not e) k = (e, refl, refl)
truth_not (void e) k = let z : ◌≡◌ {A = ℕ} 0 1 = cc in absurd (omega arith)
truth_not (strict_equality a b) k = let z : ◌≡◌ {A = ℕ} 0 1 = cc in absurd (omega arith)

and_true : (b : Bool) → b && true ≡ b
and_true true = refl
and_true false = refl

truth_void : (e : Expr) → kind_of e ≡ expression.Void → false_if (all_harmless (parts_of e)) ≡ reader_truth e
truth_void (number b) k = cc
truth_void (word w) k = cc
truth_void (name n) k = cc
truth_void (assignment n e) k = cc
truth_void (call n es) k = cc
truth_void (sequence e es) k = cc
truth_void (conditional t a b) k = cc
truth_void (logical o a b) k = cc
truth_void (not e) k = cc
truth_void (void e) k = ap false_if (and_true (reader_harmless e))
truth_void (strict_equality a b) k = cc

truth_rest : (e : Expr) → Other (kind_of e) expression.Not → Other (kind_of e) expression.Void → kind_truth (kind_of e) ≡ reader_truth e
truth_rest (number b) p q = refl
truth_rest (word w) p q = refl
truth_rest (name n) p q = refl
truth_rest (assignment n e) p q = refl
truth_rest (call n es) p q = refl
truth_rest (sequence e es) p q = refl
truth_rest (conditional t a b) p q = refl
truth_rest (logical o a b) p q = refl
truth_rest (not e) p q = absurd (p refl)
truth_rest (void e) p q = absurd (q refl)
truth_rest (strict_equality a b) p q = refl

pub turn_not : (exprs : List ExprRecord) (at : ℕ) (x : ExprRecord) → Found exprs at x → x.kind ≡ expression.Not → StepsTruth exprs at (Continue x.first)
turn_not exprs at x f k ss ds e w s a n =
    let o = found_stands exprs at x ss ds e w f a in
    let p = truth_not e (o.0 ∙ k) in
    let m = records_parts e in
    let l = ap records_exprs p.1 in
    (p.0, end, subst (λ (fs : Exprs). At (tables exprs ss ds) (expr_at x.first) (exprs_row fs)) p.1 o.1, omega arith, p.2)

pub told_void : (exprs : List ExprRecord) (at : ℕ) (x : ExprRecord) (r : Option Bool) → Found exprs at x → x.kind ≡ expression.Void
    → AnswersRow (λ es. false_if (all_harmless es)) exprs x.first r → StepsTruth exprs at (Break r)
told_void exprs at x r f k h ss ds e w s a n =
    let o = found_stands exprs at x ss ds e w f a in
    let m = records_parts e in
    h ss ds (parts_of e) s o.1 (omega arith) ∙ truth_void e (o.0 ∙ k)

pub told_other : (exprs : List ExprRecord) (at : ℕ) (x : ExprRecord) (r : Option Bool) → Found exprs at x → Other x.kind expression.Not
    → Other x.kind expression.Void → r ≡ kind_truth x.kind → StepsTruth exprs at (Break r)
told_other exprs at x r f p q t ss ds e w s a n =
    let k = (found_stands exprs at x ss ds e w f a).0 in
    t ∙ ap kind_truth (sym k) ∙ truth_rest e (λ h. p (sym k ∙ h)) (λ h. q (sym k ∙ h))

-- a known truth, turned round where a flag says so
abbrev pub turned_if : Bool → Option Bool → Option Bool
turned_if true o = turned o
turned_if false o = o

-- under so many nots stands an expression whose truth, turned round or not, is the one asked for
abbrev pub UnderNots : List ExprRecord → ℕ → ℕ → Bool → ℕ → Type 0
UnderNots exprs at part turn steps =
    (ss : List StmtRecord) (ds : List DeclRecord) (e : Expr) (w : Row) → Short (tables exprs ss ds) → At (tables exprs ss ds) (expr_at at) (expr_row e w)
    → records_expr e ≤ length exprs
    → (f : Expr) × (v : Row) × At (tables exprs ss ds) (expr_at part) (expr_row f v) × (records_expr f + steps ≤ length exprs)
    × (turned_if turn (reader_truth f) ≡ reader_truth e)

pub under_end : (exprs : List ExprRecord) (at part : ℕ) (turn : Bool) (steps : ℕ) → UnderNots exprs at part turn steps → length exprs ≤ steps
    → Answers reader_truth exprs at None
under_end exprs at part turn steps g i ss ds e w s a n =
    let o = g ss ds e w s a n in
    let m = o.3 in
    let l = records_parts o.0 in
    absurd (omega arith)
