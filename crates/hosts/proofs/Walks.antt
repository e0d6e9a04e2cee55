-- The walks over the table tell whether what stands there is harmless, and spend one of their budget at each record.
use Rattle.std.proofs.Common.{◌≡◌, ℕ, zero, suc, ◌+◌, ◌-◌, ◌<◌, ◌≤◌, Bool, true, false, ◌&&◌, ◌⊎◌, List, [], ◌∷◌, length, slice_get, Some, None, Option, sym, refl, ap, ◌∙◌, subst, arith}
use mathlib.Core.Logic.{⊎_elim}
use Rattle.script.specs.Tree.{Expr, number, word, name, assignment, call, sequence, conditional, logical, not, void, strict_equality}
use Rattle.script.specs.Tree.{Exprs, no_exprs, expr_then}
use Rattle.script.specs.Sound.{records_expr, records_exprs}
use Rattle.records.specs.declared.record.ExprRecord.{ExprRecord}
use Rattle.records.specs.declared.record.StmtRecord.{StmtRecord}
use Rattle.records.specs.declared.record.DeclRecord.{DeclRecord}
use Rattle.records.specs.Heap.{expr_at}
use Rattle.records.specs.Rows.{At}
use Rattle.records.specs.Owned.{Short}
use Rattle.records.specs.Readable.{tables}
use Rattle.records.specs.Embedding.{exprs_row}
use Rattle.records.specs.Turning.{expr_next}
use Rattle.records.specs.Walked.{walked}
use Rattle.records.proofs.Tables.{exprs_tabled}
use Rattle.records.proofs.Walked.{walked_end, walked_node}
use Rattle.hosts.specs.declared.reader.Decided.{Decided}
use Rattle.hosts.specs.declared.reader.Decided.TheVariants.{Always, ByParts, Never}
use Rattle.hosts.specs.Known.{reader_harmless, all_harmless}
use Rattle.hosts.specs.Walked.{decision, spent, LeftBelow, WalksOne, WalksRow}
use Rattle.hosts.proofs.Standing.{Found, found_there, none_found, kind_of, parts_of, stands, records_parts}

abbrev by_decision : Decided → Bool → Bool
by_decision Always b = true
by_decision ByParts b = b
by_decision Never b = false

and_true : (b : Bool) → b ≡ b && true
and_true true = refl
and_true false = refl

harmless_decided : (e : Expr) → reader_harmless e ≡ by_decision (decision (kind_of e)) (all_harmless (parts_of e))
harmless_decided (number b) = refl
harmless_decided (word w) = refl
harmless_decided (name n) = refl
harmless_decided (assignment n e) = refl
harmless_decided (call n es) = refl
harmless_decided (sequence e es) = refl
harmless_decided (conditional t a b) = ap (λ x. reader_harmless t && (reader_harmless a && x)) (and_true (reader_harmless b))
harmless_decided (logical o a b) = ap (λ x. reader_harmless a && x) (and_true (reader_harmless b))
harmless_decided (not e) = and_true (reader_harmless e)
harmless_decided (void e) = and_true (reader_harmless e)
harmless_decided (strict_equality a b) = ap (λ x. reader_harmless a && x) (and_true (reader_harmless b))

always_one : (e : Expr) → decision (kind_of e) ≡ Always → records_expr e ≡ 1
always_one (number b) d = refl
always_one (word w) d = refl
always_one (name n) d = cc
always_one (assignment n e) d = cc
always_one (call n es) d = cc
always_one (sequence e es) d = cc
always_one (conditional t a b) d = cc
always_one (logical o a b) d = cc
always_one (not e) d = cc
always_one (void e) d = cc
always_one (strict_equality a b) d = cc

-- what a walk answers at a record, by what decides there, with so much left for its parts
abbrev pub Decides : List ExprRecord → ExprRecord → ℕ → Option ℕ → Decided → Type 0
Decides exprs x left r Always = r ≡ Some left
Decides exprs x left r ByParts = WalksRow exprs x.first left r
Decides exprs x left r Never = r ≡ None

spent_more : (b : Bool) (left n : ℕ) → spent b left n ≡ spent b (left + 1) (suc n)
spent_more true left n = let q : left - n ≡ (left + 1) - suc n = omega arith in ap (λ m. Some m) q
spent_more false left n = refl

decides_falls : (exprs : List ExprRecord) (x : ExprRecord) (left : ℕ) (r : Option ℕ) (d : Decided) → Decides exprs x left r d → LeftBelow (left + 1) r
decides_falls exprs x left r Always h = let q : left < left + 1 = omega arith in subst (λ (o : Option ℕ). LeftBelow (left + 1) o) (sym h) q
decides_falls exprs x left r ByParts h = by r h.falls
  where
    by : (o : Option ℕ) → LeftBelow (suc left) o → LeftBelow (left + 1) o
    by None l = tt
    by (Some n) l = omega arith
decides_falls exprs x left r Never h = subst (λ (o : Option ℕ). LeftBelow (left + 1) o) (sym h) tt

decides_answer : (exprs : List ExprRecord) (x : ExprRecord) (left : ℕ) (r : Option ℕ) (d : Decided) (ss : List StmtRecord) (ds : List DeclRecord) (e : Expr)
    → Decides exprs x left r d → decision (kind_of e) ≡ d → Short (tables exprs ss ds) → At (tables exprs ss ds) (expr_at x.first) (exprs_row (parts_of e))
    → records_expr e ≤ left + 1 → r ≡ spent (reader_harmless e) (left + 1) (records_expr e)
decides_answer exprs x left r Always ss ds e h q s a n =
    let t : reader_harmless e ≡ true = harmless_decided e ∙ ap (λ (d : Decided). by_decision d (all_harmless (parts_of e))) q in
    let l : left ≡ (left + 1) - 1 = omega arith in
    h ∙ ap (λ m. Some m) l ∙ sym (ap (λ b. spent b (left + 1) (records_expr e)) t ∙ ap (λ m. Some ((left + 1) - m)) (always_one e q))
decides_answer exprs x left r ByParts ss ds e h q s a n =
    let t : reader_harmless e ≡ all_harmless (parts_of e) = harmless_decided e ∙ ap (λ (d : Decided). by_decision d (all_harmless (parts_of e))) q in
    let m = records_parts e in
    h.answer ss ds (parts_of e) s a (omega arith) ∙ spent_more (all_harmless (parts_of e)) left (records_exprs (parts_of e))
    ∙ sym (ap (λ b. spent b (left + 1) (records_expr e)) t ∙ ap (λ k. spent (all_harmless (parts_of e)) (left + 1) k) m)
decides_answer exprs x left r Never ss ds e h q s a n =
    let t : reader_harmless e ≡ false = harmless_decided e ∙ ap (λ (d : Decided). by_decision d (all_harmless (parts_of e))) q in
    h ∙ sym (ap (λ b. spent b (left + 1) (records_expr e)) t)

pub walked_found : (exprs : List ExprRecord) (at budget left : ℕ) (x : ExprRecord) (r : Option ℕ) (d : Decided)
    → (1 ≤ budget) × (left ≡ budget - 1) → Found exprs at x → d ≡ decision x.kind → Decides exprs x left r d → WalksOne exprs at budget r
walked_found exprs at budget left x r d p q k h = let u = p.0 in let v = p.1 in let b : left + 1 ≡ budget = omega arith in
    subst (λ (n : ℕ). WalksOne exprs at n r) b (record {
      falls = decides_falls exprs x left r d h;
      answer = λ ss ds e w s a n.
          let o = stands (tables exprs ss ds) at e w a in
          let t = found_there exprs at x q in
          decides_answer exprs x left r d ss ds e h (sym (k ∙ ap (λ (y : ExprRecord). decision y.kind) (sym t) ∙ ap decision o.kind)) s
          (subst (λ (y : ExprRecord). At (tables exprs ss ds) (expr_at y.first) (exprs_row (parts_of e))) t o.parts) n;
    })

pub walked_broke : (exprs : List ExprRecord) (at budget : ℕ) → (1 ≤ budget → ⊥) → WalksOne exprs at budget None
walked_broke exprs at budget b = record { falls = tt; answer = λ ss ds e w s a n. let m = records_parts e in absurd (b (omega arith)) }

pub walked_outside : (exprs : List ExprRecord) (at budget : ℕ) → None ≡ slice_get exprs at → WalksOne exprs at budget None
walked_outside exprs at budget o = record {
  falls = tt;
  answer = λ ss ds e w s a n. let i = (stands (tables exprs ss ds) at e w a).within in let l = none_found exprs at o in absurd (omega arith);
}

spent_left : (b : Bool) (left n after : ℕ) → Some after ≡ spent b left n → after ≡ left - n
spent_left true left n after h = cc
spent_left false left n after h = cc

spent_both : (b c : Bool) (left n m after : ℕ) → Some after ≡ spent b left n → spent c after m ≡ spent (b && c) left (n + m)
spent_both true true left n m after h = let q = spent_left true left n after h in let z : after - m ≡ left - (n + m) = omega arith in ap (λ k. Some k) z
spent_both true false left n m after h = refl
spent_both false c left n m after h = cc

none_both : (b c : Bool) (left n m : ℕ) → None ≡ spent b left n → None ≡ spent (b && c) left (n + m)
none_both true c left n m h = cc
none_both false c left n m h = refl

-- the walks of these expressions, each with what the ones before it left, answer so
abbrev pub WalksEach : List ExprRecord → List (ℕ × ExprRecord) → ℕ → Option ℕ → Type 0
WalksEach exprs [] left r = r ≡ Some left
WalksEach exprs (x ∷ xs) left r =
    (WalksOne exprs x.0 left None × (r ≡ None)) ⊎ ((after : ℕ) × WalksOne exprs x.0 left (Some after) × WalksEach exprs xs after r)

-- so those along a row answer for the row: each spends some of what is left, so that is spent no later than the walk along the row ends
each_told : (exprs : List ExprRecord) (ss : List StmtRecord) (ds : List DeclRecord) (r : Option ℕ) → Short (tables exprs ss ds) → (i n left : ℕ) (es : Exprs)
    → At (tables exprs ss ds) (expr_at i) (exprs_row es) → records_exprs es ≤ left → left ≤ n → WalksEach exprs (walked expr_next exprs i n) left r
    → r ≡ spent (all_harmless es) left (records_exprs es)
each_told exprs ss ds r s i n left no_exprs a k l m =
    let z : left ≡ left - 0 = omega arith in (rw (walked_end exprs_tabled (tables exprs ss ds) i n s a) at m) ∙ ap (λ k. Some k) z
each_told exprs ss ds r s i zero left (expr_then e es) a k l m = let p = records_parts e in absurd (omega arith)
each_told exprs ss ds r s i (suc n) left (expr_then e es) a k l m =
    let o = stands (tables exprs ss ds) i e (exprs_row es) a in
    ⊎_elim
    (λ t. t.1 ∙ none_both (reader_harmless e) (all_harmless es) left (records_expr e) (records_exprs es) (t.0.answer ss ds e (exprs_row es) s a (omega arith)))
    (λ t.
    let q = t.1.answer ss ds e (exprs_row es) s a (omega arith) in
    let d = t.1.falls in
    let v = spent_left (reader_harmless e) left (records_expr e) t.0 q in
    each_told exprs ss ds r s _ n t.0 es o.next (omega arith) (omega arith) t.2
    ∙ spent_both (reader_harmless e) (all_harmless es) left (records_expr e) (records_exprs es) t.0 q)
    (rw (walked_node exprs_tabled (tables exprs ss ds) i n o.within) at m)

pub each_walked : (exprs : List ExprRecord) (row budget : ℕ) (r : Option ℕ) → budget ≤ length exprs → LeftBelow (suc budget) r
    → WalksEach exprs (walked expr_next exprs row (length exprs)) budget r → WalksRow exprs row budget r
each_walked exprs row budget r b f m = record {
  falls = f;
  answer = λ ss ds es s a n. each_told exprs ss ds r s row (length exprs) budget es a n b m;
}
