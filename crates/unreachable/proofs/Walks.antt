-- Walks along rows that note names.
use Rattle.std.proofs.Common.{◌≡◌, ℕ, zero, suc, ◌+◌, ◌<◌, ◌≤◌, List, [], ◌∷◌, ◌++◌, map, take, length, get_or, refl, ap, ◌∙◌, subst, append_assoc, arith}
use Rattle.records.specs.declared.record.DeclRecord.{DeclRecord}
use Rattle.records.specs.declared.record.ExprRecord.{ExprRecord}
use Rattle.records.specs.declared.record.StmtRecord.{StmtRecord}
use Rattle.records.specs.Heap.{Heap, Label, blank_decl, blank_stmt, decl_at, stmt_at}
use Rattle.records.specs.Owned.{Short}
use Rattle.records.specs.Readable.{tables}
use Rattle.records.specs.Rows.{At, Row, end, node, row_length}
use Rattle.records.specs.Turning.{decl_next, stmt_next}
use Rattle.records.proofs.Counting.{stmt_chain}
use Rattle.records.proofs.Fits.{linked_fits}
use Rattle.records.proofs.Tables.{decls_tabled, stmts_tabled}
use Rattle.rules.specs.Unreachable.{note_hoisted_names}
use Rattle.records.specs.Walked.{walked}
use Rattle.records.proofs.Walked.{walked_end, walked_node}
use Rattle.unreachable.specs.declared.noting.NotedNames.{NotedNames}
use Rattle.unreachable.specs.Noted.{Noting, declarators_in, label_name, names_of_row, noted_with, statements_in, vars_of_kind, vars_of_label}
use Rattle.unreachable.specs.Noted.{vars_of_row}

pub note_both : (xs ys l : List ℕ) → note_hoisted_names (xs ++ ys) l ≡ note_hoisted_names ys (note_hoisted_names xs l)
note_both [] ys l = refl
note_both (x ∷ xs) ys l = note_both xs ys (noted_with x l)

pub noting_both : (a b c : NotedNames) (xs ys : List ℕ) → Noting a b xs → Noting b c ys → Noting a c (xs ++ ys)
noting_both a b c xs ys f g l q = rw (note_both xs ys l) (g (note_hoisted_names xs l) (f l q))

-- the names of declarators
abbrev pub names_of : List (ℕ × DeclRecord) → List ℕ
names_of ds = map (λ d. d.1.name) ds

-- a walk along a row meets the names of the row
pub names_walked : (h : Heap) (i n : ℕ) (z : Row) → Short h → At h (decl_at i) z → row_length z ≤ n
    → names_of (walked decl_next h.decls i n) ≡ names_of_row z
names_walked h i n end s a c = ap names_of (walked_end decls_tabled h i n s a)
names_walked h i zero (node l x y v w) s a c = absurd (omega arith)
names_walked h i (suc n) (node l x y v w) s a c =
    ap names_of (walked_node decls_tabled h i n a.0)
    ∙ ap (λ ns. (get_or h.decls i blank_decl).name ∷ ns) (names_walked h _ n w s a.5 (omega arith))
    ∙ ap (λ (k : Label). label_name k ∷ names_of_row w) a.1

-- the names of a statement and of its parts are noted, where those have no more records than this
abbrev pub NotingStmt : List StmtRecord → List DeclRecord → ℕ → NotedNames → StmtRecord → NotedNames → Type 0
NotingStmt stmts decls below before s after =
    (es : List ExprRecord) (y z : Row) → Short (tables es stmts decls) → At (tables es stmts decls) (stmt_at s.stmts) y
    → At (tables es stmts decls) (decl_at s.decls) z → statements_in y ≤ below → declarators_in y ≤ length decls → row_length z ≤ length decls
    → Noting before after (vars_of_kind s.kind z ++ vars_of_row y)

-- one statement after the other
abbrev pub NotingStmts : List StmtRecord → List DeclRecord → ℕ → NotedNames → List (ℕ × StmtRecord) → NotedNames → Type 0
NotingStmts stmts decls below before [] after = before ≡ after
NotingStmts stmts decls below before (x ∷ xs) after =
    (mid : NotedNames) × NotingStmt stmts decls below before x.1 mid × NotingStmts stmts decls below mid xs after

-- the first n items: none where the walk ends, and one before those that are left
pub none_taken : {A : Type 0} (n : ℕ) (xs : List A) → (0 < n → xs ≡ []) → take n xs ≡ []
none_taken zero xs e = refl
none_taken (suc n) xs e = rw (e (omega arith)) refl

pub one_taken : {A : Type 0} (n m : ℕ) (xs ys : List A) (x : A) → xs ≡ x ∷ ys → m + 1 ≡ n → take n xs ≡ x ∷ take m ys
one_taken zero m xs ys x e f = absurd (omega arith)
one_taken (suc n) m xs ys x e f = let g : n ≡ m = omega arith in rw e (rw g refl)

-- a walk along a row, cut after as many records as the row has or more, notes the names of the row
vars_met : (es : List ExprRecord) (stmts : List StmtRecord) (decls : List DeclRecord) (below i most n : ℕ) (r : Row) (before after : NotedNames)
    → Short (tables es stmts decls) → At (tables es stmts decls) (stmt_at i) r → statements_in r ≤ most → row_length r ≤ n
    → statements_in r ≤ suc below → declarators_in r ≤ length decls
    → NotingStmts stmts decls below before (take most (walked stmt_next stmts i n)) after → Noting before after (vars_of_row r)
vars_met es stmts decls below i most n end before after s a c f b d m =
    let none = none_taken most _ (λ p. walked_end stmts_tabled (tables es stmts decls) i n s a) in
    subst (λ v. Noting before v []) (rw none at m) (λ l q. q)
vars_met es stmts decls below i zero n (node l x y z w) before after s a c f b d m = absurd (omega arith)
vars_met es stmts decls below i (suc most) zero (node l x y z w) before after s a c f b d m = absurd (omega arith)
vars_met es stmts decls below i (suc most) (suc n) (node l x y z w) before after s a c f b d m =
    let k = (get_or stmts i blank_stmt).kind in
    let t = rw (walked_node stmts_tabled (tables es stmts decls) i n a.0) at m in
    let f₁ = t.1 es y z s a.3 a.4 (omega arith) (omega arith) (omega arith) in
    let g = vars_met es stmts decls below _ most n w t.0 after s a.5 (omega arith) (omega arith) (omega arith) (omega arith) t.2 in
    subst (Noting before after)
    (append_assoc (vars_of_kind k z) (vars_of_row y) (vars_of_row w) ∙ ap (λ (j : Label). vars_of_label j z ++ (vars_of_row y ++ vars_of_row w)) a.1)
    (noting_both before t.0 after (vars_of_kind k z ++ vars_of_row y) (vars_of_row w) f₁ g)

-- no row is longer than the table
pub vars_walked : (es : List ExprRecord) (stmts : List StmtRecord) (decls : List DeclRecord) (below i most : ℕ) (r : Row) (before after : NotedNames)
    → Short (tables es stmts decls) → At (tables es stmts decls) (stmt_at i) r → statements_in r ≤ most → statements_in r ≤ suc below
    → declarators_in r ≤ length decls → NotingStmts stmts decls below before (take most (walked stmt_next stmts i (length stmts))) after
    → Noting before after (vars_of_row r)
vars_walked es stmts decls below i most r before after s a c b d m =
    vars_met es stmts decls below i most (length stmts) r before after s a c
    (linked_fits stmt_next stmts s.stmts i (row_length r) (stmt_chain (tables es stmts decls) i r a)) b d m

-- a row of no statements tells no names
pub no_vars : (r : Row) → statements_in r ≤ 0 → vars_of_row r ≡ []
no_vars end c = refl
no_vars (node l x y z w) c = absurd (omega arith)
