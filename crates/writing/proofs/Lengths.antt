-- How long the bytes of a row are, and where placed bytes stand.
use Rattle.std.proofs.Common.{◌≡◌, ℕ, suc, ◌+◌, ◌*◌, ◌≤◌, List, [], ◌∷◌, ◌++◌, length, drop, set, refl, ap, ◌∙◌, append_assoc, arith, rules, length-append}
use Rattle.script.specs.declared.ExpressionKind.{ExpressionKind}
use Rattle.script.specs.declared.StatementKind.{StatementKind}
use Rattle.records.specs.Heap.{expr_label, stmt_label, decl_label}
use Rattle.records.specs.Rows.{Row, end, node, size, row_length}
use Rattle.writing.specs.Bytes.{Order, exprs_first, stmts_first, stmt_first, expr_spelling, decl_spelling, stmt_spelling, body_spelling}
use Rattle.writing.specs.Bytes.{exprs_row_bytes, decls_row_bytes, order, in_order, first_bytes, others_bytes, body_row_bytes, behind, placed}

-- each record writes five bytes at most
expr_most : (k : ExpressionKind) (n : ℕ) (rest : List ℕ) → length (expr_spelling k n rest) ≤ 5 + length rest
expr_most k n rest = grind arith

stmt_most : (k : StatementKind) (x y z : ℕ) (rest : List ℕ) → length (stmt_spelling k x y z rest) ≤ 5 + length rest
stmt_most k x y z rest = search rules

exprs_most : (r : Row) (rest : List ℕ) → length (exprs_row_bytes r rest) ≤ 5 * size r + length rest
exprs_most end rest = omega arith
exprs_most (node (expr_label k) x y z w) rest =
    let a = exprs_most x (expr_spelling k (row_length x) (exprs_row_bytes w rest)) in
    let b = expr_most k (row_length x) (exprs_row_bytes w rest) in
    let c = exprs_most w rest in
    omega arith
exprs_most (node (stmt_label k) x y z w) rest = let c = exprs_most w rest in omega arith
exprs_most (node (decl_label n) x y z w) rest = let c = exprs_most w rest in omega arith

decls_most : (r : Row) (rest : List ℕ) → length (decls_row_bytes r rest) ≤ 5 * size r + length rest
decls_most end rest = omega arith
decls_most (node (expr_label k) x y z w) rest = let c = decls_most w rest in omega arith
decls_most (node (stmt_label k) x y z w) rest = let c = decls_most w rest in omega arith
decls_most (node (decl_label n) x y z w) rest =
    let a = exprs_most x (decl_spelling n (row_length x) (decls_row_bytes w rest)) in
    let c = decls_most w rest in
    omega arith

-- the records of a row's first item, and of the others
abbrev first_size : Row → ℕ
first_size end = 0
first_size (node l x y z w) = suc (size x + (size y + size z))

abbrev others_size : Row → ℕ
others_size end = 0
others_size (node l x y z w) = size w

both_sizes : (r : Row) → first_size r + others_size r ≡ size r
both_sizes end = refl
both_sizes (node l x y z w) = omega arith

in_order_most : (o : Order) (e f g d : List ℕ → List ℕ) (a b c n : ℕ)
    → ((rest : List ℕ) → length (e rest) ≤ a + length rest) → ((rest : List ℕ) → length (f rest) ≤ b + length rest)
    → ((rest : List ℕ) → length (g rest) ≤ c + length rest) → ((rest : List ℕ) → length (d rest) ≤ n + length rest)
    → (rest : List ℕ) → length (in_order o e f g d rest) ≤ (a + (b + (c + n))) + length rest
in_order_most exprs_first e f g d a b c n he hf hg hd rest =
    let p = he (d (f (g rest))) in let q = hd (f (g rest)) in let r = hf (g rest) in let s = hg rest in omega arith
in_order_most stmts_first e f g d a b c n he hf hg hd rest =
    let p = hf (g (e rest)) in let q = hg (e rest) in let r = he rest in omega arith
in_order_most stmt_first e f g d a b c n he hf hg hd rest =
    let p = hf (e (g rest)) in let q = he (g rest) in let r = hg rest in omega arith

mutual
  first_most : (r : Row) (rest : List ℕ) → length (first_bytes r rest) ≤ 5 * first_size r + length rest
  first_most end rest = omega arith
  first_most (node (expr_label k) x y z w) rest = omega arith
  first_most (node (stmt_label k) x y z w) rest =
      let tail = stmt_spelling k (row_length x) (row_length y) (row_length z) rest in
      let e = exprs_most x in let f = first_most y in let g = others_most y in let d = decls_most z in
      let a = in_order_most (order k) _ _ _ _ (5 * size x) (5 * first_size y) (5 * others_size y) (5 * size z) e f g d tail in
      let b = stmt_most k (row_length x) (row_length y) (row_length z) rest in
      let c = both_sizes y in
      omega arith
  first_most (node (decl_label n) x y z w) rest = omega arith

  others_most : (r : Row) (rest : List ℕ) → length (others_bytes r rest) ≤ 5 * others_size r + length rest
  others_most end rest = omega arith
  others_most (node l x y z w) rest =
      let a = first_most w (others_bytes w rest) in let b = others_most w rest in let c = both_sizes w in omega arith

pub body_most : (r : Row) → length (body_row_bytes r) ≤ 5 * size r + 4
body_most r =
    let tail = body_spelling (row_length r) [] in
    let a = first_most r (others_bytes r tail) in let b = others_most r tail in let c = both_sizes r in omega arith

-- no output: the place behind the bytes tells how many there are
pub placed_none : (at : ℕ) (bytes : List ℕ) → at + length bytes ≤ 18446744073709551615 → placed [] at bytes ≡ ([], at + length bytes)
placed_none at [] h = let e : at ≡ at + length {A = ℕ} [] = omega arith in ap (λ (n : ℕ). ([], n)) e
placed_none at (b ∷ bs) h =
    let m : behind at ≡ at + 1 = omega arith in
    let e : (at + 1) + length bs ≡ at + length (b ∷ bs) = omega arith in
    ap (λ (n : ℕ). placed [] n bs) m ∙ placed_none (at + 1) bs (omega arith) ∙ ap (λ (n : ℕ). ([], n)) e

set_here : (before : List ℕ) (o : ℕ) (out : List ℕ) (b : ℕ) → set (before ++ (o ∷ out)) (length before) b ≡ (before ++ (b ∷ [])) ++ out
set_here [] o out b = refl
set_here (x ∷ xs) o out b = ap (λ (l : List ℕ). x ∷ l) (set_here xs o out b)

-- an output that is long enough: what stood before, the bytes, what stood behind
pub placed_is : (before out bytes : List ℕ) → length bytes ≤ length out → length before + length bytes ≤ 18446744073709551615
    → placed (before ++ out) (length before) bytes ≡ (before ++ (bytes ++ drop (length bytes) out), length before + length bytes)
placed_is before out [] l h = let e : length before ≡ length before + length {A = ℕ} [] = omega arith in ap (λ (n : ℕ). (before ++ out, n)) e
placed_is before [] (b ∷ bs) l h = absurd (omega arith)
placed_is before (o ∷ out) (b ∷ bs) l h =
    let after = before ++ (b ∷ []) in
    let n : length after ≡ length before + 1 = length-append before (b ∷ []) in
    let m : behind (length before) ≡ length after = omega arith in
    let e : length after + length bs ≡ length before + length (b ∷ bs) = omega arith in
    ap (λ (t : List ℕ). placed t (behind (length before)) bs) (set_here before o out b)
    ∙ ap (λ (k : ℕ). placed (after ++ out) k bs) m
    ∙ placed_is after out bs (omega arith) (omega arith)
    ∙ ap (λ (k : ℕ). (after ++ (bs ++ drop (length bs) out), k)) e
    ∙ ap (λ (t : List ℕ). (t, length before + length (b ∷ bs))) (append_assoc before (b ∷ []) (bs ++ drop (length bs) out))
