-- The last of a row of expressions, and expressions in front of a row.
use Rattle.std.proofs.Common.{◌≡◌, ℕ, suc, ◌<◌, ◌≤◌, List, ◌∷◌, length, get_or, sym, refl, ap, ◌∙◌, subst, arith}
use Rattle.pool.specs.Chain.{Chain, nowhere}
use Rattle.script.specs.Judge.{Spares}
use Rattle.script.specs.Sound.{count_exprs, records_expr, records_exprs}
use Rattle.script.specs.Tree.{Exprs, expr_then, no_exprs}
use Rattle.script.specs.Tree.{Expr, assignment, call, conditional, logical, name, not, number, sequence, strict_equality, void, word}
use Rattle.records.specs.declared.record.DeclRecord.{DeclRecord}
use Rattle.records.specs.declared.record.ExprRecord.{ExprRecord}
use Rattle.records.specs.declared.record.Pools.{Pools}
use Rattle.records.specs.declared.record.StmtRecord.{StmtRecord}
use Rattle.records.specs.Embedding.{expr_row, exprs_row}
use Rattle.records.specs.Heap.{Heap, Place, blank_expr, expr_at, expr_links}
use Rattle.records.specs.Owned.{Owns, Root, Short}
use Rattle.records.specs.Readable.{tables}
use Rattle.records.specs.Rows.{At, Row, row_length}
use Rattle.records.proofs.Balance.{balance}
use Rattle.records.proofs.Counting.{expr_chain, link_there}
use Rattle.records.proofs.RowLengths.{expr_row_length}
use Rattle.records.proofs.Tables.{exprs_tabled}
use Rattle.records.proofs.Tallies.{lengths, records_expr_row, records_exprs_row}
use Rattle.moves.specs.Front.{in_front, links_on}
use Rattle.moves.specs.Last.{exprs_before, last_behind}
use Rattle.moves.proofs.First.{expr_first}

-- an expression stands within its table, and before a row
pub expr_within : (h : Heap) (i : ℕ) (e : Expr) (w : Row) → At h (expr_at i) (expr_row e w) → i < length h.exprs
expr_within h i e w a = (subst (λ (r : Row). At h (expr_at i) r) (expr_first e w) a).0

pub expr_behind : (h : Heap) (i : ℕ) (e : Expr) (w : Row) → At h (expr_at i) (expr_row e w) → At h (expr_at (get_or h.exprs i blank_expr).next) w
expr_behind h i e w a = (subst (λ (r : Row). At h (expr_at i) r) (expr_first e w) a).5

-- the last place of a row of expressions by their links
links_behind : (h : Heap) (i : ℕ) (e : Expr) (es : Exprs) → At h (expr_at i) (expr_row e (exprs_row es))
    → last_behind h (expr_at i) es ≡ expr_at (links_on (expr_links h.exprs) i (count_exprs es))
links_behind h i e no_exprs a = refl
links_behind h i e (expr_then x xs) a =
    let n = link_there exprs_tabled h i (expr_within h i e (exprs_row (expr_then x xs)) a) in
    links_behind h (get_or h.exprs i blank_expr).next x xs (expr_behind h i e (exprs_row (expr_then x xs)) a)
    ∙ ap (λ (k : ℕ). expr_at (links_on (expr_links h.exprs) k (count_exprs xs))) (sym n)

exprs_length : (es : Exprs) → row_length (exprs_row es) ≡ count_exprs es
exprs_length no_exprs = refl
exprs_length (expr_then e es) = expr_row_length e (exprs_row es) ∙ ap suc (exprs_length es)

-- the last place of a chain of links is that of the row's last expression
pub last_told : (exprs : List ExprRecord) (row last : ℕ)
    → ((n : ℕ) → n < length exprs → length exprs ≤ nowhere → Chain (expr_links exprs) row (suc n) → last ≡ links_on (expr_links exprs) row n)
    → (ss : List StmtRecord) (ds : List DeclRecord) (e : Expr) (es : Exprs) → Short (tables exprs ss ds)
    → At (tables exprs ss ds) (expr_at row) (expr_row e (exprs_row es)) → count_exprs es < length exprs
    → expr_at last ≡ last_behind (tables exprs ss ds) (expr_at row) es
last_told exprs row last f ss ds e es s a l =
    let h = tables exprs ss ds in
    let n = expr_row_length e (exprs_row es) ∙ ap suc (exprs_length es) in
    ap expr_at (f (count_exprs es) l s.exprs (subst (λ (k : ℕ). Chain (expr_links exprs) row k) n (expr_chain h row (expr_row e (exprs_row es)) a)))
    ∙ sym (links_behind h row e es a)

-- no expression has more records than the table
module _ {h : Heap} {p : Pools} {loose : List Place} {rest : List Root} {i : ℕ} where
  pub expr_fits : (e : Expr) (w : Row) → Owns h p loose ((expr_at i, expr_row e w) ∷ rest) → records_expr e ≤ length h.exprs
  expr_fits e w o =
      let b : (lengths h).exprs ≡ _ = ap (λ (s : Spares). s.exprs) (balance o) in
      let r = records_expr_row e w in
      omega arith

  pub row_fits : (e : Expr) (es : Exprs) → Owns h p loose ((expr_at i, expr_row e (exprs_row es)) ∷ rest) → count_exprs es < length h.exprs
  row_fits e es o =
      let b : (lengths h).exprs ≡ _ = ap (λ (s : Spares). s.exprs) (balance o) in
      let r = records_expr_row e (exprs_row es) in
      let q = records_exprs_row es in
      let f = records_some e in
      let n = counted_records es in
      omega arith
    where
      records_some : (x : Expr) → 1 ≤ records_expr x
      records_some (number b) = omega arith
      records_some (word w) = omega arith
      records_some (name n) = omega arith
      records_some (assignment n x) = omega arith
      records_some (call n xs) = omega arith
      records_some (sequence x xs) = omega arith
      records_some (conditional t a b) = omega arith
      records_some (logical k a b) = omega arith
      records_some (not x) = omega arith
      records_some (void x) = omega arith
      records_some (strict_equality a b) = omega arith

      counted_records : (xs : Exprs) → count_exprs xs ≤ records_exprs xs
      counted_records no_exprs = omega arith
      counted_records (expr_then x xs) = let a = records_some x in let b = counted_records xs in omega arith

-- expressions in front of a row
pub in_front_exprs : (es : Exprs) (w : Row) → in_front (exprs_row es) w ≡ exprs_before es w
in_front_exprs no_exprs w = refl
in_front_exprs (expr_then e es) w = in_front_expr e (exprs_row es) w ∙ ap (expr_row e) (in_front_exprs es w)
  where
    in_front_expr : (e : Expr) (v w : Row) → in_front (expr_row e v) w ≡ expr_row e (in_front v w)
    in_front_expr e v w = ap (λ (r : Row). in_front r w) (expr_first e v) ∙ sym (expr_first e (in_front v w))
