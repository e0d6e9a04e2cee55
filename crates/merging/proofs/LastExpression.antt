-- What is owned after an expression was merged with the newest result, or put onto the results.
use Rattle.std.proofs.Common.{◌≡◌, ℕ, ◌≤◌, Bool, true, List, [], ◌∷◌, get_or, set, sym, refl, ◌∙◌, subst, arith}
use Rattle.pool.specs.Chain.{nowhere}
use Rattle.pool.specs.declared.Pool.{Pool}
use Rattle.script.specs.declared.StatementKind.TheVariants as statement
use Rattle.script.specs.Sound.{records_stmts}
use Rattle.script.specs.Tree.{Expr, Stmts, expression, stmt_then}
use Rattle.records.specs.declared.record.DeclRecord.{DeclRecord}
use Rattle.records.specs.declared.record.ExprRecord.{ExprRecord}
use Rattle.records.specs.declared.record.Pools.{Pools}
use Rattle.records.specs.declared.record.StmtRecord.{StmtRecord}
use Rattle.records.specs.Embedding.{expr_row, optional_row, stmt_row, stmts_row}
use Rattle.records.specs.Heap.{Heap, Place, blank_stmt, decl_at, expr_at, stmt_at, stmt_links}
use Rattle.records.specs.Owned.{Owns, Root}
use Rattle.records.specs.Readable.{tables}
use Rattle.records.specs.Rows.{Row, end}
use Rattle.rules.specs.Expressions.{join_sequence}
use Rattle.rules.specs.Merging.{LastExpression?, last_expression, last_expression?, merge_last_expression_as, merge_last_expression_into_sequence}
use Rattle.rules.specs.Merging.{no_last_expression, push_expression_as, push_new_expression_stmt_to_result}
use Rattle.moves.specs.Cells.{Took}
use Rattle.moves.specs.Moved.{Moved, Turns}
use Rattle.records.proofs.Moves.{end_in, end_out, pick}
use Rattle.records.proofs.Tallies.{Equals, equal, lengths, records_expr_row, records_optional_row, records_stmts_row}
use Rattle.moves.proofs.Frames.{arrange, kept_both, stays, then_move}
use Rattle.moves.proofs.Open.{close_stmt, open_stmt}
use Rattle.moves.proofs.Single.{take_stmt_of}
use Rattle.moves.proofs.Spared.{spared}
use Rattle.merging.proofs.Results.{expression_newest, kind_of_newest, no_expression_newest}

-- the record of an expression statement
abbrev pub expression_record : ℕ → ℕ → StmtRecord
expression_record e next = record { kind = statement.Expression; exprs = e; stmts = nowhere; decls = nowhere; next = next }

-- an expression statement's record and what is behind it
pub open_expression : {h : Heap} {p : Pools} {loose : List Place} {rest : List Root} {i : ℕ} (e : Expr) (w : Row)
    → Owns h p loose ((stmt_at i, stmt_row (expression e) w) ∷ rest)
    → Owns h p (stmt_at i ∷ loose)
    ((expr_at (get_or h.stmts i blank_stmt).exprs, expr_row e end) ∷ (stmt_at (get_or h.stmts i blank_stmt).next, w) ∷ rest)
open_expression e w o = end_out (pick 1 (end_out (pick 1 (open_stmt (expression e) w o))))

pub put_expression : {h : Heap} {p : Pools} {loose : List Place} {rest : List Root} {i at next : ℕ} (e : Expr) (w : Row)
    → Owns h p (stmt_at i ∷ loose) ((expr_at at, expr_row e end) ∷ (stmt_at next, w) ∷ rest)
    → Moved h (record { exprs = h.exprs; stmts = set h.stmts i (expression_record at next); decls = h.decls }) p loose
    ((stmt_at i, stmt_row (expression e) w) ∷ rest)
put_expression {at = at} {next = next} e w o =
    close_stmt (expression e) w (expression_record at next) refl (pick 2 (end_in (stmt_at nowhere) refl (end_in (decl_at nowhere) refl o)))

module _ {exprs exprs₁ : List ExprRecord} {stmts stmts₁ : List StmtRecord} {ds : List DeclRecord} {p p₁ p₂ : Pools}
    {loose : List Place} {rest : List Root} {target results joined : ℕ} where
  -- the newest result is an expression: its record was given back, and it was joined with the target
  pub last_merged : (e : Expr) (r : Stmts) → statement.Expression ≡ (get_or stmts results blank_stmt).kind
      → ((roots : List Root) → Owns (tables exprs stmts ds) p (stmt_at results ∷ loose) roots
      → Moved (tables exprs stmts ds) (tables exprs stmts₁ ds) p₁ loose roots)
      → ((x y : Expr)
      → Turns (tables exprs stmts₁ ds) p₁ (tables exprs₁ stmts₁ ds) p₂ []
      ((expr_at (get_or stmts results blank_stmt).exprs, expr_row x end) ∷ (expr_at target, expr_row y end) ∷ [])
      ((expr_at joined, expr_row (join_sequence x y) end) ∷ []))
      → Owns (tables exprs stmts ds) p loose ((expr_at target, expr_row e end) ∷ (stmt_at results, stmts_row r) ∷ rest)
      → Moved (tables exprs stmts ds) (tables exprs₁ stmts₁ ds) p₂ loose
      ((expr_at joined, optional_row (merge_last_expression_into_sequence true e r).target end)
      ∷ (stmt_at (get_or stmts results blank_stmt).next, stmts_row (merge_last_expression_into_sequence true e r).results) ∷ rest)
  last_merged e r k gives joins o =
      let q = expression_newest r (k ∙ kind_of_newest r (pick 1 o)) in
      subst (λ (v : Stmts). Owns (tables exprs stmts ds) p loose ((expr_at target, expr_row e end) ∷ (stmt_at results, stmts_row v) ∷ rest)
      → Moved (tables exprs stmts ds) (tables exprs₁ stmts₁ ds) p₂ loose
      ((expr_at joined, optional_row (merge_last_expression_into_sequence true e v).target end)
      ∷ (stmt_at (get_or stmts results blank_stmt).next, stmts_row (merge_last_expression_into_sequence true e v).results) ∷ rest))
      (sym q.2) (by q.0 q.1) o
    where
      by : (a : Expr) (r' : Stmts)
          → Owns (tables exprs stmts ds) p loose ((expr_at target, expr_row e end) ∷ (stmt_at results, stmts_row (stmt_then (expression a) r')) ∷ rest)
          → Moved (tables exprs stmts ds) (tables exprs₁ stmts₁ ds) p₂ loose
          ((expr_at joined, expr_row (join_sequence a e) end) ∷ (stmt_at (get_or stmts results blank_stmt).next, stmts_row r') ∷ rest)
      by a r' o =
          then_move (gives _ (arrange (0 ∷ 1 ∷ []) (open_expression a (stmts_row r') (pick 1 o))))
          (λ o₁. joins a e loose ((stmt_at (get_or stmts results blank_stmt).next, stmts_row r') ∷ rest) o₁)

-- it is none, and nothing was done
pub none_merged : {exprs : List ExprRecord} {stmts : List StmtRecord} {ds : List DeclRecord} {p : Pools}
    {loose : List Place} {rest : List Root} {target results : ℕ} (e : Expr) (r : Stmts)
    → ((get_or stmts results blank_stmt).kind ≡ statement.Expression → ⊥)
    → Owns (tables exprs stmts ds) p loose ((expr_at target, expr_row e end) ∷ (stmt_at results, stmts_row r) ∷ rest)
    → Moved (tables exprs stmts ds) (tables exprs stmts ds) p loose
    ((expr_at target, optional_row (merge_last_expression_into_sequence true e r).target end)
    ∷ (stmt_at results, stmts_row (merge_last_expression_into_sequence true e r).results) ∷ rest)
none_merged {exprs} {stmts} {ds} {p} {loose} {rest} {target} {results} e r n o =
    subst (λ (v : LastExpression? r). Moved (tables exprs stmts ds) (tables exprs stmts ds) p loose
    ((expr_at target, optional_row (merge_last_expression_as v e).target end)
    ∷ (stmt_at results, stmts_row (merge_last_expression_as v e).results) ∷ rest))
    (sym (no_expression_newest r (λ z. n (kind_of_newest r (pick 1 o) ∙ z)))) (stays o)

-- the merged expression is put onto the results
merged_pushed : {h : Heap} {p : Pools} {loose : List Place} {rest : List Root} {i at next : ℕ} {r : Stmts} (v : LastExpression? r) (e : Expr)
    → Owns h p (stmt_at i ∷ loose)
    ((expr_at at, optional_row (merge_last_expression_as v e).target end) ∷ (stmt_at next, stmts_row (merge_last_expression_as v e).results) ∷ rest)
    → Moved h (record { exprs = h.exprs; stmts = set h.stmts i (expression_record at next); decls = h.decls }) p loose
    ((stmt_at i, stmts_row (push_expression_as v e)) ∷ rest)
merged_pushed (last_expression a r) e o = put_expression (join_sequence a e) (stmts_row r) o
merged_pushed {r = r} no_last_expression e o = put_expression e (stmts_row r) o

-- merging takes no statement
merged_records : {r : Stmts} (v : LastExpression? r) (e : Expr) → (records_stmts (merge_last_expression_as v e).results).stmts ≤ (records_stmts r).stmts
merged_records (last_expression a r) e = omega arith
merged_records no_last_expression e = omega arith

spare_still : {h h' : Heap} {p p' : Pools} {loose : List Place} {rest : List Root} {target at results next : ℕ} {r : Stmts} (v : LastExpression? r) (e : Expr)
    → Equals (lengths h) (lengths h') → Owns h p loose ((expr_at target, expr_row e end) ∷ (stmt_at results, stmts_row r) ∷ rest)
    → Owns h' p' loose
    ((expr_at at, optional_row (merge_last_expression_as v e).target end) ∷ (stmt_at next, stmts_row (merge_last_expression_as v e).results) ∷ rest)
    → p.stmts.count ≤ p'.stmts.count
spare_still {loose = loose} {rest = rest} {target = target} {at = at} {results = results} {next = next} {r = r} v e l o o' =
    let m = merge_last_expression_as v e in
    let s = spared loose rest [] ((expr_at target, expr_row e end) ∷ (stmt_at results, stmts_row r) ∷ [])
    ((expr_at at, optional_row m.target end) ∷ (stmt_at next, stmts_row m.results) ∷ []) (equal l) o o' in
    let a = records_expr_row e end in
    let b = records_stmts_row r in
    let c = records_optional_row m.target end in
    let d = records_stmts_row m.results in
    let n = merged_records v e in
    let x = s.stmts in
    omega arith

-- a record is taken for it
pub pushed : {exprs exprs₁ : List ExprRecord} {stmts stmts₁ : List StmtRecord} {ds : List DeclRecord} {p p₁ : Pools} {loose : List Place} {rest : List Root}
    {target results joined next : ℕ} (q : Bool) (e : Expr) (r : Stmts) (at : ℕ) (left : Pool)
    → Equals (lengths (tables exprs stmts ds)) (lengths (tables exprs₁ stmts₁ ds)) → 1 ≤ p.stmts.count
    → Took (stmt_links stmts₁) p₁.stmts at left
    → Owns (tables exprs stmts ds) p loose ((expr_at target, expr_row e end) ∷ (stmt_at results, stmts_row r) ∷ rest)
    → Moved (tables exprs stmts ds) (tables exprs₁ stmts₁ ds) p₁ loose
    ((expr_at joined, optional_row (merge_last_expression_into_sequence q e r).target end)
    ∷ (stmt_at next, stmts_row (merge_last_expression_into_sequence q e r).results) ∷ rest)
    → Moved (tables exprs stmts ds) (tables exprs₁ (set stmts₁ at (expression_record joined next)) ds)
    (record { exprs = p₁.exprs; stmts = left; decls = p₁.decls }) loose ((stmt_at at, stmts_row (push_new_expression_stmt_to_result q e r)) ∷ rest)
pushed q e r at left l n took o m =
    let v = last_expression? q r in
    let f = spare_still v e l o m.owned in
    let w = merged_pushed v e (take_stmt_of at left took (omega arith) m.owned) in
    record { owned = w.owned; kept = kept_both m.kept w.kept }
