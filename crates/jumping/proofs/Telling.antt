-- What the records of the newest result tell of it.
use Rattle.std.proofs.Common.{◌≡◌, ℕ, ◌<◌, ◌≤◌, Bool, true, false, eqb, length, get_or, sym, refl, ap, ◌∙◌, subst, arith}
use Rattle.std.proofs.lemmas.Bool.{eqb-false, eqb-true}
use Rattle.std.proofs.lemmas.List.{get_or_past}
use Rattle.pool.specs.Chain.{nowhere}
use Rattle.script.specs.declared.StatementKind.{StatementKind}
use Rattle.script.specs.declared.StatementKind.TheVariants as statement
use Rattle.script.specs.Tree.{Alternate, Expr, Stmt, Stmts, alternate, if_then, no_alternate, no_stmts, stmt_then}
use Rattle.records.specs.declared.record.StmtRecord.{StmtRecord}
use Rattle.records.specs.Embedding.{alternate_row, stmt_row, stmts_row}
use Rattle.records.specs.Heap.{Heap, blank_stmt, stmt_at, stmt_label}
use Rattle.records.specs.Owned.{Short}
use Rattle.records.specs.Rows.{At, Row, end, node}
use Rattle.moves.specs.First.{stmt_decls, stmt_exprs, stmt_kind, stmt_stmts}
use Rattle.moves.proofs.ByKind.{stmt_of_kind}
use Rattle.moves.proofs.First.{stmt_first}
use Rattle.jumping.specs.Newest.{IfAround, IsIfAround}

module _ (h : Heap) where
  abbrev pub stmt_there : ℕ → StmtRecord
  stmt_there i = get_or h.stmts i blank_stmt

  first_there : (i : ℕ) (x : Stmt) (w : Row) → At h (stmt_at i) (stmt_row x w)
      → At h (stmt_at i) (node (stmt_label (stmt_kind x)) (stmt_exprs x) (stmt_stmts x) (stmt_decls x) w)
  first_there i x w a = subst (λ (r : Row). At h (stmt_at i) r) (stmt_first x w) a

  kind_there : (i : ℕ) (x : Stmt) (w : Row) → At h (stmt_at i) (stmt_row x w) → (stmt_there i).kind ≡ stmt_kind x
  kind_there i x w a =
      let l : stmt_label (stmt_there i).kind ≡ stmt_label (stmt_kind x) = (first_there i x w a).1 in
      cc

  -- an `if`, and what stands inside
  pub record IfThere (at : ℕ) (r : Stmts) : Type 0 where
    pub test : Expr
    pub inner : Stmt
    pub other : Alternate
    pub below : Stmts
    pub same : r ≡ stmt_then (if_then test inner other) below
    pub there : At h (stmt_at (stmt_there at).stmts) (stmt_row inner (alternate_row other))

  if_there : (at : ℕ) (r : Stmts) → Short h → At h (stmt_at at) (stmts_row r) → statement.If ≡ (stmt_there at).kind → IfThere at r
  if_there at no_stmts s a k =
      let n : length h.stmts ≤ at = let l = s.stmts in let z : at ≡ nowhere = a in omega arith in
      let g : stmt_there at ≡ blank_stmt = get_or_past h.stmts at blank_stmt n in
      let b : statement.If ≡ statement.Empty = k ∙ ap (λ (v : StmtRecord). v.kind) g in
      absurd (let z : ◌≡◌ {A = ℕ} 0 1 = cc in omega arith)
  if_there at (stmt_then x r) s a k = by q.0 q.1 q.2 q.3
    where
      q : (t : Expr) × (c : Stmt) × (b : Alternate) × (x ≡ if_then t c b)
      q = stmt_of_kind x (k ∙ kind_there at x (stmts_row r) a)

      by : (t : Expr) (c : Stmt) (b : Alternate) → x ≡ if_then t c b → IfThere at (stmt_then x r)
      by t c b e = record {
        test = t;
        inner = c;
        other = b;
        below = r;
        same = ap (λ (v : Stmt). stmt_then v r) e;
        there = (subst (λ (v : Stmt). At h (stmt_at at) (stmt_row v (stmts_row r))) e a).3;
      }

  module _ (at : ℕ) (r : Stmts) (s : Short h) (w : At h (stmt_at at) (stmts_row r)) (k : StatementKind) where
    -- an `if` around a statement, by the places of both
    if_found : (f : IfAround k r) → At h (stmt_at at) (stmt_row (if_then f.test f.inner no_alternate) (stmts_row f.below))
    if_found f = subst (λ (v : Stmts). At h (stmt_at at) (stmts_row v)) f.same w

    -- by its record and the first record inside
    module _ (last inner : StmtRecord) (l : last ≡ stmt_there at) (i : inner ≡ stmt_there last.stmts) where
      inner_there : inner ≡ stmt_there (stmt_there at).stmts
      inner_there = i ∙ ap (λ (v : StmtRecord). stmt_there v.stmts) l

      -- there is an alternate
      pub not_alone : (inner.next ≡ nowhere → ⊥) → IfAround k r → ⊥
      not_alone n f =
          n (ap (λ (v : StmtRecord). v.next) inner_there ∙ (first_there (stmt_there at).stmts f.inner end (if_found f).3).5)

      pub around : last.kind ≡ statement.If → inner.kind ≡ k → inner.next ≡ nowhere → IfAround k r
      around m n e = by found.other found.same found.there
        where
          found : IfThere at r
          found = if_there at r s w (sym m ∙ ap (λ (v : StmtRecord). v.kind) l)

          by : (a : Alternate) → r ≡ stmt_then (if_then found.test found.inner a) found.below
              → At h (stmt_at (stmt_there at).stmts) (stmt_row found.inner (alternate_row a)) → IfAround k r
          by no_alternate z b = record {
            test = found.test;
            inner = found.inner;
            below = found.below;
            same = z;
            kind = sym n ∙ ap (λ (v : StmtRecord). v.kind) inner_there ∙ kind_there (stmt_there at).stmts found.inner end b;
          }
          by (alternate x) z b =
              let f = first_there (stmt_there at).stmts found.inner (stmt_row x end) b in
              let g : (stmt_there (stmt_there at).stmts).next < length h.stmts = (first_there (stmt_there (stmt_there at).stmts).next x end f.5).0 in
              let q = ap (λ (v : StmtRecord). v.next) inner_there in
              let t = s.stmts in
              absurd (omega arith)

      pub tells_around : last.kind ≡ statement.If → inner.kind ≡ k → IsIfAround k r (eqb inner.next nowhere)
      tells_around m n = by (eqb inner.next nowhere) refl
        where
          by : (b : Bool) → eqb inner.next nowhere ≡ b → IsIfAround k r b
          by true e = around m n (eqb-true inner.next nowhere e)
          by false e = not_alone (eqb-false inner.next nowhere e)
