-- Putting what a command makes is what its judging says: expressions and declarators.
use Rattle.std.proofs.Common.{◌≡◌, ℕ, zero, suc, ◌-◌, ◌<◌, ◌≤◌, List, [], ◌∷◌, length, Ok, Err, Result, sym, refl, ap, ◌∙◌, subst, inl, inr, arith}
use Rattle.pool.specs.Chain.{nowhere, Chain, places}
use Rattle.pool.specs.declared.Pool.{Pool}
use Rattle.pool.specs.declared.PoolFault.TheVariants.{Empty}
use Rattle.pool.proofs.Chains.{chain_first, chain_rest, places_first}
use Rattle.script.specs.declared.Table.{Table}
use Rattle.script.specs.declared.Table.TheVariants.{Expressions, Declarators}
use Rattle.script.specs.declared.ExpressionKind.{ExpressionKind}
use Rattle.script.specs.Format.{no_spare}
use Rattle.script.specs.Stacks.{Declarator, Stacks, Performed, lacks, misplaces, puts_expr, puts_item, puts_declarator, puts_body}
use Rattle.script.specs.Judge.{Model, Spares, Verdict, turned_away, spend, settled, between, push_expr, push_declarator}
use Rattle.faults.specs.declared.fault.SheetFault.{SheetFault}
use Rattle.faults.specs.declared.fault.SheetFault.TheVariants.{Spares as SparesFault}
use Rattle.faults.specs.declared.fault.ReadFault.{ReadFault}
use Rattle.faults.specs.declared.fault.ReadFault.TheVariants.{Sheet}
use Rattle.reading.specs.declared.making.Making.TheVariants as makes
use Rattle.records.specs.declared.record.Draft.{Draft}
use Rattle.records.specs.declared.record.ExprRecord.{ExprRecord}
use Rattle.records.specs.declared.record.StmtRecord.{StmtRecord}
use Rattle.records.specs.declared.record.DeclRecord.{DeclRecord}
use Rattle.records.specs.Heap.{Heap, expr_at, stmt_at, decl_at, expr_label, decl_label, expr_links, decl_links}
use Rattle.records.specs.Rows.{end, node, row_length}
use Rattle.records.specs.Owned.{Root, Owns}
use Rattle.records.specs.Embedding.{expr_row, expr_stack, stmt_stack, decl_stack, declarator_row}
use Rattle.records.specs.Turning.{front, behind, turned_exprs}
use Rattle.reading.specs.Making.{Matches}
use Rattle.reading.specs.Building.{NoSpare, without_first, PutExpr, PutDeclarator, expr_put, declarator_put, draft_with_expr, draft_with_declarator}
use Rattle.records.specs.Holds.{Holds, body_root}
use Rattle.reading.specs.Judged.{Judged}
use Rattle.records.proofs.Moves.{end_in, pick}
use Rattle.records.proofs.Writes.{take_expr, take_decl, relink_expr, relink_decl}
use Rattle.records.proofs.TurnedOwned.{turned_exprs_owned}
use Rattle.shapes.proofs.Decoding.{expr_stack_length}

-- a chain with a spare loses its first place
pub spare_places : (ls : List ℕ) (p : Pool) → 0 < p.count → places ls p.head p.count ≡ p.head ∷ places ls (without_first ls p).head (without_first ls p).count
spare_places ls p h = places_first ls p.head p.count (omega arith)

pub spare_chain : (ls : List ℕ) (p : Pool) → 0 < p.count → Chain ls p.head p.count → Chain ls (without_first ls p).head (without_first ls p).count
spare_chain ls p h c = chain_rest ls p.head p.count c (omega arith)

-- a chain's pool never tells a place outside: what it lacks is a spare
pub lacking : (f : SheetFault) (t : Table) (ls : List ℕ) (p : Pool) → Chain ls p.head p.count → NoSpare f t (length ls) p → (f ≡ SparesFault (Empty t)) × (p.count ≡ 0)
lacking f t ls p c (inl h) = h
lacking f t ls p c (inr h) = let q = chain_first ls p.head p.count c (let n = h.1 in omega arith) in let n = h.2 in absurd (omega arith)

-- spending the last record is refused, one of more is counted
pub spent_none : (n : ℕ) (t : Table) (k : ℕ → Verdict) → n ≡ 0 → spend n t k ≡ turned_away (no_spare t)
spent_none zero t k e = refl
spent_none (suc n) t k e = absurd (omega arith)

pub spent_one : (n : ℕ) (t : Table) (k : ℕ → Verdict) → 0 < n → spend n t k ≡ k (n - 1)
spent_one zero t k h = absurd (omega arith)
spent_one (suc n) t k h = let e : suc n - 1 ≡ n = omega arith in ap k (sym e)

module _ (es : List ExprRecord) (ss : List StmtRecord) (ds : List DeclRecord) (d : Draft) (m : Model) where
  abbrev pub before : Heap
  before = record { exprs = es; stmts = ss; decls = ds }

  module _ (holds : Holds before d m) (reads : body_root d.stage m.stage ≡ []) where
    -- while commands are read there is no body
    pub working : Owns before d.pools [] ((expr_at d.exprs.top, expr_stack m.stacks.exprs) ∷ (stmt_at d.stmts.top, stmt_stack m.stacks.stmts) ∷ (decl_at d.decls.top, decl_stack m.stacks.decls) ∷ [])
    working = subst (λ (b : List Root). Owns before d.pools [] ((expr_at d.exprs.top, expr_stack m.stacks.exprs) ∷ (stmt_at d.stmts.top, stmt_stack m.stacks.stmts) ∷ (decl_at d.decls.top, decl_stack m.stacks.decls) ∷ b)) reads holds.owned

    pub spares_of : (m.spares.exprs ≡ d.pools.exprs.count) × (m.spares.stmts ≡ d.pools.stmts.count) × (m.spares.decls ≡ d.pools.decls.count)
    spares_of = (sym (ap (λ (s : Spares). s.exprs) holds.spares), sym (ap (λ (s : Spares). s.stmts) holds.spares), sym (ap (λ (s : Spares). s.decls) holds.spares))

    -- an expression
    module _ (k : ExpressionKind) (n : ℕ) where
      expr_held : (e : _) (s' : Stacks) (d' : Draft) (es' : List ExprRecord) → Matches (makes.Expr k n) m.stacks (puts_expr e s') → PutExpr (Ok tt) k n d es d' es' →
          Judged (Ok tt) (settled (puts_expr e s') m.spares) before d (record { exprs = es'; stmts = ss; decls = ds }) d'
      expr_held e s' d' es' q put =
          let head = d.pools.exprs.head in
          let ls = expr_links es in
          let stack = expr_stack m.stacks.exprs in
          let t = turned_exprs n es d.exprs.top nowhere in
          let o₁ = take_expr (without_first ls d.pools.exprs) head (spare_places ls d.pools.exprs put.1.0) (spare_chain ls d.pools.exprs put.1.0 holds.owned.chains.exprs) working in
          let long : n ≤ row_length stack = let l = expr_stack_length m.stacks.exprs in let h = q.0.exprs in omega arith in
          let o₂ = turned_exprs_owned ss ds n es d.exprs.top nowhere stack end long (pick 1 (end_in (expr_at nowhere) refl o₁)) in
          let o₃ = relink_expr t.table ss ds head (record { kind = k; first = t.row; next = t.rest }) refl (pick 1 o₂) in
          let row : node (expr_label k) (front n stack end) end end (behind n stack) ≡ expr_row e (expr_stack s'.exprs) = sym (q.2 (behind n stack)) ∙ ap (expr_row e) (sym q.1.exprs.rows) in
          let put_roots : ◌≡◌ {A = List Root} _ _ = λ i. (expr_at head, row i) ∷ (stmt_at d.stmts.top, sym q.1.stmts.rows i) ∷ (decl_at d.decls.top, sym q.1.decls.rows i) ∷ [] in
          let o₄ = subst (λ (r : List Root). Owns (record { exprs = expr_put k n d es; stmts = ss; decls = ds }) (draft_with_expr n d es).pools [] r) put_roots o₃ in
          let c = holds.exprs in
          let c₁ = q.1.exprs.count in
          let c₂ = q.1.stmts.count in
          let c₃ = q.1.decls.count in
          let left = holds.stmts in
          let right = holds.decls in
          let sp = spares_of in
          let m₁ : Model = between (push_expr e s') (record { exprs = m.spares.exprs - 1; stmts = m.spares.stmts; decls = m.spares.decls }) in
          subst (λ v. Judged (Ok tt) v before d (record { exprs = es'; stmts = ss; decls = ds }) d') (sym (spent_one m.spares.exprs Expressions _ (let h = put.1.0 in let z = sp.0 in omega arith)))
          (λ sound. subst (λ x. Holds (record { exprs = es'; stmts = ss; decls = ds }) x m₁) (sym put.2) (subst (λ x. Holds (record { exprs = x; stmts = ss; decls = ds }) (draft_with_expr n d es) m₁) (sym put.3) (record {
            sound = sound;
            stage = refl;
            alone = tt;
            owned = o₄;
            exprs = omega arith;
            stmts = omega arith;
            decls = omega arith;
            spares = (λ i. record { exprs = ap (λ x. x - 1) (sym sp.0) i; stmts = sym sp.1 i; decls = sym sp.2 i });
          })))

      pub expr_judged : (p : Performed) (r : Result (Unit {0}) ReadFault) (d' : Draft) (es' : List ExprRecord) → Matches (makes.Expr k n) m.stacks p → PutExpr r k n d es d' es' →
          Judged r (settled p m.spares) before d (record { exprs = es'; stmts = ss; decls = ds }) d'
      expr_judged lacks (Ok u) d' es' q put = let c = holds.exprs in let h = put.0 in absurd (omega arith)
      expr_judged lacks (Err f) d' es' q (inl why, same_d, same_es) = (why.1, ap (λ t. record { exprs = t; stmts = ss; decls = ds }) same_es, same_d)
      expr_judged lacks (Err f) d' es' q (inr why, same_d, same_es) = let c = holds.exprs in let h = why.0 in absurd (omega arith)
      expr_judged misplaces r d' es' q put = absurd q
      expr_judged (puts_expr e s') (Ok u) d' es' q put = expr_held e s' d' es' q put
      expr_judged (puts_expr e s') (Err f) d' es' q (inl why, same_d, same_es) = let c = holds.exprs in let h = q.0.exprs in let w = why.0 in absurd (omega arith)
      expr_judged (puts_expr e s') (Err f) d' es' q (inr why, same_d, same_es) =
          let w = lacking why.1.0 Expressions (expr_links es) d.pools.exprs holds.owned.chains.exprs why.1.2 in
          let z = spares_of.0 in
          rw (spent_none m.spares.exprs Expressions _ (omega arith))
          (why.1.1 ∙ ap Sheet w.0, ap (λ t. record { exprs = t; stmts = ss; decls = ds }) same_es, same_d)
      expr_judged (puts_item i s') r d' es' q put = absurd q
      expr_judged (puts_declarator x s') r d' es' q put = absurd q
      expr_judged (puts_body b s') r d' es' q put = absurd q

    -- a declarator
    module _ (x : ℕ) (n : ℕ) where
      declarator_held : (v : Declarator) (s' : Stacks) (d' : Draft) (es' : List ExprRecord) (ds' : List DeclRecord) → Matches (makes.Decl x n) m.stacks (puts_declarator v s') → PutDeclarator (Ok tt) x n d es ds d' es' ds' →
          Judged (Ok tt) (settled (puts_declarator v s') m.spares) before d (record { exprs = es'; stmts = ss; decls = ds' }) d'
      declarator_held v s' d' es' ds' q put =
          let head = d.pools.decls.head in
          let ls = decl_links ds in
          let stack = expr_stack m.stacks.exprs in
          let names = decl_stack m.stacks.decls in
          let t = turned_exprs n es d.exprs.top nowhere in
          let o₁ = take_decl (without_first ls d.pools.decls) head (spare_places ls d.pools.decls put.1.0) (spare_chain ls d.pools.decls put.1.0 holds.owned.chains.decls) working in
          let long : n ≤ row_length stack = let l = expr_stack_length m.stacks.exprs in let h = q.0.exprs in omega arith in
          let o₂ = turned_exprs_owned ss ds n es d.exprs.top nowhere stack end long (pick 1 (end_in (expr_at nowhere) refl o₁)) in
          let o₃ = relink_decl t.table ss ds head (record { name = x; value = t.row; next = d.decls.top }) refl (pick 2 (pick 3 o₂)) in
          let row : node (decl_label x) (front n stack end) end end names ≡ declarator_row v (decl_stack s'.decls) = sym (q.2 names) ∙ ap (declarator_row v) (sym q.1.decls.rows) in
          let put_roots : ◌≡◌ {A = List Root} _ _ = λ i. (expr_at t.rest, sym q.1.exprs.rows i) ∷ (stmt_at d.stmts.top, sym q.1.stmts.rows i) ∷ (decl_at head, row i) ∷ [] in
          let o₄ = subst (λ (r : List Root). Owns (record { exprs = t.table; stmts = ss; decls = declarator_put x n d es ds }) (draft_with_declarator n d es ds).pools [] r) put_roots (pick 2 (pick 2 o₃)) in
          let c = holds.exprs in
          let c₁ = q.1.exprs.count in
          let c₂ = q.1.stmts.count in
          let c₃ = q.1.decls.count in
          let left = holds.stmts in
          let right = holds.decls in
          let sp = spares_of in
          let m₁ : Model = between (push_declarator v s') (record { exprs = m.spares.exprs; stmts = m.spares.stmts; decls = m.spares.decls - 1 }) in
          subst (λ w. Judged (Ok tt) w before d (record { exprs = es'; stmts = ss; decls = ds' }) d') (sym (spent_one m.spares.decls Declarators _ (let h = put.1.0 in let z = sp.2 in omega arith)))
          (λ sound. subst (λ y. Holds (record { exprs = es'; stmts = ss; decls = ds' }) y m₁) (sym put.2)
          (subst (λ y. Holds (record { exprs = y; stmts = ss; decls = ds' }) (draft_with_declarator n d es ds) m₁) (sym put.3)
          (subst (λ y. Holds (record { exprs = t.table; stmts = ss; decls = y }) (draft_with_declarator n d es ds) m₁) (sym put.4) (record {
            sound = sound;
            stage = refl;
            alone = tt;
            owned = o₄;
            exprs = omega arith;
            stmts = omega arith;
            decls = omega arith;
            spares = (λ i. record { exprs = sym sp.0 i; stmts = sym sp.1 i; decls = ap (λ y. y - 1) (sym sp.2) i });
          }))))

      pub declarator_judged : (p : Performed) (r : Result (Unit {0}) ReadFault) (d' : Draft) (es' : List ExprRecord) (ds' : List DeclRecord) → Matches (makes.Decl x n) m.stacks p → PutDeclarator r x n d es ds d' es' ds' →
          Judged r (settled p m.spares) before d (record { exprs = es'; stmts = ss; decls = ds' }) d'
      declarator_judged lacks (Ok u) d' es' ds' q put = let c = holds.exprs in let h = put.0 in absurd (omega arith)
      declarator_judged lacks (Err f) d' es' ds' q (inl why, same_d, same_es, same_ds) = (why.1, (λ i. record { exprs = same_es i; stmts = ss; decls = same_ds i }), same_d)
      declarator_judged lacks (Err f) d' es' ds' q (inr why, same_d, same_es, same_ds) = let c = holds.exprs in let h = why.0 in absurd (omega arith)
      declarator_judged misplaces r d' es' ds' q put = absurd q
      declarator_judged (puts_expr e s') r d' es' ds' q put = absurd q
      declarator_judged (puts_item i s') r d' es' ds' q put = absurd q
      declarator_judged (puts_declarator v s') (Ok u) d' es' ds' q put = declarator_held v s' d' es' ds' q put
      declarator_judged (puts_declarator v s') (Err f) d' es' ds' q (inl why, same_d, same_es, same_ds) = let c = holds.exprs in let h = q.0.exprs in let w = why.0 in absurd (omega arith)
      declarator_judged (puts_declarator v s') (Err f) d' es' ds' q (inr why, same_d, same_es, same_ds) =
          let w = lacking why.1.0 Declarators (decl_links ds) d.pools.decls holds.owned.chains.decls why.1.2 in
          let z = spares_of.2 in
          rw (spent_none m.spares.decls Declarators _ (omega arith))
          (why.1.1 ∙ ap Sheet w.0, (λ i. record { exprs = same_es i; stmts = ss; decls = same_ds i }), same_d)
      declarator_judged (puts_body b s') r d' es' ds' q put = absurd q
