-- Putting what a command makes is what its judging says: statements and the body.
use Rattle.std.proofs.Common.{◌≡◌, ℕ, suc, ◌-◌, ◌≤◌, Bool, true, false, List, [], ◌∷◌, length, Ok, Err, Result, sym, refl, ap, ◌∙◌, subst, inl, inr, arith}
use Rattle.pool.specs.Chain.{nowhere}
use Rattle.script.specs.declared.Table.TheVariants.{Statements}
use Rattle.script.specs.declared.StatementKind.{StatementKind}
use Rattle.script.specs.Format.{leftover}
use Rattle.script.specs.Tree.{Stmts}
use Rattle.script.specs.Stacks.{Item, statement, case, Declarator, declarator, Stacks, Performed, lacks, misplaces, puts_expr, puts_item, puts_declarator, puts_body}
use Rattle.script.specs.Judge.{Model, complete, Verdict, turned_away, taken, settled, between, push_item, alone}
use Rattle.faults.specs.declared.fault.ReadFault.{ReadFault}
use Rattle.faults.specs.declared.fault.ReadFault.TheVariants.{Sheet}
use Rattle.reading.specs.declared.making.Making.TheVariants as makes
use Rattle.reading.specs.declared.making.Parts.{Parts}
use Rattle.records.specs.declared.record.Draft.{Draft}
use Rattle.records.specs.declared.record.ExprRecord.{ExprRecord}
use Rattle.records.specs.declared.record.StmtRecord.{StmtRecord}
use Rattle.records.specs.declared.record.DeclRecord.{DeclRecord}
use Rattle.records.specs.Heap.{Heap, expr_at, stmt_at, decl_at, stmt_label, stmt_links}
use Rattle.records.specs.Rows.{Row, end, node, row_length}
use Rattle.records.specs.Owned.{Root, Owns}
use Rattle.records.specs.Embedding.{item_row, expr_stack, stmt_stack, decl_stack}
use Rattle.records.specs.Turning.{front, behind, turned_exprs, turned_stmts, turned_decls}
use Rattle.reading.specs.Making.{Matches, Enough, Wanting}
use Rattle.reading.specs.Surveying.{Stacked}
use Rattle.reading.specs.Building.{without_first, EnoughCounted, WantingCounted, PutStmt, stmt_put, draft_with_stmt, with_stmt_taken, PutBody, draft_with_body}
use Rattle.records.specs.Holds.{Holds, body_root}
use Rattle.reading.specs.Judged.{Judged}
use Rattle.records.proofs.Moves.{end_in, pick}
use Rattle.records.proofs.Writes.{take_stmt, relink_stmt}
use Rattle.records.proofs.TurnedOwned.{turned_exprs_owned, turned_stmts_owned, turned_decls_owned}
use Rattle.shapes.proofs.Decoding.{expr_stack_length, no_items_left}
use Rattle.reading.proofs.Performed.{working, spares_of, spare_places, spare_chain, lacking, spent_none, spent_one}
use Rattle.records.proofs.RowLengths.{stmt_row_length}

item_row_length : (i : Item) (w : Row) → row_length (item_row i w) ≡ suc (row_length w)
item_row_length (statement s) w = stmt_row_length s w
item_row_length (case t ss) w = refl

pub stmt_stack_length : (is : List Item) → row_length (stmt_stack is) ≡ length is
stmt_stack_length [] = refl
stmt_stack_length (i ∷ is) = item_row_length i (stmt_stack is) ∙ ap suc (stmt_stack_length is)

pub decl_row_length : (ds : List Declarator) → row_length (decl_stack ds) ≡ length ds
decl_row_length [] = refl
decl_row_length (declarator n v ∷ ds) = ap suc (decl_row_length ds)

-- a body stands alone exactly where the stacks are empty
alone_empty : {A B C : Type 0} (xs : List A) (ys : List B) (zs : List C) (v : Verdict) → length xs ≡ 0 → length ys ≡ 0 → length zs ≡ 0 → alone xs ys zs v ≡ v
alone_empty [] [] [] v a b c = refl
alone_empty [] [] (z ∷ zs) v a b c = absurd (omega arith)
alone_empty [] (y ∷ ys) zs v a b c = absurd (omega arith)
alone_empty (x ∷ xs) ys zs v a b c = absurd (omega arith)

alone_not : {A B C : Type 0} (xs : List A) (ys : List B) (zs : List C) (v : Verdict) → ((length xs ≡ 0) × (length ys ≡ 0) × (length zs ≡ 0) → ⊥) → alone xs ys zs v ≡ turned_away leftover
alone_not [] [] [] v h = absurd (h (refl, refl, refl))
alone_not [] [] (z ∷ zs) v h = refl
alone_not [] (y ∷ ys) [] v h = refl
alone_not [] (y ∷ ys) (z ∷ zs) v h = refl
alone_not (x ∷ xs) [] [] v h = refl
alone_not (x ∷ xs) [] (z ∷ zs) v h = refl
alone_not (x ∷ xs) (y ∷ ys) [] v h = refl
alone_not (x ∷ xs) (y ∷ ys) (z ∷ zs) v h = refl

clash : {b : Bool} → true ≡ b → b ≡ false → ⊥
clash p q = cc

clash' : {b : Bool} → false ≡ b → b ≡ true → ⊥
clash' p q = cc

module _ (es : List ExprRecord) (ss : List StmtRecord) (ds : List DeclRecord) (d : Draft) (m : Model) (holds : Holds (record { exprs = es; stmts = ss; decls = ds }) d m) (reads : body_root d.stage m.stage ≡ []) where
  abbrev values : Row
  values = expr_stack m.stacks.exprs

  abbrev inner : Row
  inner = stmt_stack m.stacks.stmts

  abbrev names : Row
  names = decl_stack m.stacks.decls

  -- a statement or a case
  module _ (k : StatementKind) (n : Parts) where
    stacked : Enough m.stacks n → Stacked es ss ds d n inner names
    stacked q = record {
      short = holds.owned.short;
      stmts = holds.owned.held.1.0;
      stmts_long = (let l = stmt_stack_length m.stacks.stmts in let h = q.stmts in omega arith);
      decls = holds.owned.held.1.1.0;
      decls_long = (let l = decl_row_length m.stacks.decls in let h = q.decls in omega arith);
    }

    wanting_not : Wanting m.stacks n → EnoughCounted d n → ⊥
    wanting_not (inl h) q = let a = holds.exprs in let g = q.0 in omega arith
    wanting_not (inr (inl h)) q = let a = holds.stmts in let g = q.1 in omega arith
    wanting_not (inr (inr h)) q = let a = holds.decls in let g = q.2 in omega arith

    enough_not : Enough m.stacks n → WantingCounted d n → ⊥
    enough_not q (inl h) = let a = holds.exprs in let g = q.exprs in omega arith
    enough_not q (inr (inl h)) = let a = holds.stmts in let g = q.stmts in omega arith
    enough_not q (inr (inr h)) = let a = holds.decls in let g = q.decls in omega arith

    stmt_held : (v : Item) (s' : Stacks) (d' : Draft) (es' : List ExprRecord) (ss' : List StmtRecord) (ds' : List DeclRecord) →
        Matches (makes.Stmt k n) m.stacks (puts_item v s') → PutStmt (Ok tt) k n d es ss ds d' es' ss' ds' →
        Judged (Ok tt) (settled (puts_item v s') m.spares) (record { exprs = es; stmts = ss; decls = ds }) d (record { exprs = es'; stmts = ss'; decls = ds' }) d'
    stmt_held v s' d' es' ss' ds' q put =
        let head = d.pools.stmts.head in
        let ls = stmt_links ss in
        let t = turned_exprs n.exprs es d.exprs.top nowhere in
        let u = turned_stmts n.stmts ss d.stmts.top nowhere in
        let w = turned_decls n.decls ds d.decls.top nowhere in
        let spare = put.2.0 in
        let o₁ = take_stmt (without_first ls d.pools.stmts) head (spare_places ls d.pools.stmts spare) (spare_chain ls d.pools.stmts spare holds.owned.chains.stmts) (working es ss ds d m holds reads) in
        let long₁ : n.exprs ≤ row_length values = let l = expr_stack_length m.stacks.exprs in let h = q.0.exprs in omega arith in
        let long₂ : n.stmts ≤ row_length inner = let l = stmt_stack_length m.stacks.stmts in let h = q.0.stmts in omega arith in
        let long₃ : n.decls ≤ row_length names = let l = decl_row_length m.stacks.decls in let h = q.0.decls in omega arith in
        let o₂ = turned_exprs_owned ss ds n.exprs es d.exprs.top nowhere values end long₁ (pick 1 (end_in (expr_at nowhere) refl o₁)) in
        let o₃ = turned_stmts_owned t.table ds n.stmts ss d.stmts.top nowhere inner end long₂ (pick 1 (end_in (stmt_at nowhere) refl (pick 2 o₂))) in
        let o₄ = turned_decls_owned t.table u.table n.decls ds d.decls.top nowhere names end long₃ (pick 1 (end_in (decl_at nowhere) refl (pick 4 o₃))) in
        let o₅ = relink_stmt t.table u.table w.table head (record { kind = k; exprs = t.row; stmts = u.row; decls = w.row; next = u.rest }) refl (pick 5 (pick 3 (pick 2 (pick 2 o₄)))) in
        let row : node (stmt_label k) (front n.exprs values end) (front n.stmts inner end) (front n.decls names end) (behind n.stmts inner) ≡ item_row v (stmt_stack s'.stmts) = sym (q.3 (behind n.stmts inner)) ∙ ap (item_row v) (sym q.2.stmts.rows) in
        let put_roots : ◌≡◌ {A = List Root} _ _ = λ i. (expr_at t.rest, sym q.2.exprs.rows i) ∷ (stmt_at head, row i) ∷ (decl_at w.rest, sym q.2.decls.rows i) ∷ [] in
        let d₁ = with_stmt_taken d ss in
        let o₆ = subst (λ (r : List Root). Owns (record { exprs = t.table; stmts = stmt_put k n head d₁ es ss ds; decls = w.table }) (draft_with_stmt n head d₁ es ds).pools [] r) put_roots (pick 2 o₅) in
        let c = holds.exprs in
        let left = holds.stmts in
        let right = holds.decls in
        let c₁ = q.2.exprs.count in
        let c₂ = q.2.stmts.count in
        let c₃ = q.2.decls.count in
        let sp = spares_of es ss ds d m holds reads in
        let m₁ : Model = between (push_item v s') (record { exprs = m.spares.exprs; stmts = m.spares.stmts - 1; decls = m.spares.decls }) in
        subst (λ x. Judged (Ok tt) x (record { exprs = es; stmts = ss; decls = ds }) d (record { exprs = es'; stmts = ss'; decls = ds' }) d') (sym (spent_one m.spares.stmts Statements _ (let z = sp.1 in omega arith)))
        (λ sound. subst (λ y. Holds (record { exprs = es'; stmts = ss'; decls = ds' }) y m₁) (sym put.3)
        (subst (λ (h : Heap). Holds h (draft_with_stmt n head d₁ es ds) m₁) (λ i. record { exprs = sym put.4 i; stmts = sym put.5 i; decls = sym put.6 i }) (record {
          sound = sound;
          stage = refl;
          alone = tt;
          owned = o₆;
          exprs = omega arith;
          stmts = omega arith;
          decls = omega arith;
          spares = (λ i. record { exprs = sym sp.0 i; stmts = ap (λ y. y - 1) (sym sp.1) i; decls = sym sp.2 i });
        })))

    pub stmt_judged : (p : Performed) (r : Result (Unit {0}) ReadFault) (d' : Draft) (es' : List ExprRecord) (ss' : List StmtRecord) (ds' : List DeclRecord) →
        Matches (makes.Stmt k n) m.stacks p → PutStmt r k n d es ss ds d' es' ss' ds' →
        Judged r (settled p m.spares) (record { exprs = es; stmts = ss; decls = ds }) d (record { exprs = es'; stmts = ss'; decls = ds' }) d'
    stmt_judged lacks (Ok u) d' es' ss' ds' q put = absurd (wanting_not q put.0)
    stmt_judged lacks (Err f) d' es' ss' ds' q (inl why, same_d, same_es, same_ss, same_ds) = (why.1, (λ i. record { exprs = same_es i; stmts = same_ss i; decls = same_ds i }), same_d)
    stmt_judged lacks (Err f) d' es' ss' ds' q (inr (inl why), same_d, same_es, same_ss, same_ds) = absurd (wanting_not q why.0)
    stmt_judged lacks (Err f) d' es' ss' ds' q (inr (inr why), same_d, same_es, same_ss, same_ds) = absurd (wanting_not q why.0)
    stmt_judged misplaces (Ok u) d' es' ss' ds' q put = absurd (clash (put.1 es inner names (stacked q.0)) q.1)
    stmt_judged misplaces (Err f) d' es' ss' ds' q (inl why, same_d, same_es, same_ss, same_ds) = absurd (enough_not q.0 why.0)
    stmt_judged misplaces (Err f) d' es' ss' ds' q (inr (inl why), same_d, same_es, same_ss, same_ds) = (why.1, (λ i. record { exprs = same_es i; stmts = same_ss i; decls = same_ds i }), same_d)
    stmt_judged misplaces (Err f) d' es' ss' ds' q (inr (inr why), same_d, same_es, same_ss, same_ds) = absurd (clash (why.1 es inner names (stacked q.0)) q.1)
    stmt_judged (puts_expr e s') r d' es' ss' ds' q put = absurd q
    stmt_judged (puts_item v s') (Ok u) d' es' ss' ds' q put = stmt_held v s' d' es' ss' ds' q put
    stmt_judged (puts_item v s') (Err f) d' es' ss' ds' q (inl why, same_d, same_es, same_ss, same_ds) = absurd (enough_not q.0 why.0)
    stmt_judged (puts_item v s') (Err f) d' es' ss' ds' q (inr (inl why), same_d, same_es, same_ss, same_ds) = absurd (clash' (why.2 es inner names (stacked q.0)) q.1)
    stmt_judged (puts_item v s') (Err f) d' es' ss' ds' q (inr (inr why), same_d, same_es, same_ss, same_ds) =
        let w = lacking why.2.0 Statements (stmt_links ss) d.pools.stmts holds.owned.chains.stmts why.2.2 in
        let z = (spares_of es ss ds d m holds reads).1 in
        rw (spent_none m.spares.stmts Statements _ (omega arith))
        (why.2.1 ∙ ap Sheet w.0, (λ i. record { exprs = same_es i; stmts = same_ss i; decls = same_ds i }), same_d)
    stmt_judged (puts_declarator x s') r d' es' ss' ds' q put = absurd q
    stmt_judged (puts_body b s') r d' es' ss' ds' q put = absurd q

  -- the body
  module _ (n : ℕ) where
    cased : n ≤ length m.stacks.stmts → n ≤ row_length inner
    cased h = let l = stmt_stack_length m.stacks.stmts in omega arith

    body_held : (b : Stmts) (s' : Stacks) (d' : Draft) (ss' : List StmtRecord) → Matches (makes.Body n) m.stacks (puts_body b s') → PutBody (Ok tt) n d ss d' ss' →
        Judged (Ok tt) (settled (puts_body b s') m.spares) (record { exprs = es; stmts = ss; decls = ds }) d (record { exprs = es; stmts = ss'; decls = ds }) d'
    body_held b s' d' ss' q put =
        let u = turned_stmts n ss d.stmts.top nowhere in
        let o₁ = turned_stmts_owned es ds n ss d.stmts.top nowhere inner end (cased q.0.stmts) (pick 1 (end_in (stmt_at nowhere) refl (pick 1 (working es ss ds d m holds reads)))) in
        let put_roots : ◌≡◌ {A = List Root} _ _ = λ i. (expr_at d.exprs.top, sym q.1.exprs.rows i) ∷ (stmt_at u.rest, sym q.1.stmts.rows i) ∷ (decl_at d.decls.top, sym q.1.decls.rows i) ∷ (stmt_at u.row, sym q.3 i) ∷ [] in
        let o₂ = subst (λ (r : List Root). Owns (record { exprs = es; stmts = u.table; decls = ds }) d.pools [] r) put_roots (pick 3 (pick 2 (pick 3 (pick 1 o₁)))) in
        let c = holds.exprs in
        let left = holds.stmts in
        let right = holds.decls in
        let c₁ = q.1.exprs.count in
        let c₂ = q.1.stmts.count in
        let c₃ = q.1.decls.count in
        let a₁ = put.2.0 in
        let a₂ = put.2.1 in
        let a₃ = put.2.2 in
        let m₁ : Model = record { stage = complete b; stacks = s'; spares = m.spares } in
        subst (λ x. Judged (Ok tt) x (record { exprs = es; stmts = ss; decls = ds }) d (record { exprs = es; stmts = ss'; decls = ds }) d') (sym (alone_empty s'.exprs s'.stmts s'.decls (taken m₁) (omega arith) (omega arith) (omega arith)))
        (λ sound. subst (λ y. Holds (record { exprs = es; stmts = ss'; decls = ds }) y m₁) (sym put.3)
        (subst (λ y. Holds (record { exprs = es; stmts = y; decls = ds }) (draft_with_body n d ss) m₁) (sym put.4) (record {
          sound = sound;
          stage = tt;
          alone = no_items_left s' (omega arith) (omega arith) (omega arith);
          owned = o₂;
          exprs = omega arith;
          stmts = omega arith;
          decls = omega arith;
          spares = holds.spares;
        })))

    pub body_judged : (p : Performed) (r : Result (Unit {0}) ReadFault) (d' : Draft) (ss' : List StmtRecord) → Matches (makes.Body n) m.stacks p → PutBody r n d ss d' ss' →
        Judged r (settled p m.spares) (record { exprs = es; stmts = ss; decls = ds }) d (record { exprs = es; stmts = ss'; decls = ds }) d'
    body_judged lacks (Ok u) d' ss' q put = let c = holds.stmts in let h = put.0 in absurd (omega arith)
    body_judged lacks (Err f) d' ss' q (inl why, same_d, same_ss) = (why.1, (λ i. record { exprs = es; stmts = same_ss i; decls = ds }), same_d)
    body_judged lacks (Err f) d' ss' q (inr (inl why), same_d, same_ss) = let c = holds.stmts in let h = why.0 in absurd (omega arith)
    body_judged lacks (Err f) d' ss' q (inr (inr why), same_d, same_ss) = let c = holds.stmts in let h = why.0 in absurd (omega arith)
    body_judged misplaces (Ok u) d' ss' q put = absurd (q.1 (put.1 es ds inner holds.owned.short holds.owned.held.1.0 (cased q.0.stmts)))
    body_judged misplaces (Err f) d' ss' q (inl why, same_d, same_ss) = let c = holds.stmts in let h = why.0 in let g = q.0.stmts in absurd (omega arith)
    body_judged misplaces (Err f) d' ss' q (inr (inl why), same_d, same_ss) = (why.1, (λ i. record { exprs = es; stmts = same_ss i; decls = ds }), same_d)
    body_judged misplaces (Err f) d' ss' q (inr (inr why), same_d, same_ss) = absurd (q.1 (why.2 es ds inner holds.owned.short holds.owned.held.1.0 (cased q.0.stmts)))
    body_judged (puts_expr e s') r d' ss' q put = absurd q
    body_judged (puts_item v s') r d' ss' q put = absurd q
    body_judged (puts_declarator x s') r d' ss' q put = absurd q
    body_judged (puts_body b s') (Ok u) d' ss' q put = body_held b s' d' ss' q put
    body_judged (puts_body b s') (Err f) d' ss' q (inl why, same_d, same_ss) = let c = holds.stmts in let h = why.0 in let g = q.0.stmts in absurd (omega arith)
    body_judged (puts_body b s') (Err f) d' ss' q (inr (inl why), same_d, same_ss) = absurd (why.2 es ds inner holds.owned.short holds.owned.held.1.0 (cased q.0.stmts) q.2)
    body_judged (puts_body b s') (Err f) d' ss' q (inr (inr why), same_d, same_ss) =
        let c = holds.exprs in
        let left = holds.stmts in
        let right = holds.decls in
        let c₁ = q.1.exprs.count in
        let c₂ = q.1.stmts.count in
        let c₃ = q.1.decls.count in
        rw (alone_not s'.exprs s'.stmts s'.decls _ (λ z. why.3 ((let a = z.0 in omega arith), (let a = z.1 in omega arith), (let a = z.2 in omega arith))))
        (why.1, (λ i. record { exprs = es; stmts = same_ss i; decls = ds }), same_d)
