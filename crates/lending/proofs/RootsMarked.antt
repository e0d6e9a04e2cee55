-- Marking the rows of a sheet, and what the marks then say of who owns the records.
use Rattle.std.proofs.Common.{◌≡◌, ℕ, zero, suc, ◌+◌, ◌<◌, ◌≤◌, Bool, true, false, ◌⊎◌, List, [], ◌∷◌, ◌++◌, length, get_or, replicate, Some, None, Option, is_some, sym, refl, ap, ◌∙◌, subst, inl, inr, ⊎_elim, arith, eq-eqb, eqb-true}
use lib.ListN.{length-map}
use Rattle.std.proofs.lemmas.Bool.{cases_lt}
use Rattle.pool.specs.Chain.{Chain, places, occurrences}
use Rattle.pool.proofs.Chains.{same_place_other}
use Rattle.records.specs.declared.record.ExprRecord.{ExprRecord}
use Rattle.records.specs.declared.record.StmtRecord.{StmtRecord}
use Rattle.records.specs.declared.record.DeclRecord.{DeclRecord}
use Rattle.records.specs.declared.record.Pools.{Pools}
use Rattle.shapes.specs.declared.rule.StmtSurvey.{StmtSurvey}
use Rattle.shapes.specs.declared.rule.DeclSurvey.{DeclSurvey}
use Rattle.lending.specs.declared.check.Parts.{Parts}
use Rattle.lending.specs.declared.check.Roots.{Roots}
use Rattle.records.specs.Heap.{Heap, Place, expr_at, stmt_at, decl_at, cell, Within, same, expr_links, stmt_links, decl_links, spare}
use Rattle.records.specs.Rows.{Row, end, node, At, uses, row_length}
use Rattle.records.specs.Owned.{Root, Held, uses_all, Short, Chains, Owns}
use Rattle.shapes.specs.Shape.{no_survey, survey, decl_survey}
use Rattle.lending.specs.Marked.{marks_of, Sized, PartsMarked, PartsFound, StmtsMarked, told, RootsMarked, AllMarked, Reached, Blank, SparesMarked, RowsHeld, Decides}
use Rattle.shapes.proofs.Surveys.{both, join}
use Rattle.lending.proofs.Counts.{length_is, declarators_are, survey_is}
use Rattle.lending.proofs.Marking.{at_same, four_found, exprs_same, decls_same, stmts_fit, stmts_same, next_fit, next_same}

module _ (h : Heap) (short : Short h) (r : Roots) (m m₁ : Place → ℕ) where
  refuted : {v : Option (Unit {0})} (m' : Place → ℕ) → v ≡ None → RootsMarked false m h r m' → RootsMarked (is_some v) m h r m'
  refuted m' e = subst (λ (v : Option (Unit {0})). RootsMarked (is_some v) m h r m') (sym e)

  pub roots_parts : {v : Option (Unit {0})} (m' : Place → ℕ) → v ≡ None → PartsMarked None m h r.exprs.top r.decls.top m₁ → RootsMarked (is_some v) m h r m'
  roots_parts m' e no_parts = refuted m' e (λ x y z b s f.
      no_parts x z (record { exprs = f.exprs; decls = f.decls; once = λ q. let a = f.once q in omega arith; exprs_shaped = s.exprs; decls_shaped = s.decls }))

  module _ (n : Parts) (parts : PartsFound m h r.exprs.top r.decls.top m₁ n) (m₂ : Place → ℕ) where
    pub roots_items : {v : Option (Unit {0})} → v ≡ None → StmtsMarked None m₁ h r.stmts.top no_survey m₂ → RootsMarked (is_some v) m h r m₂
    roots_items e no_items = refuted m₂ e (λ x y z b s f. no_items y (stmts_fit short f parts.exprs_found parts.decls_found) s.stmts)

    module _ (i : StmtSurvey) (items : StmtsMarked (Some i) m₁ h r.stmts.top no_survey m₂) (m₃ : Place → ℕ) where
      pub roots_body : {v : Option (Unit {0})} → v ≡ None → StmtsMarked None m₂ h r.body no_survey m₃ → RootsMarked (is_some v) m h r m₃
      roots_body e no_body = refuted m₃ e (λ x y z b s f. no_body b (next_fit short f parts.exprs_found parts.decls_found items.1) s.body)

      module _ (j : StmtSurvey) (body : StmtsMarked (Some j) m₂ h r.body no_survey m₃) where
        ex : n.exprs ≡ row_length parts.exprs
        ex = parts.exprs_count ∙ length_is parts.exprs

        ez : n.decls.count ≡ (decl_survey parts.decls).count
        ez = ap (λ (v : DeclSurvey). v.count) (parts.decls_count ∙ declarators_are parts.decls)

        ey : i.count ≡ (survey items.0).count
        ey = ap (λ (v : StmtSurvey). v.count) (items.3 ∙ survey_is items.0)

        eb : j.cases ≡ (survey body.0).cases
        eb = ap (λ (v : StmtSurvey). v.cases) (body.3 ∙ survey_is body.0)

        pub roots_told : (b : Bool) → b ≡ told r n i j → RootsMarked b m h r m₃
        roots_told true e =
            let a = both _ _ (sym e) in
            let c = both _ _ a.1 in
            let d = both _ _ c.1 in (
              parts.exprs,
              items.0,
              parts.decls,
              body.0,
              record {
                exprs = parts.exprs_shaped;
                stmts = items.2;
                decls = parts.decls_shaped;
                body = body.2;
                exprs_count = sym ex ∙ eqb-true n.exprs r.exprs.count a.0;
                stmts_count = sym ey ∙ eqb-true i.count r.stmts.count d.0;
                decls_count = sym ez ∙ eqb-true n.decls.count r.decls.count c.0;
                no_case = sym eb ∙ eqb-true j.cases 0 d.1;
              },
              four_found parts.exprs_found parts.decls_found items.1 body.1,
            )
        roots_told false e = λ x y z b s f.
            let sx = exprs_same short f parts.exprs_found in
            let sz = decls_same short f parts.exprs_found parts.decls_found in
            let sy = stmts_same short f parts.exprs_found parts.decls_found items.1 in
            let sb = next_same short f parts.exprs_found parts.decls_found items.1 body.1 in
            let a = eq-eqb n.exprs r.exprs.count (ex ∙ ap row_length sx ∙ s.exprs_count) in
            let c = eq-eqb n.decls.count r.decls.count (ez ∙ ap (λ v. (decl_survey v).count) sz ∙ s.decls_count) in
            let d = eq-eqb i.count r.stmts.count (ey ∙ ap (λ v. (survey v).count) sy ∙ s.stmts_count) in
            let g = eq-eqb j.cases 0 (eb ∙ ap (λ v. (survey v).cases) sb ∙ s.no_case) in
            let t : told r n i j ≡ true = join _ _ a (join _ _ c (join _ _ d g)) in
            let o : ◌≡◌ {A = Bool} false true = e ∙ t in
            let q : ◌≡◌ {A = ℕ} 0 1 = cc in
            omega arith

module _ {h : Heap} {me ms md : List ℕ} (sized : Sized h me ms md) where
  -- a table with a record that is not marked
  pub unreached_exprs : {v x : Bool} → v ≡ false → x ≡ false → AllMarked x me (length me) → Reached v h (marks_of me ms md)
  unreached_exprs e f n =
      subst (λ (b : Bool). Reached b h (marks_of me ms md)) (sym e)
      (λ all. subst (λ (b : Bool). AllMarked b me (length me)) f n (λ k w. all (expr_at k) (let l = sized.exprs in omega arith)))

  pub unreached_stmts : {v x : Bool} → v ≡ false → x ≡ false → AllMarked x ms (length ms) → Reached v h (marks_of me ms md)
  unreached_stmts e f n =
      subst (λ (b : Bool). Reached b h (marks_of me ms md)) (sym e)
      (λ all. subst (λ (b : Bool). AllMarked b ms (length ms)) f n (λ k w. all (stmt_at k) (let l = sized.stmts in omega arith)))

  pub reached : {x y : Bool} (b : Bool) → x ≡ true → y ≡ true → AllMarked x me (length me) → AllMarked y ms (length ms) → AllMarked b md (length md) →
      Reached b h (marks_of me ms md)
  reached true e f x y z = all
    where
      all : (q : Place) → Within h q → marks_of me ms md q ≡ 1
      all (expr_at k) w = subst (λ (b : Bool). AllMarked b me (length me)) e x k (let l = sized.exprs in omega arith)
      all (stmt_at k) w = subst (λ (b : Bool). AllMarked b ms (length ms)) f y k (let l = sized.stmts in omega arith)
      all (decl_at k) w = z k (let l = sized.decls in omega arith)
  reached false e f x y z = λ all. z (λ k w. all (decl_at k) (let l = sized.decls in omega arith))

pub blank_marks : (me ms md : List ℕ) → Blank me → Blank ms → Blank md → (q : Place) → marks_of me ms md q ≡ 0
blank_marks me ms md x y z (expr_at k) = x k
blank_marks me ms md x y z (stmt_at k) = y k
blank_marks me ms md x y z (decl_at k) = z k

-- no record outside the tables is used
within_or : (h : Heap) (q : Place) → Within h q ⊎ (Within h q → ⊥)
within_or h (expr_at i) = ⊎_elim (λ a. inl a) (λ b. inr (λ a. omega arith)) (cases_lt i (length h.exprs))
within_or h (stmt_at i) = ⊎_elim (λ a. inl a) (λ b. inr (λ a. omega arith)) (cases_lt i (length h.stmts))
within_or h (decl_at i) = ⊎_elim (λ a. inl a) (λ b. inr (λ a. omega arith)) (cases_lt i (length h.decls))

same_out : (h : Heap) (q k : Place) → (Within h q → ⊥) → Within h k → same q k ≡ 0
same_out h (expr_at i) (expr_at j) out w = same_place_other i j (λ e. out (subst (λ v. v < length h.exprs) (sym e) w))
same_out h (expr_at i) (stmt_at j) out w = refl
same_out h (expr_at i) (decl_at j) out w = refl
same_out h (stmt_at i) (expr_at j) out w = refl
same_out h (stmt_at i) (stmt_at j) out w = same_place_other i j (λ e. out (subst (λ v. v < length h.stmts) (sym e) w))
same_out h (stmt_at i) (decl_at j) out w = refl
same_out h (decl_at i) (expr_at j) out w = refl
same_out h (decl_at i) (stmt_at j) out w = refl
same_out h (decl_at i) (decl_at j) out w = same_place_other i j (λ e. out (subst (λ v. v < length h.decls) (sym e) w))

uses_out : (h : Heap) (q : Place) → (Within h q → ⊥) → (k : Place) (x : Row) → At h k x → uses q h k x ≡ 0
uses_out h q out k end a = refl
uses_out h q out k (node l x y z w) a =
    let u₀ = same_out h q k out a.0 in
    let u₁ = uses_out h q out (cell h k).exprs x a.2 in
    let u₂ = uses_out h q out (cell h k).stmts y a.3 in
    let u₃ = uses_out h q out (cell h k).decls z a.4 in
    let u₄ = uses_out h q out (cell h k).next w a.5 in
    omega arith

uses_all_out : (h : Heap) (q : Place) → (Within h q → ⊥) → (rs : List Root) → Held h rs → uses_all q h rs ≡ 0
uses_all_out h q out [] a = refl
uses_all_out h q out (r ∷ rs) a =
    let u = uses_out h q out r.0 r.1 a.0 in
    let v = uses_all_out h q out rs a.1 in
    omega arith

occurrences_out : (k : ℕ) (links : List ℕ) (at n : ℕ) → (k < length links → ⊥) → Chain links at n → occurrences k (places links at n) ≡ 0
occurrences_out k links at zero out c = refl
occurrences_out k links at (suc n) out c =
    let z = same_place_other k at (λ e. out (subst (λ v. v < length links) (sym e) c.0)) in
    let x = occurrences_out k links (get_or links at 0) n out c.1 in
    omega arith

spare_out : (h : Heap) (p : Pools) (q : Place) → (Within h q → ⊥) → Chains h p → spare q h p ≡ 0
spare_out h p (expr_at i) out c = occurrences_out i (expr_links h.exprs) p.exprs.head p.exprs.count (λ w. out (let l = length-map h.exprs (λ (x : ExprRecord). x.next) in omega arith)) c.exprs
spare_out h p (stmt_at i) out c = occurrences_out i (stmt_links h.stmts) p.stmts.head p.stmts.count (λ w. out (let l = length-map h.stmts (λ (x : StmtRecord). x.next) in omega arith)) c.stmts
spare_out h p (decl_at i) out c = occurrences_out i (decl_links h.decls) p.decls.head p.decls.count (λ w. out (let l = length-map h.decls (λ (x : DeclRecord). x.next) in omega arith)) c.decls

owned_few : {h : Heap} {p : Pools} {rs : List Root} → Owns h p [] rs → (q : Place) → uses_all q h rs + spare q h p ≤ 1
owned_few {h} {p} {rs} o q =
    ⊎_elim
    (λ w. let a = o.once q w in omega arith)
    (λ out. let a = uses_all_out h q out rs o.held in let b = spare_out h p q out o.chains in omega arith)
    (within_or h q)

module _ (h : Heap) (short : Short h) (p : Pools) (r : Roots) (m : Place → ℕ) (blank : (q : Place) → m q ≡ 0) where
  held_roots : (m' : Place → ℕ) → RootsMarked false m h r m' → Decides false (RowsHeld h p r)
  held_roots m' refuted o =
      let f = owned_few o.owned in
      refuted o.exprs o.stmts o.decls o.body o.shaped (record {
        exprs = o.owned.held.0;
        stmts = o.owned.held.1.0;
        decls = o.owned.held.1.1.0;
        next = o.owned.held.1.1.1.0;
        once = λ q. let a = f q in let b = blank q in omega arith;
      })

  module _ (m₁ : Place → ℕ) (rows : RootsMarked true m h r m₁) where
    -- the marks after the rows are those of any rows that are owned
    met : (o : RowsHeld h p r) (q : Place) → m₁ q ≡ uses_all q h ((expr_at r.exprs.top, o.exprs) ∷ (stmt_at r.stmts.top, o.stmts) ∷ (decl_at r.decls.top, o.decls) ∷ (stmt_at r.body, o.body) ∷ [])
    met o q =
        let f = rows.5 in
        let a = f.met q in
        let b = blank q in
        let x = ap (uses q h (expr_at r.exprs.top)) (at_same short (expr_at r.exprs.top) rows.0 o.exprs f.exprs o.owned.held.0) in
        let y = ap (uses q h (stmt_at r.stmts.top)) (at_same short (stmt_at r.stmts.top) rows.1 o.stmts f.stmts o.owned.held.1.0) in
        let z = ap (uses q h (decl_at r.decls.top)) (at_same short (decl_at r.decls.top) rows.2 o.decls f.decls o.owned.held.1.1.0) in
        let w = ap (uses q h (stmt_at r.body)) (at_same short (stmt_at r.body) rows.3 o.body f.next o.owned.held.1.1.1.0) in
        omega arith

    held_spares : (m' : Place → ℕ) → SparesMarked false m₁ h p m' → Decides false (RowsHeld h p r)
    held_spares m' refuted o =
        refuted (record { chains = o.owned.chains; once = λ q. let a = met o q in let b = owned_few o.owned q in omega arith })

    held_all : (b : Bool) (m₂ : Place → ℕ) → SparesMarked true m₁ h p m₂ → Reached b h m₂ → Decides b (RowsHeld h p r)
    held_all true m₂ spares all = record {
      exprs = rows.0;
      stmts = rows.1;
      decls = rows.2;
      body = rows.3;
      shaped = rows.4;
      owned = record {
        short = short;
        inside = tt;
        held = (rows.5.exprs, (rows.5.stmts, (rows.5.decls, (rows.5.next, tt))));
        chains = spares.chains;
        once = λ q w. let a = all q w in let b = spares.met q in let c = rows.5.met q in let d = blank q in omega arith;
      };
    }
    held_all false m₂ spares some = λ o. some (λ q w. let a = o.owned.once q w in let b = spares.met q in let c = met o q in omega arith)

  -- what is found by each step, in turn
  pub rows_refuted : {v x : Bool} (m' : Place → ℕ) → v ≡ false → x ≡ false → RootsMarked x m h r m' → Decides v (RowsHeld h p r)
  rows_refuted m' e f n =
      subst (λ (b : Bool). Decides b (RowsHeld h p r)) (sym e) (held_roots m' (subst (λ (b : Bool). RootsMarked b m h r m') f n))

  pub spares_refuted : {v x y : Bool} (m₁ m' : Place → ℕ) → v ≡ false → x ≡ true → RootsMarked x m h r m₁ → y ≡ false → SparesMarked y m₁ h p m' →
      Decides v (RowsHeld h p r)
  spares_refuted m₁ m' e f rows g n =
      subst (λ (b : Bool). Decides b (RowsHeld h p r)) (sym e)
      (held_spares m₁ (subst (λ (b : Bool). RootsMarked b m h r m₁) f rows) m' (subst (λ (b : Bool). SparesMarked b m₁ h p m') g n))

  pub all_decided : (b : Bool) {x y : Bool} (m₁ m₂ m' : Place → ℕ) → x ≡ true → RootsMarked x m h r m₁ → y ≡ true → SparesMarked y m₁ h p m₂ → m' ≡ m₂ →
      Reached b h m' → Decides b (RowsHeld h p r)
  all_decided b m₁ m₂ m' f rows g spares e all =
      held_all m₁ (subst (λ (b : Bool). RootsMarked b m h r m₁) f rows) b m₂ (subst (λ (b : Bool). SparesMarked b m₁ h p m₂) g spares)
      (subst (Reached b h) e all)

-- marks that are cleared are blank, and so are their parts
zeros_blank : (n : ℕ) → Blank (replicate n 0)
zeros_blank zero k = refl
zeros_blank (suc n) zero = refl
zeros_blank (suc n) (suc k) = zeros_blank n k

pub blank_cleared : (m : List ℕ) (n : ℕ) → m ≡ replicate n 0 → Blank m
blank_cleared m n e = subst Blank (sym e) (zeros_blank n)

pub blank_front : (a b : List ℕ) → Blank (a ++ b) → Blank a
blank_front [] b h k = refl
blank_front (x ∷ a) b h zero = h 0
blank_front (x ∷ a) b h (suc k) = blank_front a b (λ i. h (suc i)) k

pub blank_back : (a b : List ℕ) → Blank (a ++ b) → Blank b
blank_back [] b h = h
blank_back (x ∷ a) b h = blank_back a b (λ i. h (suc i))
