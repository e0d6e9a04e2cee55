-- Marking a row of expressions and a row of declarators, and the spares of each table.
use Rattle.std.proofs.Common.{◌≡◌, ℕ, ◌+◌, Bool, true, false, List, Some, None, Option, sym, ap, subst, arith}
use Rattle.records.specs.declared.record.Pools.{Pools}
use Rattle.shapes.specs.declared.rule.DeclSurvey.{DeclSurvey}
use Rattle.lending.specs.declared.check.Parts.{Parts}
use Rattle.records.specs.Heap.{Heap, Place, expr_at, stmt_at, decl_at, expr_links, stmt_links, decl_links, spare}
use Rattle.records.specs.Rows.{uses}
use Rattle.records.specs.Owned.{Short}
use Rattle.lending.specs.Marked.{marks_of, ExprsMarked, DeclsMarked, PartsMarked, PartsFound, no_declarators, ChainFound, ChainMarked, SparesFound, SparesMarked}
use Rattle.lending.proofs.Marking.{at_same}

module _ (m : Place → ℕ) (h : Heap) (es ds : ℕ) (m₁ : Place → ℕ) where
  pub parts_exprs : (r : Option Parts) → r ≡ None → ExprsMarked None m h es 0 m₁ → PartsMarked r m h es ds m₁
  parts_exprs (Some v) e refuted = let i : ◌≡◌ {A = ℕ} 0 1 = cc in absurd (omega arith)
  parts_exprs None e refuted = λ x z f. refuted x (record { held = f.exprs; once = λ q. let a = f.once q in omega arith }) f.exprs_shaped

  module _ (n : ℕ) (m₂ : Place → ℕ) where
    pub parts_decls : Short h → (r : Option Parts) → r ≡ None → ExprsMarked (Some n) m h es 0 m₁ → DeclsMarked None m₁ h ds no_declarators m₂ → PartsMarked r m h es ds m₂
    parts_decls short (Some v) e found refuted = let i : ◌≡◌ {A = ℕ} 0 1 = cc in absurd (omega arith)
    parts_decls short None e found refuted = λ x z f.
        let same = at_same short (expr_at es) found.0 x found.1.held f.exprs in
        refuted z (record { held = f.decls; once = λ q. let a = f.once q in let b = found.1.met q in let u = ap (uses q h (expr_at es)) same in omega arith }) f.decls_shaped

    pub parts_found : {s : DeclSurvey} → ExprsMarked (Some n) m h es 0 m₁ → DeclsMarked (Some s) m₁ h ds no_declarators m₂ → PartsFound m h es ds m₂ (record { exprs = n; decls = s })
    parts_found a b = record {
      exprs = a.0;
      decls = b.0;
      between = m₁;
      exprs_found = a.1;
      decls_found = b.1;
      exprs_shaped = a.2;
      decls_shaped = b.2;
      exprs_count = a.3;
      decls_count = b.3;
    }

module _ (h : Heap) (p : Pools) (me ms md : List ℕ) where
  -- a table whose spares are no such chain
  pub unspared_exprs : {v x : Bool} (me' : List ℕ) (m' : Place → ℕ) → v ≡ false → x ≡ false →
      ChainMarked x me (expr_links h.exprs) p.exprs.head p.exprs.count me' → SparesMarked v (marks_of me ms md) h p m'
  unspared_exprs {v} {x} me' m' e f n =
      subst (λ (b : Bool). SparesMarked b (marks_of me ms md) h p m') (sym e)
      (λ s. subst (λ (b : Bool). ChainMarked b me (expr_links h.exprs) p.exprs.head p.exprs.count me') f n
      (record { chain = s.chains.exprs; once = λ k. s.once (expr_at k) }))

  pub unspared_stmts : {v x : Bool} (ms' : List ℕ) (m' : Place → ℕ) → v ≡ false → x ≡ false →
      ChainMarked x ms (stmt_links h.stmts) p.stmts.head p.stmts.count ms' → SparesMarked v (marks_of me ms md) h p m'
  unspared_stmts {v} {x} ms' m' e f n =
      subst (λ (b : Bool). SparesMarked b (marks_of me ms md) h p m') (sym e)
      (λ s. subst (λ (b : Bool). ChainMarked b ms (stmt_links h.stmts) p.stmts.head p.stmts.count ms') f n
      (record { chain = s.chains.stmts; once = λ k. s.once (stmt_at k) }))

  spares_found : (me' ms' md' : List ℕ) → ChainFound me (expr_links h.exprs) p.exprs.head p.exprs.count me' →
      ChainFound ms (stmt_links h.stmts) p.stmts.head p.stmts.count ms' → ChainFound md (decl_links h.decls) p.decls.head p.decls.count md' →
      SparesFound (marks_of me ms md) h p (marks_of me' ms' md')
  spares_found me' ms' md' a b c = record { chains = record { exprs = a.chain; stmts = b.chain; decls = c.chain }; met = met }
    where
      met : (q : Place) → marks_of me' ms' md' q ≡ marks_of me ms md q + spare q h p
      met (expr_at k) = a.met k
      met (stmt_at k) = b.met k
      met (decl_at k) = c.met k

  pub spares_marked : {x y : Bool} (b : Bool) (me' ms' md' : List ℕ) → x ≡ true → y ≡ true →
      ChainMarked x me (expr_links h.exprs) p.exprs.head p.exprs.count me' → ChainMarked y ms (stmt_links h.stmts) p.stmts.head p.stmts.count ms' →
      ChainMarked b md (decl_links h.decls) p.decls.head p.decls.count md' → SparesMarked b (marks_of me ms md) h p (marks_of me' ms' md')
  spares_marked true me' ms' md' e f x y z =
      spares_found me' ms' md'
      (subst (λ (b : Bool). ChainMarked b me (expr_links h.exprs) p.exprs.head p.exprs.count me') e x)
      (subst (λ (b : Bool). ChainMarked b ms (stmt_links h.stmts) p.stmts.head p.stmts.count ms') f y)
      z
  spares_marked false me' ms' md' e f x y z = λ s. z (record { chain = s.chains.decls; once = λ k. s.once (decl_at k) })
