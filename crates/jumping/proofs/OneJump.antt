-- One turn of the merger of a jump.
use Rattle.std.proofs.Common.{◌≡◌, ℕ, ◌+◌, ◌≤◌, Bool, true, false, ◌⊎◌, inl, inr, List, [], ◌∷◌, get_or, set, sym, refl, ap, ◌∙◌, subst, arith}
use Rattle.pool.specs.Chain.{nowhere}
use Rattle.script.specs.Sound.{records_expr, records_optional, records_stmt, records_stmts}
use Rattle.script.specs.Tree.{Expr, OptionalExpr, Stmt, Stmts, absent, if_then, no_alternate, no_stmts, present, stmt_then}
use Rattle.records.specs.declared.record.Pools.{Pools}
use Rattle.records.specs.declared.record.StmtRecord.{StmtRecord}
use Rattle.records.specs.Embedding.{expr_row, optional_row, stmt_row, stmts_row}
use Rattle.records.specs.Heap.{Heap, Place, blank_stmt, decl_at, expr_at, stmt_at}
use Rattle.records.specs.Owned.{Owns, Root}
use Rattle.records.specs.Rows.{At, end}
use Rattle.records.proofs.Moves.{end_in, end_out, pick}
use Rattle.records.proofs.Tallies.{lengths, records_expr_row, records_optional_row, records_stmts_row}
use Rattle.rules.specs.Budget.{weight_stmt}
use Rattle.rules.specs.Expressions.{minimize_conditional}
use Rattle.rules.specs.Merging.{push_new_expression_stmt_to_result}
use Rattle.rules.specs.Returns.{IfReturn?, if_return, if_return?, may_merge_return, no_if_return, return_loop, return_step, value_or_void_0}
use Rattle.rules.specs.Throws.{IfThrow?, if_throw, if_throw?, no_if_throw, throw_loop, throw_step}
use Rattle.rules.proofs.BudgetExpressions.{minimize_conditional_records}
use Rattle.moves.specs.First.{stmt_kind}
use Rattle.moves.specs.Moved.{Moved, Turns}
use Rattle.moves.proofs.ByKind.{stmt_of_kind}
use Rattle.moves.proofs.Frames.{arrange, stays}
use Rattle.moves.proofs.Open.{close_stmt, open_stmt}
use Rattle.moves.proofs.Spared.{spared}
use Rattle.joining.specs.Needs.{EnoughFor}
use Rattle.predicates.specs.Held.{holder_of}
use Rattle.jumping.specs.declared.jump.Jump.{Jump}
use Rattle.jumping.specs.declared.jump.Jump.TheVariants.{Return, Throw}
use Rattle.jumping.specs.Going.{Argument, Ends, GoesOn, in_hand, rule}
use Rattle.jumping.specs.Meet.{TellsMayMerge, held_by}
use Rattle.jumping.specs.Newest.{IfAround, IsIfAround, TellsIfJump, kind_of}
use Rattle.jumping.proofs.Fits.{optional_fits, results_fit}
use Rattle.jumping.proofs.Optional.{absent_there, nowhere_there}

-- what both rules have in common

-- the argument of two jumps joined
abbrev pub joined : (j : Jump) → Expr → Argument j
joined Throw e = e
joined (Return holder) e = present e

argument_joined : (j : Jump) (e : Expr) → (rule j).argument (joined j e) ≡ present e
argument_joined Throw e = refl
argument_joined (Return holder) e = refl

-- a jump is known by its kind
jump_of_kind : (j : Jump) (x : Stmt) → kind_of j ≡ stmt_kind x → (a : Argument j) × (x ≡ (rule j).stmt a)
jump_of_kind Throw x k = stmt_of_kind x k
jump_of_kind (Return holder) x k = stmt_of_kind x k

-- `if (t)` around a jump
abbrev pub if_jump : (j : Jump) → Expr → Argument j → Stmt
if_jump j t b = if_then t ((rule j).stmt b) no_alternate

-- the newest result is something else
loop_stuck : (j : Jump) (r : Stmts) (a : Argument j) → (IfAround (kind_of j) r → ⊥) → (rule j).loop r a ≡ stmt_then ((rule j).stmt a) r
loop_stuck Throw no_stmts a n = refl
loop_stuck Throw (stmt_then x r) a n = by (if_throw? x) n
  where
    by : {y : Stmt} (v : IfThrow? y) → (IfAround (kind_of Throw) (stmt_then y r) → ⊥)
        → throw_step v a r (λ e. throw_loop r e) ≡ stmt_then ((rule Throw).stmt a) (stmt_then y r)
    by (if_throw t e) m = absurd (m (record { test = t; inner = (rule Throw).stmt e; below = r; same = refl; kind = refl }))
    by no_if_throw m = refl
loop_stuck (Return holder) no_stmts a n = refl
loop_stuck (Return holder) (stmt_then x r) a n = by (if_return? x) n
  where
    by : {y : Stmt} (v : IfReturn? y) → (IfAround (kind_of (Return holder)) (stmt_then y r) → ⊥)
        → return_step (holder_of holder) v a r (λ u. return_loop (holder_of holder) r u) ≡ stmt_then ((rule (Return holder)).stmt a) (stmt_then y r)
    by (if_return t v) m = absurd (m (record { test = t; inner = (rule (Return holder)).stmt v; below = r; same = refl; kind = refl }))
    by no_if_return m = refl

-- both jumps are bare
abbrev Bare : (j : Jump) → Argument j → Argument j → Type 0
Bare j a b = ((rule j).argument a ≡ absent) × ((rule j).argument b ≡ absent)

loop_bare : (j : Jump) (t : Expr) (b a : Argument j) (r : Stmts) → Bare j a b
    → (rule j).loop (stmt_then (if_jump j t b) r) a ≡ stmt_then ((rule j).stmt a) (push_new_expression_stmt_to_result true t r)
loop_bare Throw t b a r n = cc
loop_bare (Return holder) t absent absent r n = refl
loop_bare (Return holder) t (present x) a r n = cc
loop_bare (Return holder) t absent (present e) r n = cc

loop_stops : (j : Jump) (t : Expr) (b a : Argument j) (r : Stmts) → (Bare j a b → ⊥) → false ≡ may_merge_return (held_by j) ((rule j).argument a)
    → (rule j).loop (stmt_then (if_jump j t b) r) a ≡ stmt_then ((rule j).stmt a) (stmt_then (if_jump j t b) r)
loop_stops Throw t b a r n m = rw (← m) refl
loop_stops (Return holder) t absent absent r n m = absurd (n (refl, refl))
loop_stops (Return holder) t (present x) absent r n m = rw (← m) refl
loop_stops (Return holder) t absent (present e) r n m = rw (← m) refl
loop_stops (Return holder) t (present x) (present e) r n m = rw (← m) refl

-- their arguments as one
abbrev pub both : (j : Jump) → Expr → Argument j → Argument j → Expr
both j t b a = minimize_conditional t (value_or_void_0 ((rule j).argument b)) (value_or_void_0 ((rule j).argument a))

loop_goes_on : (j : Jump) (t : Expr) (b a : Argument j) (r : Stmts) → (Bare j a b → ⊥) → true ≡ may_merge_return (held_by j) ((rule j).argument a)
    → (rule j).loop (stmt_then (if_jump j t b) r) a ≡ (rule j).loop r (joined j (both j t b a))
loop_goes_on Throw t b a r n m = rw (← m) refl
loop_goes_on (Return holder) t absent absent r n m = absurd (n (refl, refl))
loop_goes_on (Return holder) t (present x) absent r n m = rw (← m) refl
loop_goes_on (Return holder) t absent (present e) r n m = rw (← m) refl
loop_goes_on (Return holder) t (present x) (present e) r n m = rw (← m) refl

-- what is counted for a jump
record Counted (j : Jump) (a : Argument j) : Type 0 where
  pub exprs : (records_stmt ((rule j).stmt a)).exprs ≡ records_optional ((rule j).argument a)
  pub stmts : (records_stmt ((rule j).stmt a)).stmts ≡ 1

counted_jump : (j : Jump) (a : Argument j) → Counted j a
counted_jump Throw a = record { exprs = refl; stmts = refl }
counted_jump (Return holder) a = record { exprs = refl; stmts = refl }

-- what is weighed for two that join pays for their `void 0` and the conditional
record Weighed (j : Jump) (b a : Argument j) (e : Expr) : Type 0 where
  pub exprs : records_expr (value_or_void_0 ((rule j).argument b)) + records_expr (value_or_void_0 ((rule j).argument a))
      + (weight_stmt ((rule j).stmt (joined j e))).exprs
      ≤ 1 + records_optional ((rule j).argument b) + records_optional ((rule j).argument a)
      + (weight_stmt ((rule j).stmt b)).exprs + (weight_stmt ((rule j).stmt a)).exprs
  pub stmts : (weight_stmt ((rule j).stmt (joined j e))).stmts ≤ 1
  pub decls : (weight_stmt ((rule j).stmt (joined j e))).decls ≡ 0

weighed_jumps : (j : Jump) (b a : Argument j) (e : Expr) → (Bare j a b → ⊥) → Weighed j b a e
weighed_jumps Throw b a e n = record { exprs = omega arith; stmts = omega arith; decls = refl }
weighed_jumps (Return holder) absent absent e n = absurd (n (refl, refl))
weighed_jumps (Return holder) absent (present y) e n = record { exprs = omega arith; stmts = omega arith; decls = refl }
weighed_jumps (Return holder) (present x) absent e n = record { exprs = omega arith; stmts = omega arith; decls = refl }
weighed_jumps (Return holder) (present x) (present y) e n = record { exprs = omega arith; stmts = omega arith; decls = refl }

-- the record at a place, and the one at its statements
abbrev pub there : Heap → ℕ → StmtRecord
there h i = get_or h.stmts i blank_stmt

abbrev pub inside : Heap → ℕ → StmtRecord
inside h i = there h (there h i).stmts

module _ {h : Heap} {p : Pools} {loose : List Place} {rest : List Root} {i : ℕ} where
  open_jump : (j : Jump) (b : Argument j) → Owns h p loose ((stmt_at i, stmt_row ((rule j).stmt b) end) ∷ rest)
      → Owns h p (stmt_at i ∷ loose) ((expr_at (there h i).exprs, optional_row ((rule j).argument b) end) ∷ rest)
  open_jump Throw b o = end_out (pick 1 (end_out (pick 1 (end_out (pick 1 (open_stmt ((rule Throw).stmt b) end o))))))
  open_jump (Return holder) b o = end_out (pick 1 (end_out (pick 1 (end_out (pick 1 (open_stmt ((rule (Return holder)).stmt b) end o))))))

  -- the jump becomes the newest result
  pub close_jump : (j : Jump) (a : Argument j) (r : Stmts) (y : StmtRecord) → y.kind ≡ kind_of j → y.stmts ≡ nowhere → y.decls ≡ nowhere
      → Owns h p (stmt_at i ∷ loose) (in_hand (rule j) y.exprs y.next a r rest)
      → Moved h (record { exprs = h.exprs; stmts = set h.stmts i y; decls = h.decls }) p loose ((stmt_at i, stmts_row (stmt_then ((rule j).stmt a) r)) ∷ rest)
  close_jump Throw a r y k s d o = close_stmt ((rule Throw).stmt a) (stmts_row r) y k (pick 2 (end_in (stmt_at y.stmts) s (end_in (decl_at y.decls) d o)))
  close_jump (Return holder) a r y k s d o =
      close_stmt ((rule (Return holder)).stmt a) (stmts_row r) y k (pick 2 (end_in (stmt_at y.stmts) s (end_in (decl_at y.decls) d o)))

argument_there : (h : Heap) (i : ℕ) (j : Jump) (b : Argument j) → At h (stmt_at i) (stmt_row ((rule j).stmt b) end)
    → At h (expr_at (there h i).exprs) (optional_row ((rule j).argument b) end)
argument_there h i Throw b a = a.2
argument_there h i (Return holder) b a = a.2

-- by the argument of the jump inside
by_found : (j : Jump) (P : Stmts → Type 0) (r : Stmts) → IfAround (kind_of j) r
    → ((t : Expr) (b : Argument j) (s : Stmts) → P (stmt_then (if_jump j t b) s)) → P r
by_found j P r f g =
    let q = jump_of_kind j f.inner f.kind in
    subst P (sym (f.same ∙ ap (λ (x : Stmt). stmt_then (if_then f.test x no_alternate) f.below) q.1)) (g f.test q.0 f.below)

module _ (j : Jump) {h : Heap} {p : Pools} {loose : List Place} {rest : List Root} {value results : ℕ} where
  open_if : (t : Expr) (b a : Argument j) (s : Stmts) → Owns h p loose (in_hand (rule j) value results a (stmt_then (if_jump j t b) s) rest)
      → Owns h p (stmt_at (there h results).stmts ∷ stmt_at results ∷ loose)
      ((expr_at (inside h results).exprs, optional_row ((rule j).argument b) end) ∷ (expr_at (there h results).exprs, expr_row t end)
      ∷ (stmt_at (there h results).next, stmts_row s) ∷ (expr_at value, optional_row ((rule j).argument a) end) ∷ rest)
  open_if t b a s o = open_jump j b (pick 1 (end_out (pick 2 (open_stmt (if_jump j t b) (stmts_row s) (pick 1 o)))))

  -- both are bare if both places lead nowhere, and only then
  bare_there : (t : Expr) (b a : Argument j) (s : Stmts) → Owns h p loose (in_hand (rule j) value results a (stmt_then (if_jump j t b) s) rest)
      → value ≡ nowhere → (inside h results).exprs ≡ nowhere → Bare j a b
  bare_there t b a s o m n =
      (absent_there ((rule j).argument a) o.short o.held.0 m, absent_there ((rule j).argument b) o.short (argument_there h _ j b o.held.1.0.3) n)

  there_bare : (t : Expr) (b a : Argument j) (s : Stmts) → Owns h p loose (in_hand (rule j) value results a (stmt_then (if_jump j t b) s) rest)
      → Bare j a b → (value ≡ nowhere) × ((inside h results).exprs ≡ nowhere)
  there_bare t b a s o n =
      (nowhere_there h ((rule j).argument a) o.held.0 n.0, nowhere_there h ((rule j).argument b) (argument_there h _ j b o.held.1.0.3) n.1)

  -- what the tests tell whoever owns the argument and the results
  pub told_around : {b b' : Bool} (a : Argument j) (r : Stmts) → b ≡ b' → TellsIfJump (kind_of j) h.stmts results b
      → Owns h p loose (in_hand (rule j) value results a r rest) → IsIfAround (kind_of j) r b'
  told_around a r e tells o = rw e at (tells h.exprs h.decls r o.short o.held.1.0 (results_fit r o))

  pub told_may : {b b' : Bool} (a : Argument j) (r : Stmts) → b ≡ b' → TellsMayMerge j h.exprs value b
      → Owns h p loose (in_hand (rule j) value results a r rest) → b' ≡ may_merge_return (held_by j) ((rule j).argument a)
  told_may a r e tells o = sym e ∙ tells h.stmts h.decls ((rule j).argument a) o.short o.held.0 (optional_fits ((rule j).argument a) o)

  -- the newest result is no `if` around the jump
  pub ends_other : (a : Argument j) (r : Stmts) → (IfAround (kind_of j) r → ⊥) → Owns h p loose (in_hand (rule j) value results a r rest)
      → Ends (rule j) h h p loose rest (record { target = value; results = results }) ((rule j).loop r a)
  ends_other a r n o = record { here = record { argument = a; results = r; moved = stays o }; same = loop_stuck j r a n }

  -- the jump may not take it in
  pub ends_stop : (a : Argument j) (r : Stmts) → IfAround (kind_of j) r → (value ≡ nowhere → (inside h results).exprs ≡ nowhere → ⊥)
      → false ≡ may_merge_return (held_by j) ((rule j).argument a) → Owns h p loose (in_hand (rule j) value results a r rest)
      → Ends (rule j) h h p loose rest (record { target = value; results = results }) ((rule j).loop r a)
  ends_stop a r f n m =
      by_found j (λ (x : Stmts). Owns h p loose (in_hand (rule j) value results a x rest)
      → Ends (rule j) h h p loose rest (record { target = value; results = results }) ((rule j).loop x a)) r f
      (λ t b s o. record {
        here = record { argument = a; results = stmt_then (if_jump j t b) s; moved = stays o };
        same = loop_stops j t b a s (λ both_bare. let k = there_bare t b a s o both_bare in n k.0 k.1) m;
      })

  module _ {h' : Heap} {p' : Pools} where
    -- both are bare: the test stays as a statement
    pub ends_bare : (res : ℕ) (a : Argument j) (r : Stmts) → IfAround (kind_of j) r → value ≡ nowhere → (inside h results).exprs ≡ nowhere
        → ((t : Expr) (s : Stmts) → 1 ≤ p.exprs.count → 1 ≤ p.stmts.count
        → Turns h p h' p' (stmt_at (there h results).stmts ∷ stmt_at results ∷ [])
        ((expr_at (there h results).exprs, expr_row t end) ∷ (stmt_at (there h results).next, stmts_row s) ∷ [])
        ((stmt_at res, stmts_row (push_new_expression_stmt_to_result true t s)) ∷ []))
        → EnoughFor ((rule j).stmt a) r p → Owns h p loose (in_hand (rule j) value results a r rest)
        → Ends (rule j) h h' p' loose rest (record { target = nowhere; results = res }) ((rule j).loop r a)
    ends_bare res a r f m n leave =
        by_found j (λ (x : Stmts). EnoughFor ((rule j).stmt a) x p → Owns h p loose (in_hand (rule j) value results a x rest)
        → Ends (rule j) h h' p' loose rest (record { target = nowhere; results = res }) ((rule j).loop x a)) r f
        (λ t b s g o.
        let k = bare_there t b a s o m n in
        let places : List Place = stmt_at (there h results).stmts ∷ stmt_at results ∷ loose in
        let test : Root = (expr_at (there h results).exprs, expr_row t end) in
        let below : Root = (stmt_at (there h results).next, stmts_row s) in
        let own : Root = (expr_at value, optional_row ((rule j).argument a) end) in
        let o₁ = subst (λ (v : OptionalExpr). Owns h p places ((expr_at (inside h results).exprs, optional_row v end) ∷ test ∷ below ∷ own ∷ rest)) k.1
        (open_if t b a s o) in
        let o₂ = subst (λ (v : OptionalExpr). Owns h p places ((expr_at value, optional_row v end) ∷ test ∷ below ∷ rest)) k.0 (pick 2 (end_out o₁)) in
        let e = g.exprs in
        let l = g.stmts in
        let m₁ = leave t s (omega arith) (omega arith) loose rest (end_out o₂) in
        record {
          here = record {
            argument = a;
            results = push_new_expression_stmt_to_result true t s;
            moved = record {
              owned = subst (λ (v : OptionalExpr). Owns h' p' loose
                  ((expr_at nowhere, optional_row v end) ∷ (stmt_at res, stmts_row (push_new_expression_stmt_to_result true t s)) ∷ rest))
                  (sym k.0) (end_in (expr_at nowhere) refl m₁.owned);
              kept = m₁.kept;
            };
          };
          same = loop_bare j t b a s k;
        })

    -- the jump takes it in
    goes_on_there : (a : Argument j) (r : Stmts) → IfAround (kind_of j) r → (value ≡ nowhere → (inside h results).exprs ≡ nowhere → ⊥)
        → true ≡ may_merge_return (held_by j) ((rule j).argument a) → lengths h ≡ lengths h'
        → ((t : Expr) (v u : OptionalExpr) → 5 ≤ p.exprs.count
        → Turns h p h' p' (stmt_at (there h results).stmts ∷ stmt_at results ∷ [])
        ((expr_at (there h results).exprs, expr_row t end) ∷ (expr_at (inside h results).exprs, optional_row v end) ∷ (expr_at value, optional_row u end) ∷ [])
        ((expr_at (there h results).exprs, expr_row (minimize_conditional t (value_or_void_0 v) (value_or_void_0 u)) end) ∷ []))
        → EnoughFor ((rule j).stmt a) r p → Owns h p loose (in_hand (rule j) value results a r rest)
        → GoesOn (rule j) h h' p' loose rest (record { target = (there h results).exprs; results = (there h results).next })
        ((rule j).loop r a) (records_stmts r).stmts
    goes_on_there a r f n m same joins =
        by_found j (λ (x : Stmts). EnoughFor ((rule j).stmt a) x p → Owns h p loose (in_hand (rule j) value results a x rest)
        → GoesOn (rule j) h h' p' loose rest (record { target = (there h results).exprs; results = (there h results).next })
        ((rule j).loop x a) (records_stmts x).stmts) r f
        (λ t b s g o.
        let n₁ : Bare j a b → ⊥ = λ both_bare. let k = there_bare t b a s o both_bare in n k.0 k.1 in
        let v = (rule j).argument b in
        let u = (rule j).argument a in
        let x : Expr = both j t b a in
        let five : 5 ≤ p.exprs.count = let e = g.exprs in omega arith in
        let o₁ = arrange (1 ∷ 0 ∷ 1 ∷ []) (open_if t b a s o) in
        let m₁ = joins t v u five loose ((stmt_at (there h results).next, stmts_row s) ∷ rest) o₁ in
        let k = spared loose rest [] (in_hand (rule j) value results a (stmt_then (if_jump j t b) s) [])
        ((expr_at (there h results).exprs, expr_row x end) ∷ (stmt_at (there h results).next, stmts_row s) ∷ []) same o m₁.owned in
        let d₁ = records_optional_row u end in
        let d₂ = records_expr_row x end in
        let d₃ = records_stmts_row s in
        let d₄ = records_stmts_row (stmt_then (if_jump j t b) s) in
        let d₅ = minimize_conditional_records t (value_or_void_0 v) (value_or_void_0 u) in
        let w₁ = counted_jump j b in
        let w₂ = weighed_jumps j b a x n₁ in
        record {
          here = record {
            argument = joined j x;
            results = s;
            moved = record {
              owned = subst (λ (y : OptionalExpr). Owns h' p' loose
                  ((expr_at (there h results).exprs, optional_row y end) ∷ (stmt_at (there h results).next, stmts_row s) ∷ rest))
                  (sym (argument_joined j x)) m₁.owned;
              kept = m₁.kept;
            };
          };
          same = loop_goes_on j t b a s n₁ m;
          fewer = omega arith;
          enough = record { exprs = omega arith; stmts = omega arith; decls = omega arith };
        })

    -- the same, whichever way the code comes to the place of the earlier argument and to that of the results below
    pub goes_on : {earlier below : ℕ} (a : Argument j) (r : Stmts) → IfAround (kind_of j) r → (value ≡ nowhere → (inside h results).exprs ≡ nowhere → ⊥)
        → true ≡ may_merge_return (held_by j) ((rule j).argument a) → lengths h ≡ lengths h'
        → ((t : Expr) (v u : OptionalExpr) → 5 ≤ p.exprs.count
        → Turns h p h' p' (stmt_at (there h results).stmts ∷ stmt_at results ∷ [])
        ((expr_at (there h results).exprs, expr_row t end) ∷ (expr_at earlier, optional_row v end) ∷ (expr_at value, optional_row u end) ∷ [])
        ((expr_at (there h results).exprs, expr_row (minimize_conditional t (value_or_void_0 v) (value_or_void_0 u)) end) ∷ []))
        → earlier ≡ (inside h results).exprs → below ≡ (there h results).next
        → EnoughFor ((rule j).stmt a) r p → Owns h p loose (in_hand (rule j) value results a r rest)
        → GoesOn (rule j) h h' p' loose rest (record { target = (there h results).exprs; results = below }) ((rule j).loop r a) (records_stmts r).stmts
    goes_on a r f n m same joins e b g o = rw b (goes_on_there a r f n m same (λ t v u k. rw (← e) (joins t v u k)) g o)

pub not_both : {m n : ℕ} → ((m ≡ nowhere) × (n ≡ nowhere → ⊥)) ⊎ (m ≡ nowhere → ⊥) → m ≡ nowhere → n ≡ nowhere → ⊥
not_both (inl x) m n = x.1 n
not_both (inr x) m n = x m
