-- Rows that are held and shaped are those of a draft, or of a sheet with its body, and back.
use Rattle.std.proofs.Common.{◌≡◌, ℕ, Bool, true, false, [], ◌∷◌, length, sym, refl, ap, ◌∙◌, subst, arith}
use Rattle.pool.specs.Chain.{nowhere}
use Rattle.script.specs.Stacks.{Stacks}
use Rattle.script.specs.Judge.{Stage as ModelStage, reading, complete, Spares, Model}
use Rattle.records.specs.declared.record.Pools.{Pools}
use Rattle.records.specs.declared.record.Stack.{Stack}
use Rattle.records.specs.declared.record.Stage.{Stage}
use Rattle.records.specs.declared.record.Stage.TheVariants.{Reading, Complete}
use Rattle.records.specs.declared.record.Draft.{Draft}
use Rattle.records.specs.declared.record.Whole.{Whole}
use Rattle.records.specs.Heap.{Heap, Place, expr_at, stmt_at, decl_at, Nowhere}
use Rattle.records.specs.Rows.{Row, end, node, At, row_length}
use Rattle.records.specs.Owned.{Short, Owns}
use Rattle.records.specs.Embedding.{expr_stack, stmt_stack, decl_stack, stmts_row}
use Rattle.shapes.specs.Shape.{survey, decl_survey}
use Rattle.records.specs.Holds.{counted, Holds, SameStage, StandsAlone}
use Rattle.lending.specs.Marked.{RowsHeld, Decides, body_place, draft_roots, whole_roots, CountedAlone, ToldAlone, DecidesDraft, DecidesWhole}
use Rattle.records.proofs.Moves.{end_in, end_out}
use Rattle.shapes.proofs.Decoding.{no_items_left}
use Rattle.lending.proofs.Marking.{not_within}
use Rattle.shapes.proofs.Decoding.{exprs_decoded, declarators_decoded, expr_stack_length, decl_stack_length}
use Rattle.shapes.proofs.DecodingStmts.{items_decoded, body_decoded}
use Rattle.shapes.proofs.Surveys.{item_stack_length}
use Rattle.shapes.proofs.Shaping.{exprs_shaped, items_shaped, declarators_shaped, body_shaped}

-- a row that begins nowhere has no record
ended : {h : Heap} → Short h → (k : Place) (x : Row) → At h k x → Nowhere k → x ≡ end
ended s k end a n = refl
ended s k (node l x y z w) a n = absurd (not_within s k a.0 n)

module _ {h : Heap} {p : Pools} {kx ky kz kb : Place} where
  -- four roots at equal rows
  owned_same : {x x' y y' z z' b b' : Row} → x ≡ x' → y ≡ y' → z ≡ z' → b ≡ b' → Owns h p [] ((kx, x) ∷ (ky, y) ∷ (kz, z) ∷ (kb, b) ∷ []) → Owns h p [] ((kx, x') ∷ (ky, y') ∷ (kz, z') ∷ (kb, b') ∷ [])
  owned_same {x} {x'} {y} {y'} {z} {z'} {b} {b'} ex ey ez eb o =
      subst (λ v. Owns h p [] ((kx, x') ∷ (ky, y') ∷ (kz, z') ∷ (kb, v) ∷ [])) eb
      (subst (λ v. Owns h p [] ((kx, x') ∷ (ky, y') ∷ (kz, v) ∷ (kb, b) ∷ [])) ez
      (subst (λ v. Owns h p [] ((kx, x') ∷ (ky, v) ∷ (kz, z) ∷ (kb, b) ∷ [])) ey
      (subst (λ v. Owns h p [] ((kx, v) ∷ (ky, y) ∷ (kz, z) ∷ (kb, b) ∷ [])) ex o)))

  -- a last root without a record
  last_out : {x y z : Row} → Owns h p [] ((kx, x) ∷ (ky, y) ∷ (kz, z) ∷ (kb, end) ∷ []) → Owns h p [] ((kx, x) ∷ (ky, y) ∷ (kz, z) ∷ [])
  last_out o = record {
    short = o.short;
    inside = tt;
    held = (o.held.0, (o.held.1.0, (o.held.1.1.0, tt)));
    chains = o.chains;
    once = λ q w. let n = o.once q w in omega arith;
  }

  last_in : {x y z : Row} → Nowhere kb → Owns h p [] ((kx, x) ∷ (ky, y) ∷ (kz, z) ∷ []) → Owns h p [] ((kx, x) ∷ (ky, y) ∷ (kz, z) ∷ (kb, end) ∷ [])
  last_in n o = record {
    short = o.short;
    inside = tt;
    held = (o.held.0, (o.held.1.0, (o.held.1.1.0, (n, tt))));
    chains = o.chains;
    once = λ q w. let n = o.once q w in omega arith;
  }

module _ (h : Heap) (es ss ds : Stack) (p : Pools) where
  abbrev draft : Stage → Draft
  draft st = record { stage = st; exprs = es; stmts = ss; decls = ds; pools = p }

  draft_found : (st : Stage) → RowsHeld h p (draft_roots (draft st)) → CountedAlone st (draft st) → (m : Model) × Holds h (draft st) m
  draft_found (Reading a) o u =
      let x = exprs_decoded o.exprs o.shaped.exprs in
      let y = items_decoded o.stmts o.shaped.stmts in
      let z = declarators_decoded o.decls o.shaped.decls in
      let b = ended o.owned.short (stmt_at nowhere) o.body o.owned.held.1.1.1.0 refl in (
        record { stage = reading a; stacks = record { exprs = x.0; stmts = y.0; decls = z.0 }; spares = counted p },
        record {
          sound = record { stage = tt; stacks = record { exprs = x.2; stmts = y.2; decls = z.2 } };
          stage = refl;
          alone = tt;
          owned = last_out (owned_same (sym x.1) (sym y.1) (sym z.1) b o.owned);
          exprs = sym o.shaped.exprs_count ∙ ap row_length (sym x.1) ∙ expr_stack_length x.0;
          stmts = sym o.shaped.stmts_count ∙ ap (λ v. (survey v).count) (sym y.1) ∙ item_stack_length y.0;
          decls = sym o.shaped.decls_count ∙ ap (λ v. (decl_survey v).count) (sym z.1) ∙ decl_stack_length z.0;
          spares = refl;
        },
      )
  draft_found (Complete at) o u =
      let x = exprs_decoded o.exprs o.shaped.exprs in
      let y = items_decoded o.stmts o.shaped.stmts in
      let z = declarators_decoded o.decls o.shaped.decls in
      let b = body_decoded o.body o.shaped.body o.shaped.no_case in (
        record { stage = complete b.0; stacks = record { exprs = x.0; stmts = y.0; decls = z.0 }; spares = counted p },
        record {
          sound = record { stage = b.2; stacks = record { exprs = x.2; stmts = y.2; decls = z.2 } };
          stage = tt;
          alone = no_items_left (record { exprs = x.0; stmts = y.0; decls = z.0 })
              (sym (sym o.shaped.exprs_count ∙ ap row_length (sym x.1) ∙ expr_stack_length x.0) ∙ u.0)
              (sym (sym o.shaped.stmts_count ∙ ap (λ v. (survey v).count) (sym y.1) ∙ item_stack_length y.0) ∙ u.1)
              (sym (sym o.shaped.decls_count ∙ ap (λ v. (decl_survey v).count) (sym z.1) ∙ decl_stack_length z.0) ∙ u.2);
          owned = owned_same (sym x.1) (sym y.1) (sym z.1) (sym b.1) o.owned;
          exprs = sym o.shaped.exprs_count ∙ ap row_length (sym x.1) ∙ expr_stack_length x.0;
          stmts = sym o.shaped.stmts_count ∙ ap (λ v. (survey v).count) (sym y.1) ∙ item_stack_length y.0;
          decls = sym o.shaped.decls_count ∙ ap (λ v. (decl_survey v).count) (sym z.1) ∙ decl_stack_length z.0;
          spares = refl;
        },
      )

  draft_rows : (st : Stage) (ms : ModelStage) (s : Stacks) (n : Spares) → Holds h (draft st) (record { stage = ms; stacks = s; spares = n }) → RowsHeld h p (draft_roots (draft st))
  draft_rows (Reading a) (reading b) s n o = record {
    exprs = expr_stack s.exprs;
    stmts = stmt_stack s.stmts;
    decls = decl_stack s.decls;
    body = end;
    shaped = record {
      exprs = exprs_shaped s.exprs o.sound.stacks.exprs;
      stmts = items_shaped s.stmts o.sound.stacks.stmts;
      decls = declarators_shaped s.decls o.sound.stacks.decls;
      body = tt;
      exprs_count = expr_stack_length s.exprs ∙ sym o.exprs;
      stmts_count = item_stack_length s.stmts ∙ sym o.stmts;
      decls_count = decl_stack_length s.decls ∙ sym o.decls;
      no_case = refl;
    };
    owned = last_in refl o.owned;
  }
  draft_rows (Reading a) (complete b) s n o = absurd o.stage
  draft_rows (Complete at) (reading b) s n o = absurd o.stage
  draft_rows (Complete at) (complete b) s n o = record {
    exprs = expr_stack s.exprs;
    stmts = stmt_stack s.stmts;
    decls = decl_stack s.decls;
    body = stmts_row b;
    shaped = record {
      exprs = exprs_shaped s.exprs o.sound.stacks.exprs;
      stmts = items_shaped s.stmts o.sound.stacks.stmts;
      decls = declarators_shaped s.decls o.sound.stacks.decls;
      body = (body_shaped b o.sound.stage).0;
      exprs_count = expr_stack_length s.exprs ∙ sym o.exprs;
      stmts_count = item_stack_length s.stmts ∙ sym o.stmts;
      decls_count = decl_stack_length s.decls ∙ sym o.decls;
      no_case = (body_shaped b o.sound.stage).1;
    };
    owned = o.owned;
  }

counted_alone : (h : Heap) (d : Draft) (m : Model) → Holds h d m → CountedAlone d.stage d
counted_alone h d m o = by d.stage m.stage o.stage o.alone
  where
    by : (st : Stage) (ms : ModelStage) → SameStage st ms → StandsAlone ms m.stacks → CountedAlone st d
    by (Reading a) ms e u = tt
    by (Complete at) (reading b) e u = absurd e
    by (Complete at) (complete b) e u =
        (o.exprs ∙ ap (λ (s : Stacks). length s.exprs) u, o.stmts ∙ ap (λ (s : Stacks). length s.stmts) u, o.decls ∙ ap (λ (s : Stacks). length s.decls) u)

draft_rows_refuted : (h : Heap) (d : Draft) → Decides false (RowsHeld h d.pools (draft_roots d)) → DecidesDraft false h d
draft_rows_refuted h d refuted = λ m o. refuted (draft_rows h d.exprs d.stmts d.decls d.pools d.stage m.stage m.stacks m.spares o)

-- the same, with the place of the body as it was computed
module _ (h : Heap) (d : Draft) (at : ℕ) (e : at ≡ body_place d.stage) where
  abbrev FoundAt : ℕ → Type 0
  FoundAt v = RowsHeld h d.pools (record { exprs = d.exprs; stmts = d.stmts; decls = d.decls; body = v })

  pub draft_refuted : (FoundAt at → ⊥) → DecidesDraft false h d
  draft_refuted refuted = draft_rows_refuted h d (λ o. refuted (subst FoundAt (sym e) o))

  pub draft_decided : FoundAt at → (b : Bool) → ToldAlone b d → DecidesDraft b h d
  draft_decided o true u = draft_found h d.exprs d.stmts d.decls d.pools d.stage (subst FoundAt e o) u
  draft_decided o false u = λ m held. u (counted_alone h d m held)

pub whole_decided : (h : Heap) (w : Whole) (b : Bool) → Decides b (RowsHeld h w.pools (whole_roots w)) → DecidesWhole b h w
whole_decided h w true o =
    let s = o.owned.short in
    let x = ended s (expr_at nowhere) o.exprs o.owned.held.0 refl in
    let y = ended s (stmt_at nowhere) o.stmts o.owned.held.1.0 refl in
    let z = ended s (decl_at nowhere) o.decls o.owned.held.1.1.0 refl in
    let b = body_decoded o.body o.shaped.body o.shaped.no_case in
    (b.0, record { sound = b.2; owned = end_out (end_out (end_out (owned_same x y z (sym b.1) o.owned))) })
whole_decided h w false refuted = λ b o. refuted (record {
  exprs = end;
  stmts = end;
  decls = end;
  body = stmts_row b;
  shaped = record {
    exprs = tt;
    stmts = tt;
    decls = tt;
    body = (body_shaped b o.sound).0;
    exprs_count = refl;
    stmts_count = refl;
    decls_count = refl;
    no_case = (body_shaped b o.sound).1;
  };
  owned = end_in (expr_at nowhere) refl (end_in (stmt_at nowhere) refl (end_in (decl_at nowhere) refl o.owned));
})
