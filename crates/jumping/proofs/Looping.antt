-- The turns of a merger one after another.
use Rattle.std.proofs.Common.{◌≡◌, ℕ, ◌+◌, ◌≤◌, List, [], ◌∷◌, length, sym, refl, ◌∙◌, subst, arith}
use Rattle.std.specs.declared.ops.ControlFlow.TheVariants.{Break, Continue}
use Rattle.script.specs.Sound.{records_stmts}
use Rattle.script.specs.Tree.{Stmts, stmt_then}
use Rattle.records.specs.declared.record.Pools.{Pools}
use Rattle.records.specs.Embedding.{stmts_row}
use Rattle.records.specs.Heap.{Heap, Place, stmt_at}
use Rattle.records.specs.Owned.{Owns, Root}
use Rattle.moves.specs.Moved.{Moved, Turns}
use Rattle.moves.proofs.Frames.{kept_both, kept_others, stays}
use Rattle.joining.specs.Needs.{EnoughFor}
use Rattle.merging.specs.declared.worked.Worked.{Worked}
use Rattle.jumping.specs.Going.{Ends, GoesOn, Rule, TakesTurn, in_hand}
use Rattle.jumping.proofs.Fits.{results_fit_beside}

-- after i turns: what there was at first goes on to the same
pub record Looped {A : Type 0} (j : Rule A) (h h' : Heap) (p' : Pools) (loose : List Place) (rest : List Root) (w : Worked) (whole : Stmts)
    (i : ℕ) : Type 0 where
  pub bound : ℕ
  pub going : GoesOn j h h' p' loose rest w whole bound
  pub left : bound + i ≤ length h'.stmts

abbrev pub Loops : {A : Type 0} → Rule A → Heap → Pools → Heap → Pools → ℕ → ℕ → ℕ → Worked → ℕ → Type 0
Loops {A} j h p h' p' at value results w i =
    (a : A) (r : Stmts) → EnoughFor (j.stmt a) r p → (loose : List Place) (rest : List Root)
    → Owns h p (stmt_at at ∷ loose) (in_hand j value results a r rest)
    → Looped j h h' p' (stmt_at at ∷ loose) rest w (j.loop r a) i

pub loop_starts : {A : Type 0} (j : Rule A) {h : Heap} {p : Pools} {at value results : ℕ}
    → Loops j h p h p at value results (record { target = value; results = results }) 0
loop_starts j a r g loose rest o =
    let f = results_fit_beside r o in
    record {
      bound = 1 + (records_stmts r).stmts;
      going = record { here = record { argument = a; results = r; moved = stays o }; same = refl; fewer = omega arith; enough = g };
      left = omega arith;
    }

module _ {A : Type 0} (j : Rule A) {h h₁ h₂ : Heap} {p p₁ p₂ : Pools} {at value results i : ℕ} {w w₁ : Worked} where
  -- one turn more
  pub loop_goes : length h₂.stmts ≡ length h₁.stmts → Loops j h p h₁ p₁ at value results w i
      → TakesTurn j h₁ p₁ h₂ p₂ w.target w.results (Continue w₁) → Loops j h p h₂ p₂ at value results w₁ (i + 1)
  loop_goes k inv turn a r g loose rest o =
      let l = inv a r g loose rest o in
      let n = l.going.here in
      let t = turn n.argument n.results l.going.enough (stmt_at at ∷ loose) rest n.moved.owned in
      let f = l.going.fewer in
      let b = l.left in
      record {
        bound = (records_stmts n.results).stmts;
        going = record {
          here = record {
            argument = t.here.argument;
            results = t.here.results;
            moved = record { owned = t.here.moved.owned; kept = kept_both n.moved.kept t.here.moved.kept };
          };
          same = l.going.same ∙ t.same;
          fewer = t.fewer;
          enough = t.enough;
        };
        left = omega arith;
      }

  -- the last turn
  pub loop_ends : Loops j h p h₁ p₁ at value results w i → TakesTurn j h₁ p₁ h₂ p₂ w.target w.results (Break w₁)
      → (a : A) (r : Stmts) → EnoughFor (j.stmt a) r p → (loose : List Place) (rest : List Root)
      → Owns h p (stmt_at at ∷ loose) (in_hand j value results a r rest)
      → Ends j h h₂ p₂ (stmt_at at ∷ loose) rest w₁ (j.loop r a)
  loop_ends inv turn a r g loose rest o =
      let l = inv a r g loose rest o in
      let n = l.going.here in
      let t = turn n.argument n.results l.going.enough (stmt_at at ∷ loose) rest n.moved.owned in
      record {
        here = record {
          argument = t.here.argument;
          results = t.here.results;
          moved = record { owned = t.here.moved.owned; kept = kept_both n.moved.kept t.here.moved.kept };
        };
        same = l.going.same ∙ t.same;
      }

module _ {A : Type 0} (j : Rule A) {h h₁ h₂ : Heap} {p₁ p₂ : Pools} {loose : List Place} {rest : List Root} {at res : ℕ} {w : Worked} {whole : Stmts} where
  -- the jump becomes the newest result
  pub jump_pushed : Ends j h h₁ p₁ (stmt_at at ∷ loose) rest w whole
      → ((a : A) (r : Stmts)
      → Turns h₁ p₁ h₂ p₂ (stmt_at at ∷ []) (in_hand j w.target w.results a r []) ((stmt_at res, stmts_row (stmt_then (j.stmt a) r)) ∷ []))
      → Moved h h₂ p₂ loose ((stmt_at res, stmts_row whole) ∷ rest)
  jump_pushed e push =
      let n = e.here in
      let m = push n.argument n.results loose rest n.moved.owned in
      record {
        owned = subst (λ (r : Stmts). Owns h₂ p₂ loose ((stmt_at res, stmts_row r) ∷ rest)) (sym e.same) m.owned;
        kept = kept_both (kept_others n.moved.kept) m.kept;
      }

-- as many turns as there are statements are too many
pub loop_no_more : {A : Type 0} (j : Rule A) {h h₁ : Heap} {p₁ : Pools} {loose : List Place} {rest : List Root} {w : Worked} {whole : Stmts} {i : ℕ}
    → Looped j h h₁ p₁ loose rest w whole i → length h₁.stmts ≤ i → ⊥
loop_no_more j l k = let f = l.going.fewer in let b = l.left in omega arith
