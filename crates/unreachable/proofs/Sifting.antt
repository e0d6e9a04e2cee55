-- Dead statements that are sifted: let and const onto the results, the others given back.
use Rattle.std.proofs.Common.{◌≡◌, ℕ, ◌+◌, Bool, true, false, cond, ◌≢◌, List, [], ◌∷◌, sym, refl, ap, ◌∙◌, subst, arith}
use Rattle.pool.specs.Chain.{nowhere}
use Rattle.script.specs.Sound.{count_stmts}
use Rattle.script.specs.Tree.{Stmt, Stmts, no_stmts, stmt_then}
use Rattle.records.specs.declared.record.DeclRecord.{DeclRecord}
use Rattle.records.specs.declared.record.ExprRecord.{ExprRecord}
use Rattle.records.specs.declared.record.Pools.{Pools}
use Rattle.records.specs.declared.record.StmtRecord.{StmtRecord}
use Rattle.records.specs.Embedding.{stmt_row, stmts_row}
use Rattle.records.specs.Heap.{Heap, Place, stmt_at}
use Rattle.records.specs.Owned.{Owns, Root}
use Rattle.records.specs.Readable.{tables}
use Rattle.records.specs.Rows.{Row, end}
use Rattle.records.proofs.Moves.{end_out}
use Rattle.rules.specs.Statements.{push_all, statement_cares_about_scope}
use Rattle.rules.specs.Unreachable.{lexical_declarations}
use Rattle.moves.specs.Moved.{Moved, Turns}
use Rattle.moves.proofs.Frames.{regroup, then_move}

-- what is owned in tables is owned in others that are the same
pub in_same : {h : Heap} {p : Pools} {loose : List Place} {roots : List Root} {es es' : List ExprRecord} {ss ss' : List StmtRecord} {ds ds' : List DeclRecord}
    → es' ≡ es → ss' ≡ ss → ds' ≡ ds → Moved h (tables es ss ds) p loose roots → Moved h (tables es' ss' ds') p loose roots
in_same e f g m = rw (e, f, g) m

-- a let or const is linked before the results
pub sift_keeps : {h h₁ : Heap} {p : Pools} {loose : List Place} {others : List Root} {at rest : ℕ} (x : Stmt) (w : Row) (r : Stmts)
    → statement_cares_about_scope x ≡ true
    → Moved h h₁ p loose ((stmt_at rest, w) ∷ (stmt_at at, stmt_row x (stmts_row r)) ∷ others)
    → Moved h h₁ p loose ((stmt_at rest, w) ∷ (stmt_at at, stmts_row (cond (statement_cares_about_scope x) (stmt_then x r) r)) ∷ others)
sift_keeps x w r e m = rw e m

module _ {h h₁ h₂ : Heap} {p p₂ : Pools} {loose : List Place} {others : List Root} {at results rest : ℕ} where
  -- another statement is cut off its row and given back
  pub sift_drops : (x : Stmt) (w : Row) (r : Stmts) → statement_cares_about_scope x ≡ false
      → Turns h p h₁ p [] ((stmt_at at, stmt_row x w) ∷ []) ((stmt_at at, stmt_row x end) ∷ (stmt_at rest, w) ∷ [])
      → Turns h₁ p h₂ p₂ [] ((stmt_at at, stmt_row x end) ∷ []) []
      → Owns h p loose ((stmt_at at, stmt_row x w) ∷ (stmt_at results, stmts_row r) ∷ others)
      → Moved h h₂ p₂ loose ((stmt_at rest, w) ∷ (stmt_at results, stmts_row (cond (statement_cares_about_scope x) (stmt_then x r) r)) ∷ others)
  sift_drops x w r e cuts drops o =
      rw e
      (then_move (cuts loose ((stmt_at results, stmts_row r) ∷ others) o)
      (λ q. drops loose ((stmt_at rest, w) ∷ (stmt_at results, stmts_row r) ∷ others) q))

-- n of the statements are sifted
pub record HalfSifted (h h' : Heap) (p' : Pools) (loose : List Place) (others : List Root) (xs r : Stmts) (pushed at n : ℕ) : Type 0 where
  pub done : Stmts
  pub left : Stmts
  pub moved : Moved h h' p' loose ((stmt_at at, stmts_row left) ∷ (stmt_at pushed, stmts_row done) ∷ others)
  pub same : push_all (lexical_declarations left) done ≡ push_all (lexical_declarations xs) r
  pub counted : count_stmts left + n ≡ count_stmts xs

abbrev pub Sifting : Heap → Heap → Pools → Pools → ℕ → ℕ → ℕ → ℕ → ℕ → Type 0
Sifting h h' p p' row results pushed at n =
    (xs r : Stmts) (loose : List Place) (others : List Root) → Owns h p loose ((stmt_at row, stmts_row xs) ∷ (stmt_at results, stmts_row r) ∷ others)
    → HalfSifted h h' p' loose others xs r pushed at n

pub sifted_first : (x : Stmt) (xs r : Stmts)
    → push_all (lexical_declarations xs) (cond (statement_cares_about_scope x) (stmt_then x r) r) ≡ push_all (lexical_declarations (stmt_then x xs)) r
sifted_first x xs r = by (statement_cares_about_scope x)
  where
    by : (b : Bool) → push_all (lexical_declarations xs) (cond b (stmt_then x r) r)
        ≡ push_all (cond b (stmt_then x (lexical_declarations xs)) (lexical_declarations xs)) r
    by true = refl
    by false = refl

pub one_sifted : (h h₁ h₂ : Heap) (p p₁ p₂ : Pools) (row results pushed at pushed' at' n : ℕ) → at ≢ nowhere → Sifting h h₁ p p₁ row results pushed at n
    → ((x : Stmt) (w : Row) (r : Stmts)
    → Turns h₁ p₁ h₂ p₂ [] ((stmt_at at, stmt_row x w) ∷ (stmt_at pushed, stmts_row r) ∷ [])
    ((stmt_at at', w) ∷ (stmt_at pushed', stmts_row (cond (statement_cares_about_scope x) (stmt_then x r) r)) ∷ []))
    → Sifting h h₂ p p₂ row results pushed' at' (n + 1)
one_sifted h h₁ h₂ p p₁ p₂ row results pushed at pushed' at' n ne inv sifts xs r loose others o =
    let t = inv xs r loose others o in by t.done t.left t.moved t.same t.counted
  where
    by : (done left : Stmts) → Moved h h₁ p₁ loose ((stmt_at at, stmts_row left) ∷ (stmt_at pushed, stmts_row done) ∷ others)
        → push_all (lexical_declarations left) done ≡ push_all (lexical_declarations xs) r → count_stmts left + n ≡ count_stmts xs
        → HalfSifted h h₂ p₂ loose others xs r pushed' at' (n + 1)
    by done no_stmts m e c = absurd (ne m.owned.held.0)
    by done (stmt_then x ys) m e c = record {
      done = cond (statement_cares_about_scope x) (stmt_then x done) done;
      left = ys;
      moved = then_move m (λ q. sifts x (stmts_row ys) done loose others q);
      same = sifted_first x ys done ∙ e;
      counted = omega arith;
    }

pub all_sifted : {h h' : Heap} {p' : Pools} {loose : List Place} {others : List Root} {xs r : Stmts} {pushed at n : ℕ}
    → (t : HalfSifted h h' p' loose others xs r pushed at n) → t.left ≡ no_stmts
    → Moved h h' p' loose ((stmt_at pushed, stmts_row (push_all (lexical_declarations xs) r)) ∷ others)
all_sifted {h} {h'} {p'} {loose} {others} {xs} {r} {pushed} {at} t e =
    let f : push_all (lexical_declarations xs) r ≡ t.done = sym t.same ∙ ap (λ (l : Stmts). push_all (lexical_declarations l) t.done) e in
    rw f
    (regroup (subst (λ (l : Stmts). Moved h h' p' loose ((stmt_at at, stmts_row l) ∷ (stmt_at pushed, stmts_row t.done) ∷ others)) e t.moved)
    (λ q. end_out q))
