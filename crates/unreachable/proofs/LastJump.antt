-- What is owned after a jump at the end of a list went.
use Rattle.std.proofs.Common.{◌≡◌, ℕ, true, false, T, ◌≢◌, List, ◌∷◌, get_or, sym, refl, subst}
use Rattle.pool.specs.Chain.{nowhere}
use Rattle.script.specs.Tree.{Stmt, Stmts, absent, no_stmts, present, stmt_then}
use Rattle.script.specs.Tree.{block, break, continue, declaration, do_while, empty, expression, for, if_then, return_of, switch, throw, while}
use Rattle.records.specs.declared.record.Pools.{Pools}
use Rattle.records.specs.Embedding.{stmt_row, stmts_row}
use Rattle.records.specs.Heap.{Heap, Place, blank_stmt, stmt_at}
use Rattle.records.specs.Owned.{Owns, Root}
use Rattle.records.specs.Rows.{Row, end}
use Rattle.records.proofs.Moves.{end_out}
use Rattle.rules.specs.Holder.{Holder}
use Rattle.rules.specs.Jumps.{can_remove_termination_statement, drop_last_jump}
use Rattle.moves.specs.First.{stmt_decls, stmt_exprs, stmt_stmts}
use Rattle.moves.specs.Moved.{Moved}
use Rattle.moves.proofs.Frames.{stays}
use Rattle.moves.proofs.Open.{open_stmt}

-- a statement without parts
pub record Bare (x : Stmt) : Type 0 where
  pub exprs : stmt_exprs x ≡ end
  pub stmts : stmt_stmts x ≡ end
  pub decls : stmt_decls x ≡ end

-- a jump that may go has no parts
pub removed_bare : (k : Holder) (x : Stmt) → can_remove_termination_statement k x ≡ true → Bare x
removed_bare k empty e = absurd (subst T (sym e) tt)
removed_bare k (expression v) e = absurd (subst T (sym e) tt)
removed_bare k (declaration c ds) e = absurd (subst T (sym e) tt)
removed_bare k (return_of absent) e = record { exprs = refl; stmts = refl; decls = refl }
removed_bare k (return_of (present v)) e = absurd (subst T (sym e) tt)
removed_bare k (throw v) e = absurd (subst T (sym e) tt)
removed_bare k (if_then t c a) e = absurd (subst T (sym e) tt)
removed_bare k (block ss) e = absurd (subst T (sym e) tt)
removed_bare k (while t b) e = absurd (subst T (sym e) tt)
removed_bare k (do_while b t) e = absurd (subst T (sym e) tt)
removed_bare k (for i t u b) e = absurd (subst T (sym e) tt)
removed_bare k (switch d cs) e = absurd (subst T (sym e) tt)
removed_bare k break e = record { exprs = refl; stmts = refl; decls = refl }
removed_bare k continue e = record { exprs = refl; stmts = refl; decls = refl }

-- an empty row is no root
pub no_row : {h : Heap} {p : Pools} {loose : List Place} {rest : List Root} {k : Place} {r : Row} → r ≡ end → Owns h p loose ((k, r) ∷ rest)
    → Owns h p loose rest
no_row {h} {p} {loose} {rest} {k} e o = end_out (subst (λ (v : Row). Owns h p loose ((k, v) ∷ rest)) e o)

-- a statement without parts is a loose record before the others
pub open_bare : {h : Heap} {p : Pools} {loose : List Place} {rest : List Root} {i : ℕ} (x : Stmt) (w : Row) → Bare x
    → Owns h p loose ((stmt_at i, stmt_row x w) ∷ rest)
    → Owns h p (stmt_at i ∷ loose) ((stmt_at (get_or h.stmts i blank_stmt).next, w) ∷ rest)
open_bare x w b o = no_row b.decls (no_row b.stmts (no_row b.exprs (open_stmt x w o)))

-- the newest result stays
pub jump_stays : {h : Heap} {p : Pools} {loose : List Place} {others : List Root} {i : ℕ} (k : Holder) (rs : Stmts)
    → ((x : Stmt) (w : Row) → Owns h p loose ((stmt_at i, stmt_row x w) ∷ others) → can_remove_termination_statement k x ≡ false)
    → Owns h p loose ((stmt_at i, stmts_row rs) ∷ others)
    → Moved h h p loose ((stmt_at i, stmts_row (drop_last_jump k rs)) ∷ others)
jump_stays k no_stmts f o = stays o
jump_stays k (stmt_then x rs) f o = rw (f x (stmts_row rs) o) (stays o)

-- it goes, and its record is given back
pub jump_goes : {h h' : Heap} {p p' : Pools} {loose : List Place} {others : List Root} {i : ℕ} (k : Holder) (rs : Stmts) → (i ≢ nowhere)
    → ((x : Stmt) (w : Row) → Owns h p loose ((stmt_at i, stmt_row x w) ∷ others) → can_remove_termination_statement k x ≡ true)
    → ((roots : List Root) → Owns h p (stmt_at i ∷ loose) roots → Moved h h' p' loose roots)
    → Owns h p loose ((stmt_at i, stmts_row rs) ∷ others)
    → Moved h h' p' loose ((stmt_at (get_or h.stmts i blank_stmt).next, stmts_row (drop_last_jump k rs)) ∷ others)
jump_goes k no_stmts ne f gives o = absurd (ne o.held.0)
jump_goes k (stmt_then x rs) ne f gives o =
    let e = f x (stmts_row rs) o in rw e (gives _ (open_bare x (stmts_row rs) (removed_bare k x e) o))
