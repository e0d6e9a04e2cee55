-- Whether some statement of a row is such: the walk along the row.
use Rattle.std.proofs.Common.{◌≡◌, ℕ, zero, suc, ◌≤◌, Bool, true, false, ◌||◌, ◌⊎◌, inl, inr, List, [], ◌∷◌, length, get_or, refl, sym, ap, ◌∙◌, arith}
use Rattle.script.specs.Sound.{records_stmts}
use Rattle.script.specs.Tree.{Stmts, no_stmts, stmt_then}
use Rattle.records.specs.declared.record.StmtRecord.{StmtRecord}
use Rattle.records.specs.Embedding.{stmts_row}
use Rattle.records.specs.Heap.{blank_stmt, stmt_at}
use Rattle.records.specs.Readable.{tables}
use Rattle.records.specs.Rows.{At}
use Rattle.records.specs.Turning.{stmt_next}
use Rattle.records.proofs.Tables.{stmts_tabled}
use Rattle.predicates.specs.Within.{TellsSome}
use Rattle.records.specs.Walked.{walked}
use Rattle.moves.proofs.Told.{told_stmt_next, told_stmt_within}
use Rattle.records.proofs.Walked.{walked_end, walked_node}
use Rattle.rules.proofs.BudgetUnreachable.{some_statement}

-- the answer for one of these statements is yes, or it is no for all
abbrev pub SomeMet : (ℕ → Bool → Type 0) → List (ℕ × StmtRecord) → Bool → Type 0
SomeMet answers [] r = r ≡ false
SomeMet answers (x ∷ xs) r = (answers x.0 true × (r ≡ true)) ⊎ (answers x.0 false × SomeMet answers xs r)

-- so a walk along a row tells it of the row
pub some_told : (answers : ℕ → Bool → Type 0) (stmts : List StmtRecord) (row : ℕ) (r : Bool) → SomeMet answers (walked stmt_next stmts row (length stmts)) r
    → TellsSome answers stmts row r
some_told answers stmts row r m fact facts bound has tells es ds xs s a b l = on row (length stmts) xs a b (omega arith) m
  where
    on : (i n : ℕ) (ys : Stmts) → At (tables es stmts ds) (stmt_at i) (stmts_row ys) → (records_stmts ys).stmts ≤ bound → (records_stmts ys).stmts ≤ n
        → SomeMet answers (walked stmt_next stmts i n) r
        → r ≡ facts ys
    on i n no_stmts a b c m = (rw (walked_end stmts_tabled (tables es stmts ds) i n s a) at m) ∙ sym has.none
    on i zero (stmt_then y ys) a b c m = let o = some_statement y in absurd (omega arith)
    on i (suc n) (stmt_then y ys) a b c m =
        let o = some_statement y in
        by (on (get_or stmts i blank_stmt).next n ys (told_stmt_next (tables es stmts ds) i y (stmts_row ys) refl a) (omega arith) (omega arith))
        (rw (walked_node stmts_tabled (tables es stmts ds) i n (told_stmt_within (tables es stmts ds) i y (stmts_row ys) refl a)) at m)
      where
        told : (v : Bool) → answers i v → (v || facts ys) ≡ facts (stmt_then y ys)
        told v t = sym (has.more y ys ∙ ap (λ (u : Bool). u || facts ys) (sym (tells i v t es ds y (stmts_row ys) s a (omega arith) l)))

        by : {met : Type 0} → (met → r ≡ facts ys) → (answers i true × (r ≡ true)) ⊎ (answers i false × met) → r ≡ facts (stmt_then y ys)
        by later (inl t) = t.1 ∙ told true t.0
        by later (inr t) = later t.1 ∙ told false t.0
