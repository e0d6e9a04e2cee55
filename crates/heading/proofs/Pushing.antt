-- A block that is opened onto the results, or stays.
use Rattle.std.proofs.Common.{◌≡◌, ℕ, ◌≤◌, true, false, List, ◌∷◌, length, set, refl, ap, arith}
use Rattle.pool.specs.Chain.{nowhere}
use Rattle.script.specs.declared.StatementKind.TheVariants as kind
use Rattle.script.specs.Judge.{Spares}
use Rattle.script.specs.Sound.{records_stmts}
use Rattle.script.specs.Tree.{Stmts, block}
use Rattle.records.specs.declared.record.DeclRecord.{DeclRecord}
use Rattle.records.specs.declared.record.ExprRecord.{ExprRecord}
use Rattle.records.specs.declared.record.Pools.{Pools}
use Rattle.records.specs.declared.record.StmtRecord.{StmtRecord}
use Rattle.records.specs.Embedding.{stmt_row, stmts_row}
use Rattle.records.specs.Heap.{Heap, Place, decl_at, expr_at, stmt_at}
use Rattle.records.specs.Owned.{Owns, Root}
use Rattle.records.specs.Readable.{tables}
use Rattle.records.specs.Rows.{Row}
use Rattle.records.proofs.Balance.{balance}
use Rattle.records.proofs.Moves.{end_in, pick}
use Rattle.records.proofs.Tallies.{lengths, records_stmts_row}
use Rattle.rules.specs.Statements.{any_cares_about_scope, handle_block, push_all}
use Rattle.moves.specs.Moved.{Moved}
use Rattle.moves.proofs.Frames.{then_move}
use Rattle.moves.proofs.Open.{close_stmt}

-- all records of a row's statements are in the table
pub list_fits : {h : Heap} {p : Pools} {loose : List Place} {rest : List Root} {i : ℕ} (xs : Stmts)
    → Owns h p loose ((stmt_at i, stmts_row xs) ∷ rest) → (records_stmts xs).stmts ≤ length h.stmts
list_fits {h} xs o =
    let b : (lengths h).stmts ≡ _ = ap (λ (s : Spares). s.stmts) (balance o) in let r = records_stmts_row xs in omega arith

-- the block of a list in front of a row
abbrev pub block_record : ℕ → ℕ → StmtRecord
block_record list next = record { kind = kind.Block; exprs = nowhere; stmts = list; decls = nowhere; next = next }

module _ {es : List ExprRecord} {stmts : List StmtRecord} {ds : List DeclRecord} {p : Pools} {loose : List Place} {rest : List Root}
    {at list results : ℕ} where
  -- a loose record becomes the block of a list
  pub block_closed : (xs : Stmts) (w : Row) → Owns (tables es stmts ds) p (stmt_at at ∷ loose) ((stmt_at list, stmts_row xs) ∷ (stmt_at results, w) ∷ rest)
      → Moved (tables es stmts ds) (tables es (set stmts at (block_record list results)) ds) p loose ((stmt_at at, stmt_row (block xs) w) ∷ rest)
  block_closed xs w o =
      close_stmt (block xs) w (block_record list results) refl
      (end_in (expr_at nowhere) refl (pick 1 (end_in (decl_at nowhere) refl o)))

  -- a block that declares names of its own stays
  pub block_stays : (xs ys : Stmts) → any_cares_about_scope xs ≡ true
      → Owns (tables es stmts ds) p (stmt_at at ∷ loose) ((stmt_at list, stmts_row xs) ∷ (stmt_at results, stmts_row ys) ∷ rest)
      → Moved (tables es stmts ds) (tables es (set stmts at (block_record list results)) ds) p loose
      ((stmt_at at, stmts_row (handle_block xs ys)) ∷ rest)
  block_stays xs ys e o = rw e (block_closed xs (stmts_row ys) o)

-- one that declares none is opened, and its record is given back
pub block_opens : {h h₁ h₂ : Heap} {p₁ : Pools} {loose : List Place} {rest : List Root} {list results r : ℕ} (xs ys : Stmts)
    → any_cares_about_scope xs ≡ false
    → Moved h h₁ p₁ loose ((stmt_at list, stmts_row xs) ∷ (stmt_at results, stmts_row ys) ∷ rest)
    → (Owns h₁ p₁ loose ((stmt_at list, stmts_row xs) ∷ (stmt_at results, stmts_row ys) ∷ rest)
    → Moved h₁ h₂ p₁ loose ((stmt_at r, stmts_row (push_all xs ys)) ∷ rest))
    → Moved h h₂ p₁ loose ((stmt_at r, stmts_row (handle_block xs ys)) ∷ rest)
block_opens xs ys e m f = rw e (then_move m f)
