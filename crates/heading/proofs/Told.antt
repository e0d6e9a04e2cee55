-- What the records of a row tell of its first tree.
use Rattle.std.proofs.Common.{◌≡◌, ℕ, ◌≤◌, true, eqb, ◌≢◌, List, ◌∷◌, length, get_or, sym, refl, ap, ◌∙◌, subst, arith, eq-eqb, ne_eqb}
use Rattle.pool.specs.Chain.{nowhere}
use Rattle.script.specs.declared.StatementKind.TheVariants as kind
use Rattle.script.specs.Judge.{Spares}
use Rattle.script.specs.Sound.{records_cases}
use Rattle.script.specs.Tree.{Cases, Expr, Stmt, Stmts, no_stmts, stmt_then}
use Rattle.records.specs.declared.record.Pools.{Pools}
use Rattle.records.specs.Embedding.{cases_row, expr_row, stmt_row, stmts_row}
use Rattle.records.specs.Heap.{Heap, Label, Place, blank_stmt, expr_at, stmt_at}
use Rattle.records.specs.Owned.{Owns, Root, Short}
use Rattle.records.specs.Rows.{At, Row, end}
use Rattle.records.proofs.Balance.{balance}
use Rattle.records.proofs.Tallies.{lengths, records_cases_row}
use Rattle.moves.specs.First.{stmt_kind}
use Rattle.moves.proofs.ByKind.{stmt_of_kind}
use Rattle.moves.proofs.First.{stmt_first}
use Rattle.moves.proofs.Rows.{expr_within}
use Rattle.heading.specs.Cases.{is_a_block, is_one_block}
use Rattle.moves.proofs.Open.{label_stmt}
use Rattle.moves.proofs.Told.{stmt_within}

pub stmt_told : (h : Heap) (i : ℕ) (x : Stmt) (w : Row) → At h (stmt_at i) (stmt_row x w) → (get_or h.stmts i blank_stmt).kind ≡ stmt_kind x
stmt_told h i x w a =
    ap (λ (l : Label). label_stmt l (stmt_kind x)) (subst (λ (r : Row). At h (stmt_at i) r) (stmt_first x w) a).1

pub stmt_behind : (h : Heap) (i : ℕ) (x : Stmt) (w : Row) → At h (stmt_at i) (stmt_row x w) → At h (stmt_at (get_or h.stmts i blank_stmt).next) w
stmt_behind h i x w a = (subst (λ (r : Row). At h (stmt_at i) r) (stmt_first x w) a).5

-- a statement is not where a link leads nowhere
pub stmt_somewhere : (h : Heap) (i : ℕ) (x : Stmt) (w : Row) → Short h → At h (stmt_at i) (stmt_row x w) → i ≢ nowhere
stmt_somewhere h i x w s a e = let v = stmt_within h i x w a in let u = s.stmts in omega arith

pub expr_somewhere : (h : Heap) (i : ℕ) (e : Expr) (w : Row) → Short h → At h (expr_at i) (expr_row e w) → i ≢ nowhere
expr_somewhere h i e w s a z = let v = expr_within h i e w a in let u = s.exprs in omega arith

-- one block

a_block : (x : Stmt) → kind.Block ≡ stmt_kind x → is_a_block x ≡ true
a_block x e = let q = stmt_of_kind x e in rw q.1 refl

pub block_alone : (h : Heap) (i : ℕ) (xs : Stmts) → i ≢ nowhere → kind.Block ≡ (get_or h.stmts i blank_stmt).kind → Short h
    → At h (stmt_at i) (stmts_row xs) → eqb (get_or h.stmts i blank_stmt).next nowhere ≡ is_one_block xs
block_alone h i no_stmts ne k s a = absurd (ne a)
block_alone h i (stmt_then x no_stmts) ne k s a =
    eq-eqb (get_or h.stmts i blank_stmt).next nowhere (stmt_behind h i x end a) ∙ sym (a_block x (k ∙ stmt_told h i x end a))
block_alone h i (stmt_then x (stmt_then y ys)) ne k s a =
    ne_eqb (get_or h.stmts i blank_stmt).next nowhere
    (stmt_somewhere h (get_or h.stmts i blank_stmt).next y (stmts_row ys) s (stmt_behind h i x (stmts_row (stmt_then y ys)) a))

-- all records of the cases are in the tables
pub cases_fit : {h : Heap} {p : Pools} {loose : List Place} {rest : List Root} {i : ℕ} (cs : Cases) → Owns h p loose ((stmt_at i, cases_row cs) ∷ rest)
    → ((records_cases cs).exprs ≤ length h.exprs) × ((records_cases cs).stmts ≤ length h.stmts)
cases_fit {h} cs o =
    let r = records_cases_row cs in
    let b : (lengths h).exprs ≡ _ = ap (λ (s : Spares). s.exprs) (balance o) in
    let d : (lengths h).stmts ≡ _ = ap (λ (s : Spares). s.stmts) (balance o) in
    (omega arith, omega arith)
