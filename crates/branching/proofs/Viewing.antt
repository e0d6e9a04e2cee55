-- The first records of a statement tell which view it has.
use mathlib.Core.Path.{◌≡◌, ◌∙◌, ap, refl, sym}
use mathlib.Core.Bool.{false, true}
use mathlib.Core.List.{List}
use mathlib.Core.Logic.{◌≢◌}
use Prim.Native.Nat.{ℕ}
use native.Mathlib.Omega.{arith}
use borrow.Author.Tests.{eq-eqb, ne_eqb}
use lib.Dec.{eqb}
use lib.ListN.{get_or}
use Rattle.pool.specs.Chain.{nowhere}
use Rattle.script.specs.declared.StatementKind.TheVariants as kind
use Rattle.script.specs.Tree.{Alternate, Expr, Stmt, Stmts, alternate, block, break, continue, declaration, do_while, empty, expression, for, if_then}
use Rattle.script.specs.Tree.{no_alternate, no_stmts, return_of, stmt_then, switch, throw, while}
use Rattle.records.specs.declared.record.DeclRecord.{DeclRecord}
use Rattle.records.specs.declared.record.ExprRecord.{ExprRecord}
use Rattle.records.specs.declared.record.StmtRecord.{StmtRecord}
use Rattle.records.specs.Embedding.{alternate_row, expr_row, stmt_row, stmts_row}
use Rattle.records.specs.Heap.{Heap, Label, blank_expr, blank_stmt, expr_at, stmt_at, stmt_label}
use Rattle.records.specs.Owned.{Short}
use Rattle.records.specs.Readable.{tables}
use Rattle.records.specs.Rows.{At, Row, end, node}
use Rattle.rules.specs.Ifs.{branch?, empty?}
use Rattle.moves.specs.First.{expr_kind, stmt_decls, stmt_exprs, stmt_kind, stmt_stmts}
use Rattle.rules.specs.Folding.{is_if}
use Rattle.moves.proofs.ByKind.{stmt_of_kind}
use Rattle.moves.proofs.First.{stmt_first}
use Rattle.branching.specs.declared.views.Branch.TheVariants.{Expression, FullIf, LoneIf, Other}
use Rattle.branching.specs.Views.{Shows, branch_kind, is_nothing}
use Rattle.moves.proofs.Open.{label_stmt}
use Rattle.joining.proofs.WayToLast.{kind_there as expr_kind_there}

module _ (h : Heap) (i : ℕ) where
  first_there : (x : Stmt) (w : Row) → At h (stmt_at i) (stmt_row x w)
      → At h (stmt_at i) (node (stmt_label (stmt_kind x)) (stmt_exprs x) (stmt_stmts x) (stmt_decls x) w)
  first_there x w a = rw (stmt_first x w) at a

  pub kind_there : (x : Stmt) (w : Row) → At h (stmt_at i) (stmt_row x w) → (get_or h.stmts i blank_stmt).kind ≡ stmt_kind x
  kind_there x w a = ap (λ (l : Label). label_stmt l (stmt_kind x)) (first_there x w a).1

  -- a statement is somewhere
  pub somewhere : Short h → (x : Stmt) (w : Row) → At h (stmt_at i) (stmt_row x w) → i ≢ nowhere
  somewhere s x w a z = let v = (first_there x w a).0 in let u = s.stmts in omega arith

-- what stands behind, by the record that was read
pub behind_read : (h : Heap) (i : ℕ) (stmt : StmtRecord) → stmt ≡ get_or h.stmts i blank_stmt → (x : Stmt) (w : Row)
    → At h (stmt_at i) (stmt_row x w) → At h (stmt_at stmt.next) w
behind_read h i stmt r x w a = rw r (first_there h i x w a).5

-- the row of its statements
pub stmts_read : (h : Heap) (i : ℕ) (stmt : StmtRecord) → stmt ≡ get_or h.stmts i blank_stmt → (x : Stmt) (w : Row)
    → At h (stmt_at i) (stmt_row x w) → At h (stmt_at stmt.stmts) (stmt_stmts x)
stmts_read h i stmt r x w a = rw r (first_there h i x w a).3

-- the kind of an expression
pub expr_kind_read : (h : Heap) (i : ℕ) (expr : ExprRecord) → expr ≡ get_or h.exprs i blank_expr → (e : Expr) (w : Row)
    → At h (expr_at i) (expr_row e w) → expr.kind ≡ expr_kind e
expr_kind_read h i expr r e w a = rw r (expr_kind_there h i e w a)

-- the statement is empty, or a block of none

pub not_nothing : (x : Stmt) → (stmt_kind x ≢ kind.Empty) → (stmt_kind x ≢ kind.Block) → false ≡ is_nothing (empty? x)
not_nothing empty m n = absurd (m refl)
not_nothing (expression e) m n = refl
not_nothing (declaration k ds) m n = refl
not_nothing (return_of v) m n = refl
not_nothing (throw e) m n = refl
not_nothing (if_then t c a) m n = refl
not_nothing (block ss) m n = absurd (n refl)
not_nothing (while t b) m n = refl
not_nothing (do_while b t) m n = refl
not_nothing (for i t u b) m n = refl
not_nothing (switch d cs) m n = refl
not_nothing break m n = refl
not_nothing continue m n = refl

-- the row of a block leads nowhere if and only if it has none
pub block_nothing : (h : Heap) (i : ℕ) (ss : Stmts) → Short h → At h (stmt_at i) (stmts_row ss) → eqb i nowhere ≡ is_nothing (empty? (block ss))
block_nothing h i no_stmts s a = eq-eqb i nowhere a
block_nothing h i (stmt_then x xs) s a = ne_eqb i nowhere (somewhere h i s x (stmts_row xs) a)

-- a branch

pub other_branch : (x : Stmt) → (stmt_kind x ≢ kind.Expression) → (stmt_kind x ≢ kind.If) → Other ≡ branch_kind (branch? x)
other_branch empty m n = refl
other_branch (expression e) m n = absurd (m refl)
other_branch (declaration k ds) m n = refl
other_branch (return_of v) m n = refl
other_branch (throw e) m n = refl
other_branch (if_then t c a) m n = absurd (n refl)
other_branch (block ss) m n = refl
other_branch (while t b) m n = refl
other_branch (do_while b t) m n = refl
other_branch (for i t u b) m n = refl
other_branch (switch d cs) m n = refl
other_branch break m n = refl
other_branch continue m n = refl

-- nothing or something behind the consequent
pub lone_branch : (h : Heap) (i : ℕ) (t : Expr) (c : Stmt) (a : Alternate) → Short h → At h (stmt_at i) (alternate_row a) → i ≡ nowhere
    → LoneIf ≡ branch_kind (branch? (if_then t c a))
lone_branch h i t c no_alternate s b z = refl
lone_branch h i t c (alternate x) s b z = absurd (somewhere h i s x end b z)

pub full_branch : (h : Heap) (i : ℕ) (t : Expr) (c : Stmt) (a : Alternate) → Short h → At h (stmt_at i) (alternate_row a) → i ≢ nowhere
    → FullIf ≡ branch_kind (branch? (if_then t c a))
full_branch h i t c no_alternate s b n = absurd (n b)
full_branch h i t c (alternate x) s b n = refl

pub an_if : (t : Expr) (c : Stmt) (a : Alternate) → true ≡ is_if (branch? (if_then t c a))
an_if t c no_alternate = refl
an_if t c (alternate x) = refl

pub no_if : (x : Stmt) → (stmt_kind x ≢ kind.If) → false ≡ is_if (branch? x)
no_if empty n = refl
no_if (expression e) n = refl
no_if (declaration k ds) n = refl
no_if (return_of v) n = refl
no_if (throw e) n = refl
no_if (if_then t c a) n = absurd (n refl)
no_if (block ss) n = refl
no_if (while t b) n = refl
no_if (do_while b t) n = refl
no_if (for i t u b) n = refl
no_if (switch d cs) n = refl
no_if break n = refl
no_if continue n = refl

-- what the record that was read shows
module _ (stmts : List StmtRecord) (at : ℕ) (stmt : StmtRecord) (read : stmt ≡ get_or stmts at blank_stmt) where
  kind_read : (es : List ExprRecord) (ds : List DeclRecord) (x : Stmt) (w : Row) → At (tables es stmts ds) (stmt_at at) (stmt_row x w)
      → stmt.kind ≡ stmt_kind x
  kind_read es ds x w a = rw read (kind_there (tables es stmts ds) at x w a)

  pub empty_shown : stmt.kind ≡ kind.Empty → Shows (λ x. is_nothing (empty? x)) stmts at true
  empty_shown k es ds x w s a =
      rw (stmt_of_kind x (sym k ∙ kind_read es ds x w a)) refl

  pub block_shown : stmt.kind ≡ kind.Block → Shows (λ x. is_nothing (empty? x)) stmts at (eqb stmt.stmts nowhere)
  block_shown k es ds x w s a =
      let b = stmt_of_kind x (sym k ∙ kind_read es ds x w a) in
      rw b.1 (block_nothing (tables es stmts ds) stmt.stmts b.0 s (stmts_read (tables es stmts ds) at stmt read (block b.0) w (rw b.1 at a)))

  pub nothing_not_shown : (stmt.kind ≢ kind.Empty) → (stmt.kind ≢ kind.Block) → Shows (λ x. is_nothing (empty? x)) stmts at false
  nothing_not_shown m n es ds x w s a =
      not_nothing x (λ z. m (kind_read es ds x w a ∙ z)) (λ z. n (kind_read es ds x w a ∙ z))

  pub expression_shown : stmt.kind ≡ kind.Expression → Shows (λ x. branch_kind (branch? x)) stmts at Expression
  expression_shown k es ds x w s a =
      let b = stmt_of_kind x (sym k ∙ kind_read es ds x w a) in rw b.1 refl

  pub other_shown : (stmt.kind ≢ kind.Expression) → (stmt.kind ≢ kind.If) → Shows (λ x. branch_kind (branch? x)) stmts at Other
  other_shown m n es ds x w s a =
      other_branch x (λ z. m (kind_read es ds x w a ∙ z)) (λ z. n (kind_read es ds x w a ∙ z))

  pub if_shown : stmt.kind ≡ kind.If → Shows (λ x. is_if (branch? x)) stmts at true
  if_shown k es ds x w s a =
      let b = stmt_of_kind x (sym k ∙ kind_read es ds x w a) in rw b.3 (an_if b.0 b.1 b.2)

  pub no_if_shown : (stmt.kind ≢ kind.If) → Shows (λ x. is_if (branch? x)) stmts at false
  no_if_shown n es ds x w s a = no_if x (λ z. n (kind_read es ds x w a ∙ z))

  -- the consequent was read too
  module _ (consequent : StmtRecord) (told : consequent ≡ get_or stmts stmt.stmts blank_stmt) where
    behind_consequent : (es : List ExprRecord) (ds : List DeclRecord) (t : Expr) (c : Stmt) (a : Alternate) (w : Row)
        → At (tables es stmts ds) (stmt_at at) (stmt_row (if_then t c a) w) → At (tables es stmts ds) (stmt_at consequent.next) (alternate_row a)
    behind_consequent es ds t c a w there =
        behind_read (tables es stmts ds) stmt.stmts consequent told c (alternate_row a) (stmts_read (tables es stmts ds) at stmt read (if_then t c a) w there)

    pub lone_shown : stmt.kind ≡ kind.If → consequent.next ≡ nowhere → Shows (λ x. branch_kind (branch? x)) stmts at LoneIf
    lone_shown k z es ds x w s a =
        let b = stmt_of_kind x (sym k ∙ kind_read es ds x w a) in
        rw b.3 (lone_branch (tables es stmts ds) consequent.next b.0 b.1 b.2 s (behind_consequent es ds b.0 b.1 b.2 w (rw b.3 at a)) z)

    pub full_shown : stmt.kind ≡ kind.If → (consequent.next ≢ nowhere) → Shows (λ x. branch_kind (branch? x)) stmts at FullIf
    full_shown k n es ds x w s a =
        let b = stmt_of_kind x (sym k ∙ kind_read es ds x w a) in
        rw b.3 (full_branch (tables es stmts ds) consequent.next b.0 b.1 b.2 s (behind_consequent es ds b.0 b.1 b.2 w (rw b.3 at a)) n)
