-- What is done to the rows of a table, told of trees.
use Rattle.std.proofs.Common.{◌≡◌, ℕ, List, [], ◌∷◌, sym, ap, ◌∙◌, subst}
use Rattle.script.specs.Tree.{Expr, Exprs, Stmt, Stmts, no_stmts, stmt_then}
use Rattle.records.specs.declared.record.DeclRecord.{DeclRecord}
use Rattle.records.specs.declared.record.ExprRecord.{ExprRecord}
use Rattle.records.specs.declared.record.Pools.{Pools}
use Rattle.records.specs.declared.record.StmtRecord.{StmtRecord}
use Rattle.records.specs.Embedding.{expr_row, exprs_row, stmt_row, stmts_row}
use Rattle.records.specs.Heap.{Label, expr_at, stmt_at}
use Rattle.records.specs.Readable.{tables}
use Rattle.records.specs.Rows.{Row, end, node}
use Rattle.records.specs.TableOf.{expr_table, stmt_table}
use Rattle.moves.specs.Front.{in_front, turned_onto}
use Rattle.moves.specs.Last.{exprs_before}
use Rattle.moves.specs.Moved.{Moved, Turns, TurnsTable}
use Rattle.moves.proofs.First.{expr_first, stmt_first}
use Rattle.moves.proofs.Rows.{in_front_exprs}
use Rattle.moves.proofs.Tabled.{appends_tree, detaches_tree, links_tree, relinks_tree}

module _ (exprs exprs' : List ExprRecord) (at : ℕ) where
  pub linked_expr : (row : ℕ)
      → ((l : Label) (x y z w : Row)
      → TurnsTable expr_table exprs exprs' ((expr_at at, node l x y z end) ∷ (expr_at row, w) ∷ []) ((expr_at at, node l x y z w) ∷ []))
      → (ss : List StmtRecord) (ds : List DeclRecord) (p : Pools) (e : Expr) (w : Row)
      → Turns (tables exprs ss ds) p (tables exprs' ss ds) p [] ((expr_at at, expr_row e end) ∷ (expr_at row, w) ∷ []) ((expr_at at, expr_row e w) ∷ [])
  linked_expr row f ss ds p e w = links_tree expr_table (expr_row e) (expr_first e) f w (tables [] ss ds) p

  pub detached_expr : (behind : ℕ)
      → ((l : Label) (x y z w : Row)
      → TurnsTable expr_table exprs exprs' ((expr_at at, node l x y z w) ∷ []) ((expr_at at, node l x y z end) ∷ (expr_at behind, w) ∷ []))
      → (ss : List StmtRecord) (ds : List DeclRecord) (p : Pools) (e : Expr) (w : Row)
      → Turns (tables exprs ss ds) p (tables exprs' ss ds) p [] ((expr_at at, expr_row e w) ∷ []) ((expr_at at, expr_row e end) ∷ (expr_at behind, w) ∷ [])
  detached_expr behind f ss ds p e w = detaches_tree expr_table (expr_row e) (expr_first e) f w (tables [] ss ds) p

  pub appended_exprs : (row : ℕ)
      → ((l : Label) (x y z v w : Row)
      → TurnsTable expr_table exprs exprs' ((expr_at at, node l x y z v) ∷ (expr_at row, w) ∷ []) ((expr_at at, node l x y z (in_front v w)) ∷ []))
      → (ss : List StmtRecord) (ds : List DeclRecord) (p : Pools) (e : Expr) (es : Exprs) (w : Row)
      → Turns (tables exprs ss ds) p (tables exprs' ss ds) p
      [] ((expr_at at, expr_row e (exprs_row es)) ∷ (expr_at row, w) ∷ []) ((expr_at at, expr_row e (exprs_before es w)) ∷ [])
  appended_exprs row f ss ds p e es w loose rest o =
      subst (λ (r : Row). Moved (tables exprs ss ds) (tables exprs' ss ds) p loose ((expr_at at, expr_row e r) ∷ rest)) (in_front_exprs es w)
      (appends_tree expr_table (expr_row e) (expr_first e) f (exprs_row es) w (tables [] ss ds) p loose rest o)

module _ (stmts stmts' : List StmtRecord) (at : ℕ) where
  pub linked_stmt : (row : ℕ)
      → ((l : Label) (x y z w : Row)
      → TurnsTable stmt_table stmts stmts' ((stmt_at at, node l x y z end) ∷ (stmt_at row, w) ∷ []) ((stmt_at at, node l x y z w) ∷ []))
      → (es : List ExprRecord) (ds : List DeclRecord) (p : Pools) (x : Stmt) (w : Row)
      → Turns (tables es stmts ds) p (tables es stmts' ds) p [] ((stmt_at at, stmt_row x end) ∷ (stmt_at row, w) ∷ []) ((stmt_at at, stmt_row x w) ∷ [])
  linked_stmt row f es ds p x w = links_tree stmt_table (stmt_row x) (stmt_first x) f w (tables es [] ds) p

  pub relinked_stmt : (row behind : ℕ)
      → ((l : Label) (x y z w v : Row)
      → TurnsTable stmt_table stmts stmts' ((stmt_at at, node l x y z w) ∷ (stmt_at row, v) ∷ []) ((stmt_at behind, w) ∷ (stmt_at at, node l x y z v) ∷ []))
      → (es : List ExprRecord) (ds : List DeclRecord) (p : Pools) (x : Stmt) (w v : Row)
      → Turns (tables es stmts ds) p (tables es stmts' ds) p
      [] ((stmt_at at, stmt_row x w) ∷ (stmt_at row, v) ∷ []) ((stmt_at behind, w) ∷ (stmt_at at, stmt_row x v) ∷ [])
  relinked_stmt row behind f es ds p x w v = relinks_tree stmt_table (stmt_row x) (stmt_first x) f w v (tables es [] ds) p

  pub detached_stmt : (behind : ℕ)
      → ((l : Label) (x y z w : Row)
      → TurnsTable stmt_table stmts stmts' ((stmt_at at, node l x y z w) ∷ []) ((stmt_at at, node l x y z end) ∷ (stmt_at behind, w) ∷ []))
      → (es : List ExprRecord) (ds : List DeclRecord) (p : Pools) (x : Stmt) (w : Row)
      → Turns (tables es stmts ds) p (tables es stmts' ds) p [] ((stmt_at at, stmt_row x w) ∷ []) ((stmt_at at, stmt_row x end) ∷ (stmt_at behind, w) ∷ [])
  detached_stmt behind f es ds p x w = detaches_tree stmt_table (stmt_row x) (stmt_first x) f w (tables es [] ds) p

  -- the statements of a list one after the other in front of another list, by any function that does so
  module _ (push : Stmts → Stmts → Stmts) (none : (ys : Stmts) → push no_stmts ys ≡ ys)
      (some : (x : Stmt) (xs ys : Stmts) → push (stmt_then x xs) ys ≡ push xs (stmt_then x ys)) where
    turned_stmts : (xs ys : Stmts) → turned_onto (stmts_row xs) (stmts_row ys) ≡ stmts_row (push xs ys)
    turned_stmts no_stmts ys = sym (ap stmts_row (none ys))
    turned_stmts (stmt_then x xs) ys =
        ap (λ (r : Row). turned_onto r (stmts_row ys)) (stmt_first x (stmts_row xs))
        ∙ ap (turned_onto (stmts_row xs)) (sym (stmt_first x (stmts_row ys)))
        ∙ turned_stmts xs (stmt_then x ys)
        ∙ sym (ap stmts_row (some x xs ys))

    pub pushed_stmts : (onto pushed : ℕ)
        → ((v w : Row) → TurnsTable stmt_table stmts stmts' ((stmt_at at, v) ∷ (stmt_at onto, w) ∷ []) ((stmt_at pushed, turned_onto v w) ∷ []))
        → (es : List ExprRecord) (ds : List DeclRecord) (p : Pools) (xs ys : Stmts)
        → Turns (tables es stmts ds) p (tables es stmts' ds) p
        [] ((stmt_at at, stmts_row xs) ∷ (stmt_at onto, stmts_row ys) ∷ []) ((stmt_at pushed, stmts_row (push xs ys)) ∷ [])
    pushed_stmts onto pushed f es ds p xs ys loose rest o =
        subst (λ (r : Row). Moved (tables es stmts ds) (tables es stmts' ds) p loose ((stmt_at pushed, r) ∷ rest)) (turned_stmts xs ys)
        (f (stmts_row xs) (stmts_row ys) (tables es [] ds) p loose rest o)
