-- What a record that was read tells of the tree at its place.
use Rattle.std.proofs.Common.{◌≡◌, ℕ, ◌<◌, length, get_or, sym, ap, ◌∙◌, subst}
use Rattle.script.specs.Tree.{Expr, Stmt}
use Rattle.records.specs.declared.record.ExprRecord.{ExprRecord}
use Rattle.records.specs.declared.record.StmtRecord.{StmtRecord}
use Rattle.records.specs.Embedding.{expr_row, stmt_row}
use Rattle.records.specs.Heap.{Heap, Label, blank_expr, blank_stmt, decl_at, expr_at, expr_label, stmt_at, stmt_label}
use Rattle.records.specs.Rows.{At, Row, end, node}
use Rattle.moves.specs.First.{expr_kind, expr_parts, stmt_decls, stmt_exprs, stmt_kind, stmt_stmts}
use Rattle.moves.proofs.First.{expr_first, stmt_first}
use Rattle.moves.proofs.Open.{label_expr, label_stmt}

module _ (h : Heap) (i : ℕ) (e : Expr) (w : Row) {r : ExprRecord} (told : r ≡ get_or h.exprs i blank_expr) (a : At h (expr_at i) (expr_row e w)) where
  there_expr : At h (expr_at i) (node (expr_label (expr_kind e)) (expr_parts e) end end w)
  there_expr = subst (λ (v : Row). At h (expr_at i) v) (expr_first e w) a

  pub told_expr_within : i < length h.exprs
  told_expr_within = there_expr.0

  pub told_expr_kind : r.kind ≡ expr_kind e
  told_expr_kind = ap (λ (v : ExprRecord). v.kind) told ∙ ap (λ (l : Label). label_expr l (expr_kind e)) there_expr.1

  pub told_expr_parts : At h (expr_at r.first) (expr_parts e)
  told_expr_parts = subst (λ (v : ExprRecord). At h (expr_at v.first) (expr_parts e)) (sym told) there_expr.2

  pub told_expr_next : At h (expr_at r.next) w
  told_expr_next = subst (λ (v : ExprRecord). At h (expr_at v.next) w) (sym told) there_expr.5

module _ (h : Heap) (i : ℕ) (x : Stmt) (w : Row) {r : StmtRecord} (told : r ≡ get_or h.stmts i blank_stmt) (a : At h (stmt_at i) (stmt_row x w)) where
  there_stmt : At h (stmt_at i) (node (stmt_label (stmt_kind x)) (stmt_exprs x) (stmt_stmts x) (stmt_decls x) w)
  there_stmt = subst (λ (v : Row). At h (stmt_at i) v) (stmt_first x w) a

  pub told_stmt_within : i < length h.stmts
  told_stmt_within = there_stmt.0

  pub told_stmt_kind : r.kind ≡ stmt_kind x
  told_stmt_kind = ap (λ (v : StmtRecord). v.kind) told ∙ ap (λ (l : Label). label_stmt l (stmt_kind x)) there_stmt.1

  pub told_stmt_exprs : At h (expr_at r.exprs) (stmt_exprs x)
  told_stmt_exprs = subst (λ (v : StmtRecord). At h (expr_at v.exprs) (stmt_exprs x)) (sym told) there_stmt.2

  pub told_stmt_stmts : At h (stmt_at r.stmts) (stmt_stmts x)
  told_stmt_stmts = subst (λ (v : StmtRecord). At h (stmt_at v.stmts) (stmt_stmts x)) (sym told) there_stmt.3

  pub told_stmt_decls : At h (decl_at r.decls) (stmt_decls x)
  told_stmt_decls = subst (λ (v : StmtRecord). At h (decl_at v.decls) (stmt_decls x)) (sym told) there_stmt.4

  pub told_stmt_next : At h (stmt_at r.next) w
  told_stmt_next = subst (λ (v : StmtRecord). At h (stmt_at v.next) w) (sym told) there_stmt.5

-- a statement stands within its table
pub stmt_within : (h : Heap) (i : ℕ) (x : Stmt) (w : Row) → At h (stmt_at i) (stmt_row x w) → i < length h.stmts
stmt_within h i x w a = (subst (λ (r : Row). At h (stmt_at i) r) (stmt_first x w) a).0
