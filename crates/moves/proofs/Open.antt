-- A tree's first record opened: it is loose then, and its parts and what follows are roots; and written again.
use Rattle.std.proofs.Common.{◌≡◌, ℕ, List, ◌∷◌, get_or, set, sym, ap, ◌∙◌, subst}
use Rattle.script.specs.declared.ExpressionKind.{ExpressionKind}
use Rattle.script.specs.declared.StatementKind.{StatementKind}
use Rattle.script.specs.Tree.{Declarators, Expr, OptionalExpr, Stmt, declarator_then}
use Rattle.records.specs.declared.record.DeclRecord.{DeclRecord}
use Rattle.records.specs.declared.record.ExprRecord.{ExprRecord}
use Rattle.records.specs.declared.record.Pools.{Pools}
use Rattle.records.specs.declared.record.StmtRecord.{StmtRecord}
use Rattle.records.specs.Embedding.{declarators_row, expr_row, optional_row, stmt_row}
use Rattle.records.specs.Heap.{Heap, Label, Place, blank_decl, blank_expr, blank_stmt, decl_at, decl_label, expr_at, expr_label, stmt_at, stmt_label}
use Rattle.records.specs.Owned.{Owns, Root}
use Rattle.records.specs.Rows.{At, Row, end, node}
use Rattle.records.proofs.Moves.{end_out, opened, pick}
use Rattle.moves.specs.First.{expr_kind, expr_parts, stmt_decls, stmt_exprs, stmt_kind, stmt_stmts}
use Rattle.moves.specs.Moved.{Moved}
use Rattle.moves.proofs.First.{expr_first, stmt_first}
use Rattle.moves.proofs.Single.{put_decl_of, put_expr_of, put_stmt_of}

-- the kind that a label tells
abbrev pub label_expr : Label → ExpressionKind → ExpressionKind
label_expr (expr_label k) d = k
label_expr (stmt_label k) d = d
label_expr (decl_label n) d = d

abbrev pub label_stmt : Label → StatementKind → StatementKind
label_stmt (expr_label k) d = d
label_stmt (stmt_label k) d = k
label_stmt (decl_label n) d = d

abbrev pub label_name : Label → ℕ
label_name (expr_label k) = 0
label_name (stmt_label k) = 0
label_name (decl_label n) = n

module _ {h : Heap} {p : Pools} {loose : List Place} {rest : List Root} {i : ℕ} where
  -- what the record at a place tells of the tree there
  pub kind_of_expr : (e : Expr) (w : Row) → Owns h p loose ((expr_at i, expr_row e w) ∷ rest) → (get_or h.exprs i blank_expr).kind ≡ expr_kind e
  kind_of_expr e w o =
      let a = subst (λ (r : Row). At h (expr_at i) r) (expr_first e w) o.held.0 in ap (λ (l : Label). label_expr l (expr_kind e)) a.1

  pub kind_of_stmt : (x : Stmt) (w : Row) → Owns h p loose ((stmt_at i, stmt_row x w) ∷ rest) → (get_or h.stmts i blank_stmt).kind ≡ stmt_kind x
  kind_of_stmt x w o =
      let a = subst (λ (r : Row). At h (stmt_at i) r) (stmt_first x w) o.held.0 in ap (λ (l : Label). label_stmt l (stmt_kind x)) a.1

  pub name_of_decl : (n : ℕ) (v : OptionalExpr) (ds : Declarators) → Owns h p loose ((decl_at i, declarators_row (declarator_then n v ds)) ∷ rest)
      → (get_or h.decls i blank_decl).name ≡ n
  name_of_decl n v ds o = ap label_name o.held.0.1

  pub open_expr : (e : Expr) (w : Row) → Owns h p loose ((expr_at i, expr_row e w) ∷ rest)
      → Owns h p (expr_at i ∷ loose)
      ((expr_at (get_or h.exprs i blank_expr).first, expr_parts e) ∷ (expr_at (get_or h.exprs i blank_expr).next, w) ∷ rest)
  open_expr e w o =
      end_out (pick 1 (end_out (pick 1 (opened (subst (λ (r : Row). Owns h p loose ((expr_at i, r) ∷ rest)) (expr_first e w) o)))))

  pub open_stmt : (x : Stmt) (w : Row) → Owns h p loose ((stmt_at i, stmt_row x w) ∷ rest)
      → Owns h p (stmt_at i ∷ loose)
      ((expr_at (get_or h.stmts i blank_stmt).exprs, stmt_exprs x) ∷ (stmt_at (get_or h.stmts i blank_stmt).stmts, stmt_stmts x)
      ∷ (decl_at (get_or h.stmts i blank_stmt).decls, stmt_decls x) ∷ (stmt_at (get_or h.stmts i blank_stmt).next, w) ∷ rest)
  open_stmt x w o = opened (subst (λ (r : Row). Owns h p loose ((stmt_at i, r) ∷ rest)) (stmt_first x w) o)

  pub open_decl : (n : ℕ) (v : OptionalExpr) (ds : Declarators) → Owns h p loose ((decl_at i, declarators_row (declarator_then n v ds)) ∷ rest)
      → Owns h p (decl_at i ∷ loose)
      ((expr_at (get_or h.decls i blank_decl).value, optional_row v end) ∷ (decl_at (get_or h.decls i blank_decl).next, declarators_row ds) ∷ rest)
  open_decl n v ds o = end_out (pick 1 (end_out (pick 1 (opened o))))

  -- a loose record is written as the first of a tree
  pub close_expr : (e : Expr) (w : Row) (y : ExprRecord) → y.kind ≡ expr_kind e
      → Owns h p (expr_at i ∷ loose) ((expr_at y.first, expr_parts e) ∷ (expr_at y.next, w) ∷ rest)
      → Moved h (record { exprs = set h.exprs i y; stmts = h.stmts; decls = h.decls }) p loose ((expr_at i, expr_row e w) ∷ rest)
  close_expr e w y k o =
      subst (λ (r : Row). Moved h (record { exprs = set h.exprs i y; stmts = h.stmts; decls = h.decls }) p loose ((expr_at i, r) ∷ rest))
      (ap (λ (l : ExpressionKind). node (expr_label l) (expr_parts e) end end w) k ∙ sym (expr_first e w)) (put_expr_of i y o)

  pub close_stmt : (x : Stmt) (w : Row) (y : StmtRecord) → y.kind ≡ stmt_kind x
      → Owns h p (stmt_at i ∷ loose)
      ((expr_at y.exprs, stmt_exprs x) ∷ (stmt_at y.stmts, stmt_stmts x) ∷ (decl_at y.decls, stmt_decls x) ∷ (stmt_at y.next, w) ∷ rest)
      → Moved h (record { exprs = h.exprs; stmts = set h.stmts i y; decls = h.decls }) p loose ((stmt_at i, stmt_row x w) ∷ rest)
  close_stmt x w y k o =
      subst (λ (r : Row). Moved h (record { exprs = h.exprs; stmts = set h.stmts i y; decls = h.decls }) p loose ((stmt_at i, r) ∷ rest))
      (ap (λ (l : StatementKind). node (stmt_label l) (stmt_exprs x) (stmt_stmts x) (stmt_decls x) w) k ∙ sym (stmt_first x w)) (put_stmt_of i y o)

  pub close_decl : (n : ℕ) (v : OptionalExpr) (ds : Declarators) (y : DeclRecord) → y.name ≡ n
      → Owns h p (decl_at i ∷ loose) ((expr_at y.value, optional_row v end) ∷ (decl_at y.next, declarators_row ds) ∷ rest)
      → Moved h (record { exprs = h.exprs; stmts = h.stmts; decls = set h.decls i y }) p loose ((decl_at i, declarators_row (declarator_then n v ds)) ∷ rest)
  close_decl n v ds y k o =
      subst (λ (r : Row). Moved h (record { exprs = h.exprs; stmts = h.stmts; decls = set h.decls i y }) p loose ((decl_at i, r) ∷ rest))
      (ap (λ (m : ℕ). node (decl_label m) (optional_row v end) end end (declarators_row ds)) k) (put_decl_of i y o)
