-- Work inside a tree whose first record stays as it is.
use Rattle.std.proofs.Common.{◌≡◌, ℕ, List, ◌∷◌, get_or, sym, refl, ap, ◌∙◌, subst}
use Rattle.pool.specs.Chain.{nowhere}
use Rattle.script.specs.declared.ExpressionKind.{ExpressionKind}
use Rattle.script.specs.declared.StatementKind.{StatementKind}
use Rattle.script.specs.Tree.{Declarators, Expr, OptionalExpr, Stmt, declarator_then}
use Rattle.records.specs.declared.record.Pools.{Pools}
use Rattle.records.specs.Embedding.{declarators_row, expr_row, optional_row, stmt_row}
use Rattle.records.specs.Heap.{Heap, Place, blank_decl, blank_expr, blank_stmt, cell, decl_at, decl_label, expr_at, expr_label, stmt_at, stmt_label}
use Rattle.records.specs.Owned.{Owns, Root}
use Rattle.records.specs.Rows.{Row, end}
use Rattle.records.proofs.Moves.{closed, end_in, pick}
use Rattle.moves.specs.First.{expr_kind, expr_parts, stmt_decls, stmt_exprs, stmt_kind, stmt_stmts}
use Rattle.moves.specs.Moved.{Moved}
use Rattle.moves.proofs.First.{expr_first, stmt_first}
use Rattle.moves.proofs.Frames.{kept_first, kept_others}
use Rattle.moves.proofs.Open.{kind_of_expr, kind_of_stmt, name_of_decl, open_decl, open_expr, open_stmt}

module _ {h h' : Heap} {p p' : Pools} {loose : List Place} {rest rest' : List Root} {i : ℕ} where
  -- the record of an expression stays: its parts and what is behind it may become others
  pub inside_expr : (e e' : Expr) (w w' : Row) → expr_kind e ≡ expr_kind e' → Owns h p loose ((expr_at i, expr_row e w) ∷ rest)
      → (Owns h p (expr_at i ∷ loose)
      ((expr_at (get_or h.exprs i blank_expr).first, expr_parts e) ∷ (expr_at (get_or h.exprs i blank_expr).next, w) ∷ rest)
      → Moved h h' p' (expr_at i ∷ loose)
      ((expr_at (get_or h.exprs i blank_expr).first, expr_parts e') ∷ (expr_at (get_or h.exprs i blank_expr).next, w') ∷ rest'))
      → Moved h h' p' loose ((expr_at i, expr_row e' w') ∷ rest')
  inside_expr e e' w w' k o f =
      let m = f (open_expr e w o) in
      let told : cell h' (expr_at i) ≡ record {
        label = expr_label (expr_kind e');
        exprs = expr_at (get_or h.exprs i blank_expr).first;
        stmts = stmt_at nowhere;
        decls = decl_at nowhere;
        next = expr_at (get_or h.exprs i blank_expr).next;
      } =
      kept_first m.kept
      ∙ ap (λ (l : ExpressionKind). record {
        label = expr_label l;
        exprs = expr_at (get_or h.exprs i blank_expr).first;
        stmts = stmt_at nowhere;
        decls = decl_at nowhere;
        next = expr_at (get_or h.exprs i blank_expr).next;
      }) (kind_of_expr e w o ∙ k) in
      record {
        owned = subst (λ (r : Row). Owns h' p' loose ((expr_at i, r) ∷ rest')) (sym (expr_first e' w'))
            (closed told (pick 2 (end_in (stmt_at nowhere) refl (end_in (decl_at nowhere) refl m.owned))));
        kept = kept_others m.kept;
      }

  -- the record of a statement stays
  pub inside_stmt : (x x' : Stmt) (w w' : Row) → stmt_kind x ≡ stmt_kind x' → Owns h p loose ((stmt_at i, stmt_row x w) ∷ rest)
      → (Owns h p (stmt_at i ∷ loose)
      ((expr_at (get_or h.stmts i blank_stmt).exprs, stmt_exprs x) ∷ (stmt_at (get_or h.stmts i blank_stmt).stmts, stmt_stmts x)
      ∷ (decl_at (get_or h.stmts i blank_stmt).decls, stmt_decls x) ∷ (stmt_at (get_or h.stmts i blank_stmt).next, w) ∷ rest)
      → Moved h h' p' (stmt_at i ∷ loose)
      ((expr_at (get_or h.stmts i blank_stmt).exprs, stmt_exprs x') ∷ (stmt_at (get_or h.stmts i blank_stmt).stmts, stmt_stmts x')
      ∷ (decl_at (get_or h.stmts i blank_stmt).decls, stmt_decls x') ∷ (stmt_at (get_or h.stmts i blank_stmt).next, w') ∷ rest'))
      → Moved h h' p' loose ((stmt_at i, stmt_row x' w') ∷ rest')
  inside_stmt x x' w w' k o f =
      let m = f (open_stmt x w o) in
      let told : cell h' (stmt_at i) ≡ record {
        label = stmt_label (stmt_kind x');
        exprs = expr_at (get_or h.stmts i blank_stmt).exprs;
        stmts = stmt_at (get_or h.stmts i blank_stmt).stmts;
        decls = decl_at (get_or h.stmts i blank_stmt).decls;
        next = stmt_at (get_or h.stmts i blank_stmt).next;
      } =
      kept_first m.kept
      ∙ ap (λ (l : StatementKind). record {
        label = stmt_label l;
        exprs = expr_at (get_or h.stmts i blank_stmt).exprs;
        stmts = stmt_at (get_or h.stmts i blank_stmt).stmts;
        decls = decl_at (get_or h.stmts i blank_stmt).decls;
        next = stmt_at (get_or h.stmts i blank_stmt).next;
      }) (kind_of_stmt x w o ∙ k) in
      record {
        owned = subst (λ (r : Row). Owns h' p' loose ((stmt_at i, r) ∷ rest')) (sym (stmt_first x' w')) (closed told m.owned);
        kept = kept_others m.kept;
      }

  -- the record of a declarator stays
  pub inside_decl : (n : ℕ) (v v' : OptionalExpr) (ds ds' : Declarators) → Owns h p loose ((decl_at i, declarators_row (declarator_then n v ds)) ∷ rest)
      → (Owns h p (decl_at i ∷ loose)
      ((expr_at (get_or h.decls i blank_decl).value, optional_row v end) ∷ (decl_at (get_or h.decls i blank_decl).next, declarators_row ds) ∷ rest)
      → Moved h h' p' (decl_at i ∷ loose)
      ((expr_at (get_or h.decls i blank_decl).value, optional_row v' end) ∷ (decl_at (get_or h.decls i blank_decl).next, declarators_row ds') ∷ rest'))
      → Moved h h' p' loose ((decl_at i, declarators_row (declarator_then n v' ds')) ∷ rest')
  inside_decl n v v' ds ds' o f =
      let m = f (open_decl n v ds o) in
      let told : cell h' (decl_at i) ≡ record {
        label = decl_label n;
        exprs = expr_at (get_or h.decls i blank_decl).value;
        stmts = stmt_at nowhere;
        decls = decl_at nowhere;
        next = decl_at (get_or h.decls i blank_decl).next;
      } =
      kept_first m.kept
      ∙ ap (λ (l : ℕ). record {
        label = decl_label l;
        exprs = expr_at (get_or h.decls i blank_decl).value;
        stmts = stmt_at nowhere;
        decls = decl_at nowhere;
        next = decl_at (get_or h.decls i blank_decl).next;
      }) (name_of_decl n v ds o) in
      record {
        owned = closed told (pick 2 (end_in (stmt_at nowhere) refl (end_in (decl_at nowhere) refl m.owned)));
        kept = kept_others m.kept;
      }
