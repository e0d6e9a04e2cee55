-- What is put once the parts are taken: the record of those parts, or a misplaced part.
use Rattle.std.proofs.Common.{◌≡◌, ℕ, true, false, List, sym, ap, ◌∙◌, ap₂}
use Rattle.script.specs.declared.ExpressionKind.{ExpressionKind}
use Rattle.script.specs.declared.StatementKind.{StatementKind}
use Rattle.script.specs.Tree.{Expr, OptionalExpr}
use Rattle.script.specs.Stacks.{Item, Declarator, declarator, Stacks, misplaces, puts_expr, puts_item, puts_declarator, left}
use Rattle.reading.specs.declared.making.Making.TheVariants as makes
use Rattle.records.specs.Heap.{expr_label, stmt_label, decl_label}
use Rattle.records.specs.Rows.{Row, end, node}
use Rattle.records.specs.Embedding.{expr_row, optional_row, item_row, expr_stack, stmt_stack, decl_stack}
use Rattle.shapes.specs.Shape.{fits_stmt, survey, decl_survey, first_declared}
use Rattle.records.specs.Turning.{front}
use Rattle.reading.specs.Making.{parts_of, Enough, Left, fitting, Matches}
use Rattle.reading.proofs.TakenParts.{Taken, none, taken_enough, exprs_front, exprs_less, stmts_front, stmts_less, decls_front, decls_less}

module _ (s : Stacks) {a b c : ℕ} {pe es : List Expr} {pi is : List Item} {pd ds : List Declarator}
    (te : Taken a s.exprs pe es) (ti : Taken b s.stmts pi is) (td : Taken c s.decls pd ds) where
  pub enough : Enough s (parts_of a b c)
  enough = record { exprs = taken_enough te; stmts = taken_enough ti; decls = taken_enough td }

  pub remains : Left s (parts_of a b c) (left es is ds)
  remains = record { exprs = exprs_less te; stmts = stmts_less ti; decls = decls_less td }

  -- the parts that were taken decide whether they fit
  parts_fit : (k : StatementKind) →
      fitting k (parts_of a b c) s ≡ fits_stmt k a (survey (stmt_stack pi)) (decl_survey (decl_stack pd)) (first_declared (stmt_stack pi))
  parts_fit k = ap₂ (λ (y z : Row). fits_stmt k a (survey y) (decl_survey z) (first_declared y)) (stmts_front ti) (decls_front td)

  pub misplaced : (k : StatementKind) → fits_stmt k a (survey (stmt_stack pi)) (decl_survey (decl_stack pd)) (first_declared (stmt_stack pi)) ≡ false →
      Matches (makes.Stmt k (parts_of a b c)) s misplaces
  misplaced k e = (enough, parts_fit k ∙ e)

  pub made : (k : StatementKind) (i : Item) → fits_stmt k a (survey (stmt_stack pi)) (decl_survey (decl_stack pd)) (first_declared (stmt_stack pi)) ≡ true →
      ((w : Row) → item_row i w ≡ node (stmt_label k) (expr_stack pe) (stmt_stack pi) (decl_stack pd) w) →
      Matches (makes.Stmt k (parts_of a b c)) s (puts_item i (left es is ds))
  made k i e row = (
    enough,
    parts_fit k ∙ e,
    remains,
    λ w. row w
        ∙ ap (λ (x : Row). node (stmt_label k) x (stmt_stack pi) (decl_stack pd) w) (sym (exprs_front te))
        ∙ ap₂ (λ (y z : Row). node (stmt_label k) (front a (expr_stack s.exprs) end) y z w) (sym (stmts_front ti)) (sym (decls_front td)),
  )

module _ (s : Stacks) {n : ℕ} {parts es : List Expr} (t : Taken n s.exprs parts es) where
  pub expr_made : (k : ExpressionKind) (e : Expr) → ((w : Row) → expr_row e w ≡ node (expr_label k) (expr_stack parts) end end w) →
      Matches (makes.Expr k n) s (puts_expr e (left es s.stmts s.decls))
  expr_made k e row = (
    enough s t none none,
    remains s t none none,
    λ w. row w ∙ ap (λ (x : Row). node (expr_label k) x end end w) (sym (exprs_front t)),
  )

  pub decl_made : (x : ℕ) (v : OptionalExpr) → optional_row v end ≡ expr_stack parts →
      Matches (makes.Decl x n) s (puts_declarator (declarator x v) (left es s.stmts s.decls))
  decl_made x v row = (
    enough s t none none,
    remains s t none none,
    λ w. ap (λ (y : Row). node (decl_label x) y end end w) (row ∙ sym (exprs_front t)),
  )
