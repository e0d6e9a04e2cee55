-- The three tables as one heap of records.
use Rattle.std.specs.Prelude.{◌≡◌, ℕ, ◌<◌, List, map, length, slice_index_or}
use Rattle.pool.specs.Chain.{nowhere, same_place, occurrences, places}
use Rattle.script.specs.declared.ExpressionKind.{ExpressionKind}
use Rattle.script.specs.declared.ExpressionKind.TheVariants as expression
use Rattle.script.specs.declared.StatementKind.{StatementKind}
use Rattle.script.specs.declared.StatementKind.TheVariants as statement
use Rattle.records.specs.declared.record.ExprRecord.{ExprRecord}
use Rattle.records.specs.declared.record.StmtRecord.{StmtRecord}
use Rattle.records.specs.declared.record.DeclRecord.{DeclRecord}
use Rattle.records.specs.declared.record.Pools.{Pools}

pub record Heap : Type 0 where
  pub exprs : List ExprRecord
  pub stmts : List StmtRecord
  pub decls : List DeclRecord

-- a place in one of the tables
pub data Place : Type 0 where
  expr_at : ℕ → Place
  stmt_at : ℕ → Place
  decl_at : ℕ → Place

-- what a record holds besides its links
pub data Label : Type 0 where
  expr_label : ExpressionKind → Label
  stmt_label : StatementKind → Label
  decl_label : ℕ → Label

-- a record by its label, its three rows of parts and what follows it
pub record Cell : Type 0 where
  pub label : Label
  pub exprs : Place
  pub stmts : Place
  pub decls : Place
  pub next : Place

abbrev pub expr_cell : ExprRecord → Cell
expr_cell x =
    record { label = expr_label x.kind; exprs = expr_at x.first; stmts = stmt_at nowhere; decls = decl_at nowhere; next = expr_at x.next }

abbrev pub stmt_cell : StmtRecord → Cell
stmt_cell x =
    record { label = stmt_label x.kind; exprs = expr_at x.exprs; stmts = stmt_at x.stmts; decls = decl_at x.decls; next = stmt_at x.next }

abbrev pub decl_cell : DeclRecord → Cell
decl_cell x =
    record { label = decl_label x.name; exprs = expr_at x.value; stmts = stmt_at nowhere; decls = decl_at nowhere; next = decl_at x.next }

-- what is read past the end of a table
abbrev pub blank_expr : ExprRecord
blank_expr = record { kind = expression.Number 0; first = 0; next = 0 }

abbrev pub blank_stmt : StmtRecord
blank_stmt = record { kind = statement.Empty; exprs = 0; stmts = 0; decls = 0; next = 0 }

abbrev pub blank_decl : DeclRecord
blank_decl = record { name = 0; value = 0; next = 0 }

abbrev pub cell : Heap → Place → Cell
cell h (expr_at i) = expr_cell (slice_index_or h.exprs i blank_expr)
cell h (stmt_at i) = stmt_cell (slice_index_or h.stmts i blank_stmt)
cell h (decl_at i) = decl_cell (slice_index_or h.decls i blank_decl)

abbrev pub Within : Heap → Place → Type 0
Within h (expr_at i) = i < length h.exprs
Within h (stmt_at i) = i < length h.stmts
Within h (decl_at i) = i < length h.decls

abbrev pub Nowhere : Place → Type 0
Nowhere (expr_at i) = i ≡ nowhere
Nowhere (stmt_at i) = i ≡ nowhere
Nowhere (decl_at i) = i ≡ nowhere

-- 1 where two places are one, else 0
abbrev pub same : Place → Place → ℕ
same (expr_at i) (expr_at j) = same_place i j
same (expr_at i) (stmt_at j) = 0
same (expr_at i) (decl_at j) = 0
same (stmt_at i) (expr_at j) = 0
same (stmt_at i) (stmt_at j) = same_place i j
same (stmt_at i) (decl_at j) = 0
same (decl_at i) (expr_at j) = 0
same (decl_at i) (stmt_at j) = 0
same (decl_at i) (decl_at j) = same_place i j

abbrev pub expr_links : List ExprRecord → List ℕ
expr_links t = map (λ (x : ExprRecord). x.next) t

abbrev pub stmt_links : List StmtRecord → List ℕ
stmt_links t = map (λ (x : StmtRecord). x.next) t

abbrev pub decl_links : List DeclRecord → List ℕ
decl_links t = map (λ (x : DeclRecord). x.next) t

-- how often a place is among the spares
abbrev pub spare : Place → Heap → Pools → ℕ
spare (expr_at i) h p = occurrences i (places (expr_links h.exprs) p.exprs.head p.exprs.count)
spare (stmt_at i) h p = occurrences i (places (stmt_links h.stmts) p.stmts.head p.stmts.count)
spare (decl_at i) h p = occurrences i (places (decl_links h.decls) p.decls.head p.decls.count)
