-- What putting a record does to the draft and the tables, number by number.
use Rattle.std.specs.Prelude.{◌≡◌, ℕ, ◌+◌, ◌-◌, ◌<◌, ◌≤◌, Bool, true, false, ◌⊎◌, List, length, set, Ok, Err, Result, ◌≢◌, slice_index, slice_set}
use Rattle.pool.specs.Chain.{nowhere}
use Rattle.pool.specs.declared.Pool.{Pool}
use Rattle.pool.specs.declared.PoolFault.TheVariants.{Empty, Outside}
use Rattle.script.specs.declared.Awaiting.TheVariants as awaiting
use Rattle.script.specs.declared.ExpressionKind.{ExpressionKind}
use Rattle.script.specs.declared.StatementKind.{StatementKind}
use Rattle.script.specs.declared.Table.{Table}
use Rattle.script.specs.declared.Table.TheVariants.{Declarators, Expressions, Statements}
use Rattle.faults.specs.declared.fault.SheetFault.{SheetFault}
use Rattle.faults.specs.declared.fault.SheetFault.TheVariants.{Spares}
use Rattle.faults.specs.declared.fault.ReadFault.{ReadFault}
use Rattle.faults.specs.declared.fault.ReadFault.TheVariants.{Sheet, TooFew, Misplaced, Leftover}
use Rattle.records.specs.declared.record.Stage.{Stage}
use Rattle.records.specs.declared.record.Stage.TheVariants.{Reading, Complete}
use Rattle.records.specs.declared.record.Draft.{Draft}
use Rattle.records.specs.declared.record.ExprRecord.{ExprRecord}
use Rattle.records.specs.declared.record.StmtRecord.{StmtRecord}
use Rattle.records.specs.declared.record.DeclRecord.{DeclRecord}
use Rattle.reading.specs.declared.making.Parts.{Parts}
use Rattle.records.specs.Heap.{stmt_at, expr_links, stmt_links, decl_links}
use Rattle.records.specs.Rows.{Row, end, At, row_length}
use Rattle.records.specs.Owned.{Short}
use Rattle.shapes.specs.Shape.{fits_stmt, survey, decl_survey, first_declared}
use Rattle.reading.specs.Surveying.{Stacked}
use Rattle.records.specs.Turning.{front, turned_exprs, turned_stmts, turned_decls}

-- a pool of a table of n records has a spare
abbrev pub HasSpare : ℕ → Pool → Type 0
HasSpare n p = (0 < p.count) × (p.head < n)

-- it has none, or tells a place outside
abbrev pub NoSpare : SheetFault → Table → ℕ → Pool → Type 0
NoSpare f table n p = ((f ≡ Spares (Empty table)) × (p.count ≡ 0)) ⊎ ((f ≡ Spares (Outside table)) × (0 < p.count) × (n ≤ p.head))

-- the pool without its first spare
abbrev pub without_first : List ℕ → Pool → Pool
without_first links p = record { head = slice_index links p.head; count = p.count - 1 }

-- a spare record is taken, or the pool's fault is told
abbrev pub Took : Result ℕ SheetFault → Table → List ℕ → Pool → Pool → Type 0
Took (Ok at) table links p p' = (at ≡ p.head) × HasSpare (length links) p × (p' ≡ without_first links p)
Took (Err f) table links p p' = NoSpare f table (length links) p × (p' ≡ p)

-- a command is performed, and the next one is awaited
abbrev pub awaiting_command : Stage
awaiting_command = Reading awaiting.Command

-- an expression whose parts were the n topmost
abbrev pub expr_put : ExpressionKind → ℕ → Draft → List ExprRecord → List ExprRecord
expr_put k n d t =
    let turned = turned_exprs n t d.exprs.top nowhere in
    slice_set turned.table d.pools.exprs.head (record { kind = k; first = turned.row; next = turned.rest })

abbrev pub draft_with_expr : ℕ → Draft → List ExprRecord → Draft
draft_with_expr n d t = record {
  stage = awaiting_command;
  exprs = record { top = d.pools.exprs.head; count = d.exprs.count - n + 1 };
  stmts = d.stmts;
  decls = d.decls;
  pools = record { exprs = without_first (expr_links t) d.pools.exprs; stmts = d.pools.stmts; decls = d.pools.decls };
}

-- too few items, or no spare
abbrev pub NotPut : ReadFault → ℕ → ℕ → Table → ℕ → Pool → Type 0
NotPut f wanted count table n p = ((count < wanted) × (f ≡ TooFew)) ⊎ ((wanted ≤ count) × ((g : SheetFault) × (f ≡ Sheet g) × NoSpare g table n p))

-- an expression of the topmost n was put, or why not, and then nothing changed
abbrev pub PutExpr : Result (Unit {0}) ReadFault → ExpressionKind → ℕ → Draft → List ExprRecord → Draft → List ExprRecord → Type 0
PutExpr (Ok u) k n d t d' t' =
    (n ≤ d.exprs.count) × HasSpare (length (expr_links t)) d.pools.exprs × (d' ≡ draft_with_expr n d t) × (t' ≡ expr_put k n d t)
PutExpr (Err f) k n d t d' t' = NotPut f n d.exprs.count Expressions (length (expr_links t)) d.pools.exprs × (d' ≡ d) × (t' ≡ t)

-- a declarator whose value was the topmost expression, if it has one
abbrev pub declarator_put : ℕ → ℕ → Draft → List ExprRecord → List DeclRecord → List DeclRecord
declarator_put x n d es ds =
    slice_set ds d.pools.decls.head (record { name = x; value = (turned_exprs n es d.exprs.top nowhere).row; next = d.decls.top })

abbrev pub draft_with_declarator : ℕ → Draft → List ExprRecord → List DeclRecord → Draft
draft_with_declarator n d es ds = record {
  stage = awaiting_command;
  exprs = record { top = (turned_exprs n es d.exprs.top nowhere).rest; count = d.exprs.count - n };
  stmts = d.stmts;
  decls = record { top = d.pools.decls.head; count = d.decls.count + 1 };
  pools = record { exprs = d.pools.exprs; stmts = d.pools.stmts; decls = without_first (decl_links ds) d.pools.decls };
}

-- a declarator of this name was put, or why not, and then nothing changed
abbrev pub PutDeclarator : Result (Unit {0}) ReadFault → ℕ → ℕ → Draft → List ExprRecord → List DeclRecord → Draft → List ExprRecord → List DeclRecord → Type 0
PutDeclarator (Ok u) x n d es ds d' es' ds' =
    (n ≤ d.exprs.count) × HasSpare (length (decl_links ds)) d.pools.decls × (d' ≡ draft_with_declarator n d es ds)
    × (es' ≡ (turned_exprs n es d.exprs.top nowhere).table) × (ds' ≡ declarator_put x n d es ds)
PutDeclarator (Err f) x n d es ds d' es' ds' =
    NotPut f n d.exprs.count Declarators (length (decl_links ds)) d.pools.decls × (d' ≡ d) × (es' ≡ es) × (ds' ≡ ds)

-- the stacks have as many items as a statement takes, or one of them has not
abbrev pub EnoughCounted : Draft → Parts → Type 0
EnoughCounted d n = (n.exprs ≤ d.exprs.count) × (n.stmts ≤ d.stmts.count) × (n.decls ≤ d.decls.count)

abbrev pub WantingCounted : Draft → Parts → Type 0
WantingCounted d n = (d.exprs.count < n.exprs) ⊎ ((d.stmts.count < n.stmts) ⊎ (d.decls.count < n.decls))

-- a statement whose parts were the topmost of each stack
abbrev pub stmt_put : StatementKind → Parts → ℕ → Draft → List ExprRecord → List StmtRecord → List DeclRecord → List StmtRecord
stmt_put k n at d es ss ds =
    let inner = turned_stmts n.stmts ss d.stmts.top nowhere in
    set inner.table at (record {
      kind = k;
      exprs = (turned_exprs n.exprs es d.exprs.top nowhere).row;
      stmts = inner.row;
      decls = (turned_decls n.decls ds d.decls.top nowhere).row;
      next = inner.rest;
    })

abbrev pub draft_with_stmt : Parts → ℕ → Draft → List ExprRecord → List DeclRecord → Draft
draft_with_stmt n at d es ds = record {
  stage = awaiting_command;
  exprs = record { top = (turned_exprs n.exprs es d.exprs.top nowhere).rest; count = d.exprs.count - n.exprs };
  stmts = record { top = at; count = d.stmts.count - n.stmts + 1 };
  decls = record { top = (turned_decls n.decls ds d.decls.top nowhere).rest; count = d.decls.count - n.decls };
  pools = d.pools;
}

-- the draft with one statement record fewer to spare
abbrev pub with_stmt_taken : Draft → List StmtRecord → Draft
with_stmt_taken d ss = record {
  stage = d.stage;
  exprs = d.exprs;
  stmts = d.stmts;
  decls = d.decls;
  pools = record { exprs = d.pools.exprs; stmts = without_first (stmt_links ss) d.pools.stmts; decls = d.pools.decls };
}

-- whether the parts of a statement fit, by the rows that the tables hold
abbrev pub FitsAs : Bool → StatementKind → Parts → Draft → List StmtRecord → List DeclRecord → Type 0
FitsAs b k n d ss ds = (es : List ExprRecord) (s r : Row) → Stacked es ss ds d n s r →
    b ≡ fits_stmt k n.exprs (survey (front n.stmts s end)) (decl_survey (front n.decls r end)) (first_declared (front n.stmts s end))

-- a statement of so many parts was put, or why not, and then nothing changed
abbrev pub PutStmt : Result (Unit {0}) ReadFault → StatementKind → Parts → Draft → List ExprRecord → List StmtRecord → List DeclRecord → Draft → List ExprRecord → List StmtRecord → List DeclRecord → Type 0
PutStmt (Ok u) k n d es ss ds d' es' ss' ds' =
    EnoughCounted d n × FitsAs true k n d ss ds × HasSpare (length (stmt_links ss)) d.pools.stmts
    × (d' ≡ draft_with_stmt n d.pools.stmts.head (with_stmt_taken d ss) es ds)
    × (es' ≡ (turned_exprs n.exprs es d.exprs.top nowhere).table)
    × (ss' ≡ stmt_put k n d.pools.stmts.head (with_stmt_taken d ss) es ss ds)
    × (ds' ≡ (turned_decls n.decls ds d.decls.top nowhere).table)
PutStmt (Err f) k n d es ss ds d' es' ss' ds' =
    ((WantingCounted d n × (f ≡ TooFew))
    ⊎ ((EnoughCounted d n × (f ≡ Misplaced) × FitsAs false k n d ss ds)
    ⊎ (EnoughCounted d n × FitsAs true k n d ss ds × ((g : SheetFault) × (f ≡ Sheet g) × NoSpare g Statements (length (stmt_links ss)) d.pools.stmts))))
    × (d' ≡ d) × (es' ≡ es) × (ss' ≡ ss) × (ds' ≡ ds)

-- whether a body's statements hold a case
abbrev pub CasesAs : (ℕ → Type 0) → ℕ → Draft → List StmtRecord → Type 0
CasesAs P n d ss = (es : List ExprRecord) (ds : List DeclRecord) (s : Row) → Short (record { exprs = es; stmts = ss; decls = ds }) →
    At (record { exprs = es; stmts = ss; decls = ds }) (stmt_at d.stmts.top) s → n ≤ row_length s → P (survey (front n s end)).cases

-- nothing but the body's own statements is left on the stacks
abbrev pub AloneCounted : ℕ → Draft → Type 0
AloneCounted n d = (d.exprs.count ≡ 0) × (d.stmts.count ≡ n) × (d.decls.count ≡ 0)

abbrev pub draft_with_body : ℕ → Draft → List StmtRecord → Draft
draft_with_body n d ss = record {
  stage = Complete (turned_stmts n ss d.stmts.top nowhere).row;
  exprs = d.exprs;
  stmts = record { top = (turned_stmts n ss d.stmts.top nowhere).rest; count = 0 };
  decls = d.decls;
  pools = d.pools;
}

-- a body of the topmost n statements was put, or why not, and then nothing changed
abbrev pub PutBody : Result (Unit {0}) ReadFault → ℕ → Draft → List StmtRecord → Draft → List StmtRecord → Type 0
PutBody (Ok u) n d ss d' ss' =
    (n ≤ d.stmts.count) × CasesAs (λ c. c ≡ 0) n d ss × AloneCounted n d
    × (d' ≡ draft_with_body n d ss) × (ss' ≡ (turned_stmts n ss d.stmts.top nowhere).table)
PutBody (Err f) n d ss d' ss' =
    (((d.stmts.count < n) × (f ≡ TooFew))
    ⊎ (((n ≤ d.stmts.count) × (f ≡ Misplaced) × CasesAs (λ c. c ≢ 0) n d ss)
    ⊎ ((n ≤ d.stmts.count) × (f ≡ Leftover) × CasesAs (λ c. c ≡ 0) n d ss × (AloneCounted n d → ⊥))))
    × (d' ≡ d) × (ss' ≡ ss)
