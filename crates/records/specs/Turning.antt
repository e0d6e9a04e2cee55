-- Taking the first records off a row: they come in the opposite order.
use Rattle.std.specs.Prelude.{ℕ, zero, suc, cond, List, map, length, nat_lt, slice_index}
use Rattle.pool.specs.Chain.{modify}
use Rattle.records.specs.declared.record.ExprRecord.{ExprRecord}
use Rattle.records.specs.declared.record.StmtRecord.{StmtRecord}
use Rattle.records.specs.declared.record.DeclRecord.{DeclRecord}
use Rattle.records.specs.Rows.{Row, end, node}

-- the first n records of a row, turned, in front of another row
abbrev pub front : ℕ → Row → Row → Row
front zero s acc = acc
front (suc n) end acc = acc
front (suc n) (node l x y z w) acc = front n w (node l x y z acc)

-- what is behind them
abbrev pub behind : ℕ → Row → Row
behind zero s = s
behind (suc n) end = end
behind (suc n) (node l x y z w) = behind n w

-- a table whose first n links from a place are turned, the new first place, and the place behind them
pub record Turned (R : Type 0) : Type 0 where
  pub table : List R
  pub row : ℕ
  pub rest : ℕ

abbrev pub turned : {R : Type 0} → (R → ℕ) → (R → ℕ → R) → ℕ → List R → ℕ → ℕ → Turned R
turned link relinked zero t rest row = record { table = t; row = row; rest = rest }
turned link relinked (suc n) t rest row =
    cond (nat_lt rest (length t))
    (turned link relinked n (modify (λ x. relinked x row) rest t) (slice_index (map link t) rest) rest)
    (record { table = t; row = row; rest = rest })

abbrev pub expr_next : ExprRecord → ℕ
expr_next x = x.next

abbrev pub expr_relinked : ExprRecord → ℕ → ExprRecord
expr_relinked x n = record { kind = x.kind; first = x.first; next = n }

-- the records of the table of expressions, turned
abbrev pub turned_exprs : ℕ → List ExprRecord → ℕ → ℕ → Turned ExprRecord
turned_exprs n t rest row = turned expr_next expr_relinked n t rest row

abbrev pub stmt_next : StmtRecord → ℕ
stmt_next x = x.next

abbrev pub stmt_relinked : StmtRecord → ℕ → StmtRecord
stmt_relinked x n = record { kind = x.kind; exprs = x.exprs; stmts = x.stmts; decls = x.decls; next = n }

-- the records of the table of statements, turned
abbrev pub turned_stmts : ℕ → List StmtRecord → ℕ → ℕ → Turned StmtRecord
turned_stmts n t rest row = turned stmt_next stmt_relinked n t rest row

abbrev pub decl_next : DeclRecord → ℕ
decl_next x = x.next

abbrev pub decl_relinked : DeclRecord → ℕ → DeclRecord
decl_relinked x n = record { name = x.name; value = x.value; next = n }

-- the records of the table of declarators, turned
abbrev pub turned_decls : ℕ → List DeclRecord → ℕ → ℕ → Turned DeclRecord
turned_decls n t rest row = turned decl_next decl_relinked n t rest row
