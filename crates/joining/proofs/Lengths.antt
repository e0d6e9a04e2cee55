-- Tables as long as they were.
use Rattle.std.proofs.Common.{◌≡◌, ℕ, List, length, ap, sym}
use Rattle.records.specs.declared.record.DeclRecord.{DeclRecord}
use Rattle.records.specs.declared.record.ExprRecord.{ExprRecord}
use Rattle.records.specs.declared.record.StmtRecord.{StmtRecord}
use Rattle.records.specs.Readable.{tables}
use Rattle.records.proofs.Tallies.{lengths}

pub as_long : (exprs exprs' : List ExprRecord) (ss : List StmtRecord) (ds : List DeclRecord) → length exprs' ≡ length exprs
    → lengths (tables exprs ss ds) ≡ lengths (tables exprs' ss ds)
as_long exprs exprs' ss ds e = ap (λ (n : ℕ). record { exprs = n; stmts = length ss; decls = length ds }) (sym e)
