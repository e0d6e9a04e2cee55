-- May a jump take in the one before it.
use Rattle.std.specs.Prelude.{◌≡◌, ℕ, ◌≤◌, Bool, List, length}
use Rattle.script.specs.Sound.{records_optional}
use Rattle.script.specs.Tree.{OptionalExpr}
use Rattle.records.specs.declared.record.DeclRecord.{DeclRecord}
use Rattle.records.specs.declared.record.ExprRecord.{ExprRecord}
use Rattle.records.specs.declared.record.StmtRecord.{StmtRecord}
use Rattle.records.specs.Embedding.{optional_row}
use Rattle.records.specs.Heap.{expr_at}
use Rattle.records.specs.Owned.{Short}
use Rattle.records.specs.Readable.{tables}
use Rattle.records.specs.Rows.{At, end}
use Rattle.rules.specs.Holder.{Holder, other_list}
use Rattle.rules.specs.Returns.{may_merge_return}
use Rattle.predicates.specs.Held.{holder_of}
use Rattle.jumping.specs.declared.jump.Jump.{Jump}
use Rattle.jumping.specs.declared.jump.Jump.TheVariants.{Return, Throw}

-- what holds the list as far as it matters to the jump: to a throw, as to a return with an argument, it does not
abbrev pub held_by : Jump → Holder
held_by Throw = other_list
held_by (Return holder) = holder_of holder

-- the answer for the argument at a place
abbrev pub TellsMayMerge : Jump → List ExprRecord → ℕ → Bool → Type 0
TellsMayMerge jump exprs value b =
    (ss : List StmtRecord) (ds : List DeclRecord) (v : OptionalExpr) → Short (tables exprs ss ds)
    → At (tables exprs ss ds) (expr_at value) (optional_row v end) → records_optional v ≤ length exprs → b ≡ may_merge_return (held_by jump) v
