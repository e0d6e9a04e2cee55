use Rattle.std.proofs.Common.{◌∷◌, ap, ◌∙◌}
use Rattle.records.specs.declared.record.StmtRecord.{StmtRecord}
use Rattle.records.specs.Heap.{expr_at, stmt_at}
use Rattle.records.specs.Rows.{end}
use Rattle.script.specs.Tree.{declaration}
use Rattle.rules.specs.Declarations.{append_declarators}
use Rattle.moves.proofs.Open.{kind_of_stmt}
use Rattle.moves.proofs.Single.{give_stmt_of}
use Rattle.heading.proofs.Fronting.{var_closed, vars_opened}
use Rattle.heading.proofs.heads.join_vars.Goals as goal
use Rattle.moves.proofs.Frames.{then_use}

pub returns : goal.returns
returns c es k xs ys y z loose rest o =
    let own = c.record_at-own.result in
    let last = c.record_at-last.result in
    then_use
    (then_use
    (c.append_names-names.ensures es c.args.stmts.now c.args.pools.now xs ys (stmt_at c.args.inner ∷ stmt_at c.args.results ∷ loose)
    ((expr_at own.exprs, end) ∷ (stmt_at own.stmts, end) ∷ (stmt_at own.next, y) ∷ (stmt_at last.next, z) ∷ rest)
    (vars_opened k xs ys y z own last c.record_at-own.ensures c.record_at-last.ensures o))
    (λ o₁. var_closed k (append_declarators xs ys) y own
    (ap (λ (v : StmtRecord). v.kind) c.record_at-own.ensures ∙ kind_of_stmt (declaration k ys) y o) c.set.ensures o₁))
    (λ o₂. give_stmt_of c.args.results c.give.new.table c.give.new.pool c.give.ensures o₂)
