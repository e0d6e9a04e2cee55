use Rattle.std.proofs.Common.{sym, ap, ◌∙◌}
use Rattle.records.specs.declared.record.StmtRecord.{StmtRecord}
use Rattle.records.specs.Embedding.{stmts_row}
use Rattle.records.proofs.Moves.{pick}
use Rattle.heading.proofs.Switching.{in_default, in_stays, in_test}
use Rattle.heading.proofs.Told.{cases_fit}
use Rattle.heading.proofs.switches.inline_case.Goals as goal

pub returns-then-not-can_inline : goal.returns-then-not-can_inline
returns-then-not-can_inline c ds d cs r n m loose rest o =
    let f = cases_fit cs (pick 1 o) in
    rw c.set.ensures
    (in_stays c.args.sequences d cs r (sym (c.can_inline.ensures ds cs o.short o.held.1.0 f.0 f.1) ∙ c.if-not-can_inline.true) o)

pub returns-then-case : goal.returns-then-case
returns-then-case c ds d cs r n m loose rest o =
    let f = cases_fit cs (pick 1 o) in
    let e = c.record_at-case.ensures in
    in_default c.inline_default.result c.args.sequences d cs r
    (sym (c.can_inline.ensures ds cs o.short o.held.1.0 f.0 f.1) ∙ c.if-not-can_inline.false)
    (ap (λ (v : StmtRecord). v.exprs) (sym e) ∙ c.if-case.true)
    (λ xs. rw e at (c.inline_default.ensures ds d xs r n m)) o

pub returns : goal.returns
returns c ds d cs r n m loose rest o =
    let f = cases_fit cs (pick 1 o) in
    let e = c.record_at-case.ensures in
    in_test c.args.sequences d cs r (sym (c.can_inline.ensures ds cs o.short o.held.1.0 f.0 f.1) ∙ c.if-not-can_inline.false)
    (λ z. c.if-case.false (ap (λ (v : StmtRecord). v.exprs) e ∙ z))
    (λ x xs. rw e at (c.inline_test.ensures ds d x xs (stmts_row r) n)) o
