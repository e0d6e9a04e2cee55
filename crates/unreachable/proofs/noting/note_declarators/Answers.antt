use Rattle.std.proofs.Common.{length}
use Rattle.records.specs.Readable.{tables}
use Rattle.unreachable.specs.Noted.{noted_with}
use Rattle.unreachable.proofs.Walks.{names_walked}
use Rattle.unreachable.proofs.noting.note_declarators.Goals as goal

pub loop-decl-preserved : goal.loop-decl-preserved
loop-decl-preserved c after more =
    c.loop-decl.invariant after (rw c.in-Some.ensures.steps (λ l q. more (noted_with c.in-Some.decl.name l) (c.note_name.ensures l q)))

pub returns : goal.returns
returns c es ss z s a d =
    let e = names_walked (tables es ss c.args.decls.now) c.args.row (length c.args.decls.now) z s a d in
    rw e at (c.loop-decl.invariant c.loop-decl.noted (rw c.in-None.ensures.steps.0 (λ l q. q)))
