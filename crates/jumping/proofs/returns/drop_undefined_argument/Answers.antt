use Rattle.std.proofs.Common.{sym, ◌∙◌}
use Rattle.records.specs.Rows.{end}
use Rattle.jumping.proofs.WorkedReturn.{dropping_none, dropping_not, dropping_some}
use Rattle.jumping.proofs.returns.drop_undefined_argument.Goals as goal

pub returns-then-value-eq-NOWHERE : goal.returns-then-value-eq-NOWHERE
returns-then-value-eq-NOWHERE g c ds v r n k loose rest o =
    dropping_none v r c.if-value-eq-NOWHERE.true o c.args.sequences (g.H.Host.meaning c.args.host.now)

pub returns-then-not-is_undefined : goal.returns-then-not-is_undefined
returns-then-not-is_undefined g c ds v r n k loose rest o =
    dropping_not c.args.sequences (g.H.Host.meaning c.args.host.now) v r c.if-value-eq-NOWHERE.false
    (λ e a f. sym c.if-not-is_undefined.true ∙ c.is_undefined.ensures c.args.stmts.now ds e end o.short a f)
    (λ e. c.merge_last_expression_into_sequence.ensures ds e r n) o

pub returns : goal.returns
returns g c ds v r n k loose rest o =
    dropping_some c.args.sequences (g.H.Host.meaning c.args.host.now) v r c.if-value-eq-NOWHERE.false
    (λ e a f. sym c.if-not-is_undefined.false ∙ c.is_undefined.ensures c.args.stmts.now ds e end o.short a f)
    (λ e. c.leave_argument-left.ensures ds e r n k) o
