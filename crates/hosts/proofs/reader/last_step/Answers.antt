use Rattle.hosts.proofs.Steps.{step_outside, step_next, step_void, step_sequence, step_other}
use Rattle.hosts.proofs.reader.last_step.Goals as goal

pub returns-in_default : goal.returns-in_default
returns-in_default c = step_outside c.args.exprs.now c.args.at c.in_default.ensures

pub returns-then-expr-exprs : goal.returns-then-expr-exprs
returns-then-expr-exprs c = step_next c.args.exprs.now c.args.at c.in-Some.expr c.in-Some.ensures c.if-expr-exprs.true

pub returns-in-Void : goal.returns-in-Void
returns-in-Void c = step_void c.args.exprs.now c.args.at c.in-Some.expr c.in-Some.ensures c.if-expr-exprs.false c.in-Void.is

pub returns-in-Sequence : goal.returns-in-Sequence
returns-in-Sequence c = step_sequence c.args.exprs.now c.args.at c.in-Some.expr c.in-Some.ensures c.if-expr-exprs.false c.in-Sequence.is

pub returns-in_default-kind : goal.returns-in_default-kind
returns-in_default-kind c =
    step_other c.args.exprs.now c.args.at c.in-Some.expr c.in-Some.ensures c.if-expr-exprs.false c.in_default-kind.not-Void c.in_default-kind.not-Sequence
