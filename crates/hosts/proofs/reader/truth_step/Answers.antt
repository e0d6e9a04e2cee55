use Rattle.std.proofs.Common.{◌≡◌, None}
use Rattle.hosts.specs.Known.{reader_truth}
use Rattle.hosts.proofs.Steps.{nothing_asked, turn_not, told_void, told_other}
use Rattle.hosts.proofs.reader.truth_step.Goals as goal

pub returns-in_default : goal.returns-in_default
returns-in_default c = nothing_asked (λ e. None ≡ reader_truth e) c.args.exprs.now c.args.at c.in_default.ensures

pub returns-in-Not : goal.returns-in-Not
returns-in-Not c = turn_not c.args.exprs.now c.args.at c.in-Some.expr c.in-Some.ensures c.in-Not.is

pub returns-in-Void : goal.returns-in-Void
returns-in-Void c =
    told_void c.args.exprs.now c.args.at c.in-Some.expr c.void_truth.result c.in-Some.ensures c.in-Void.is c.void_truth.ensures

pub returns-in_default-kind : goal.returns-in_default-kind
returns-in_default-kind c =
    told_other c.args.exprs.now c.args.at c.in-Some.expr c.kind_truth.result c.in-Some.ensures
    c.in_default-kind.not-Not c.in_default-kind.not-Void c.kind_truth.ensures
