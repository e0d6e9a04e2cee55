use Rattle.std.proofs.Common.{◌≡◌, false}
use Rattle.hosts.specs.Known.{reader_undefined}
use Rattle.hosts.proofs.Steps.{nothing_asked, void_undefined, sequence_undefined, other_undefined}
use Rattle.hosts.proofs.reader.ReaderHost.is_undefined.Goals as goal

pub returns-in_default : goal.returns-in_default
returns-in_default c = nothing_asked (λ e. false ≡ reader_undefined e) c.args.exprs.now c.args.at c.in_default.ensures

pub returns-in-Void : goal.returns-in-Void
returns-in-Void c = void_undefined c.args.exprs.now c.args.at c.in-Some.expr c.in-Some.ensures c.in-Void.is

pub returns-in-Sequence : goal.returns-in-Sequence
returns-in-Sequence c =
    sequence_undefined c.args.exprs.now c.args.at c.in-Some.expr c.last_undefined.result c.in-Some.ensures c.in-Sequence.is c.last_undefined.ensures

pub returns-in_default-kind : goal.returns-in_default-kind
returns-in_default-kind c =
    other_undefined c.args.exprs.now c.args.at c.in-Some.expr c.in-Some.ensures c.in_default-kind.not-Void c.in_default-kind.not-Sequence
