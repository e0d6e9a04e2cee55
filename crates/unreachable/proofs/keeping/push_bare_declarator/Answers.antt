use Rattle.std.proofs.Common.{refl}
use Rattle.pool.specs.Chain.{nowhere}
use Rattle.script.specs.Tree.{absent}
use Rattle.records.specs.Heap.{expr_at}
use Rattle.records.proofs.Moves.{end_in}
use Rattle.moves.proofs.Open.{close_decl}
use Rattle.moves.proofs.Single.{take_decl_of}
use Rattle.unreachable.proofs.keeping.push_bare_declarator.Goals as goal

pub returns : goal.returns
returns c es ss ds n loose rest o =
    rw c.set.ensures
    (close_decl c.args.name absent ds (record { name = c.args.name; value = nowhere; next = c.args.row }) refl
    (end_in (expr_at nowhere) refl (take_decl_of c.take-at.result c.take-at.new.pool c.take-at.ensures n o)))
