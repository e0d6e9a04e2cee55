use Rattle.moves.proofs.Dropping.{drop_decl}
use Rattle.moves.proofs.drops.drop_first_decl.Goals as goal

pub returns : goal.returns
returns c ss l x y z w = drop_decl l x y z w c.record_at-decl.ensures (c.drop_expr_row.ensures ss c.args.decls.now x) c.give.ensures
