use Rattle.moves.proofs.Trees.{linked_expr}
use Rattle.heading.proofs.Fronting.{none_put, some_put}
use Rattle.heading.proofs.heads.put_init.Goals as goal

pub returns-then-expr-eq-NOWHERE : goal.returns-then-expr-eq-NOWHERE
returns-then-expr-eq-NOWHERE c ss ds p v w y r loose rest o = none_put v w y r c.if-expr-eq-NOWHERE.true o

pub returns : goal.returns
returns c ss ds p v w y r loose rest o =
    some_put v w y r c.if-expr-eq-NOWHERE.false
    (λ e. linked_expr c.args.exprs.now c.link.new.table c.args.expr c.args.front.values c.link.ensures.turns ss ds p e w) o
