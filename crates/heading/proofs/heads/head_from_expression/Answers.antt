use Rattle.std.proofs.Common.{sym, ◌∙◌}
use Rattle.heading.proofs.Fronting.{as_head, head_by_declaration, head_by_expression, head_by_init, sequences_off}
use Rattle.heading.proofs.heads.head_from_expression.Goals as goal

pub returns-then-not-sequences : goal.returns-then-not-sequences
returns-then-not-sequences c ds v w y r n loose rest o =
    as_head (sequences_off c.args.sequences v r c.if-not-sequences.true)
    (c.put_init.ensures c.args.stmts.now ds c.args.pools.now v w y r loose rest o)

pub returns-then-is_expression : goal.returns-then-is_expression
returns-then-is_expression c ds v w y r n loose rest o =
    head_by_expression c.args.sequences v w y r c.if-not-sequences.false (sym c.is_expression.ensures ∙ c.if-is_expression.true)
    (λ a r' o₁. c.take_expression.ensures ds v w y a r' n loose rest o₁) o

pub returns-then-expr-eq-NOWHERE : goal.returns-then-expr-eq-NOWHERE
returns-then-expr-eq-NOWHERE c ds v w y r n loose rest o =
    head_by_declaration c.args.sequences v w y r c.if-not-sequences.false (sym c.is_expression.ensures ∙ c.if-is_expression.false)
    c.if-expr-eq-NOWHERE.true (λ o₁. c.take_var.ensures c.args.exprs.now ds c.args.pools.now w y r loose rest o₁) o

pub returns : goal.returns
returns c ds v w y r n loose rest o =
    head_by_init c.args.sequences v w y r c.if-not-sequences.false (sym c.is_expression.ensures ∙ c.if-is_expression.false)
    c.if-expr-eq-NOWHERE.false (λ o₁. c.put_init-2.ensures c.args.stmts.now ds c.args.pools.now v w y r loose rest o₁) o
