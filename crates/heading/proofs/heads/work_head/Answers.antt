use Rattle.std.proofs.Common.{sym, ◌∙◌, arith}
use Rattle.script.specs.Tree.{absent}
use Rattle.heading.proofs.Fronting.{by_absent, by_declaration, by_expression}
use Rattle.heading.proofs.heads.work_head.Goals as goal

pub returns-in-Absent-clause-makes : goal.returns-in-Absent-clause-makes
returns-in-Absent-clause-makes c i w y r e n loose rest o =
    by_absent c.args.sequences i w y r (sym c.in-Absent.is ∙ e)
    (λ o₁. c.head_from_expression.ensures c.args.tables.now.decls.now absent w y r (omega arith) loose rest o₁) o

pub returns-in-Expression-clause-makes : goal.returns-in-Expression-clause-makes
returns-in-Expression-clause-makes c i w y r e n loose rest o =
    by_expression c.args.sequences i w y r (sym c.in-Expression.is ∙ e) (λ x o₁. c.head_after_leading.ensures.makes x w y r n loose rest o₁) o

pub returns-in-Declaration-clause-makes : goal.returns-in-Declaration-clause-makes
returns-in-Declaration-clause-makes c i w y r e n loose rest o =
    by_declaration c.args.sequences i w y r (sym c.in-Declaration.is ∙ e)
    (λ k xs o₁. c.head_from_declaration.ensures c.args.tables.now.exprs.now k xs w y r loose rest o₁) o
