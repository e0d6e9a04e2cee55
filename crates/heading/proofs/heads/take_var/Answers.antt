use Rattle.std.proofs.Common.{sym, ◌∙◌}
use Rattle.moves.proofs.Trees.{relinked_stmt}
use Rattle.heading.proofs.Fronting.{no_var_taken, var_taken}
use Rattle.heading.proofs.heads.take_var.Goals as goal

pub returns-then-not-is_var : goal.returns-then-not-is_var
returns-then-not-is_var c es ds p w y r loose rest o = no_var_taken w y r (sym c.is_var.ensures ∙ c.if-not-is_var.true) o

pub returns : goal.returns
returns c es ds p w y r loose rest o =
    var_taken w y r (sym c.is_var.ensures ∙ c.if-not-is_var.false)
    (relinked_stmt c.args.stmts.now c.relink-behind.new.table c.args.front.results c.args.front.inner c.relink-behind.result c.relink-behind.ensures.turns es ds p) o
