-- The spare records that a rule may count on.
use Rattle.script.specs.Judge.{Spares}
use Rattle.script.specs.Sound.{plus}
use Rattle.script.specs.Tree.{Stmt, Stmts}
use Rattle.records.specs.declared.record.Pools.{Pools}
use Rattle.records.specs.Holds.{counted}
use Rattle.rules.specs.Budget.{AtMost, to_take, weight_stmt, weight_stmts}

-- the pools have as many spare records
abbrev pub Enough : Spares → Pools → Type 0
Enough n p = AtMost n (counted p)

-- what a rule may take before it gives back, beyond the weight of what it works on
abbrev pub slack : Spares
slack = to_take 8 3

-- enough to work a statement onto results
abbrev pub EnoughFor : Stmt → Stmts → Pools → Type 0
EnoughFor x r p = Enough (plus slack (plus (weight_stmt x) (weight_stmts r))) p
