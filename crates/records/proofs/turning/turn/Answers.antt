use Rattle.std.proofs.Common.{◌≡◌, ◌-◌, ap, arith}
use Rattle.pool.specs.Chain.{nowhere}
use Rattle.records.specs.Turning.{turned}
use Rattle.records.proofs.Turns.{turning_done, turning_on, turning_out}
use Rattle.records.proofs.turning.turn.Goals as goal

pub loop-i-init : goal.loop-i-init
loop-i-init g c =
    let e : c.args.count ≡ c.args.count - 0 = omega arith in
    record { same = ap (λ n. turned g.R.Linked.link g.R.Linked.relinked n c.args.table.now c.args.top nowhere) e }

pub returns-in_default : goal.returns-in_default
returns-in_default g c = turning_out c.loop-i.invariant c.in_default.ensures

pub loop-i-preserved : goal.loop-i-preserved
loop-i-preserved g c = turning_on c.loop-i.invariant (let h = c.loop-i-test.true in omega arith) c.in-Some.ensures

pub returns : goal.returns
returns g c = turning_done c.loop-i.invariant (let h = c.loop-i-test.false in omega arith)
