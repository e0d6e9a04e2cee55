use Rattle.records.specs.Lent.{heap}
use Rattle.lending.proofs.SheetsHeld.{whole_decided}
use Rattle.lending.proofs.check.whole_held.Goals as goal

pub returns-clause-held : goal.returns-clause-held
returns-clause-held c = whole_decided (heap c.args.tables) c.args.whole.now c.rows_held.result c.rows_held.ensures.held
