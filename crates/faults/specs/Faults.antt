-- The number of each fault, and the fault that tells each refusal.
use Rattle.std.specs.Prelude.{ℕ}
use Rattle.pool.specs.declared.PoolFault.TheVariants.{Empty}
use Rattle.script.specs.Format.{Refusal, body_complete, no_command, bad_operand, too_few, misplaced, leftover, no_spare}
use Rattle.faults.specs.declared.fault.SheetFault.{SheetFault}
use Rattle.faults.specs.declared.fault.SheetFault.TheVariants.{Sizes, NotHeld, Spares, NoBody, ShortOutput}
use Rattle.faults.specs.declared.fault.ReadFault.{ReadFault}
use Rattle.faults.specs.declared.fault.ReadFault.TheVariants.{Sheet, BodyComplete, NoCommand, BadOperand, TooFew, Misplaced, Leftover}

-- the number of each refusal
abbrev pub sheet_number : SheetFault → ℕ
sheet_number Sizes = 1
sheet_number NotHeld = 2
sheet_number (Spares f) = 9
sheet_number NoBody = 10
sheet_number ShortOutput = 11

abbrev pub read_number : ReadFault → ℕ
read_number (Sheet f) = sheet_number f
read_number BodyComplete = 3
read_number NoCommand = 4
read_number BadOperand = 5
read_number TooFew = 6
read_number Misplaced = 7
read_number Leftover = 8

-- the fault that tells a refusal
abbrev pub fault_of : Refusal → ReadFault
fault_of body_complete = BodyComplete
fault_of no_command = NoCommand
fault_of bad_operand = BadOperand
fault_of too_few = TooFew
fault_of misplaced = Misplaced
fault_of leftover = Leftover
fault_of (no_spare t) = Sheet (Spares (Empty t))
