-- The words that a fault is told by.
use Rattle.std.specs.Prelude.{ℕ, List, Option, Some, codes}
use Rattle.pool.specs.Words.{fault_words}
use Rattle.script.specs.Words.{table_word}
use Rattle.faults.specs.declared.fault.SheetFault.{SheetFault}
use Rattle.faults.specs.declared.fault.SheetFault.TheVariants.{Sizes, NotHeld, Spares, NoBody, ShortOutput}
use Rattle.faults.specs.declared.fault.ReadFault.{ReadFault}
use Rattle.faults.specs.declared.fault.ReadFault.TheVariants.{Sheet, BodyComplete, NoCommand, BadOperand, TooFew, Misplaced, Leftover}

abbrev pub sheet_words : SheetFault → Option (List ℕ)
sheet_words Sizes = Some (codes "a table is over its limit, or there are fewer marks than records")
sheet_words NotHeld = Some (codes "the tables do not hold this sheet")
sheet_words (Spares f) = fault_words (λ t. Some (table_word t)) f
sheet_words NoBody = Some (codes "there is no body yet")
sheet_words ShortOutput = Some (codes "the output is too short")

abbrev pub read_words : ReadFault → Option (List ℕ)
read_words (Sheet f) = sheet_words f
read_words BodyComplete = Some (codes "the body is complete already")
read_words NoCommand = Some (codes "there is no such command")
read_words BadOperand = Some (codes "the command does not allow this value or count")
read_words TooFew = Some (codes "the command takes more items than there are")
read_words Misplaced = Some (codes "a part stands where it may not")
read_words Leftover = Some (codes "the body leaves items over")
