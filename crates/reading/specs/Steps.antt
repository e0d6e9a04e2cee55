-- What a byte is told to be: the format's words in the answers of the code.
use Rattle.std.specs.Prelude.{Ok, Err, Result}
use Rattle.script.specs.Format.{Lexed, refused, awaits, ends}
use Rattle.faults.specs.declared.fault.ReadFault.{ReadFault}
use Rattle.faults.specs.Faults.{fault_of}
use Rattle.reading.specs.declared.reader.Step.{Step}
use Rattle.reading.specs.declared.reader.Step.TheVariants.{Await, Perform}

abbrev pub told : Lexed → Result Step ReadFault
told (refused r) = Err (fault_of r)
told (awaits a) = Ok (Await a)
told (ends c) = Ok (Perform c)
