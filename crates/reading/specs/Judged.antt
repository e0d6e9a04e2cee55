-- The code's answer to a byte is the judging of it, and the tables hold what was judged.
use Rattle.std.specs.Prelude.{◌≡◌, ℕ, Ok, Err, Result}
use Rattle.script.specs.Judge.{Verdict, turned_away, taken, Fed, all_taken, stopped}
use Rattle.script.specs.Sound.{SoundModel}
use Rattle.faults.specs.declared.fault.ReadFault.{ReadFault}
use Rattle.reading.specs.declared.judging.Taken.{Taken}
use Rattle.records.specs.declared.record.Draft.{Draft}
use Rattle.records.specs.Heap.{Heap}
use Rattle.records.specs.Holds.{Holds}
use Rattle.faults.specs.Faults.{fault_of}

-- a refusal is told and leaves draft and tables; what is taken is held, given that it breaks no rule
abbrev pub Judged : Result (Unit {0}) ReadFault → Verdict → Heap → Draft → Heap → Draft → Type 0
Judged (Ok u) (turned_away r) h d h' d' = ⊥
Judged (Ok u) (taken m) h d h' d' = SoundModel m → Holds h' d' m
Judged (Err f) (turned_away r) h d h' d' = (f ≡ fault_of r) × (h' ≡ h) × (d' ≡ d)
Judged (Err f) (taken m) h d h' d' = ⊥

-- the same for one byte: what is taken is held
abbrev pub Stepped : Result (Unit {0}) ReadFault → Verdict → Heap → Draft → Heap → Draft → Type 0
Stepped (Ok u) (turned_away r) h d h' d' = ⊥
Stepped (Ok u) (taken m) h d h' d' = Holds h' d' m
Stepped (Err f) (turned_away r) h d h' d' = (f ≡ fault_of r) × (h' ≡ h) × (d' ≡ d)
Stepped (Err f) (taken m) h d h' d' = ⊥

-- the answer to bytes is their judging, and the tables hold the model that it comes to
abbrev pub FedAs : Taken → ℕ → Fed → Heap → Draft → Type 0
FedAs r n (all_taken m) h d = (r.answer ≡ Ok tt) × (r.count ≡ n) × Holds h d m
FedAs r n (stopped k why m) h d = (r.answer ≡ Err (fault_of why)) × (r.count ≡ k) × Holds h d m
