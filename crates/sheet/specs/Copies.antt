-- What `copy` promises: the answer to every input, by the judging of its bytes on tables of the given lengths.
use Rattle.std.specs.Prelude.{◌≡◌, ℕ, Bool, true, false, List, ◌++◌, length, take, drop, Ok, Err, Result, nat_le}
use Rattle.std.proofs.Math.Option.{some}
use Rattle.script.specs.Tree.{Stmts}
use Rattle.script.specs.Judge.{Stage, reading, complete, Spares, fresh, Fed, all_taken, stopped, judge_all}
use Rattle.script.specs.Reading.{plain_reading}
use Rattle.script.specs.Written.{body_bytes}
use Rattle.faults.specs.declared.fault.SheetFault.TheVariants.{Sizes, NoBody, ShortOutput}
use Rattle.faults.specs.declared.fault.ReadFault.{ReadFault}
use Rattle.faults.specs.declared.fault.ReadFault.TheVariants.{Sheet}
use Rattle.sheet.specs.declared.copying.Spared.{Spared}
use Rattle.sheet.specs.declared.copying.Copied.{Copied}
use Rattle.sheet.specs.declared.copying.Refused.{Refused}
use Rattle.faults.specs.Faults.{fault_of}
use Rattle.sheet.specs.Calls.{cleared}

-- refused after so many bytes
abbrev pub refused_after : ℕ → ReadFault → Result Copied Refused
refused_after n f = Err (record { fault = f; taken = n })

abbrev pub spared_of : Spares → Spared
spared_of left = record { exprs = left.exprs; stmts = left.stmts; decls = left.decls }

-- the bytes of a body stand in front of the output, if they fit
abbrev pub CopiesBody : Bool → List ℕ → Spares → ℕ → List ℕ → Result Copied Refused → List ℕ → Type 0
CopiesBody true written left n out r out' =
    (r ≡ Ok (record { taken = n; written = length written; spared = spared_of left })) × (out' ≡ written ++ drop (length written) out)
CopiesBody false written left n out r out' = (r ≡ refused_after n (Sheet ShortOutput)) × (out' ≡ out)

-- n bytes were taken, every one, and came to this stage with so many records left
abbrev pub CopiesStage : Stage → Spares → ℕ → List ℕ → Result Copied Refused → List ℕ → Type 0
CopiesStage (reading a) left n out r out' = (r ≡ refused_after n (Sheet NoBody)) × (out' ≡ out)
CopiesStage (complete body) left n out r out' = CopiesBody (nat_le (length (body_bytes body)) (length out)) (body_bytes body) left n out r out'

abbrev pub CopiesFed : Fed → ℕ → List ℕ → Result Copied Refused → List ℕ → Type 0
CopiesFed (stopped k why m) n out r out' = (r ≡ refused_after k (fault_of why)) × (out' ≡ out)
CopiesFed (all_taken m) n out r out' = CopiesStage m.stage m.spares n out r out'

-- copy: whether the sizes fit, how many records each table has, and the bytes settle the answer
abbrev pub Copies : Bool → Spares → List ℕ → List ℕ → List ℕ → Result Copied Refused → List ℕ → List ℕ → Type 0
Copies false sizes bytes marks out r marks' out' = (r ≡ refused_after 0 (Sheet Sizes)) × (marks' ≡ marks) × (out' ≡ out)
Copies true sizes bytes marks out r marks' out' = CopiesFed (judge_all bytes (fresh sizes)) (length bytes) out r out' × (marks' ≡ cleared marks)

-- with no refusal, the bytes were judged to make a body, and the plain readings of the bytes and of what was written have exactly this body
abbrev pub Spells : Result Copied Refused → Fed → List ℕ → List ℕ → Type 0
Spells (Err f) fed bytes out' = Unit {0}
Spells (Ok c) (stopped k why m) bytes out' = ⊥
Spells (Ok c) (all_taken m) bytes out' =
    (body : Stmts) × (m.stage ≡ complete body) × ((plain_reading bytes).body ≡ some body) × ((plain_reading (take c.written out')).body ≡ some body)
