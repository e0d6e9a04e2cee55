-- What is true of reading, judging and writing together.
use Rattle.std.specs.Prelude.{◌≡◌, Bool, true, false, List, [], ◌∷◌, ◌++◌, ℕ, ◌<◌, take}
use Rattle.std.proofs.Math.Option.{none, some}
use Rattle.script.specs.declared.Counted.{Counted}
use Rattle.script.specs.declared.Counted.TheVariants as counted
use Rattle.script.specs.declared.Awaiting.{Awaiting}
use Rattle.script.specs.declared.Awaiting.TheVariants as awaiting
use Rattle.script.specs.Tree.{Stmts}
use Rattle.script.specs.Stacks.{no_items}
use Rattle.script.specs.Judge.{Stage, reading, complete, Spares, Model, fresh, taken, judge, Fed, all_taken, stopped, judge_all}
use Rattle.script.specs.Reading.{Reading, read_byte, read_all, plain_reading}
use Rattle.script.specs.Sound.{SoundStmts, SoundModel, plus, records_stmts}
use Rattle.script.specs.Written.{body_bytes, kind_byte}

abbrev pub bit : Bool → ℕ → ℕ → ℕ
bit false a b = a
bit true a b = b

-- the bytes of a command that is begun with a count to come
abbrev pub counted_bytes : Counted → List ℕ
counted_bytes counted.Sequence = 0x06 ∷ []
counted_bytes (counted.Declaration k) = 0x22 ∷ kind_byte k ∷ []
counted_bytes counted.Block = 0x28 ∷ []
counted_bytes (counted.Case t) = 0x2f ∷ bit t 0 1 ∷ []
counted_bytes counted.Switch = 0x30 ∷ []
counted_bytes counted.Body = 0x3f ∷ 0 ∷ []

-- the bytes of the begun command
abbrev pub begun_bytes : Awaiting → List ℕ
begun_bytes awaiting.Command = []
begun_bytes awaiting.NumberFirst = 0x01 ∷ []
begun_bytes (awaiting.NumberSecond a) = 0x01 ∷ a ∷ []
begun_bytes (awaiting.NumberThird a b) = 0x01 ∷ a ∷ b ∷ []
begun_bytes (awaiting.NumberFourth a b c) = 0x01 ∷ a ∷ b ∷ c ∷ []
begun_bytes awaiting.Word = 0x02 ∷ []
begun_bytes awaiting.Name = 0x03 ∷ []
begun_bytes awaiting.Assignment = 0x04 ∷ []
begun_bytes awaiting.CallNumber = 0x05 ∷ []
begun_bytes (awaiting.CallCount n) = 0x05 ∷ n ∷ []
begun_bytes awaiting.LogicalOperator = 0x08 ∷ []
begun_bytes (awaiting.Declarator v) = bit v 0x10 0x11 ∷ []
begun_bytes awaiting.DeclarationKind = 0x22 ∷ []
begun_bytes awaiting.ForHead = 0x2b ∷ []
begun_bytes awaiting.CaseTest = 0x2f ∷ []
begun_bytes awaiting.BodyZero = 0x3f ∷ []
begun_bytes (awaiting.Count c) = counted_bytes c
begun_bytes (awaiting.CountHigh c low) = counted_bytes c ++ (low ∷ [])

-- a draft's model tells the same as a plain reading
abbrev pub StageAgrees : Stage → Reading → Type 0
StageAgrees (reading a) r = (r.begun ≡ begun_bytes a) × (r.body ≡ none)
StageAgrees (complete ss) r = (r.begun ≡ []) × (r.body ≡ some ss)

pub record Agrees (m : Model) (r : Reading) : Type 0 where
  pub stage : StageAgrees m.stage r
  pub stacks : m.stacks ≡ r.stacks

-- a byte that is taken is read
abbrev pub TakenIsRead : Type 0
TakenIsRead = (m m' : Model) (r : Reading) (b : ℕ) → Agrees m r → judge m b ≡ taken m' → Agrees m' (read_byte r b)

-- so the bytes that were taken before a refusal, or all, spell what the model has
abbrev pub AfterFeeding : Fed → List ℕ → Reading → Type 0
AfterFeeding (all_taken m) bytes r = Agrees m (read_all bytes r)
AfterFeeding (stopped n why m) bytes r = Agrees m (read_all (take n bytes) r)

abbrev pub AcceptedBytesSpell : Type 0
AcceptedBytesSpell = (m : Model) (r : Reading) (bytes : List ℕ) → Agrees m r → AfterFeeding (judge_all bytes m) bytes r

-- a byte that is taken keeps the rules of the trees
abbrev pub TakenKeepsSound : Type 0
TakenKeepsSound = (m m' : Model) (b : ℕ) → b < 256 → SoundModel m → judge m b ≡ taken m' → SoundModel m'

-- written bytes are taken, every one, where there are records enough, and make the same body
abbrev pub WrittenIsTaken : Type 0
WrittenIsTaken = (body : Stmts) (left : Spares) → SoundStmts body →
    judge_all (body_bytes body) (fresh (plus (records_stmts body) left)) ≡ all_taken (record { stage = complete body; stacks = no_items; spares = left })

-- the plain reading of written bytes is the body
abbrev pub WrittenSpells : Type 0
WrittenSpells = (body : Stmts) → SoundStmts body → plain_reading (body_bytes body) ≡ record { begun = []; stacks = no_items; body = some body }
