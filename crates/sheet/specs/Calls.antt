-- What the public calls promise, for every input.
use Rattle.std.specs.Prelude.{◌≡◌, ℕ, ◌+◌, Bool, true, false, ◌&&◌, List, [], ◌++◌, length, drop, replicate, Ok, Err, Result, nat_le}
use Rattle.std.proofs.Math.Option.{some}
use Rattle.std.specs.List.{range_with_len}
use Rattle.pool.specs.Chain.{places}
use Rattle.script.specs.Tree.{Stmts}
use Rattle.script.specs.Stacks.{no_items}
use Rattle.script.specs.Judge.{Stage as ModelStage, reading, complete, Spares, Model, fresh, all_taken, judge_all}
use Rattle.script.specs.Reading.{Reading, plain_reading}
use Rattle.script.specs.Laws.{Agrees, AfterFeeding}
use Rattle.script.specs.Written.{body_bytes}
use Rattle.faults.specs.declared.fault.SheetFault.{SheetFault}
use Rattle.faults.specs.declared.fault.SheetFault.TheVariants.{Sizes, NotHeld, NoBody, ShortOutput}
use Rattle.faults.specs.declared.fault.ReadFault.TheVariants.{Sheet}
use Rattle.records.specs.declared.record.Stage.{Stage}
use Rattle.records.specs.declared.record.Stage.TheVariants.{Reading as StageReading, Complete}
use Rattle.records.specs.declared.record.Draft.{Draft}
use Rattle.records.specs.declared.record.Whole.{Whole}
use Rattle.sheet.specs.declared.feeding.Fed.{Fed as FedSheet}
use Rattle.sheet.specs.declared.closing.Unclosed.{Unclosed}
use Rattle.sheet.specs.declared.output.Wrote.{Wrote}
use Rattle.records.specs.Heap.{Heap, expr_links, stmt_links, decl_links}
use Rattle.records.specs.Holds.{Holds, HoldsWhole, counted}
use Rattle.reading.specs.Judged.{FedAs}

-- no table is over its limit, and there are marks for all records
abbrev pub sizes_fit : ℕ → ℕ → ℕ → ℕ → Bool
sizes_fit exprs stmts decls marks = nat_le exprs 32768 && (nat_le stmts 4096 && (nat_le decls 4096 && nat_le (exprs + (stmts + decls)) marks))

abbrev pub sizes_of : Heap → List ℕ → Bool
sizes_of h marks = sizes_fit (length h.exprs) (length h.stmts) (length h.decls) (length marks)

-- how many records each table has
abbrev pub lengths : Heap → Spares
lengths h = record { exprs = length h.exprs; stmts = length h.stmts; decls = length h.decls }

abbrev pub cleared : List ℕ → List ℕ
cleared marks = replicate (length marks) 0

-- every record is spare, the first one first
pub record AllSpare (h : Heap) (d : Draft) : Type 0 where
  pub exprs : places (expr_links h.exprs) d.pools.exprs.head d.pools.exprs.count ≡ range_with_len 0 (length h.exprs)
  pub stmts : places (stmt_links h.stmts) d.pools.stmts.head d.pools.stmts.count ≡ range_with_len 0 (length h.stmts)
  pub decls : places (decl_links h.decls) d.pools.decls.head d.pools.decls.count ≡ range_with_len 0 (length h.decls)

-- start: a fresh draft of tables that fit
abbrev pub Starts : Bool → Result Draft SheetFault → Heap → List ℕ → Heap → List ℕ → Type 0
Starts false r h marks h' marks' = (r ≡ Err Sizes) × (h' ≡ h) × (marks' ≡ marks)
Starts true (Err f) h marks h' marks' = ⊥
Starts true (Ok d) h marks h' marks' = Holds h' d (fresh (lengths h)) × AllSpare h' d × (marks' ≡ cleared marks)

-- feed: the judging of the bytes, from whichever model the tables hold
abbrev pub FeedsFrom : Heap → Draft → List ℕ → FedSheet → Heap → Type 0
FeedsFrom h d bytes r h' = (m : Model) → Holds h d m → FedAs (record { count = r.taken; answer = r.answer }) (length bytes) (judge_all bytes m) h' r.draft

abbrev pub not_fed : Draft → SheetFault → FedSheet
not_fed d f = record { draft = d; taken = 0; answer = Err (Sheet f) }

-- the sizes fit or not; then the tables hold some model, and it is fed, or none, and nothing is
abbrev pub Feeds : Bool → Heap → Draft → List ℕ → List ℕ → FedSheet → Heap → List ℕ → Type 0
Feeds false h d marks bytes r h' marks' = (r ≡ not_fed d Sizes) × (h' ≡ h) × (marks' ≡ marks)
Feeds true h d marks bytes r h' marks' =
    FeedsFrom h d bytes r h' × (((m : Model) → Holds h d m → ⊥) → (r ≡ not_fed d NotHeld) × (h' ≡ h)) × (marks' ≡ cleared marks)

-- the plain reading of the bytes that were taken tells what the tables then hold
abbrev pub ReadsTaken : Heap → Draft → List ℕ → Type 0
ReadsTaken h d bytes = (m : Model) (r : Reading) → Holds h d m → Agrees m r → AfterFeeding (judge_all bytes m) bytes r

-- close: the whole sheet with the same body, or the draft given back
abbrev pub ClosesFrom : Stage → ModelStage → Draft → Result Whole Unclosed → Heap → Type 0
ClosesFrom (StageReading a) s d r h = r ≡ Err (record { draft = d; fault = NoBody })
ClosesFrom (Complete at) (reading a) d r h = ⊥
ClosesFrom (Complete at) (complete body) d r h = (r ≡ Ok (record { body = at; pools = d.pools })) × HoldsWhole h (record { body = at; pools = d.pools }) body

-- the sizes fit or not; then the tables hold some model, and it is closed if it has a body, or none
abbrev pub Closes : Bool → Heap → Draft → List ℕ → Result Whole Unclosed → List ℕ → Type 0
Closes false h d marks r marks' = (r ≡ Err (record { draft = d; fault = Sizes })) × (marks' ≡ marks)
Closes true h d marks r marks' =
    ((m : Model) → Holds h d m → ClosesFrom d.stage m.stage d r h)
    × (((m : Model) → Holds h d m → ⊥) → r ≡ Err (record { draft = d; fault = NotHeld }))
    × (marks' ≡ cleared marks)

-- write: the bytes of the body in front of the output, or nothing
abbrev pub WritesBytes : Bool → Whole → List ℕ → List ℕ → Wrote → List ℕ → Type 0
WritesBytes true w bytes out r out' = (r ≡ record { whole = w; answer = Ok (length bytes) }) × (out' ≡ bytes ++ drop (length bytes) out)
WritesBytes false w bytes out r out' = (r ≡ record { whole = w; answer = Err ShortOutput }) × (out' ≡ out)

-- the sizes fit or not; then the tables hold some body, and it is written if the output is long enough, or none
abbrev pub WritesSheet : Bool → Heap → Whole → List ℕ → List ℕ → Wrote → List ℕ → List ℕ → Type 0
WritesSheet false h w marks out r marks' out' = (r ≡ record { whole = w; answer = Err Sizes }) × (marks' ≡ marks) × (out' ≡ out)
WritesSheet true h w marks out r marks' out' =
    ((body : Stmts) → HoldsWhole h w body → WritesBytes (nat_le (length (body_bytes body)) (length out)) w (body_bytes body) out r out')
    × (((body : Stmts) → HoldsWhole h w body → ⊥) → (r ≡ record { whole = w; answer = Err NotHeld }) × (out' ≡ out))
    × (marks' ≡ cleared marks)

-- what was written, fed to a fresh draft on tables of the same lengths, is taken, every byte, and makes an equal body with as many spares
abbrev pub ReadsBack : Heap → Whole → Type 0
ReadsBack h w = (body : Stmts) → HoldsWhole h w body →
    (judge_all (body_bytes body) (fresh (lengths h)) ≡ all_taken (record { stage = complete body; stacks = no_items; spares = counted w.pools }))
    × (plain_reading (body_bytes body) ≡ record { begun = []; stacks = no_items; body = some body })
