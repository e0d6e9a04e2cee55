-- One byte, from what is awaited to what is judged.
use Rattle.std.proofs.Common.{◌≡◌, ℕ, ◌<◌, Bool, true, false, eqb, ltb, Ok, Err, Result, sym, refl, ap, ◌∙◌, subst, ltb-false}
use mathlib.Core.Option.{Option, none, some}
use Rattle.script.specs.declared.Code.{Code}
use Rattle.script.specs.declared.Code.TheVariants as code
use Rattle.script.specs.declared.Counted.{Counted}
use Rattle.script.specs.declared.Counted.TheVariants as counted
use Rattle.script.specs.declared.Awaiting.{Awaiting}
use Rattle.script.specs.declared.Awaiting.TheVariants as awaiting
use Rattle.script.specs.declared.Command.{Command}
use Rattle.script.specs.Format.{Lexed, refused, awaits, ends, lexed, begun, begun_or_none}
use Rattle.script.specs.Format.{code_of, listed, count_ends, two, word_of, operator_of, kind_of, head_of, flag_of}
use Rattle.script.specs.Judge.{Stage as ModelStage, reading, complete, Model, Verdict, turned_away, taken, judge, judge_at, after_lexing, settled}
use Rattle.script.specs.Stacks.{perform}
use Rattle.script.proofs.Keeping.{taken_keeps_sound}
use Rattle.faults.specs.declared.fault.ReadFault.{ReadFault}
use Rattle.reading.specs.declared.reader.Step.TheVariants.{Perform}
use Rattle.records.specs.declared.record.Stage.{Stage}
use Rattle.records.specs.declared.record.Stage.TheVariants.{Reading, Complete}
use Rattle.records.specs.declared.record.Draft.{Draft}
use Rattle.records.specs.Heap.{Heap}
use Rattle.reading.specs.Making.{Listed}
use Rattle.reading.specs.Steps.{told}
use Rattle.records.specs.Holds.{Holds, Reads, SameStage}
use Rattle.reading.specs.Judged.{Judged, Stepped}

-- the stage of a draft is its model's
pub reading_stage : (s : Stage) (t : ModelStage) (a : Awaiting) → SameStage s t → s ≡ Reading a → t ≡ reading a
reading_stage (Reading x) (reading y) a h e = let z : x ≡ a = cc in ap reading (sym h ∙ z)
reading_stage (Reading x) (complete ss) a h e = absurd h
reading_stage (Complete at) (reading y) a h e = absurd h
reading_stage (Complete at) (complete ss) a h e = cc

-- what a byte was told to be is what it is
pub told_ends : (x : Lexed) (c : Command) → Ok (Perform c) ≡ told x → x ≡ ends c
told_ends (refused r) c e = cc
told_ends (awaits b) c e = cc
told_ends (ends b) c e = let z : c ≡ b = cc in ap ends (sym z)

-- a whole command has counts that are listed
abbrev ListedLexed : Lexed → Type 0
ListedLexed (refused r) = Unit {0}
ListedLexed (awaits a) = Unit {0}
ListedLexed (ends c) = Listed c

begun_listed : (c : Code) → ListedLexed (begun c)
begun_listed code.Number = tt
begun_listed code.Word = tt
begun_listed code.Name = tt
begun_listed code.Assignment = tt
begun_listed code.Call = tt
begun_listed code.Sequence = tt
begun_listed code.Conditional = tt
begun_listed code.Logical = tt
begun_listed code.Not = tt
begun_listed code.Void = tt
begun_listed code.StrictEquality = tt
begun_listed code.Declarator = tt
begun_listed code.ValuedDeclarator = tt
begun_listed code.Empty = tt
begun_listed code.Expression = tt
begun_listed code.Declaration = tt
begun_listed code.BareReturn = tt
begun_listed code.ValuedReturn = tt
begun_listed code.Throw = tt
begun_listed code.If = tt
begun_listed code.IfElse = tt
begun_listed code.Block = tt
begun_listed code.While = tt
begun_listed code.DoWhile = tt
begun_listed code.For = tt
begun_listed code.Break = tt
begun_listed code.Continue = tt
begun_listed code.Case = tt
begun_listed code.Switch = tt
begun_listed code.Body = tt

begun_or_none_listed : (o : Option Code) → ListedLexed (begun_or_none o)
begun_or_none_listed none = tt
begun_or_none_listed (some c) = begun_listed c

listed_listed : {A : Type 0} (o : Option A) (k : A → Lexed) → ((a : A) → ListedLexed (k a)) → ListedLexed (listed o k)
listed_listed none k h = tt
listed_listed (some a) k h = h a

count_listed : (c : Counted) (n : ℕ) → ListedLexed (count_ends c n)
count_listed counted.Sequence n = by (ltb n 2) refl
  where
    by : (b : Bool) → ltb n 2 ≡ b → ListedLexed (count_ends counted.Sequence n)
    by true e = rw e tt
    by false e = rw e (ltb-false n 2 e)
count_listed (counted.Declaration k) n = by (ltb n 1) refl
  where
    by : (b : Bool) → ltb n 1 ≡ b → ListedLexed (count_ends (counted.Declaration k) n)
    by true e = rw e tt
    by false e = rw e (ltb-false n 1 e)
count_listed counted.Block n = tt
count_listed (counted.Case t) n = tt
count_listed counted.Switch n = tt
count_listed counted.Body n = tt

lexed_listed : (a : Awaiting) (b : ℕ) → ListedLexed (lexed a b)
lexed_listed awaiting.Command b = begun_or_none_listed (code_of b)
lexed_listed awaiting.NumberFirst b = tt
lexed_listed (awaiting.NumberSecond a) b = tt
lexed_listed (awaiting.NumberThird a c) b = tt
lexed_listed (awaiting.NumberFourth a c d) b = tt
lexed_listed awaiting.Word b = listed_listed (word_of b) _ (λ w. tt)
lexed_listed awaiting.Name b = tt
lexed_listed awaiting.Assignment b = tt
lexed_listed awaiting.CallNumber b = tt
lexed_listed (awaiting.CallCount n) b = tt
lexed_listed awaiting.LogicalOperator b = listed_listed (operator_of b) _ (λ w. tt)
lexed_listed (awaiting.Declarator v) b = tt
lexed_listed awaiting.DeclarationKind b = listed_listed (kind_of b) _ (λ w. tt)
lexed_listed awaiting.ForHead b = listed_listed (head_of b) _ (λ w. tt)
lexed_listed awaiting.CaseTest b = listed_listed (flag_of b) _ (λ w. tt)
lexed_listed awaiting.BodyZero b = by (eqb b 0) refl
  where
    by : (c : Bool) → eqb b 0 ≡ c → ListedLexed (lexed awaiting.BodyZero b)
    by true e = rw e tt
    by false e = rw e tt
lexed_listed (awaiting.Count c) b = tt
lexed_listed (awaiting.CountHigh c low) b = count_listed c (two low b)

pub ends_listed : (a : Awaiting) (b : ℕ) (c : Command) → lexed a b ≡ ends c → Listed c
ends_listed a b c e = subst (λ (x : Lexed). ListedLexed x) e (lexed_listed a b)

module _ (h : Heap) (d : Draft) (m : Model) (holds : Holds h d m) (b : ℕ) (a : Awaiting) (reads : d.stage ≡ Reading a) where
  judged_reading : judge m b ≡ after_lexing (lexed a b) m.stacks m.spares
  judged_reading = ap (λ t. judge_at t m.stacks m.spares b) (reading_stage d.stage m.stage a holds.stage reads)

  pub step_performs : (c : Command) (r : Result (Unit {0}) ReadFault) (h' : Heap) (d' : Draft) → b < 256 → Ok (Perform c) ≡ told (lexed a b) →
      (Reads m → Listed c → Judged r (settled (perform c m.stacks) m.spares) h d h' d') → Stepped r (judge m b) h d h' d'
  step_performs c r h' d' small e judged =
      let x = told_ends (lexed a b) c e in
      let j : judge m b ≡ settled (perform c m.stacks) m.spares = judged_reading ∙ ap (λ y. after_lexing y m.stacks m.spares) x in
      stepped r (settled (perform c m.stacks) m.spares) j (judged (a, reading_stage d.stage m.stage a holds.stage reads) (ends_listed a b c x))
    where
      stepped : (r : Result (Unit {0}) ReadFault) (v : Verdict) → judge m b ≡ v → Judged r v h d h' d' → Stepped r (judge m b) h d h' d'
      stepped (Ok u) (turned_away q) e k = absurd k
      stepped (Ok u) (taken m') e k = rw e (k (taken_keeps_sound m m' b small holds.sound e))
      stepped (Err f) (turned_away q) e k = rw e k
      stepped (Err f) (taken m') e k = absurd k
