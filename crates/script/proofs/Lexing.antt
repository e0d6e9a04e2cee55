-- What lexing makes of a byte is what the bytes of the begun command and that byte spell.
use mathlib.Core.Path.{◌≡◌, refl}
use mathlib.Core.Bool.{Bool, true, false, cond}
use mathlib.Core.List.{List, [], ◌∷◌, ◌++◌}
use mathlib.Core.Option.{Option, none, some}
use Prim.Native.Nat.{ℕ}
use lib.Dec.{eqb, ltb}
use borrow.Author.Tests.{eqb-true}
use Rattle.script.specs.declared.DeclarationKind.{DeclarationKind}
use Rattle.script.specs.declared.DeclarationKind.TheVariants.{Var, Let, Const}
use Rattle.script.specs.declared.Code.{Code}
use Rattle.script.specs.declared.Code.TheVariants as code
use Rattle.script.specs.declared.Command.{Command}
use Rattle.script.specs.declared.Command.TheVariants as command
use Rattle.script.specs.declared.Counted.{Counted}
use Rattle.script.specs.declared.Counted.TheVariants as counted
use Rattle.script.specs.declared.Awaiting.{Awaiting}
use Rattle.script.specs.declared.Awaiting.TheVariants as awaiting
use Rattle.script.specs.Format.{code_of, word_of, operator_of, kind_of, flag_of, head_of, two}
use Rattle.script.specs.Format.{Lexed, refused, awaits, ends, begun_or_none, bad_operand, listed, count_ends, lexed}
use Rattle.script.specs.Reading.{apply, spelled}
use Rattle.script.specs.Laws.{counted_bytes, begun_bytes}

-- a refused byte tells nothing; otherwise the bytes are those of the begun command, or of the whole one
abbrev pub LexedSpells : Lexed → List ℕ → Type 0
LexedSpells (refused why) bytes = Unit {0}
LexedSpells (awaits a) bytes = (bytes ≡ begun_bytes a) × (spelled bytes ≡ none)
LexedSpells (ends c) bytes = spelled bytes ≡ some c

-- what holds where two numbers are equal holds of the outcome of the test
when_equal : {A : Type 0} (P : ℕ → A → Type 0) (b k : ℕ) (yes_case no_case : A) →
    P k yes_case → P b no_case → P b (cond (eqb b k) yes_case no_case)
when_equal {A} P b k yes_case no_case is is_not = by (eqb b k) refl
  where
    by : (t : Bool) → eqb b k ≡ t → P b (cond t yes_case no_case)
    by true e = rw (eqb-true b k e) is
    by false e = is_not

-- the byte that begins a command
abbrev Begins : ℕ → Option Code → Type 0
Begins b o = LexedSpells (begun_or_none o) (b ∷ [])

begins : (b k : ℕ) (c : Code) (rest : Option Code) → Begins k (some c) → Begins b rest → Begins b (cond (eqb b k) (some c) rest)
begins b k c rest is is_not = when_equal Begins b k (some c) rest is is_not

command_spells : (b : ℕ) → Begins b (code_of b)
command_spells b =
    begins b 0x01 code.Number _ (refl, refl)
    (begins b 0x02 code.Word _ (refl, refl)
    (begins b 0x03 code.Name _ (refl, refl)
    (begins b 0x04 code.Assignment _ (refl, refl)
    (begins b 0x05 code.Call _ (refl, refl)
    (begins b 0x06 code.Sequence _ (refl, refl)
    (begins b 0x07 code.Conditional _ refl
    (begins b 0x08 code.Logical _ (refl, refl)
    (begins b 0x09 code.Not _ refl
    (begins b 0x0a code.Void _ refl
    (begins b 0x0b code.StrictEquality _ refl
    (begins b 0x10 code.Declarator _ (refl, refl)
    (begins b 0x11 code.ValuedDeclarator _ (refl, refl)
    (begins b 0x20 code.Empty _ refl
    (begins b 0x21 code.Expression _ refl
    (begins b 0x22 code.Declaration _ (refl, refl)
    (begins b 0x23 code.BareReturn _ refl
    (begins b 0x24 code.ValuedReturn _ refl
    (begins b 0x25 code.Throw _ refl
    (begins b 0x26 code.If _ refl
    (begins b 0x27 code.IfElse _ refl
    (begins b 0x28 code.Block _ (refl, refl)
    (begins b 0x29 code.While _ refl
    (begins b 0x2a code.DoWhile _ refl
    (begins b 0x2b code.For _ (refl, refl)
    (begins b 0x2d code.Break _ refl
    (begins b 0x2e code.Continue _ refl
    (begins b 0x2f code.Case _ (refl, refl)
    (begins b 0x30 code.Switch _ (refl, refl)
    (begins b 0x3f code.Body _ (refl, refl)
    tt)))))))))))))))))))))))))))))

-- an operand of one byte that ends a command
listed_spells : {A : Type 0} (bytes : List ℕ) (f : A → Command) (o : Option A) →
    spelled bytes ≡ apply f o → LexedSpells (listed o (λ a. ends (f a))) bytes
listed_spells bytes f none e = tt
listed_spells bytes f (some a) e = e

-- an operand of one byte before a count
abbrev KindSpells : ℕ → Option DeclarationKind → Type 0
KindSpells b o = LexedSpells (listed o (λ k. awaits (awaiting.Count (counted.Declaration k)))) (0x22 ∷ b ∷ [])

kind_spells : (b : ℕ) → KindSpells b (kind_of b)
kind_spells b =
    when_equal KindSpells b 0 (some Var) _ (refl, refl)
    (when_equal KindSpells b 1 (some Let) _ (refl, refl)
    (when_equal KindSpells b 2 (some Const) _ (refl, refl) tt))

abbrev FlagSpells : ℕ → Option Bool → Type 0
FlagSpells b o = LexedSpells (listed o (λ t. awaits (awaiting.Count (counted.Case t)))) (0x2f ∷ b ∷ [])

flag_spells : (b : ℕ) → FlagSpells b (flag_of b)
flag_spells b = when_equal FlagSpells b 0 (some false) _ (refl, refl) (when_equal FlagSpells b 1 (some true) _ (refl, refl) tt)

abbrev ZeroSpells : ℕ → Lexed → Type 0
ZeroSpells b l = LexedSpells l (0x3f ∷ b ∷ [])

-- counts
at_least_spells : (t : Bool) (c : Command) (bytes : List ℕ) → spelled bytes ≡ some c → LexedSpells (cond t (refused bad_operand) (ends c)) bytes
at_least_spells true c bytes e = tt
at_least_spells false c bytes e = e

count_spells : (c : Counted) (low : ℕ) → spelled (counted_bytes c ++ (low ∷ [])) ≡ none
count_spells counted.Sequence low = refl
count_spells (counted.Declaration k) low = refl
count_spells counted.Block low = refl
count_spells (counted.Case t) low = refl
count_spells counted.Switch low = refl
count_spells counted.Body low = refl

high_spells : (c : Counted) (low b : ℕ) → LexedSpells (count_ends c (two low b)) ((counted_bytes c ++ (low ∷ [])) ++ (b ∷ []))
high_spells counted.Sequence low b = at_least_spells (ltb (two low b) 2) (command.Sequence (two low b)) (0x06 ∷ low ∷ b ∷ []) refl
high_spells (counted.Declaration Var) low b = at_least_spells (ltb (two low b) 1) (command.Declaration Var (two low b)) (0x22 ∷ 0 ∷ low ∷ b ∷ []) refl
high_spells (counted.Declaration Let) low b = at_least_spells (ltb (two low b) 1) (command.Declaration Let (two low b)) (0x22 ∷ 1 ∷ low ∷ b ∷ []) refl
high_spells (counted.Declaration Const) low b = at_least_spells (ltb (two low b) 1) (command.Declaration Const (two low b)) (0x22 ∷ 2 ∷ low ∷ b ∷ []) refl
high_spells counted.Block low b = refl
high_spells (counted.Case false) low b = refl
high_spells (counted.Case true) low b = refl
high_spells counted.Switch low b = refl
high_spells counted.Body low b = refl

pub lexed_spells : (a : Awaiting) (b : ℕ) → LexedSpells (lexed a b) (begun_bytes a ++ (b ∷ []))
lexed_spells awaiting.Command b = command_spells b
lexed_spells awaiting.NumberFirst b = (refl, refl)
lexed_spells (awaiting.NumberSecond x) b = (refl, refl)
lexed_spells (awaiting.NumberThird x y) b = (refl, refl)
lexed_spells (awaiting.NumberFourth x y z) b = refl
lexed_spells awaiting.Word b = listed_spells (0x02 ∷ b ∷ []) command.Word (word_of b) refl
lexed_spells awaiting.Name b = refl
lexed_spells awaiting.Assignment b = refl
lexed_spells awaiting.CallNumber b = (refl, refl)
lexed_spells (awaiting.CallCount n) b = refl
lexed_spells awaiting.LogicalOperator b = listed_spells (0x08 ∷ b ∷ []) command.Logical (operator_of b) refl
lexed_spells (awaiting.Declarator false) b = refl
lexed_spells (awaiting.Declarator true) b = refl
lexed_spells awaiting.DeclarationKind b = kind_spells b
lexed_spells awaiting.ForHead b = listed_spells (0x2b ∷ b ∷ []) command.For (head_of b) refl
lexed_spells awaiting.CaseTest b = flag_spells b
lexed_spells awaiting.BodyZero b =
    when_equal ZeroSpells b 0 (awaits (awaiting.Count counted.Body)) (refused bad_operand) (refl, refl) tt
lexed_spells (awaiting.Count c) b = (refl, count_spells c b)
lexed_spells (awaiting.CountHigh c low) b = high_spells c low b
