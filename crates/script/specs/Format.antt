-- The commands of a sheet: their bytes, their operands, and what the next byte may be.
use Rattle.std.specs.Prelude.{Bool, true, false, cond, ℕ, ◌+◌, ◌*◌, ◌/◌, ◌%◌, eqb, ltb}
use Rattle.std.proofs.Math.Option.{Option, none, some}
use Rattle.script.specs.declared.Word.{Word}
use Rattle.script.specs.declared.Word.TheVariants.{False, True, Null}
use Rattle.script.specs.declared.LogicalOperator.{LogicalOperator}
use Rattle.script.specs.declared.LogicalOperator.TheVariants.{And, Or, Nullish}
use Rattle.script.specs.declared.DeclarationKind.{DeclarationKind}
use Rattle.script.specs.declared.DeclarationKind.TheVariants.{Var, Let, Const}
use Rattle.script.specs.declared.ForInit.{ForInit}
use Rattle.script.specs.declared.ForInit.TheVariants as init
use Rattle.script.specs.declared.ForHead.{ForHead}
use Rattle.script.specs.declared.Code.{Code}
use Rattle.script.specs.declared.Code.TheVariants as code
use Rattle.script.specs.declared.Command.{Command}
use Rattle.script.specs.declared.Command.TheVariants as command
use Rattle.script.specs.declared.Counted.{Counted}
use Rattle.script.specs.declared.Counted.TheVariants as counted
use Rattle.script.specs.declared.Awaiting.{Awaiting}
use Rattle.script.specs.declared.Awaiting.TheVariants as awaiting
use Rattle.script.specs.declared.Table.{Table}

-- why a byte is turned away
pub data Refusal : Type 0 where
  -- a body is complete
  body_complete : Refusal
  -- no such command
  no_command : Refusal
  -- an operand's value or count is not listed
  bad_operand : Refusal
  -- too few items on a stack
  too_few : Refusal
  -- a part stands where it may not
  misplaced : Refusal
  -- the body leaves items on a stack
  leftover : Refusal
  -- the table that the command's record comes from has no spare
  no_spare : Table → Refusal

-- the command that a byte begins
abbrev pub code_of : ℕ → Option Code
code_of b =
    cond (eqb b 0x01) (some code.Number)
    (cond (eqb b 0x02) (some code.Word)
    (cond (eqb b 0x03) (some code.Name)
    (cond (eqb b 0x04) (some code.Assignment)
    (cond (eqb b 0x05) (some code.Call)
    (cond (eqb b 0x06) (some code.Sequence)
    (cond (eqb b 0x07) (some code.Conditional)
    (cond (eqb b 0x08) (some code.Logical)
    (cond (eqb b 0x09) (some code.Not)
    (cond (eqb b 0x0a) (some code.Void)
    (cond (eqb b 0x0b) (some code.StrictEquality)
    (cond (eqb b 0x10) (some code.Declarator)
    (cond (eqb b 0x11) (some code.ValuedDeclarator)
    (cond (eqb b 0x20) (some code.Empty)
    (cond (eqb b 0x21) (some code.Expression)
    (cond (eqb b 0x22) (some code.Declaration)
    (cond (eqb b 0x23) (some code.BareReturn)
    (cond (eqb b 0x24) (some code.ValuedReturn)
    (cond (eqb b 0x25) (some code.Throw)
    (cond (eqb b 0x26) (some code.If)
    (cond (eqb b 0x27) (some code.IfElse)
    (cond (eqb b 0x28) (some code.Block)
    (cond (eqb b 0x29) (some code.While)
    (cond (eqb b 0x2a) (some code.DoWhile)
    (cond (eqb b 0x2b) (some code.For)
    (cond (eqb b 0x2d) (some code.Break)
    (cond (eqb b 0x2e) (some code.Continue)
    (cond (eqb b 0x2f) (some code.Case)
    (cond (eqb b 0x30) (some code.Switch)
    (cond (eqb b 0x3f) (some code.Body)
    none)))))))))))))))))))))))))))))

-- what one byte comes to: refused, a begun command that awaits more, or a whole command
pub data Lexed : Type 0 where
  refused : Refusal → Lexed
  awaits : Awaiting → Lexed
  ends : Command → Lexed

-- the byte of a command
abbrev pub begun : Code → Lexed
begun code.Number = awaits awaiting.NumberFirst
begun code.Word = awaits awaiting.Word
begun code.Name = awaits awaiting.Name
begun code.Assignment = awaits awaiting.Assignment
begun code.Call = awaits awaiting.CallNumber
begun code.Sequence = awaits (awaiting.Count counted.Sequence)
begun code.Conditional = ends command.Conditional
begun code.Logical = awaits awaiting.LogicalOperator
begun code.Not = ends command.Not
begun code.Void = ends command.Void
begun code.StrictEquality = ends command.StrictEquality
begun code.Declarator = awaits (awaiting.Declarator false)
begun code.ValuedDeclarator = awaits (awaiting.Declarator true)
begun code.Empty = ends command.Empty
begun code.Expression = ends command.Expression
begun code.Declaration = awaits awaiting.DeclarationKind
begun code.BareReturn = ends (command.Return false)
begun code.ValuedReturn = ends (command.Return true)
begun code.Throw = ends command.Throw
begun code.If = ends (command.If false)
begun code.IfElse = ends (command.If true)
begun code.Block = awaits (awaiting.Count counted.Block)
begun code.While = ends command.While
begun code.DoWhile = ends command.DoWhile
begun code.For = awaits awaiting.ForHead
begun code.Break = ends command.Break
begun code.Continue = ends command.Continue
begun code.Case = awaits awaiting.CaseTest
begun code.Switch = awaits (awaiting.Count counted.Switch)
begun code.Body = awaits awaiting.BodyZero

abbrev pub begun_or_none : Option Code → Lexed
begun_or_none none = refused no_command
begun_or_none (some c) = begun c

-- operands of one byte
abbrev pub word_of : ℕ → Option Word
word_of b = cond (eqb b 0) (some False) (cond (eqb b 1) (some True) (cond (eqb b 2) (some Null) none))

abbrev pub operator_of : ℕ → Option LogicalOperator
operator_of b = cond (eqb b 0) (some And) (cond (eqb b 1) (some Or) (cond (eqb b 2) (some Nullish) none))

abbrev pub kind_of : ℕ → Option DeclarationKind
kind_of b = cond (eqb b 0) (some Var) (cond (eqb b 1) (some Let) (cond (eqb b 2) (some Const) none))

-- 0 no, 1 yes
abbrev pub flag_of : ℕ → Option Bool
flag_of b = cond (eqb b 0) (some false) (cond (eqb b 1) (some true) none)

-- bits 0 and 1 of a for: an init that is an expression or a declaration, never both
abbrev pub init_of : ℕ → Option ForInit
init_of b =
    cond (eqb (b % 4) 0) (some init.Absent)
    (cond (eqb (b % 4) 1) (some init.Expression)
    (cond (eqb (b % 4) 2) (some init.Declaration) none))

-- bit 2 a test, bit 3 an update, no other bit
abbrev pub head_with : ℕ → Option ForInit → Option ForHead
head_with b none = none
head_with b (some i) = some (record { init = i; test = eqb ((b / 4) % 2) 1; update = eqb ((b / 8) % 2) 1 })

abbrev pub head_of : ℕ → Option ForHead
head_of b = cond (ltb b 16) (head_with b (init_of b)) none

-- a listed operand goes on, any other is refused
abbrev pub listed : {A : Type 0} → Option A → (A → Lexed) → Lexed
listed none k = refused bad_operand
listed (some a) k = k a

-- counts: a sequence has two items or more, a declaration one or more
abbrev pub count_ends : Counted → ℕ → Lexed
count_ends counted.Sequence n = cond (ltb n 2) (refused bad_operand) (ends (command.Sequence n))
count_ends (counted.Declaration k) n = cond (ltb n 1) (refused bad_operand) (ends (command.Declaration k n))
count_ends counted.Block n = ends (command.Block n)
count_ends (counted.Case t) n = ends (command.Case t n)
count_ends counted.Switch n = ends (command.Switch n)
count_ends counted.Body n = ends (command.Body n)

-- two bytes, low first
abbrev pub two : ℕ → ℕ → ℕ
two a b = a + 256 * b

-- four bytes, low first
abbrev pub four : ℕ → ℕ → ℕ → ℕ → ℕ
four a b c d = a + 256 * b + 65536 * c + 16777216 * d

-- a byte by what is awaited
abbrev pub lexed : Awaiting → ℕ → Lexed
lexed awaiting.Command b = begun_or_none (code_of b)
lexed awaiting.NumberFirst b = awaits (awaiting.NumberSecond b)
lexed (awaiting.NumberSecond a) b = awaits (awaiting.NumberThird a b)
lexed (awaiting.NumberThird a b) c = awaits (awaiting.NumberFourth a b c)
lexed (awaiting.NumberFourth a b c) d = ends (command.Number (four a b c d))
lexed awaiting.Word b = listed (word_of b) (λ w. ends (command.Word w))
lexed awaiting.Name b = ends (command.Name b)
lexed awaiting.Assignment b = ends (command.Assignment b)
lexed awaiting.CallNumber b = awaits (awaiting.CallCount b)
lexed (awaiting.CallCount n) b = ends (command.Call n b)
lexed awaiting.LogicalOperator b = listed (operator_of b) (λ o. ends (command.Logical o))
lexed (awaiting.Declarator v) b = ends (command.Declarator b v)
lexed awaiting.DeclarationKind b = listed (kind_of b) (λ k. awaits (awaiting.Count (counted.Declaration k)))
lexed awaiting.ForHead b = listed (head_of b) (λ h. ends (command.For h))
lexed awaiting.CaseTest b = listed (flag_of b) (λ t. awaits (awaiting.Count (counted.Case t)))
lexed awaiting.BodyZero b = cond (eqb b 0) (awaits (awaiting.Count counted.Body)) (refused bad_operand)
lexed (awaiting.Count c) b = awaits (awaiting.CountHigh c b)
lexed (awaiting.CountHigh c low) b = count_ends c (two low b)
