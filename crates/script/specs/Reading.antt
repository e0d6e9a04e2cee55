-- The plain reading: what accepted bytes spell. It knows no refusals: bytes join the begun command, and the last one ends it.
use Rattle.std.specs.Prelude.{true, false, cond, List, [], ◌∷◌, ◌++◌, ℕ, length, get_or, eqb}
use Rattle.std.proofs.Math.Option.{Option, none, some}
use Rattle.script.specs.declared.Code.{Code}
use Rattle.script.specs.declared.Code.TheVariants as code
use Rattle.script.specs.declared.Command.{Command}
use Rattle.script.specs.declared.Command.TheVariants as command
use Rattle.script.specs.Tree.{Stmts}
use Rattle.script.specs.Format.{code_of, word_of, operator_of, kind_of, flag_of, head_of, two, four}
use Rattle.script.specs.Stacks.{Stacks, no_items, Performed, lacks, misplaces, puts_expr, puts_item, puts_declarator, puts_body, perform}
use Rattle.script.specs.Judge.{push_expr, push_item, push_declarator}

-- how many bytes of operands a command has
abbrev pub width : Code → ℕ
width code.Number = 4
width code.Word = 1
width code.Name = 1
width code.Assignment = 1
width code.Call = 2
width code.Sequence = 2
width code.Conditional = 0
width code.Logical = 1
width code.Not = 0
width code.Void = 0
width code.StrictEquality = 0
width code.Declarator = 1
width code.ValuedDeclarator = 1
width code.Empty = 0
width code.Expression = 0
width code.Declaration = 3
width code.BareReturn = 0
width code.ValuedReturn = 0
width code.Throw = 0
width code.If = 0
width code.IfElse = 0
width code.Block = 2
width code.While = 0
width code.DoWhile = 0
width code.For = 1
width code.Break = 0
width code.Continue = 0
width code.Case = 3
width code.Switch = 2
width code.Body = 3

abbrev pub apply : {A B : Type 0} → (A → B) → Option A → Option B
apply f none = none
apply f (some a) = some (f a)

-- the command of a code and its operands, counted from 0
abbrev pub meaning : Code → (ℕ → ℕ) → Option Command
meaning code.Number o = some (command.Number (four (o 0) (o 1) (o 2) (o 3)))
meaning code.Word o = apply command.Word (word_of (o 0))
meaning code.Name o = some (command.Name (o 0))
meaning code.Assignment o = some (command.Assignment (o 0))
meaning code.Call o = some (command.Call (o 0) (o 1))
meaning code.Sequence o = some (command.Sequence (two (o 0) (o 1)))
meaning code.Conditional o = some command.Conditional
meaning code.Logical o = apply command.Logical (operator_of (o 0))
meaning code.Not o = some command.Not
meaning code.Void o = some command.Void
meaning code.StrictEquality o = some command.StrictEquality
meaning code.Declarator o = some (command.Declarator (o 0) false)
meaning code.ValuedDeclarator o = some (command.Declarator (o 0) true)
meaning code.Empty o = some command.Empty
meaning code.Expression o = some command.Expression
meaning code.Declaration o = apply (λ k. command.Declaration k (two (o 1) (o 2))) (kind_of (o 0))
meaning code.BareReturn o = some (command.Return false)
meaning code.ValuedReturn o = some (command.Return true)
meaning code.Throw o = some command.Throw
meaning code.If o = some (command.If false)
meaning code.IfElse o = some (command.If true)
meaning code.Block o = some (command.Block (two (o 0) (o 1)))
meaning code.While o = some command.While
meaning code.DoWhile o = some command.DoWhile
meaning code.For o = apply command.For (head_of (o 0))
meaning code.Break o = some command.Break
meaning code.Continue o = some command.Continue
meaning code.Case o = apply (λ t. command.Case t (two (o 1) (o 2))) (flag_of (o 0))
meaning code.Switch o = some (command.Switch (two (o 0) (o 1)))
meaning code.Body o = some (command.Body (two (o 1) (o 2)))

abbrev pub whole : Option Code → List ℕ → Option Command
whole none operands = none
whole (some c) operands = cond (eqb (length operands) (width c)) (meaning c (λ i. get_or operands i 0)) none

-- the command that these bytes are, if they are a whole one
abbrev pub spelled : List ℕ → Option Command
spelled [] = none
spelled (b ∷ operands) = whole (code_of b) operands

pub record Reading : Type 0 where
  -- the bytes of the begun command
  pub begun : List ℕ
  pub stacks : Stacks
  pub body : Option Stmts

abbrev pub nothing_read : Reading
nothing_read = record { begun = []; stacks = no_items; body = none }

abbrev pub obeyed : Performed → Reading → Reading
obeyed lacks r = record { begun = []; stacks = r.stacks; body = r.body }
obeyed misplaces r = record { begun = []; stacks = r.stacks; body = r.body }
obeyed (puts_expr e s) r = record { begun = []; stacks = push_expr e s; body = r.body }
obeyed (puts_item i s) r = record { begun = []; stacks = push_item i s; body = r.body }
obeyed (puts_declarator d s) r = record { begun = []; stacks = push_declarator d s; body = r.body }
obeyed (puts_body ss s) r = record { begun = []; stacks = s; body = some ss }

abbrev pub ends_or_joins : List ℕ → Option Command → Reading → Reading
ends_or_joins bytes none r = record { begun = bytes; stacks = r.stacks; body = r.body }
ends_or_joins bytes (some c) r = obeyed (perform c r.stacks) r

abbrev pub read_byte : Reading → ℕ → Reading
read_byte r b = let bytes = r.begun ++ (b ∷ []) in ends_or_joins bytes (spelled bytes) r

abbrev pub read_all : List ℕ → Reading → Reading
read_all [] r = r
read_all (b ∷ bs) r = read_all bs (read_byte r b)

-- what bytes spell, from nothing
abbrev pub plain_reading : List ℕ → Reading
plain_reading bytes = read_all bytes nothing_read
