-- The bytes of rows of records, parts before their command and in source order. Each function gives the bytes in front of those that follow.
use Rattle.std.specs.Prelude.{◌≡◌, ℕ, ◌+◌, ◌%◌, ◌<◌, ◌≤◌, min, cond, List, [], ◌∷◌, ◌++◌, length, drop, Some, None, Option, ◌==◌, nat_le, slice_set}
use Rattle.pool.specs.Chain.{Chain}
use Rattle.script.specs.declared.ExpressionKind.{ExpressionKind}
use Rattle.script.specs.declared.ExpressionKind.TheVariants as expression
use Rattle.script.specs.declared.StatementKind.{StatementKind}
use Rattle.script.specs.declared.StatementKind.TheVariants as kind
use Rattle.script.specs.declared.ForInit.{ForInit}
use Rattle.script.specs.declared.ForInit.TheVariants as init
use Rattle.script.specs.Written.{word_byte, operator_byte, kind_byte, head_byte, count_bytes, number_bytes}
use Rattle.records.specs.Heap.{Heap, Place, expr_label, stmt_label, decl_label}
use Rattle.records.specs.Rows.{Row, end, node, At, row_length, size}
use Rattle.records.specs.Owned.{Short}
use Rattle.records.specs.Readable.{reach}

-- the command of an expression with n parts
abbrev pub expr_spelling : ExpressionKind → ℕ → List ℕ → List ℕ
expr_spelling (expression.Number b) n rest = 0x01 ∷ number_bytes b rest
expr_spelling (expression.Word w) n rest = 0x02 ∷ word_byte w ∷ rest
expr_spelling (expression.Name x) n rest = 0x03 ∷ x ∷ rest
expr_spelling (expression.Assignment x) n rest = 0x04 ∷ x ∷ rest
expr_spelling (expression.Call x) n rest = 0x05 ∷ x ∷ n % 256 ∷ rest
expr_spelling expression.Sequence n rest = 0x06 ∷ count_bytes n rest
expr_spelling expression.Conditional n rest = 0x07 ∷ rest
expr_spelling (expression.Logical o) n rest = 0x08 ∷ operator_byte o ∷ rest
expr_spelling expression.Not n rest = 0x09 ∷ rest
expr_spelling expression.Void n rest = 0x0a ∷ rest
expr_spelling expression.StrictEquality n rest = 0x0b ∷ rest

-- the command of a declarator whose value is a row of n expressions
abbrev pub decl_spelling : ℕ → ℕ → List ℕ → List ℕ
decl_spelling x n rest = cond (n == 0) 0x10 0x11 ∷ x ∷ rest

-- the command of a statement with so many expressions, statements and declarators
abbrev pub stmt_spelling : StatementKind → ℕ → ℕ → ℕ → List ℕ → List ℕ
stmt_spelling kind.Empty x y z rest = 0x20 ∷ rest
stmt_spelling kind.Expression x y z rest = 0x21 ∷ rest
stmt_spelling (kind.Declaration k) x y z rest = 0x22 ∷ kind_byte k ∷ count_bytes z rest
stmt_spelling kind.Return x y z rest = cond (x == 0) 0x23 0x24 ∷ rest
stmt_spelling kind.Throw x y z rest = 0x25 ∷ rest
stmt_spelling kind.If x y z rest = cond (nat_le y 1) 0x26 0x27 ∷ rest
stmt_spelling kind.Block x y z rest = 0x28 ∷ count_bytes y rest
stmt_spelling kind.While x y z rest = 0x29 ∷ rest
stmt_spelling kind.DoWhile x y z rest = 0x2a ∷ rest
stmt_spelling (kind.For h) x y z rest = 0x2b ∷ head_byte h ∷ rest
stmt_spelling kind.Switch x y z rest = 0x30 ∷ count_bytes y rest
stmt_spelling kind.Case x y z rest = 0x2f ∷ cond (x == 0) 0 1 ∷ count_bytes y rest
stmt_spelling kind.Break x y z rest = 0x2d ∷ rest
stmt_spelling kind.Continue x y z rest = 0x2e ∷ rest

-- the command of a body of n statements
abbrev pub body_spelling : ℕ → List ℕ → List ℕ
body_spelling n rest = 0x3f ∷ 0 ∷ count_bytes n rest

abbrev pub exprs_row_bytes : Row → List ℕ → List ℕ
exprs_row_bytes end rest = rest
exprs_row_bytes (node (expr_label k) x y z w) rest = exprs_row_bytes x (expr_spelling k (row_length x) (exprs_row_bytes w rest))
exprs_row_bytes (node (stmt_label k) x y z w) rest = exprs_row_bytes w rest
exprs_row_bytes (node (decl_label n) x y z w) rest = exprs_row_bytes w rest

-- the first expression of a row
abbrev pub first_expr_bytes : Row → List ℕ → List ℕ
first_expr_bytes end rest = rest
first_expr_bytes (node (expr_label k) x y z w) rest = exprs_row_bytes x (expr_spelling k (row_length x) rest)
first_expr_bytes (node (stmt_label k) x y z w) rest = rest
first_expr_bytes (node (decl_label n) x y z w) rest = rest

abbrev pub decls_row_bytes : Row → List ℕ → List ℕ
decls_row_bytes end rest = rest
decls_row_bytes (node (expr_label k) x y z w) rest = decls_row_bytes w rest
decls_row_bytes (node (stmt_label k) x y z w) rest = decls_row_bytes w rest
decls_row_bytes (node (decl_label n) x y z w) rest = exprs_row_bytes x (decl_spelling n (row_length x) (decls_row_bytes w rest))

-- the first declarator of a row
abbrev pub first_decl_bytes : Row → List ℕ → List ℕ
first_decl_bytes end rest = rest
first_decl_bytes (node (expr_label k) x y z w) rest = rest
first_decl_bytes (node (stmt_label k) x y z w) rest = rest
first_decl_bytes (node (decl_label n) x y z w) rest = exprs_row_bytes x (decl_spelling n (row_length x) rest)

-- in which order a statement writes its parts: expressions, declarators and statements; statements and expressions;
-- or the first statement, the expressions and the other statements
pub data Order : Type 0 where
  exprs_first : Order
  stmts_first : Order
  stmt_first : Order

abbrev pub init_order : ForInit → Order
init_order init.Absent = exprs_first
init_order init.Expression = exprs_first
init_order init.Declaration = stmt_first

abbrev pub order : StatementKind → Order
order kind.Empty = exprs_first
order kind.Expression = exprs_first
order (kind.Declaration k) = exprs_first
order kind.Return = exprs_first
order kind.Throw = exprs_first
order kind.If = exprs_first
order kind.Block = exprs_first
order kind.While = exprs_first
order kind.DoWhile = stmts_first
order (kind.For h) = init_order h.init
order kind.Switch = exprs_first
order kind.Case = exprs_first
order kind.Break = exprs_first
order kind.Continue = exprs_first

-- the bytes of expressions, of a first statement, of the others and of declarators in that order
abbrev pub in_order : Order → (List ℕ → List ℕ) → (List ℕ → List ℕ) → (List ℕ → List ℕ) → (List ℕ → List ℕ) → List ℕ → List ℕ
in_order exprs_first exprs first others decls rest = exprs (decls (first (others rest)))
in_order stmts_first exprs first others decls rest = first (others (exprs rest))
in_order stmt_first exprs first others decls rest = first (exprs (others rest))

abbrev mutual
  -- the first statement of a row
  pub first_bytes : Row → List ℕ → List ℕ
  first_bytes end rest = rest
  first_bytes (node (expr_label k) x y z w) rest = rest
  first_bytes (node (stmt_label k) x y z w) rest =
      in_order (order k) (exprs_row_bytes x) (first_bytes y) (others_bytes y) (decls_row_bytes z)
      (stmt_spelling k (row_length x) (row_length y) (row_length z) rest)
  first_bytes (node (decl_label n) x y z w) rest = rest

  -- the statements behind the first
  pub others_bytes : Row → List ℕ → List ℕ
  others_bytes end rest = rest
  others_bytes (node l x y z w) rest = first_bytes w (others_bytes w rest)

abbrev pub stmts_row_bytes : Row → List ℕ → List ℕ
stmts_row_bytes r rest = first_bytes r (others_bytes r rest)

-- the parts of the first statement, without its command
abbrev pub parts_bytes : Row → List ℕ → List ℕ
parts_bytes end rest = rest
parts_bytes (node (expr_label k) x y z w) rest = rest
parts_bytes (node (stmt_label k) x y z w) rest = in_order (order k) (exprs_row_bytes x) (first_bytes y) (others_bytes y) (decls_row_bytes z) rest
parts_bytes (node (decl_label n) x y z w) rest = rest

-- its first statement, its expressions, its other statements
abbrev pub around_bytes : Row → List ℕ → List ℕ
around_bytes end rest = rest
around_bytes (node l x y z w) rest = first_bytes y (exprs_row_bytes x (others_bytes y rest))

-- its command
abbrev pub command_bytes : Row → List ℕ → List ℕ
command_bytes end rest = rest
command_bytes (node (expr_label k) x y z w) rest = rest
command_bytes (node (stmt_label k) x y z w) rest = stmt_spelling k (row_length x) (row_length y) (row_length z) rest
command_bytes (node (decl_label n) x y z w) rest = rest

abbrev pub body_row_bytes : Row → List ℕ
body_row_bytes r = stmts_row_bytes r (body_spelling (row_length r) [])

-- the place behind one, as far as places can be told
abbrev pub behind : ℕ → ℕ
behind at = min (at + 1) 18446744073709551615

-- bytes written into an output from a place on, but for those behind its end, and the place behind them
abbrev pub placed : List ℕ → ℕ → List ℕ → List ℕ × ℕ
placed out at [] = (out, at)
placed out at (b ∷ bs) = placed (slice_set out at b) (behind at) bs

-- an output and a place in it become those when these bytes are written
abbrev pub Puts : (List ℕ → List ℕ) → List ℕ → ℕ → List ℕ → ℕ → Type 0
Puts bytes out at out' at' = (rest : List ℕ) → placed out at (bytes rest) ≡ placed out' at' rest

-- a row is there, with no more records than two bytes can tell
pub record Writable (h : Heap) (k : Place) : Type 0 where
  pub row : Row
  pub held : At h k row
  pub small : size row ≤ 65535
  pub short : Short h

-- how many records such a row has
unfoldable pub weight : Heap → Place → ℕ
weight h k = reach h k 65535

-- a row is there, and its bytes are written
pub record Writes (bytes : Row → List ℕ → List ℕ) (h : Heap) (k : Place) (out : List ℕ) (at : ℕ) (out' : List ℕ) (at' : ℕ) : Type 0 where
  pub row : Row
  pub held : At h k row
  pub put : Puts (bytes row) out at out' at'

-- what a caller gets who asks for these bytes: all of them at the front of the output, or nothing if it is too short
abbrev pub WrittenOut : Option ℕ → List ℕ → List ℕ → List ℕ → Type 0
WrittenOut (Some n) bytes out out' = (length bytes ≤ length out) × (n ≡ length bytes) × (out' ≡ bytes ++ drop (length bytes) out)
WrittenOut None bytes out out' = (length out < length bytes) × (out' ≡ out)

-- links lead through this many records and then nowhere, and two bytes can tell how many
abbrev pub Countable : List ℕ → ℕ → Type 0
Countable links at = (n : ℕ) × Chain links at n × (n ≤ 65535)
