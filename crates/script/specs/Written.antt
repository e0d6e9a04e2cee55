-- The bytes of a body, parts before their command and in source order. Each function gives the bytes of a part in front of those that follow.
use Rattle.std.specs.Prelude.{List, [], ◌∷◌, ℕ, suc, ◌+◌, ◌*◌, ◌/◌, ◌%◌, cond}
use Rattle.script.specs.declared.Word.{Word}
use Rattle.script.specs.declared.Word.TheVariants.{False, True, Null}
use Rattle.script.specs.declared.LogicalOperator.{LogicalOperator}
use Rattle.script.specs.declared.LogicalOperator.TheVariants.{And, Or, Nullish}
use Rattle.script.specs.declared.DeclarationKind.{DeclarationKind}
use Rattle.script.specs.declared.DeclarationKind.TheVariants.{Var, Let, Const}
use Rattle.script.specs.declared.ForInit.{ForInit}
use Rattle.script.specs.declared.ForInit.TheVariants as init
use Rattle.script.specs.declared.ForHead.{ForHead}
use Rattle.script.specs.Tree.{Expr, number, word, name, assignment, call, sequence, conditional, logical, not, void, strict_equality}
use Rattle.script.specs.Tree.{Exprs, no_exprs, expr_then, OptionalExpr, absent, present, Declarators, no_declarators, declarator_then}
use Rattle.script.specs.Tree.{Init, no_init, init_expression, init_declaration, Alternate, no_alternate, alternate}
use Rattle.script.specs.Tree.{Stmt, empty, expression, declaration, return_of, throw, if_then, block, while, do_while, for, switch, break, continue}
use Rattle.script.specs.Tree.{Stmts, no_stmts, stmt_then, Cases, no_cases, case_then}
use Rattle.script.specs.Sound.{count_exprs, count_declarators, count_stmts, count_cases}

abbrev pub word_byte : Word → ℕ
word_byte False = 0
word_byte True = 1
word_byte Null = 2

abbrev pub operator_byte : LogicalOperator → ℕ
operator_byte And = 0
operator_byte Or = 1
operator_byte Nullish = 2

abbrev pub kind_byte : DeclarationKind → ℕ
kind_byte Var = 0
kind_byte Let = 1
kind_byte Const = 2

-- the bits of a for's init
abbrev pub init_byte : ForInit → ℕ
init_byte init.Absent = 0
init_byte init.Expression = 1
init_byte init.Declaration = 2

-- the bits of a for's parts
abbrev pub head_byte : ForHead → ℕ
head_byte h = init_byte h.init + (4 * cond h.test 1 0 + 8 * cond h.update 1 0)

-- a count, low byte first
abbrev pub count_bytes : ℕ → List ℕ → List ℕ
count_bytes n rest = n % 256 ∷ n / 256 ∷ rest

-- the 32 bits of a number, low byte first
abbrev pub number_bytes : ℕ → List ℕ → List ℕ
number_bytes n rest = n % 256 ∷ (n / 256) % 256 ∷ (n / 65536) % 256 ∷ n / 16777216 ∷ rest

abbrev mutual
  pub expr_bytes : Expr → List ℕ → List ℕ
  expr_bytes (number b) rest = 0x01 ∷ number_bytes b rest
  expr_bytes (word w) rest = 0x02 ∷ word_byte w ∷ rest
  expr_bytes (name n) rest = 0x03 ∷ n ∷ rest
  expr_bytes (assignment n e) rest = expr_bytes e (0x04 ∷ n ∷ rest)
  expr_bytes (call n es) rest = exprs_bytes es (0x05 ∷ n ∷ count_exprs es ∷ rest)
  expr_bytes (sequence e es) rest = expr_bytes e (exprs_bytes es (0x06 ∷ count_bytes (suc (count_exprs es)) rest))
  expr_bytes (conditional t a b) rest = expr_bytes t (expr_bytes a (expr_bytes b (0x07 ∷ rest)))
  expr_bytes (logical o a b) rest = expr_bytes a (expr_bytes b (0x08 ∷ operator_byte o ∷ rest))
  expr_bytes (not e) rest = expr_bytes e (0x09 ∷ rest)
  expr_bytes (void e) rest = expr_bytes e (0x0a ∷ rest)
  expr_bytes (strict_equality a b) rest = expr_bytes a (expr_bytes b (0x0b ∷ rest))

  pub exprs_bytes : Exprs → List ℕ → List ℕ
  exprs_bytes no_exprs rest = rest
  exprs_bytes (expr_then e es) rest = expr_bytes e (exprs_bytes es rest)

abbrev pub optional_bytes : OptionalExpr → List ℕ → List ℕ
optional_bytes absent rest = rest
optional_bytes (present e) rest = expr_bytes e rest

-- the command of a part that may be absent
abbrev pub either_code : OptionalExpr → ℕ → ℕ → ℕ
either_code absent a b = a
either_code (present e) a b = b

abbrev pub flag : OptionalExpr → ℕ → ℕ
flag v n = either_code v 0 n

abbrev pub declarators_bytes : Declarators → List ℕ → List ℕ
declarators_bytes no_declarators rest = rest
declarators_bytes (declarator_then n v ds) rest = optional_bytes v (either_code v 0x10 0x11 ∷ n ∷ declarators_bytes ds rest)

abbrev pub declaration_bytes : DeclarationKind → Declarators → List ℕ → List ℕ
declaration_bytes k ds rest = declarators_bytes ds (0x22 ∷ kind_byte k ∷ count_bytes (count_declarators ds) rest)

abbrev pub init_bytes : Init → List ℕ → List ℕ
init_bytes no_init rest = rest
init_bytes (init_expression e) rest = expr_bytes e rest
init_bytes (init_declaration k ds) rest = declaration_bytes k ds rest

abbrev pub init_flag : Init → ℕ
init_flag no_init = 0
init_flag (init_expression e) = 1
init_flag (init_declaration k ds) = 2

abbrev pub if_code : Alternate → ℕ
if_code no_alternate = 0x26
if_code (alternate s) = 0x27

abbrev mutual
  pub stmt_bytes : Stmt → List ℕ → List ℕ
  stmt_bytes empty rest = 0x20 ∷ rest
  stmt_bytes (expression e) rest = expr_bytes e (0x21 ∷ rest)
  stmt_bytes (declaration k ds) rest = declaration_bytes k ds rest
  stmt_bytes (return_of v) rest = optional_bytes v (either_code v 0x23 0x24 ∷ rest)
  stmt_bytes (throw e) rest = expr_bytes e (0x25 ∷ rest)
  stmt_bytes (if_then t c a) rest = expr_bytes t (stmt_bytes c (alternate_bytes a (if_code a ∷ rest)))
  stmt_bytes (block ss) rest = stmts_bytes ss (0x28 ∷ count_bytes (count_stmts ss) rest)
  stmt_bytes (while t b) rest = expr_bytes t (stmt_bytes b (0x29 ∷ rest))
  stmt_bytes (do_while b t) rest = stmt_bytes b (expr_bytes t (0x2a ∷ rest))
  stmt_bytes (for i t u b) rest =
      init_bytes i (optional_bytes t (optional_bytes u (stmt_bytes b (0x2b ∷ (init_flag i + (flag t 4 + flag u 8)) ∷ rest))))
  stmt_bytes (switch d cs) rest = expr_bytes d (cases_bytes cs (0x30 ∷ count_bytes (count_cases cs) rest))
  stmt_bytes break rest = 0x2d ∷ rest
  stmt_bytes continue rest = 0x2e ∷ rest

  pub alternate_bytes : Alternate → List ℕ → List ℕ
  alternate_bytes no_alternate rest = rest
  alternate_bytes (alternate s) rest = stmt_bytes s rest

  pub stmts_bytes : Stmts → List ℕ → List ℕ
  stmts_bytes no_stmts rest = rest
  stmts_bytes (stmt_then s ss) rest = stmt_bytes s (stmts_bytes ss rest)

  pub cases_bytes : Cases → List ℕ → List ℕ
  cases_bytes no_cases rest = rest
  cases_bytes (case_then t ss cs) rest =
      optional_bytes t (stmts_bytes ss (0x2f ∷ flag t 1 ∷ count_bytes (count_stmts ss) (cases_bytes cs rest)))

-- the bytes of a whole sheet
abbrev pub body_bytes : Stmts → List ℕ
body_bytes ss = stmts_bytes ss (0x3f ∷ 0 ∷ count_bytes (count_stmts ss) [])
