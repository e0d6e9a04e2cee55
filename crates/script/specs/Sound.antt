-- Which trees break no rule of feeding, and how many records of each table a tree takes.
use Rattle.std.specs.Prelude.{◌≡◌, true, false, List, [], ◌∷◌, ℕ, suc, ◌+◌, ◌≤◌}
use Rattle.script.specs.declared.DeclarationKind.{DeclarationKind}
use Rattle.script.specs.Tree.{Expr, number, word, name, assignment, call, sequence, conditional, logical, not, void, strict_equality}
use Rattle.script.specs.Tree.{Exprs, no_exprs, expr_then, OptionalExpr, absent, present, Declarators, no_declarators, declarator_then}
use Rattle.script.specs.Tree.{Init, no_init, init_expression, init_declaration, Alternate, no_alternate, alternate}
use Rattle.script.specs.Tree.{Stmt, empty, expression, declaration, return_of, throw, if_then, block, while, do_while, for, switch, break, continue}
use Rattle.script.specs.Tree.{Stmts, no_stmts, stmt_then, Cases, no_cases, case_then}
use Rattle.script.specs.Stacks.{Item, statement, case, Declarator, declarator, Stacks, lexical_declaration, sound_declaration, sound_cases}
use Rattle.script.specs.Judge.{Stage, reading, complete, Spares, Model}

abbrev pub count_exprs : Exprs → ℕ
count_exprs no_exprs = 0
count_exprs (expr_then e es) = suc (count_exprs es)

abbrev pub count_declarators : Declarators → ℕ
count_declarators no_declarators = 0
count_declarators (declarator_then n v ds) = suc (count_declarators ds)

abbrev pub count_stmts : Stmts → ℕ
count_stmts no_stmts = 0
count_stmts (stmt_then s ss) = suc (count_stmts ss)

abbrev pub count_cases : Cases → ℕ
count_cases no_cases = 0
count_cases (case_then t ss cs) = suc (count_cases cs)

-- a call has 255 arguments at most, a sequence two items at least
abbrev mutual
  pub SoundExpr : Expr → Type 0
  SoundExpr (number b) = Unit {0}
  SoundExpr (word w) = Unit {0}
  SoundExpr (name n) = Unit {0}
  SoundExpr (assignment n e) = SoundExpr e
  SoundExpr (call n es) = (count_exprs es ≤ 255) × SoundExprs es
  SoundExpr (sequence e es) = (1 ≤ count_exprs es) × SoundExpr e × SoundExprs es
  SoundExpr (conditional t a b) = SoundExpr t × SoundExpr a × SoundExpr b
  SoundExpr (logical o a b) = SoundExpr a × SoundExpr b
  SoundExpr (not e) = SoundExpr e
  SoundExpr (void e) = SoundExpr e
  SoundExpr (strict_equality a b) = SoundExpr a × SoundExpr b

  pub SoundExprs : Exprs → Type 0
  SoundExprs no_exprs = Unit {0}
  SoundExprs (expr_then e es) = SoundExpr e × SoundExprs es

abbrev pub SoundOptional : OptionalExpr → Type 0
SoundOptional absent = Unit {0}
SoundOptional (present e) = SoundExpr e

abbrev pub SoundDeclarators : Declarators → Type 0
SoundDeclarators no_declarators = Unit {0}
SoundDeclarators (declarator_then n v ds) = SoundOptional v × SoundDeclarators ds

-- a declaration has a declarator at least, and a const its values
abbrev pub SoundDeclaration : DeclarationKind → Declarators → Type 0
SoundDeclaration k ds = (1 ≤ count_declarators ds) × (sound_declaration k ds ≡ true) × SoundDeclarators ds

abbrev pub SoundInit : Init → Type 0
SoundInit no_init = Unit {0}
SoundInit (init_expression e) = SoundExpr e
SoundInit (init_declaration k ds) = SoundDeclaration k ds

-- no let or const as a branch or a loop's body; a switch has a case at least and one default at most
abbrev mutual
  pub SoundStmt : Stmt → Type 0
  SoundStmt empty = Unit {0}
  SoundStmt (expression e) = SoundExpr e
  SoundStmt (declaration k ds) = SoundDeclaration k ds
  SoundStmt (return_of v) = SoundOptional v
  SoundStmt (throw e) = SoundExpr e
  SoundStmt (if_then t c a) = SoundExpr t × (lexical_declaration c ≡ false) × SoundStmt c × SoundAlternate a
  SoundStmt (block ss) = SoundStmts ss
  SoundStmt (while t b) = SoundExpr t × (lexical_declaration b ≡ false) × SoundStmt b
  SoundStmt (do_while b t) = (lexical_declaration b ≡ false) × SoundStmt b × SoundExpr t
  SoundStmt (for i t u b) = SoundInit i × SoundOptional t × SoundOptional u × (lexical_declaration b ≡ false) × SoundStmt b
  SoundStmt (switch d cs) = SoundExpr d × (sound_cases cs ≡ true) × SoundCases cs
  SoundStmt break = Unit {0}
  SoundStmt continue = Unit {0}

  pub SoundAlternate : Alternate → Type 0
  SoundAlternate no_alternate = Unit {0}
  SoundAlternate (alternate s) = (lexical_declaration s ≡ false) × SoundStmt s

  pub SoundStmts : Stmts → Type 0
  SoundStmts no_stmts = Unit {0}
  SoundStmts (stmt_then s ss) = SoundStmt s × SoundStmts ss

  pub SoundCases : Cases → Type 0
  SoundCases no_cases = Unit {0}
  SoundCases (case_then t ss cs) = SoundOptional t × SoundStmts ss × SoundCases cs

-- records: one for each expression, each declarator, each statement and each case
abbrev pub none_used : Spares
none_used = record { exprs = 0; stmts = 0; decls = 0 }

abbrev pub plus : Spares → Spares → Spares
plus a b = record { exprs = a.exprs + b.exprs; stmts = a.stmts + b.stmts; decls = a.decls + b.decls }

abbrev pub with_stmt : Spares → Spares
with_stmt a = record { exprs = a.exprs; stmts = suc a.stmts; decls = a.decls }

abbrev pub exprs_only : ℕ → Spares
exprs_only n = record { exprs = n; stmts = 0; decls = 0 }

abbrev mutual
  pub records_expr : Expr → ℕ
  records_expr (number b) = 1
  records_expr (word w) = 1
  records_expr (name n) = 1
  records_expr (assignment n e) = suc (records_expr e)
  records_expr (call n es) = suc (records_exprs es)
  records_expr (sequence e es) = suc (records_expr e + records_exprs es)
  records_expr (conditional t a b) = suc (records_expr t + (records_expr a + records_expr b))
  records_expr (logical o a b) = suc (records_expr a + records_expr b)
  records_expr (not e) = suc (records_expr e)
  records_expr (void e) = suc (records_expr e)
  records_expr (strict_equality a b) = suc (records_expr a + records_expr b)

  pub records_exprs : Exprs → ℕ
  records_exprs no_exprs = 0
  records_exprs (expr_then e es) = records_expr e + records_exprs es

abbrev pub records_optional : OptionalExpr → ℕ
records_optional absent = 0
records_optional (present e) = records_expr e

abbrev pub records_declarators : Declarators → Spares
records_declarators no_declarators = none_used
records_declarators (declarator_then n v ds) =
    plus (record { exprs = records_optional v; stmts = 0; decls = 1 }) (records_declarators ds)

abbrev pub records_init : Init → Spares
records_init no_init = none_used
records_init (init_expression e) = exprs_only (records_expr e)
records_init (init_declaration k ds) = with_stmt (records_declarators ds)

abbrev mutual
  pub records_stmt : Stmt → Spares
  records_stmt empty = with_stmt none_used
  records_stmt (expression e) = with_stmt (exprs_only (records_expr e))
  records_stmt (declaration k ds) = with_stmt (records_declarators ds)
  records_stmt (return_of v) = with_stmt (exprs_only (records_optional v))
  records_stmt (throw e) = with_stmt (exprs_only (records_expr e))
  records_stmt (if_then t c a) = with_stmt (plus (exprs_only (records_expr t)) (plus (records_stmt c) (records_alternate a)))
  records_stmt (block ss) = with_stmt (records_stmts ss)
  records_stmt (while t b) = with_stmt (plus (exprs_only (records_expr t)) (records_stmt b))
  records_stmt (do_while b t) = with_stmt (plus (records_stmt b) (exprs_only (records_expr t)))
  records_stmt (for i t u b) =
      with_stmt (plus (records_init i) (plus (exprs_only (records_optional t + records_optional u)) (records_stmt b)))
  records_stmt (switch d cs) = with_stmt (plus (exprs_only (records_expr d)) (records_cases cs))
  records_stmt break = with_stmt none_used
  records_stmt continue = with_stmt none_used

  pub records_alternate : Alternate → Spares
  records_alternate no_alternate = none_used
  records_alternate (alternate s) = records_stmt s

  pub records_stmts : Stmts → Spares
  records_stmts no_stmts = none_used
  records_stmts (stmt_then s ss) = plus (records_stmt s) (records_stmts ss)

  pub records_cases : Cases → Spares
  records_cases no_cases = none_used
  records_cases (case_then t ss cs) = plus (with_stmt (plus (exprs_only (records_optional t)) (records_stmts ss))) (records_cases cs)

-- items of the stacks
abbrev pub SoundItem : Item → Type 0
SoundItem (statement s) = SoundStmt s
SoundItem (case t ss) = SoundOptional t × SoundStmts ss

abbrev pub SoundDeclarator : Declarator → Type 0
SoundDeclarator (declarator n v) = SoundOptional v

abbrev pub Every : {A : Type 0} → (A → Type 0) → List A → Type 0
Every P [] = Unit {0}
Every P (x ∷ xs) = P x × Every P xs

pub record SoundStacks (s : Stacks) : Type 0 where
  pub exprs : Every SoundExpr s.exprs
  pub stmts : Every SoundItem s.stmts
  pub decls : Every SoundDeclarator s.decls

abbrev pub SoundStage : Stage → Type 0
SoundStage (reading a) = Unit {0}
SoundStage (complete ss) = SoundStmts ss

pub record SoundModel (m : Model) : Type 0 where
  pub stage : SoundStage m.stage
  pub stacks : SoundStacks m.stacks
