-- What has its size: integers and objects 32 bits, names and the numbers of calls one byte.
use Rattle.std.specs.Prelude.{◌≡◌, List, [], ◌∷◌, ℕ, ◌≤◌, ◌<◌, ◌^◌}
use Rattle.std.proofs.Math.Option.{Option, none, some}
use Rattle.script.specs.Tree.{Expr, number, word, name, assignment, call, sequence, conditional, logical, not, void, strict_equality}
use Rattle.script.specs.Tree.{Exprs, no_exprs, expr_then, OptionalExpr, absent, present, Declarators, no_declarators, declarator_then}
use Rattle.script.specs.Tree.{Init, no_init, init_expression, init_declaration, Alternate, no_alternate, alternate}
use Rattle.script.specs.Tree.{Stmt, empty, expression, declaration, return_of, throw, if_then, block, while, do_while, for, switch, break, continue}
use Rattle.script.specs.Tree.{Stmts, no_stmts, stmt_then, Cases, no_cases, case_then}
use Rattle.run.specs.Values.{Value, undefined, null, boolean, integer, object}
use Rattle.run.specs.World.{Sight, not_in_sight, without_value, with_value, Event, Reply, gives, throws, Answer, World}
use Rattle.run.specs.Completion.{Abrupt, returned, thrown, broke, continued, cut}

-- values, events and answers

abbrev pub FitsValue : Value → Type 0
FitsValue undefined = Unit {0}
FitsValue null = Unit {0}
FitsValue (boolean b) = Unit {0}
FitsValue (integer bits) = bits < 2 ^ 32
FitsValue (object o) = o < 2 ^ 32

abbrev pub FitsValues : List Value → Type 0
FitsValues [] = Unit {0}
FitsValues (v ∷ vs) = FitsValue v × FitsValues vs

abbrev pub FitsSight : Sight → Type 0
FitsSight not_in_sight = Unit {0}
FitsSight without_value = Unit {0}
FitsSight (with_value v) = FitsValue v

pub record FitsEvent (e : Event) : Type 0 where
  pub number : e.number < 256
  pub arguments : FitsValues e.arguments
  pub sight : (n : ℕ) → FitsSight (e.sight n)
  pub names : (n : ℕ) → 256 ≤ n → e.sight n ≡ not_in_sight

abbrev pub FitsEvents : List Event → Type 0
FitsEvents [] = Unit {0}
FitsEvents (e ∷ es) = FitsEvent e × FitsEvents es

abbrev pub FitsReply : Reply → Type 0
FitsReply (gives v) = FitsValue v
FitsReply (throws v) = FitsValue v

abbrev pub FitsSetting : Option Value → Type 0
FitsSetting none = Unit {0}
FitsSetting (some v) = FitsValue v

pub record FitsAnswer (a : Answer) : Type 0 where
  pub reply : FitsReply a.reply
  pub settings : (n : ℕ) → FitsSetting (a.settings n)

-- a world that answers what fits by what fits
abbrev pub FitsWorld : World → Type 0
FitsWorld world = (events : List Event) → FitsEvents events → FitsAnswer (world events)

abbrev pub FitsAbrupt : Abrupt → Type 0
FitsAbrupt (returned v) = FitsValue v
FitsAbrupt (thrown v) = FitsValue v
FitsAbrupt broke = Unit {0}
FitsAbrupt continued = Unit {0}
FitsAbrupt cut = Unit {0}

-- trees

abbrev mutual
  pub FitsExpr : Expr → Type 0
  FitsExpr (number bits) = bits < 2 ^ 32
  FitsExpr (word w) = Unit {0}
  FitsExpr (name n) = n < 256
  FitsExpr (assignment n e) = (n < 256) × FitsExpr e
  FitsExpr (call n es) = (n < 256) × FitsExprs es
  FitsExpr (sequence e es) = FitsExpr e × FitsExprs es
  FitsExpr (conditional t a b) = FitsExpr t × FitsExpr a × FitsExpr b
  FitsExpr (logical o a b) = FitsExpr a × FitsExpr b
  FitsExpr (not e) = FitsExpr e
  FitsExpr (void e) = FitsExpr e
  FitsExpr (strict_equality a b) = FitsExpr a × FitsExpr b

  pub FitsExprs : Exprs → Type 0
  FitsExprs no_exprs = Unit {0}
  FitsExprs (expr_then e es) = FitsExpr e × FitsExprs es

abbrev pub FitsOptional : OptionalExpr → Type 0
FitsOptional absent = Unit {0}
FitsOptional (present e) = FitsExpr e

abbrev pub FitsDeclarators : Declarators → Type 0
FitsDeclarators no_declarators = Unit {0}
FitsDeclarators (declarator_then n e ds) = (n < 256) × FitsOptional e × FitsDeclarators ds

abbrev pub FitsInit : Init → Type 0
FitsInit no_init = Unit {0}
FitsInit (init_expression e) = FitsExpr e
FitsInit (init_declaration k ds) = FitsDeclarators ds

abbrev mutual
  pub FitsStmt : Stmt → Type 0
  FitsStmt empty = Unit {0}
  FitsStmt (expression e) = FitsExpr e
  FitsStmt (declaration k ds) = FitsDeclarators ds
  FitsStmt (return_of e) = FitsOptional e
  FitsStmt (throw e) = FitsExpr e
  FitsStmt (if_then t c a) = FitsExpr t × FitsStmt c × FitsAlternate a
  FitsStmt (block xs) = FitsStmts xs
  FitsStmt (while t b) = FitsExpr t × FitsStmt b
  FitsStmt (do_while b t) = FitsStmt b × FitsExpr t
  FitsStmt (for i t u b) = FitsInit i × FitsOptional t × FitsOptional u × FitsStmt b
  FitsStmt (switch d cs) = FitsExpr d × FitsCases cs
  FitsStmt break = Unit {0}
  FitsStmt continue = Unit {0}

  pub FitsAlternate : Alternate → Type 0
  FitsAlternate no_alternate = Unit {0}
  FitsAlternate (alternate x) = FitsStmt x

  pub FitsStmts : Stmts → Type 0
  FitsStmts no_stmts = Unit {0}
  FitsStmts (stmt_then x xs) = FitsStmt x × FitsStmts xs

  pub FitsCases : Cases → Type 0
  FitsCases no_cases = Unit {0}
  FitsCases (case_then t xs cs) = FitsOptional t × FitsStmts xs × FitsCases cs
