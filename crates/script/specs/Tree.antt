-- The trees of a script. Lists of parts are types of their own, so that every recursion is structural.
use Rattle.std.specs.Prelude.{ℕ}
use Rattle.script.specs.declared.Word.{Word}
use Rattle.script.specs.declared.LogicalOperator.{LogicalOperator}
use Rattle.script.specs.declared.DeclarationKind.{DeclarationKind}

mutual
  -- a number is its 32 bits, two's complement; names and calls have numbers of one byte
  pub data Expr : Type 0 where
    number : ℕ → Expr
    word : Word → Expr
    name : ℕ → Expr
    assignment : ℕ → Expr → Expr
    call : ℕ → Exprs → Expr
    -- a first item and the others
    sequence : Expr → Exprs → Expr
    conditional : Expr → Expr → Expr → Expr
    logical : LogicalOperator → Expr → Expr → Expr
    not : Expr → Expr
    void : Expr → Expr
    strict_equality : Expr → Expr → Expr
    deriving Discrete as Expr-discrete

  pub data Exprs : Type 0 where
    no_exprs : Exprs
    expr_then : Expr → Exprs → Exprs
    deriving Discrete as Exprs-discrete

pub data OptionalExpr : Type 0 where
  absent : OptionalExpr
  present : Expr → OptionalExpr
  deriving Discrete as OptionalExpr-discrete

pub data Declarators : Type 0 where
  no_declarators : Declarators
  declarator_then : ℕ → OptionalExpr → Declarators → Declarators
  deriving Discrete as Declarators-discrete

pub data Init : Type 0 where
  no_init : Init
  init_expression : Expr → Init
  init_declaration : DeclarationKind → Declarators → Init
  deriving Discrete as Init-discrete

mutual
  pub data Stmt : Type 0 where
    empty : Stmt
    expression : Expr → Stmt
    declaration : DeclarationKind → Declarators → Stmt
    return_of : OptionalExpr → Stmt
    throw : Expr → Stmt
    if_then : Expr → Stmt → Alternate → Stmt
    block : Stmts → Stmt
    while : Expr → Stmt → Stmt
    do_while : Stmt → Expr → Stmt
    for : Init → OptionalExpr → OptionalExpr → Stmt → Stmt
    switch : Expr → Cases → Stmt
    break : Stmt
    continue : Stmt
    deriving Discrete as Stmt-discrete

  pub data Alternate : Type 0 where
    no_alternate : Alternate
    alternate : Stmt → Alternate
    deriving Discrete as Alternate-discrete

  pub data Stmts : Type 0 where
    no_stmts : Stmts
    stmt_then : Stmt → Stmts → Stmts
    deriving Discrete as Stmts-discrete

  -- a case without a test is the default
  pub data Cases : Type 0 where
    no_cases : Cases
    case_then : OptionalExpr → Stmts → Cases → Cases
    deriving Discrete as Cases-discrete
