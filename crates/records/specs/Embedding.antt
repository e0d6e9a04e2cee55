-- The trees of a script as rows of records. Each function puts a tree in front of a row.
use Rattle.std.specs.Prelude.{Bool, true, false, List, [], ◌∷◌}
use Rattle.script.specs.declared.ExpressionKind.TheVariants as expression
use Rattle.script.specs.declared.DeclarationKind.{DeclarationKind}
use Rattle.script.specs.declared.StatementKind.TheVariants as kind
use Rattle.script.specs.declared.ForInit.{ForInit}
use Rattle.script.specs.declared.ForInit.TheVariants as init
use Rattle.script.specs.declared.ForHead.{ForHead}
use Rattle.script.specs.Tree.{Expr, number, word, name, assignment, call, sequence, conditional, logical, not, void, strict_equality}
use Rattle.script.specs.Tree.{Exprs, no_exprs, expr_then, OptionalExpr, absent, present, Declarators, no_declarators, declarator_then}
use Rattle.script.specs.Tree.{Init, no_init, init_expression, init_declaration, Alternate, no_alternate, alternate}
use Rattle.script.specs.Tree.{Stmt, empty, expression, declaration, return_of, throw, if_then, block, while, do_while, for, switch, break, continue}
use Rattle.script.specs.Tree.{Stmts, no_stmts, stmt_then, Cases, no_cases, case_then}
use Rattle.script.specs.Stacks.{Item, statement, case, Declarator, declarator}
use Rattle.records.specs.Heap.{expr_label, stmt_label, decl_label}
use Rattle.records.specs.Rows.{Row, end, node}

abbrev mutual
  pub expr_row : Expr → Row → Row
  expr_row (number b) w = node (expr_label (expression.Number b)) end end end w
  expr_row (word c) w = node (expr_label (expression.Word c)) end end end w
  expr_row (name n) w = node (expr_label (expression.Name n)) end end end w
  expr_row (assignment n e) w = node (expr_label (expression.Assignment n)) (expr_row e end) end end w
  expr_row (call n es) w = node (expr_label (expression.Call n)) (exprs_row es) end end w
  expr_row (sequence e es) w = node (expr_label expression.Sequence) (expr_row e (exprs_row es)) end end w
  expr_row (conditional t a b) w = node (expr_label expression.Conditional) (expr_row t (expr_row a (expr_row b end))) end end w
  expr_row (logical o a b) w = node (expr_label (expression.Logical o)) (expr_row a (expr_row b end)) end end w
  expr_row (not e) w = node (expr_label expression.Not) (expr_row e end) end end w
  expr_row (void e) w = node (expr_label expression.Void) (expr_row e end) end end w
  expr_row (strict_equality a b) w = node (expr_label expression.StrictEquality) (expr_row a (expr_row b end)) end end w

  pub exprs_row : Exprs → Row
  exprs_row no_exprs = end
  exprs_row (expr_then e es) = expr_row e (exprs_row es)

abbrev pub optional_row : OptionalExpr → Row → Row
optional_row absent w = w
optional_row (present e) w = expr_row e w

abbrev pub declarators_row : Declarators → Row
declarators_row no_declarators = end
declarators_row (declarator_then n v ds) = node (decl_label n) (optional_row v end) end end (declarators_row ds)

abbrev pub declaration_row : DeclarationKind → Declarators → Row → Row
declaration_row k ds w = node (stmt_label (kind.Declaration k)) end end (declarators_row ds) w

-- what a for has beside its body
abbrev pub init_kind : Init → ForInit
init_kind no_init = init.Absent
init_kind (init_expression e) = init.Expression
init_kind (init_declaration k ds) = init.Declaration

abbrev pub is_present : OptionalExpr → Bool
is_present absent = false
is_present (present e) = true

abbrev pub for_head : Init → OptionalExpr → OptionalExpr → ForHead
for_head i t u = record { init = init_kind i; test = is_present t; update = is_present u }

abbrev pub init_exprs : Init → Row → Row
init_exprs no_init w = w
init_exprs (init_expression e) w = expr_row e w
init_exprs (init_declaration k ds) w = w

abbrev pub init_stmts : Init → Row → Row
init_stmts no_init w = w
init_stmts (init_expression e) w = w
init_stmts (init_declaration k ds) w = declaration_row k ds w

abbrev mutual
  pub stmt_row : Stmt → Row → Row
  stmt_row empty w = node (stmt_label kind.Empty) end end end w
  stmt_row (expression e) w = node (stmt_label kind.Expression) (expr_row e end) end end w
  stmt_row (declaration k ds) w = declaration_row k ds w
  stmt_row (return_of v) w = node (stmt_label kind.Return) (optional_row v end) end end w
  stmt_row (throw e) w = node (stmt_label kind.Throw) (expr_row e end) end end w
  stmt_row (if_then t c a) w = node (stmt_label kind.If) (expr_row t end) (stmt_row c (alternate_row a)) end w
  stmt_row (block ss) w = node (stmt_label kind.Block) end (stmts_row ss) end w
  stmt_row (while t b) w = node (stmt_label kind.While) (expr_row t end) (stmt_row b end) end w
  stmt_row (do_while b t) w = node (stmt_label kind.DoWhile) (expr_row t end) (stmt_row b end) end w
  stmt_row (for i t u b) w =
      node (stmt_label (kind.For (for_head i t u))) (init_exprs i (optional_row t (optional_row u end))) (init_stmts i (stmt_row b end)) end w
  stmt_row (switch d cs) w = node (stmt_label kind.Switch) (expr_row d end) (cases_row cs) end w
  stmt_row break w = node (stmt_label kind.Break) end end end w
  stmt_row continue w = node (stmt_label kind.Continue) end end end w

  pub alternate_row : Alternate → Row
  alternate_row no_alternate = end
  alternate_row (alternate s) = stmt_row s end

  pub stmts_row : Stmts → Row
  stmts_row no_stmts = end
  stmts_row (stmt_then s ss) = stmt_row s (stmts_row ss)

  pub cases_row : Cases → Row
  cases_row no_cases = end
  cases_row (case_then t ss cs) = node (stmt_label kind.Case) (optional_row t end) (stmts_row ss) end (cases_row cs)

abbrev pub item_row : Item → Row → Row
item_row (statement s) w = stmt_row s w
item_row (case t ss) w = node (stmt_label kind.Case) (optional_row t end) (stmts_row ss) end w

abbrev pub declarator_row : Declarator → Row → Row
declarator_row (declarator n v) w = node (decl_label n) (optional_row v end) end end w

-- a stack as a row, its top first
abbrev pub expr_stack : List Expr → Row
expr_stack [] = end
expr_stack (e ∷ es) = expr_row e (expr_stack es)

abbrev pub stmt_stack : List Item → Row
stmt_stack [] = end
stmt_stack (i ∷ is) = item_row i (stmt_stack is)

abbrev pub decl_stack : List Declarator → Row
decl_stack [] = end
decl_stack (d ∷ ds) = declarator_row d (decl_stack ds)
