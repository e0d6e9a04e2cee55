-- The rule on the head of a `for`.
use Rattle.std.specs.Prelude.{Bool, true, false}
use Rattle.script.specs.declared.DeclarationKind.{DeclarationKind}
use Rattle.script.specs.declared.DeclarationKind.TheVariants.{Var, Let, Const}
use Rattle.script.specs.Tree.{Init, Stmts, OptionalExpr, absent, no_init, present, init_expression, Expr, init_declaration, stmt_then}
use Rattle.script.specs.Tree.{declaration, Declarators, Stmt, for}
use Rattle.rules.specs.Expressions.{join_sequence}
use Rattle.rules.specs.Merging.{LastDeclaration?, last_declaration, no_last_declaration, LastExpression?, last_expression}
use Rattle.rules.specs.Merging.{no_last_expression, last_declaration?, last_expression?, Worked, merge_leading_assignments_to_declaration}
use Rattle.rules.specs.Declarations.{append_declarators}

pub record WorkedHead : Type 0 where
  pub init : Init
  pub results : Stmts

abbrev pub init_from : OptionalExpr → Init
init_from absent = no_init
init_from (present e) = init_expression e

abbrev pub join_init_expression : Expr → OptionalExpr → OptionalExpr
join_init_expression a absent = present a
join_init_expression a (present e) = present (join_sequence a e)

abbrev pub declaration_into_head : OptionalExpr → {r : Stmts} → LastDeclaration? r → WorkedHead
declaration_into_head absent (last_declaration Var ds r) = record { init = init_declaration Var ds; results = r }
declaration_into_head absent (last_declaration Let ds r) = record { init = no_init; results = stmt_then (declaration Let ds) r }
declaration_into_head absent (last_declaration Const ds r) = record { init = no_init; results = stmt_then (declaration Const ds) r }
declaration_into_head absent {r} no_last_declaration = record { init = no_init; results = r }
declaration_into_head (present e) {r} v = record { init = init_expression e; results = r }

abbrev pub expression_into_head : OptionalExpr → {r : Stmts} → LastExpression? r → WorkedHead
expression_into_head p (last_expression a r) = record { init = init_from (join_init_expression a p); results = r }
expression_into_head p {r} no_last_expression = declaration_into_head p (last_declaration? r)

abbrev pub head_from : Bool → OptionalExpr → Stmts → WorkedHead
head_from true p r = expression_into_head p (last_expression? true r)
head_from false p r = record { init = init_from p; results = r }

abbrev pub var_into_head : Declarators → {r : Stmts} → LastDeclaration? r → WorkedHead
var_into_head ds (last_declaration Var ds₀ r) = record { init = init_declaration Var (append_declarators ds₀ ds); results = r }
var_into_head ds (last_declaration Let ds₀ r) = record { init = init_declaration Var ds; results = stmt_then (declaration Let ds₀) r }
var_into_head ds (last_declaration Const ds₀ r) = record { init = init_declaration Var ds; results = stmt_then (declaration Const ds₀) r }
var_into_head ds {r} no_last_declaration = record { init = init_declaration Var ds; results = r }

abbrev pub head_from_declaration : Bool → DeclarationKind → Declarators → Stmts → WorkedHead
head_from_declaration true Var ds r = var_into_head ds (last_declaration? r)
head_from_declaration true Let ds r = record { init = init_declaration Let ds; results = r }
head_from_declaration true Const ds r = record { init = init_declaration Const ds; results = r }
head_from_declaration false k ds r = record { init = init_declaration k ds; results = r }

abbrev pub for_head : Bool → Init → Stmts → WorkedHead
for_head q no_init r = head_from q absent r
for_head q (init_expression e) r =
    let w : Worked = merge_leading_assignments_to_declaration true e r in head_from q w.target w.results
for_head q (init_declaration k ds) r = head_from_declaration q k ds r

-- sequences on or off, the head, its test and update, the loop's body, the results before it (newest first)
abbrev pub handle_for_statement : Bool → Init → OptionalExpr → OptionalExpr → Stmt → Stmts → Stmts
handle_for_statement q i t u b r = let h : WorkedHead = for_head q i r in stmt_then (for h.init t u b) h.results
