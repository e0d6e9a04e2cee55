-- The rules that merge an expression with the newest results: with an expression statement, or with a declaration.
use Rattle.std.specs.Prelude.{ℕ, Bool, true, false, cond, ◌||◌, ◌==◌}
use Rattle.script.specs.declared.DeclarationKind.{DeclarationKind}
use Rattle.script.specs.declared.DeclarationKind.TheVariants.{Var, Let, Const}
use Rattle.script.specs.Tree.{Stmts, Expr, stmt_then, expression, Stmt, empty, declaration, return_of, throw, if_then, block, while}
use Rattle.script.specs.Tree.{do_while, for, switch, break, continue, no_stmts, OptionalExpr, present, Declarators, absent, declarator_then}
use Rattle.script.specs.Tree.{no_declarators, Exprs, no_exprs, expr_then, assignment, sequence}
use Rattle.rules.specs.Literals.{is_literal_value}
use Rattle.rules.specs.Expressions.{join_sequence, Assignment?, is_assignment, no_assignment, assignment?, Sequence?, is_sequence, no_sequence}
use Rattle.rules.specs.Expressions.{sequence?}

-- is the newest result an expression

pub data LastExpression? : Stmts → Type 0 where
  last_expression : (a : Expr) (r : Stmts) → LastExpression? (stmt_then (expression a) r)
  no_last_expression : {r : Stmts} → LastExpression? r

abbrev pub expression? : (x : Stmt) (r : Stmts) → LastExpression? (stmt_then x r)
expression? empty r = no_last_expression
expression? (expression e) r = last_expression e r
expression? (declaration k ds) r = no_last_expression
expression? (return_of p) r = no_last_expression
expression? (throw e) r = no_last_expression
expression? (if_then t c a) r = no_last_expression
expression? (block ss) r = no_last_expression
expression? (while t b) r = no_last_expression
expression? (do_while b t) r = no_last_expression
expression? (for i t u b) r = no_last_expression
expression? (switch d cs) r = no_last_expression
expression? break r = no_last_expression
expression? continue r = no_last_expression

-- with the option `sequences` off it does not count
abbrev pub last_expression? : Bool → (r : Stmts) → LastExpression? r
last_expression? false r = no_last_expression
last_expression? true no_stmts = no_last_expression
last_expression? true (stmt_then x r) = expression? x r

abbrev pub push_expression_as : {r : Stmts} → LastExpression? r → Expr → Stmts
push_expression_as (last_expression a r) e = stmt_then (expression (join_sequence a e)) r
push_expression_as {r} no_last_expression e = stmt_then (expression e) r

abbrev pub push_new_expression_stmt_to_result : Bool → Expr → Stmts → Stmts
push_new_expression_stmt_to_result q e r = push_expression_as (last_expression? q r) e

-- an expression that the rules have worked on, with the results before it; with none, all of it has gone into them
pub record Worked : Type 0 where
  pub target : OptionalExpr
  pub results : Stmts

abbrev pub merge_last_expression_as : {r : Stmts} → LastExpression? r → Expr → Worked
merge_last_expression_as (last_expression a r) e = record { target = present (join_sequence a e); results = r }
merge_last_expression_as {r} no_last_expression e = record { target = present e; results = r }

abbrev pub merge_last_expression_into_sequence : Bool → Expr → Stmts → Worked
merge_last_expression_into_sequence q e r = merge_last_expression_as (last_expression? q r) e

-- merging an assignment into the declarators before it; the last declarator is looked at first

pub data Merge : Type 0 where
  merged : Declarators → Merge
  blocked clear : Merge

abbrev pub mergeable : DeclarationKind → Bool → Bool
mergeable Var l = true
mergeable Let l = l
mergeable Const l = false

-- may the search go on to the declarator before one of another name and no value
abbrev pub passable : DeclarationKind → Merge
passable Var = clear
passable Let = blocked
passable Const = blocked

abbrev pub merge_in_declarator : DeclarationKind → Bool → ℕ → Expr → Bool → ℕ → OptionalExpr → Declarators → Merge
merge_in_declarator k l n e b m (present x) ds = blocked
merge_in_declarator k l n e true m absent ds = cond (mergeable k l) (merged (declarator_then m (present e) ds)) blocked
merge_in_declarator k l n e false m absent ds = passable k

abbrev pub merge_in_later_or : Merge → ℕ → OptionalExpr → Merge → Merge
merge_in_later_or (merged ds) m p here = merged (declarator_then m p ds)
merge_in_later_or blocked m p here = blocked
merge_in_later_or clear m p here = here

abbrev pub merge_into_declarators : DeclarationKind → Bool → ℕ → Expr → Declarators → Merge
merge_into_declarators k l n e no_declarators = clear
merge_into_declarators k l n e (declarator_then m p ds) =
    merge_in_later_or (merge_into_declarators k l n e ds) m p (merge_in_declarator k l n e (m == n) m p ds)

-- the kind and the declarators, the name that is assigned, and its value
abbrev pub merge_assignment_to_declaration : DeclarationKind → Declarators → ℕ → Expr → Merge
merge_assignment_to_declaration k ds n e = merge_into_declarators k (is_literal_value e) n e ds

-- the leading assignments of a sequence go into the declaration before it

pub record Leading : Type 0 where
  pub items : Exprs
  pub declarators : Declarators

abbrev pub has_items : Exprs → Bool
has_items no_exprs = false
has_items (expr_then e es) = true

abbrev pub merge_leading_after : Merge → Exprs → Declarators → (Declarators → Leading) → Leading
merge_leading_after (merged ds') xs ds f = f ds'
merge_leading_after blocked xs ds f = record { items = xs; declarators = ds }
merge_leading_after clear xs ds f = record { items = xs; declarators = ds }

abbrev pub merge_leading_item : Bool → {x : Expr} → Assignment? x → Exprs → DeclarationKind → Declarators → (Declarators → Leading)
    → Leading
merge_leading_item false {x} w xs k ds f = record { items = expr_then x xs; declarators = ds }
merge_leading_item true (is_assignment n e) xs k ds f =
    merge_leading_after (merge_assignment_to_declaration k ds n e) (expr_then (assignment n e) xs) ds f
merge_leading_item true {x} no_assignment xs k ds f = record { items = expr_then x xs; declarators = ds }

-- the last item is taken only if its value is not wanted
abbrev pub merge_leading : Bool → Exprs → DeclarationKind → Declarators → Leading
merge_leading d no_exprs k ds = record { items = no_exprs; declarators = ds }
merge_leading d (expr_then x xs) k ds = merge_leading_item (d || has_items xs) (assignment? x) xs k ds (λ ds'. merge_leading d xs k ds')

abbrev pub sequence_of_items : Exprs → OptionalExpr
sequence_of_items no_exprs = absent
sequence_of_items (expr_then e no_exprs) = present e
sequence_of_items (expr_then e (expr_then x xs)) = present (sequence e (expr_then x xs))

abbrev pub items_of : {e : Expr} → Sequence? e → Exprs
items_of (is_sequence e es) = expr_then e es
items_of {e} no_sequence = expr_then e no_exprs

pub data LastDeclaration? : Stmts → Type 0 where
  last_declaration : (k : DeclarationKind) (ds : Declarators) (r : Stmts) → LastDeclaration? (stmt_then (declaration k ds) r)
  no_last_declaration : {r : Stmts} → LastDeclaration? r

abbrev pub declaration? : (x : Stmt) (r : Stmts) → LastDeclaration? (stmt_then x r)
declaration? empty r = no_last_declaration
declaration? (expression e) r = no_last_declaration
declaration? (declaration k ds) r = last_declaration k ds r
declaration? (return_of p) r = no_last_declaration
declaration? (throw e) r = no_last_declaration
declaration? (if_then t c a) r = no_last_declaration
declaration? (block ss) r = no_last_declaration
declaration? (while t b) r = no_last_declaration
declaration? (do_while b t) r = no_last_declaration
declaration? (for i t u b) r = no_last_declaration
declaration? (switch d cs) r = no_last_declaration
declaration? break r = no_last_declaration
declaration? continue r = no_last_declaration

abbrev pub last_declaration? : (r : Stmts) → LastDeclaration? r
last_declaration? no_stmts = no_last_declaration
last_declaration? (stmt_then x r) = declaration? x r

abbrev pub put_leading_back : Leading → DeclarationKind → Stmts → Worked
put_leading_back l k r = record { target = sequence_of_items l.items; results = stmt_then (declaration k l.declarators) r }

abbrev pub merge_leading_assignments_as : {r : Stmts} → LastDeclaration? r → Bool → Expr → Worked
merge_leading_assignments_as (last_declaration k ds r) d e = put_leading_back (merge_leading d (items_of (sequence? e)) k ds) k r
merge_leading_assignments_as {r} no_last_declaration d e = record { target = present e; results = r }

-- whether the expression's value is not wanted, the expression, the results before it (newest first)
abbrev pub merge_leading_assignments_to_declaration : Bool → Expr → Stmts → Worked
merge_leading_assignments_to_declaration d e r = merge_leading_assignments_as (last_declaration? r) d e

-- expression statements

abbrev pub push_optional_expression : OptionalExpr → Stmts → Stmts
push_optional_expression absent r = r
push_optional_expression (present e) r = stmt_then (expression e) r

abbrev pub push_worked : Worked → Stmts
push_worked w = push_optional_expression w.target w.results

-- the target through a further rule
abbrev pub next_work : OptionalExpr → Stmts → (Expr → Stmts → Worked) → Worked
next_work absent r f = record { target = absent; results = r }
next_work (present e) r f = f e r

-- sequences on or off, the expression, the results before it (newest first)
abbrev pub handle_expression_statement : Bool → Expr → Stmts → Stmts
handle_expression_statement q e r =
    let m : Worked = merge_last_expression_into_sequence q e r in
    push_worked (next_work m.target m.results (λ e₁ r₁. merge_leading_assignments_to_declaration true e₁ r₁))
