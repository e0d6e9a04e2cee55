-- The rule on `switch`.
use Rattle.std.specs.Prelude.{Bool, true, false, cond, ◌||◌, T}
use Rattle.script.specs.Tree.{Stmt, empty, expression, declaration, return_of, throw, if_then, block, while, do_while, for, switch, break}
use Rattle.script.specs.Tree.{continue, Alternate, no_alternate, alternate, Stmts, no_stmts, stmt_then, Cases, Expr, case_then, present}
use Rattle.script.specs.Tree.{no_cases, absent, strict_equality}
use Rattle.rules.specs.Literals.{is_literal}
use Rattle.rules.specs.Merging.{push_new_expression_stmt_to_result, Worked, merge_last_expression_into_sequence, next_work}
use Rattle.rules.specs.Merging.{merge_leading_assignments_to_declaration}
use Rattle.rules.specs.Returns.{value_or_void_0}
use Rattle.rules.specs.Ifs.{Block?, is_block, no_block, block?}

-- a break that would leave the switch
abbrev mutual
  pub has_nested_break : Stmt → Bool
  has_nested_break empty = false
  has_nested_break (expression e) = false
  has_nested_break (declaration k ds) = false
  has_nested_break (return_of p) = false
  has_nested_break (throw e) = false
  has_nested_break (if_then t c a) = has_nested_break c || has_nested_break_in_alternate a
  has_nested_break (block ss) = has_nested_break_in_list ss
  has_nested_break (while t b) = false
  has_nested_break (do_while b t) = false
  has_nested_break (for i t u b) = false
  has_nested_break (switch d cs) = false
  has_nested_break break = true
  has_nested_break continue = false

  pub has_nested_break_in_alternate : Alternate → Bool
  has_nested_break_in_alternate no_alternate = false
  has_nested_break_in_alternate (alternate x) = has_nested_break x

  pub has_nested_break_in_list : Stmts → Bool
  has_nested_break_in_list no_stmts = false
  has_nested_break_in_list (stmt_then x xs) = has_nested_break x || has_nested_break_in_list xs

-- one case, its test a literal or none
pub data OneCase? : Cases → Type 0 where
  one_test : (e : Expr) → T (is_literal e) → (ss : Stmts) → OneCase? (case_then (present e) ss no_cases)
  one_default : (ss : Stmts) → OneCase? (case_then absent ss no_cases)
  no_one_case : {cs : Cases} → OneCase? cs

abbrev pub one_test? : (b : Bool) (e : Expr) → (T b → T (is_literal e)) → (ss : Stmts) → OneCase? (case_then (present e) ss no_cases)
one_test? true e t ss = one_test e (t tt) ss
one_test? false e t ss = no_one_case

abbrev pub one_case? : (cs : Cases) → OneCase? cs
one_case? no_cases = no_one_case
one_case? (case_then absent ss no_cases) = one_default ss
one_case? (case_then (present e) ss no_cases) = one_test? (is_literal e) e (λ t. t) ss
one_case? (case_then p ss (case_then q ts cs)) = no_one_case

abbrev pub as_block : {x : Stmt} → Block? x → Stmt
as_block (is_block ss) = block ss
as_block {x} no_block = block (stmt_then x no_stmts)

abbrev pub case_block : Stmts → Stmt
case_block no_stmts = block no_stmts
case_block (stmt_then x no_stmts) = as_block (block? x)
case_block (stmt_then x (stmt_then y ys)) = block (stmt_then x (stmt_then y ys))

abbrev pub push_discriminant : Bool → Bool → Expr → Stmts → Stmts
push_discriminant q true d r = r
push_discriminant q false d r = push_new_expression_stmt_to_result q d r

abbrev pub inline_switch_case : Bool → Expr → {cs : Cases} → OneCase? cs → Stmts → Stmts
inline_switch_case q d (one_test e t ss) r =
    cond (has_nested_break_in_list ss) (stmt_then (switch d (case_then (present e) ss no_cases)) r)
    (stmt_then (if_then (strict_equality d e) (case_block ss) no_alternate) r)
inline_switch_case q d (one_default ss) r =
    cond (has_nested_break_in_list ss) (stmt_then (switch d (case_then absent ss no_cases)) r)
    (stmt_then (case_block ss) (push_discriminant q (is_literal d) d r))
inline_switch_case q d {cs} no_one_case r = stmt_then (switch d cs) r

abbrev pub worked_discriminant : Bool → Expr → Stmts → Worked
worked_discriminant q d r =
    let m : Worked = merge_last_expression_into_sequence q d r in
    next_work m.target m.results (λ e₁ r₁. merge_leading_assignments_to_declaration false e₁ r₁)

-- sequences on or off, the discriminant, the cases, the results before it (newest first)
abbrev pub handle_switch_statement : Bool → Expr → Cases → Stmts → Stmts
handle_switch_statement q d cs r =
    let w : Worked = worked_discriminant q d r in inline_switch_case q (value_or_void_0 w.target) (one_case? cs) w.results
