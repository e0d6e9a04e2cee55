-- The commands of statements, over the parts that they take: each puts the statement of those parts.
use mathlib.Core.Path.{◌≡◌, refl, ap, ◌∙◌}
use mathlib.Core.Bool.{Bool, true, false}
use mathlib.Core.Bool.{not as negated}
use mathlib.Core.List.{List, ◌∷◌, reverse_aux}
use Prim.Native.Nat.{◌+◌}
use Rattle.script.specs.declared.ForInit.{ForInit}
use Rattle.script.specs.declared.ForInit.TheVariants as init
use Rattle.script.specs.declared.ForHead.{ForHead}
use Rattle.script.specs.declared.Awaiting.TheVariants as awaiting
use Rattle.script.specs.declared.Command.TheVariants as command
use Rattle.script.specs.declared.Counted.TheVariants as counted
use Rattle.script.specs.Tree.{Expr, OptionalExpr, absent, present, Init, no_init, init_expression, init_declaration, Alternate, no_alternate, alternate}
use Rattle.script.specs.Tree.{Stmt, declaration, return_of, if_then, block, while, do_while, for, switch, Stmts, Cases}
use Rattle.script.specs.Format.{awaits, ends, lexed}
use Rattle.script.specs.Stacks.{Item, statement, case, Stacks, Performed, puts_item, puts_body, pop_if, unless, lexical_declaration, as_branch, sound_cases, pop_init, left, perform}
use Rattle.script.specs.Judge.{push_expr, push_item}
use Rattle.script.specs.Sound.{count_stmts, count_cases, SoundAlternate}
use Rattle.script.specs.Written.{either_code, flag, init_flag, if_code}
use Rattle.script.proofs.Parts.{stmt_list, case_list, stmts_of_list, cases_of_list, pops_stmts, pops_cases}
use Rattle.script.proofs.Exprs.{optional_on, push_optional}

abbrev pub push_stmts : Stmts → Stacks → Stacks
push_stmts ss s = record { exprs = s.exprs; stmts = reverse_aux (stmt_list ss) s.stmts; decls = s.decls }

abbrev pub push_cases : Cases → Stacks → Stacks
push_cases cs s = record { exprs = s.exprs; stmts = reverse_aux (case_list cs) s.stmts; decls = s.decls }

abbrev alternate_on : Alternate → List Item → List Item
alternate_on no_alternate is = is
alternate_on (alternate a) is = statement a ∷ is

abbrev pub push_alternate : Alternate → Stacks → Stacks
push_alternate a s = record { exprs = s.exprs; stmts = alternate_on a s.stmts; decls = s.decls }

abbrev init_exprs_on : Init → List Expr → List Expr
init_exprs_on no_init es = es
init_exprs_on (init_expression e) es = e ∷ es
init_exprs_on (init_declaration k ds) es = es

abbrev init_items_on : Init → List Item → List Item
init_items_on no_init is = is
init_items_on (init_expression e) is = is
init_items_on (init_declaration k ds) is = statement (declaration k ds) ∷ is

abbrev pub push_init : Init → Stacks → Stacks
push_init i s = record { exprs = init_exprs_on i s.exprs; stmts = init_items_on i s.stmts; decls = s.decls }

-- which parts there are
abbrev pub is_present : OptionalExpr → Bool
is_present absent = false
is_present (present e) = true

abbrev pub has_alternate : Alternate → Bool
has_alternate no_alternate = false
has_alternate (alternate a) = true

abbrev pub init_kind : Init → ForInit
init_kind no_init = init.Absent
init_kind (init_expression e) = init.Expression
init_kind (init_declaration k ds) = init.Declaration

abbrev pub head : Init → OptionalExpr → OptionalExpr → ForHead
head i t u = record { init = init_kind i; test = is_present t; update = is_present u }

-- the bytes that tell them

pub return_ends : (v : OptionalExpr) → lexed awaiting.Command (either_code v 0x23 0x24) ≡ ends (command.Return (is_present v))
return_ends absent = refl
return_ends (present e) = refl

pub if_ends : (a : Alternate) → lexed awaiting.Command (if_code a) ≡ ends (command.If (has_alternate a))
if_ends no_alternate = refl
if_ends (alternate a) = refl

pub test_awaits : (t : OptionalExpr) → lexed awaiting.CaseTest (flag t 1) ≡ awaits (awaiting.Count (counted.Case (is_present t)))
test_awaits absent = refl
test_awaits (present e) = refl

pub head_ends : (i : Init) (t u : OptionalExpr) → lexed awaiting.ForHead (init_flag i + (flag t 4 + flag u 8)) ≡ ends (command.For (head i t u))
head_ends no_init absent absent = refl
head_ends no_init absent (present u) = refl
head_ends no_init (present t) absent = refl
head_ends no_init (present t) (present u) = refl
head_ends (init_expression e) absent absent = refl
head_ends (init_expression e) absent (present u) = refl
head_ends (init_expression e) (present t) absent = refl
head_ends (init_expression e) (present t) (present u) = refl
head_ends (init_declaration k ds) absent absent = refl
head_ends (init_declaration k ds) absent (present u) = refl
head_ends (init_declaration k ds) (present t) absent = refl
head_ends (init_declaration k ds) (present t) (present u) = refl

-- what the commands take

optional_popped : (v : OptionalExpr) (es : List Expr) (k : OptionalExpr → List Expr → Performed) → pop_if (is_present v) (optional_on v es) k ≡ k v es
optional_popped absent es k = refl
optional_popped (present e) es k = refl

allowed : {lexical : Bool} {p : Performed} → lexical ≡ false → unless lexical p ≡ p
allowed {p = p} plain = ap (λ lexical. unless lexical p) plain

module _ (s : Stacks) where
  pub return_performed : (v : OptionalExpr) → perform (command.Return (is_present v)) (push_optional v s) ≡ puts_item (statement (return_of v)) s
  return_performed v = optional_popped v s.exprs _

  pub if_performed : (t : Expr) (c : Stmt) (a : Alternate) → lexical_declaration c ≡ false → SoundAlternate a →
      perform (command.If (has_alternate a)) (push_alternate a (push_item (statement c) (push_expr t s))) ≡ puts_item (statement (if_then t c a)) s
  if_performed t c no_alternate plain ok = allowed plain
  if_performed t c (alternate a) plain ok = allowed plain ∙ allowed ok.0

  pub block_performed : (ss : Stmts) → perform (command.Block (count_stmts ss)) (push_stmts ss s) ≡ puts_item (statement (block ss)) s
  block_performed ss = pops_stmts ss s.stmts _ ∙ stmts_of_list ss _

  pub while_performed : (t : Expr) (b : Stmt) → lexical_declaration b ≡ false →
      perform command.While (push_item (statement b) (push_expr t s)) ≡ puts_item (statement (while t b)) s
  while_performed t b plain = allowed plain

  pub do_while_performed : (b : Stmt) (t : Expr) → lexical_declaration b ≡ false →
      perform command.DoWhile (push_expr t (push_item (statement b) s)) ≡ puts_item (statement (do_while b t)) s
  do_while_performed b t plain = allowed plain

  init_popped : (i : Init) (t u : OptionalExpr) (b : Stmt) → lexical_declaration b ≡ false →
      pop_init (init_kind i) (push_init i s).exprs (push_init i s).stmts
      (λ j es is. j (λ i'. as_branch (statement b) (λ b'. puts_item (statement (for i' t u b')) (left es is s.decls))))
      ≡ puts_item (statement (for i t u b)) s
  init_popped no_init t u b plain = allowed plain
  init_popped (init_expression e) t u b plain = allowed plain
  init_popped (init_declaration k ds) t u b plain = allowed plain

  pub for_performed : (i : Init) (t u : OptionalExpr) (b : Stmt) → lexical_declaration b ≡ false →
      perform (command.For (head i t u)) (push_item (statement b) (push_optional u (push_optional t (push_init i s))))
      ≡ puts_item (statement (for i t u b)) s
  for_performed i t u b plain =
      optional_popped u _ _ ∙ optional_popped t _ _ ∙ init_popped i t u b plain

  pub case_performed : (t : OptionalExpr) (ss : Stmts) →
      perform (command.Case (is_present t) (count_stmts ss)) (push_stmts ss (push_optional t s)) ≡ puts_item (case t ss) s
  case_performed t ss = optional_popped t s.exprs _ ∙ pops_stmts ss s.stmts _ ∙ stmts_of_list ss _

  pub switch_performed : (d : Expr) (cs : Cases) → sound_cases cs ≡ true →
      perform (command.Switch (count_cases cs)) (push_cases cs (push_expr d s)) ≡ puts_item (statement (switch d cs)) s
  switch_performed d cs ok =
      pops_cases cs s.stmts _ ∙ cases_of_list cs _
      ∙ ap (λ sound. unless (negated sound) (puts_item (statement (switch d cs)) s)) ok

  pub body_performed : (ss : Stmts) → perform (command.Body (count_stmts ss)) (push_stmts ss s) ≡ puts_body ss s
  body_performed ss = pops_stmts ss s.stmts _ ∙ stmts_of_list ss _
