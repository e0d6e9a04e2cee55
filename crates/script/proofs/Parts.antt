-- Parts that were pushed one after the other are taken off again in source order.
use mathlib.Core.Path.{◌≡◌, refl, ap, ◌∙◌}
use mathlib.Core.List.{List, [], ◌∷◌, ◌++◌, reverse_aux, append-nil}
use Prim.Native.Nat.{ℕ, suc, ◌+◌}
use native.Mathlib.Nat.{zero-add}
use native.Mathlib.Omega.{arith}
use lib.ListN.{length}
use Rattle.script.specs.Tree.{Expr, Exprs, no_exprs, expr_then, Declarators, no_declarators, declarator_then}
use Rattle.script.specs.Tree.{Stmts, no_stmts, stmt_then, Cases, no_cases, case_then}
use Rattle.script.specs.Stacks.{Item, statement, case, Declarator, declarator, Performed, pops, exprs_of, declarators_of, as_stmts, as_cases}
use Rattle.script.specs.Sound.{count_exprs, count_declarators, count_stmts, count_cases}

abbrev pub expr_list : Exprs → List Expr
expr_list no_exprs = []
expr_list (expr_then e es) = e ∷ expr_list es

abbrev pub declarator_list : Declarators → List Declarator
declarator_list no_declarators = []
declarator_list (declarator_then n v ds) = declarator n v ∷ declarator_list ds

abbrev pub stmt_list : Stmts → List Item
stmt_list no_stmts = []
stmt_list (stmt_then s ss) = statement s ∷ stmt_list ss

abbrev pub case_list : Cases → List Item
case_list no_cases = []
case_list (case_then t ss cs) = case t ss ∷ case_list cs

-- a list is its parts again

pub exprs_of_list : (es : Exprs) → exprs_of (expr_list es) ≡ es
exprs_of_list no_exprs = refl
exprs_of_list (expr_then e es) = ap (expr_then e) (exprs_of_list es)

pub declarators_of_list : (ds : Declarators) → declarators_of (declarator_list ds) ≡ ds
declarators_of_list no_declarators = refl
declarators_of_list (declarator_then n v ds) = ap (declarator_then n v) (declarators_of_list ds)

pub stmts_of_list : (ss : Stmts) (k : Stmts → Performed) → as_stmts (stmt_list ss) k ≡ k ss
stmts_of_list no_stmts k = refl
stmts_of_list (stmt_then s ss) k = stmts_of_list ss (λ rest. k (stmt_then s rest))

pub cases_of_list : (cs : Cases) (k : Cases → Performed) → as_cases (case_list cs) k ≡ k cs
cases_of_list no_cases k = refl
cases_of_list (case_then t ss cs) k = cases_of_list cs (λ rest. k (case_then t ss rest))

-- and as long as is counted

exprs_length : (es : Exprs) → count_exprs es ≡ length (expr_list es)
exprs_length no_exprs = refl
exprs_length (expr_then e es) = ap suc (exprs_length es)

declarators_length : (ds : Declarators) → count_declarators ds ≡ length (declarator_list ds)
declarators_length no_declarators = refl
declarators_length (declarator_then n v ds) = ap suc (declarators_length ds)

stmts_length : (ss : Stmts) → count_stmts ss ≡ length (stmt_list ss)
stmts_length no_stmts = refl
stmts_length (stmt_then s ss) = ap suc (stmts_length ss)

cases_length : (cs : Cases) → count_cases cs ≡ length (case_list cs)
cases_length no_cases = refl
cases_length (case_then t ss cs) = ap suc (cases_length cs)

-- a count takes off what was pushed, and more below it
module _ {A : Type 0} (k : List A → List A → Performed) where
  pops_more : (xs stack parts : List A) (count more : ℕ) → count ≡ length xs + more →
      pops count (reverse_aux xs stack) parts k ≡ pops more stack (xs ++ parts) k
  pops_more [] stack parts count more e = ap (λ n. pops n stack parts k) (e ∙ zero-add more)
  pops_more (x ∷ xs) stack parts count more e = pops_more xs (x ∷ stack) parts count (suc more) (omega arith)

  pops_all : (xs stack : List A) (count : ℕ) → count ≡ length xs → pops count (reverse_aux xs stack) [] k ≡ k xs stack
  pops_all xs stack count e = pops_more xs stack [] count 0 (omega arith) ∙ ap (λ parts. k parts stack) (append-nil xs)

pub pops_exprs : (es : Exprs) (stack : List Expr) (k : List Expr → List Expr → Performed) →
    pops (count_exprs es) (reverse_aux (expr_list es) stack) [] k ≡ k (expr_list es) stack
pops_exprs es stack k = pops_all k (expr_list es) stack (count_exprs es) (exprs_length es)

pub pops_declarators : (ds : Declarators) (stack : List Declarator) (k : List Declarator → List Declarator → Performed) →
    pops (count_declarators ds) (reverse_aux (declarator_list ds) stack) [] k ≡ k (declarator_list ds) stack
pops_declarators ds stack k = pops_all k (declarator_list ds) stack (count_declarators ds) (declarators_length ds)

pub pops_stmts : (ss : Stmts) (stack : List Item) (k : List Item → List Item → Performed) →
    pops (count_stmts ss) (reverse_aux (stmt_list ss) stack) [] k ≡ k (stmt_list ss) stack
pops_stmts ss stack k = pops_all k (stmt_list ss) stack (count_stmts ss) (stmts_length ss)

pub pops_cases : (cs : Cases) (stack : List Item) (k : List Item → List Item → Performed) →
    pops (count_cases cs) (reverse_aux (case_list cs) stack) [] k ≡ k (case_list cs) stack
pops_cases cs stack k = pops_all k (case_list cs) stack (count_cases cs) (cases_length cs)
