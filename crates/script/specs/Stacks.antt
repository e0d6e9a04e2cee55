-- What a whole command takes off the three stacks and puts back. The top of a stack stands first in its list.
use Rattle.std.specs.Prelude.{Bool, true, false, ◌&&◌, not as negated, List, [], ◌∷◌, ℕ, zero, suc, leb}
use Rattle.script.specs.declared.DeclarationKind.{DeclarationKind}
use Rattle.script.specs.declared.DeclarationKind.TheVariants.{Var, Let, Const}
use Rattle.script.specs.declared.ForInit.{ForInit}
use Rattle.script.specs.declared.ForInit.TheVariants as init
use Rattle.script.specs.declared.Command.{Command}
use Rattle.script.specs.declared.Command.TheVariants as command
use Rattle.script.specs.Tree.{Expr, number, word, name, assignment, call, sequence, conditional, logical, not, void, strict_equality}
use Rattle.script.specs.Tree.{Exprs, no_exprs, expr_then, OptionalExpr, absent, present, Declarators, no_declarators, declarator_then}
use Rattle.script.specs.Tree.{Init, no_init, init_expression, init_declaration, no_alternate, alternate}
use Rattle.script.specs.Tree.{Stmt, empty, expression, declaration, return_of, throw, if_then, block, while, do_while, for, switch, break, continue}
use Rattle.script.specs.Tree.{Stmts, no_stmts, stmt_then, Cases, no_cases, case_then}

-- an item of the statement stack
pub data Item : Type 0 where
  statement : Stmt → Item
  case : OptionalExpr → Stmts → Item

-- an item of the declarator stack
pub data Declarator : Type 0 where
  declarator : ℕ → OptionalExpr → Declarator

pub record Stacks : Type 0 where
  pub exprs : List Expr
  pub stmts : List Item
  pub decls : List Declarator

abbrev pub no_items : Stacks
no_items = record { exprs = []; stmts = []; decls = [] }

-- what a command comes to: a stack has too few items, a part is misplaced, or one item is put beside the stacks that are left
pub data Performed : Type 0 where
  lacks : Performed
  misplaces : Performed
  puts_expr : Expr → Stacks → Performed
  puts_item : Item → Stacks → Performed
  puts_declarator : Declarator → Stacks → Performed
  puts_body : Stmts → Stacks → Performed

-- the top of a stack
abbrev pub pop : {A : Type 0} → List A → (A → List A → Performed) → Performed
pop [] k = lacks
pop (x ∷ xs) k = k x xs

-- the top where a flag is set
abbrev pub pop_if : Bool → List Expr → (OptionalExpr → List Expr → Performed) → Performed
pop_if false xs k = k absent xs
pop_if true xs k = pop xs (λ x. k (present x))

-- the n topmost in front of others: the deeper is first in source
abbrev pub pops : {A : Type 0} → ℕ → List A → List A → (List A → List A → Performed) → Performed
pops zero xs parts k = k parts xs
pops (suc n) [] parts k = lacks
pops (suc n) (x ∷ xs) parts k = pops n xs (x ∷ parts) k

abbrev pub exprs_of : List Expr → Exprs
exprs_of [] = no_exprs
exprs_of (e ∷ es) = expr_then e (exprs_of es)

abbrev pub declarators_of : List Declarator → Declarators
declarators_of [] = no_declarators
declarators_of (declarator n v ∷ ds) = declarator_then n v (declarators_of ds)

-- let and const may not stand as a branch or a loop's body
abbrev pub lexical_kind : DeclarationKind → Bool
lexical_kind Var = false
lexical_kind Let = true
lexical_kind Const = true

abbrev pub lexical_declaration : Stmt → Bool
lexical_declaration empty = false
lexical_declaration (expression e) = false
lexical_declaration (declaration k ds) = lexical_kind k
lexical_declaration (return_of v) = false
lexical_declaration (throw e) = false
lexical_declaration (if_then t c a) = false
lexical_declaration (block ss) = false
lexical_declaration (while t b) = false
lexical_declaration (do_while b t) = false
lexical_declaration (for i t u b) = false
lexical_declaration (switch d cs) = false
lexical_declaration break = false
lexical_declaration continue = false

abbrev pub unless : Bool → Performed → Performed
unless true p = misplaces
unless false p = p

-- a branch or a loop's body: no case, let or const
abbrev pub as_branch : Item → (Stmt → Performed) → Performed
as_branch (statement s) k = unless (lexical_declaration s) (k s)
as_branch (case t ss) k = misplaces

-- a list: no case
abbrev pub as_stmts : List Item → (Stmts → Performed) → Performed
as_stmts [] k = k no_stmts
as_stmts (statement s ∷ is) k = as_stmts is (λ ss. k (stmt_then s ss))
as_stmts (case t ss ∷ is) k = misplaces

-- the cases of a switch: no other statement
abbrev pub as_cases : List Item → (Cases → Performed) → Performed
as_cases [] k = k no_cases
as_cases (statement s ∷ is) k = misplaces
as_cases (case t ss ∷ is) k = as_cases is (λ cs. k (case_then t ss cs))

abbrev pub defaults : Cases → ℕ
defaults no_cases = 0
defaults (case_then absent ss cs) = suc (defaults cs)
defaults (case_then (present e) ss cs) = defaults cs

abbrev pub some_case : Cases → Bool
some_case no_cases = false
some_case (case_then t ss cs) = true

-- one case at least, one default at most
abbrev pub sound_cases : Cases → Bool
sound_cases cs = some_case cs && leb (defaults cs) 1

abbrev pub all_valued : Declarators → Bool
all_valued no_declarators = true
all_valued (declarator_then n absent ds) = false
all_valued (declarator_then n (present e) ds) = all_valued ds

-- a const has a value
abbrev pub sound_declaration : DeclarationKind → Declarators → Bool
sound_declaration Var ds = true
sound_declaration Let ds = true
sound_declaration Const ds = all_valued ds

-- a for's init that is a statement is a declaration
abbrev pub as_init : Item → (Init → Performed) → Performed
as_init (case t ss) k = misplaces
as_init (statement (declaration kind ds)) k = k (init_declaration kind ds)
as_init (statement empty) k = misplaces
as_init (statement (expression e)) k = misplaces
as_init (statement (return_of v)) k = misplaces
as_init (statement (throw e)) k = misplaces
as_init (statement (if_then t c a)) k = misplaces
as_init (statement (block ss)) k = misplaces
as_init (statement (while t b)) k = misplaces
as_init (statement (do_while b t)) k = misplaces
as_init (statement (for i t u b)) k = misplaces
as_init (statement (switch d cs)) k = misplaces
as_init (statement break) k = misplaces
as_init (statement continue) k = misplaces

-- the first part of a for, taken last
abbrev pub pop_init : ForInit → List Expr → List Item → ((((Init → Performed) → Performed)) → List Expr → List Item → Performed) → Performed
pop_init init.Absent es is k = k (λ j. j no_init) es is
pop_init init.Expression es is k = pop es (λ e es'. k (λ j. j (init_expression e)) es' is)
pop_init init.Declaration es is k = pop is (λ i is'. k (as_init i) es is')

abbrev pub as_sequence : List Expr → (Expr → Performed) → Performed
as_sequence [] k = lacks
as_sequence (e ∷ es) k = k (sequence e (exprs_of es))

abbrev pub left : List Expr → List Item → List Declarator → Stacks
left es is ds = record { exprs = es; stmts = is; decls = ds }

abbrev pub perform : Command → Stacks → Performed
perform (command.Number b) s = puts_expr (number b) s
perform (command.Word w) s = puts_expr (word w) s
perform (command.Name n) s = puts_expr (name n) s
perform (command.Assignment n) s = pop s.exprs (λ e es. puts_expr (assignment n e) (left es s.stmts s.decls))
perform (command.Call n c) s = pops c s.exprs [] (λ parts es. puts_expr (call n (exprs_of parts)) (left es s.stmts s.decls))
perform (command.Sequence c) s = pops c s.exprs [] (λ parts es. as_sequence parts (λ e. puts_expr e (left es s.stmts s.decls)))
perform command.Conditional s =
    pop s.exprs (λ b es₁. pop es₁ (λ a es₂. pop es₂ (λ t es. puts_expr (conditional t a b) (left es s.stmts s.decls))))
perform (command.Logical o) s = pop s.exprs (λ b es₁. pop es₁ (λ a es. puts_expr (logical o a b) (left es s.stmts s.decls)))
perform command.Not s = pop s.exprs (λ e es. puts_expr (not e) (left es s.stmts s.decls))
perform command.Void s = pop s.exprs (λ e es. puts_expr (void e) (left es s.stmts s.decls))
perform command.StrictEquality s = pop s.exprs (λ b es₁. pop es₁ (λ a es. puts_expr (strict_equality a b) (left es s.stmts s.decls)))
perform (command.Declarator n v) s = pop_if v s.exprs (λ e es. puts_declarator (declarator n e) (left es s.stmts s.decls))
perform command.Empty s = puts_item (statement empty) s
perform command.Expression s = pop s.exprs (λ e es. puts_item (statement (expression e)) (left es s.stmts s.decls))
perform (command.Declaration k c) s =
    pops c s.decls [] (λ parts ds. let list = declarators_of parts in
    unless (negated (sound_declaration k list)) (puts_item (statement (declaration k list)) (left s.exprs s.stmts ds)))
perform (command.Return v) s = pop_if v s.exprs (λ e es. puts_item (statement (return_of e)) (left es s.stmts s.decls))
perform command.Throw s = pop s.exprs (λ e es. puts_item (statement (throw e)) (left es s.stmts s.decls))
perform (command.If false) s =
    pop s.exprs (λ t es. pop s.stmts (λ c is. as_branch c (λ c'.
    puts_item (statement (if_then t c' no_alternate)) (left es is s.decls))))
perform (command.If true) s =
    pop s.exprs (λ t es. pop s.stmts (λ a is₁. pop is₁ (λ c is. as_branch c (λ c'. as_branch a (λ a'.
    puts_item (statement (if_then t c' (alternate a'))) (left es is s.decls))))))
perform (command.Block c) s =
    pops c s.stmts [] (λ parts is. as_stmts parts (λ ss. puts_item (statement (block ss)) (left s.exprs is s.decls)))
perform command.While s =
    pop s.exprs (λ t es. pop s.stmts (λ b is. as_branch b (λ b'. puts_item (statement (while t b')) (left es is s.decls))))
perform command.DoWhile s =
    pop s.exprs (λ t es. pop s.stmts (λ b is. as_branch b (λ b'. puts_item (statement (do_while b' t)) (left es is s.decls))))
perform (command.For h) s =
    pop_if h.update s.exprs (λ u es₁. pop_if h.test es₁ (λ t es₂. pop s.stmts (λ b is₁.
    pop_init h.init es₂ is₁ (λ init es is. init (λ i. as_branch b (λ b'.
    puts_item (statement (for i t u b')) (left es is s.decls)))))))
perform command.Break s = puts_item (statement break) s
perform command.Continue s = puts_item (statement continue) s
perform (command.Case t c) s =
    pop_if t s.exprs (λ e es. pops c s.stmts [] (λ parts is. as_stmts parts (λ ss. puts_item (case e ss) (left es is s.decls))))
perform (command.Switch c) s =
    pop s.exprs (λ d es. pops c s.stmts [] (λ parts is. as_cases parts (λ cs.
    unless (negated (sound_cases cs)) (puts_item (statement (switch d cs)) (left es is s.decls)))))
perform (command.Body c) s = pops c s.stmts [] (λ parts is. as_stmts parts (λ ss. puts_body ss (left s.exprs is s.decls)))
