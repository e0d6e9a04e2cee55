-- The newest result, told by the kind of its record.
use Rattle.std.proofs.Common.{◌≡◌, ℕ, ◌≤◌, Bool, true, false, T, length, get_or, sym, refl, ap, ◌∙◌, subst, arith}
use Rattle.std.proofs.lemmas.List.{get_or_past}
use Rattle.script.specs.declared.DeclarationKind.TheVariants.{Const, Let, Var}
use Rattle.script.specs.declared.StatementKind.{StatementKind}
use Rattle.script.specs.declared.StatementKind.TheVariants as kind
use Rattle.script.specs.Tree.{Declarators, Expr, OptionalExpr, Stmts, absent, init_declaration, no_init, no_stmts, stmt_then}
use Rattle.script.specs.Tree.{block, break, continue, declaration, do_while, empty, expression, for, if_then, return_of, switch, throw, while}
use Rattle.records.specs.declared.record.StmtRecord.{StmtRecord}
use Rattle.records.specs.Embedding.{stmts_row}
use Rattle.records.specs.Heap.{Heap, blank_stmt, stmt_at}
use Rattle.records.specs.Owned.{Short}
use Rattle.records.specs.Rows.{At}
use Rattle.rules.specs.For.{declaration_into_head, head_from, var_into_head}
use Rattle.rules.specs.Merging.{last_declaration?}
use Rattle.moves.specs.First.{stmt_kind}
use Rattle.heading.specs.Fronts.{head_with, is_expression_kind, is_var_kind}
use Rattle.heading.proofs.Told.{stmt_told}

-- whether the newest result is of such a kind
abbrev pub newest : (StatementKind → Bool) → Stmts → Bool
newest f no_stmts = false
newest f (stmt_then x r) = f (stmt_kind x)

pub newest_told : (f : StatementKind → Bool) → f kind.Empty ≡ false → (h : Heap) (i : ℕ) (r : Stmts) → Short h → At h (stmt_at i) (stmts_row r)
    → f (get_or h.stmts i blank_stmt).kind ≡ newest f r
newest_told f z h i no_stmts s a =
    let l : length h.stmts ≤ i = let u = s.stmts in omega arith in
    ap (λ (v : StmtRecord). f v.kind) (get_or_past h.stmts i blank_stmt l) ∙ z
newest_told f z h i (stmt_then x r) s a = ap f (stmt_told h i x (stmts_row r) a)

pub no_way : {A : Type 0} → false ≡ true → A
no_way e = absurd (subst T (sym e) tt)

-- an expression statement

pub expression_newest : (r : Stmts) → newest is_expression_kind r ≡ true → (a : Expr) × (r' : Stmts) × (r ≡ stmt_then (expression a) r')
expression_newest no_stmts n = no_way n
expression_newest (stmt_then empty r) n = no_way n
expression_newest (stmt_then (expression e) r) n = (e, r, refl)
expression_newest (stmt_then (declaration k ds) r) n = no_way n
expression_newest (stmt_then (return_of v) r) n = no_way n
expression_newest (stmt_then (throw e) r) n = no_way n
expression_newest (stmt_then (if_then t c a) r) n = no_way n
expression_newest (stmt_then (block ss) r) n = no_way n
expression_newest (stmt_then (while t b) r) n = no_way n
expression_newest (stmt_then (do_while b t) r) n = no_way n
expression_newest (stmt_then (for i t u b) r) n = no_way n
expression_newest (stmt_then (switch d cs) r) n = no_way n
expression_newest (stmt_then break r) n = no_way n
expression_newest (stmt_then continue r) n = no_way n

pub no_expression_newest : (v : OptionalExpr) (r : Stmts) → newest is_expression_kind r ≡ false
    → head_from true v r ≡ declaration_into_head v (last_declaration? r)
no_expression_newest v no_stmts n = refl
no_expression_newest v (stmt_then empty r) n = refl
no_expression_newest v (stmt_then (expression e) r) n = no_way (sym n)
no_expression_newest v (stmt_then (declaration k ds) r) n = refl
no_expression_newest v (stmt_then (return_of x) r) n = refl
no_expression_newest v (stmt_then (throw e) r) n = refl
no_expression_newest v (stmt_then (if_then t c a) r) n = refl
no_expression_newest v (stmt_then (block ss) r) n = refl
no_expression_newest v (stmt_then (while t b) r) n = refl
no_expression_newest v (stmt_then (do_while b t) r) n = refl
no_expression_newest v (stmt_then (for i t u b) r) n = refl
no_expression_newest v (stmt_then (switch d cs) r) n = refl
no_expression_newest v (stmt_then break r) n = refl
no_expression_newest v (stmt_then continue r) n = refl

-- a `var`

pub var_newest : (r : Stmts) → newest is_var_kind r ≡ true → (ds : Declarators) × (r' : Stmts) × (r ≡ stmt_then (declaration Var ds) r')
var_newest no_stmts n = no_way n
var_newest (stmt_then empty r) n = no_way n
var_newest (stmt_then (expression e) r) n = no_way n
var_newest (stmt_then (declaration Var ds) r) n = (ds, r, refl)
var_newest (stmt_then (declaration Let ds) r) n = no_way n
var_newest (stmt_then (declaration Const ds) r) n = no_way n
var_newest (stmt_then (return_of v) r) n = no_way n
var_newest (stmt_then (throw e) r) n = no_way n
var_newest (stmt_then (if_then t c a) r) n = no_way n
var_newest (stmt_then (block ss) r) n = no_way n
var_newest (stmt_then (while t b) r) n = no_way n
var_newest (stmt_then (do_while b t) r) n = no_way n
var_newest (stmt_then (for i t u b) r) n = no_way n
var_newest (stmt_then (switch d cs) r) n = no_way n
var_newest (stmt_then break r) n = no_way n
var_newest (stmt_then continue r) n = no_way n

pub no_var_newest : (r : Stmts) → newest is_var_kind r ≡ false → declaration_into_head absent (last_declaration? r) ≡ head_with no_init r
no_var_newest no_stmts n = refl
no_var_newest (stmt_then empty r) n = refl
no_var_newest (stmt_then (expression e) r) n = refl
no_var_newest (stmt_then (declaration Var ds) r) n = no_way (sym n)
no_var_newest (stmt_then (declaration Let ds) r) n = refl
no_var_newest (stmt_then (declaration Const ds) r) n = refl
no_var_newest (stmt_then (return_of v) r) n = refl
no_var_newest (stmt_then (throw e) r) n = refl
no_var_newest (stmt_then (if_then t c a) r) n = refl
no_var_newest (stmt_then (block ss) r) n = refl
no_var_newest (stmt_then (while t b) r) n = refl
no_var_newest (stmt_then (do_while b t) r) n = refl
no_var_newest (stmt_then (for i t u b) r) n = refl
no_var_newest (stmt_then (switch d cs) r) n = refl
no_var_newest (stmt_then break r) n = refl
no_var_newest (stmt_then continue r) n = refl

pub no_var_before : (names : Declarators) (r : Stmts) → newest is_var_kind r ≡ false
    → var_into_head names (last_declaration? r) ≡ head_with (init_declaration Var names) r
no_var_before names no_stmts n = refl
no_var_before names (stmt_then empty r) n = refl
no_var_before names (stmt_then (expression e) r) n = refl
no_var_before names (stmt_then (declaration Var ds) r) n = no_way (sym n)
no_var_before names (stmt_then (declaration Let ds) r) n = refl
no_var_before names (stmt_then (declaration Const ds) r) n = refl
no_var_before names (stmt_then (return_of v) r) n = refl
no_var_before names (stmt_then (throw e) r) n = refl
no_var_before names (stmt_then (if_then t c a) r) n = refl
no_var_before names (stmt_then (block ss) r) n = refl
no_var_before names (stmt_then (while t b) r) n = refl
no_var_before names (stmt_then (do_while b t) r) n = refl
no_var_before names (stmt_then (for i t u b) r) n = refl
no_var_before names (stmt_then (switch d cs) r) n = refl
no_var_before names (stmt_then break r) n = refl
no_var_before names (stmt_then continue r) n = refl
