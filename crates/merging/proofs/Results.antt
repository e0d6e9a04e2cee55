-- What the record of the newest result tells of it.
use Rattle.std.proofs.Common.{◌≡◌, ℕ, true, List, ◌∷◌, get_or, refl, ap, arith}
use Rattle.std.proofs.lemmas.List.{get_or_past}
use Rattle.script.specs.declared.DeclarationKind.{DeclarationKind}
use Rattle.script.specs.declared.StatementKind.{StatementKind}
use Rattle.script.specs.declared.StatementKind.TheVariants as statement
use Rattle.script.specs.Tree.{Declarators, Expr, Stmts, no_stmts, stmt_then}
use Rattle.script.specs.Tree.{block, break, continue, declaration, do_while, empty, expression, for, if_then, return_of, switch, throw, while}
use Rattle.records.specs.declared.record.Pools.{Pools}
use Rattle.records.specs.declared.record.StmtRecord.{StmtRecord}
use Rattle.records.specs.Embedding.{stmts_row}
use Rattle.records.specs.Heap.{Heap, Place, blank_stmt, stmt_at}
use Rattle.records.specs.Owned.{Owns, Root}
use Rattle.rules.specs.Merging.{last_declaration?, last_expression?, no_last_declaration, no_last_expression}
use Rattle.moves.specs.First.{stmt_kind}
use Rattle.moves.proofs.ByKind.{stmt_of_kind}
use Rattle.moves.proofs.Open.{kind_of_stmt}

-- what is read where there is none is no expression and no declaration
abbrev pub newest_kind : Stmts → StatementKind
newest_kind no_stmts = statement.Empty
newest_kind (stmt_then x r) = stmt_kind x

pub kind_of_newest : {h : Heap} {p : Pools} {loose : List Place} {rest : List Root} {i : ℕ} (r : Stmts)
    → Owns h p loose ((stmt_at i, stmts_row r) ∷ rest) → (get_or h.stmts i blank_stmt).kind ≡ newest_kind r
kind_of_newest {h} {i = i} no_stmts o =
    ap (λ (x : StmtRecord). x.kind) (get_or_past h.stmts i blank_stmt (let s = o.short.stmts in let e = o.held.0 in omega arith))
kind_of_newest (stmt_then x r) o = kind_of_stmt x (stmts_row r) o

-- expressions

pub expression_newest : (r : Stmts) → statement.Expression ≡ newest_kind r → (e : Expr) × (r' : Stmts) × (r ≡ stmt_then (expression e) r')
expression_newest no_stmts k = cc
expression_newest (stmt_then x r) k = let q = stmt_of_kind x k in (q.0, r, ap (λ v. stmt_then v r) q.1)

pub no_expression_newest : (r : Stmts) → (newest_kind r ≡ statement.Expression → ⊥) → last_expression? true r ≡ no_last_expression
no_expression_newest no_stmts n = refl
no_expression_newest (stmt_then empty r) n = refl
no_expression_newest (stmt_then (expression e) r) n = absurd (n refl)
no_expression_newest (stmt_then (declaration k ds) r) n = refl
no_expression_newest (stmt_then (return_of v) r) n = refl
no_expression_newest (stmt_then (throw e) r) n = refl
no_expression_newest (stmt_then (if_then t c a) r) n = refl
no_expression_newest (stmt_then (block ss) r) n = refl
no_expression_newest (stmt_then (while t b) r) n = refl
no_expression_newest (stmt_then (do_while b t) r) n = refl
no_expression_newest (stmt_then (for i t u b) r) n = refl
no_expression_newest (stmt_then (switch d cs) r) n = refl
no_expression_newest (stmt_then break r) n = refl
no_expression_newest (stmt_then continue r) n = refl

-- declarations

pub declaration_newest : (r : Stmts) (k : DeclarationKind) → statement.Declaration k ≡ newest_kind r
    → (ds : Declarators) × (r' : Stmts) × (r ≡ stmt_then (declaration k ds) r')
declaration_newest no_stmts k e = cc
declaration_newest (stmt_then x r) k e = let q = stmt_of_kind x e in (q.0, r, ap (λ v. stmt_then v r) q.1)

pub no_declaration_newest : (r : Stmts) → ((k : DeclarationKind) → newest_kind r ≡ statement.Declaration k → ⊥)
    → last_declaration? r ≡ no_last_declaration
no_declaration_newest no_stmts n = refl
no_declaration_newest (stmt_then empty r) n = refl
no_declaration_newest (stmt_then (expression e) r) n = refl
no_declaration_newest (stmt_then (declaration k ds) r) n = absurd (n k refl)
no_declaration_newest (stmt_then (return_of v) r) n = refl
no_declaration_newest (stmt_then (throw e) r) n = refl
no_declaration_newest (stmt_then (if_then t c a) r) n = refl
no_declaration_newest (stmt_then (block ss) r) n = refl
no_declaration_newest (stmt_then (while t b) r) n = refl
no_declaration_newest (stmt_then (do_while b t) r) n = refl
no_declaration_newest (stmt_then (for i t u b) r) n = refl
no_declaration_newest (stmt_then (switch d cs) r) n = refl
no_declaration_newest (stmt_then break r) n = refl
no_declaration_newest (stmt_then continue r) n = refl
