-- What is owned after a declaration was put onto the results.
use Rattle.std.proofs.Common.{◌≡◌, ℕ, Bool, true, false, ◌&&◌, ◌≢◌, List, [], ◌∷◌, get_or, set, sym, refl, ap, ◌∙◌, subst, arith}
use Rattle.pool.specs.Chain.{nowhere}
use Rattle.script.specs.declared.DeclarationKind.{DeclarationKind}
use Rattle.script.specs.declared.StatementKind.{StatementKind}
use Rattle.script.specs.declared.StatementKind.TheVariants as statement
use Rattle.script.specs.Sound.{records_expr, records_optional}
use Rattle.script.specs.Tree.{Declarators, OptionalExpr, Stmts, absent, declarator_then, no_declarators, no_stmts, present, stmt_then}
use Rattle.script.specs.Tree.{block, break, continue, declaration, do_while, empty, expression, for, if_then, return_of, switch, throw, while}
use Rattle.records.specs.declared.record.DeclRecord.{DeclRecord}
use Rattle.records.specs.declared.record.ExprRecord.{ExprRecord}
use Rattle.records.specs.declared.record.Pools.{Pools}
use Rattle.records.specs.declared.record.StmtRecord.{StmtRecord}
use Rattle.records.specs.Embedding.{declarators_row, expr_row, optional_row, stmts_row}
use Rattle.records.specs.Heap.{Heap, Place, blank_decl, blank_stmt, decl_at, expr_at, stmt_at}
use Rattle.records.specs.Owned.{Owns, Root}
use Rattle.records.specs.Readable.{tables}
use Rattle.records.specs.Rows.{Row, end}
use Rattle.rules.specs.Declarations.{append_declarators, handle_variable_declaration, join_declarations, join_declarations_as}
use Rattle.rules.specs.Equal.{same_kind}
use Rattle.rules.specs.Merging.{LastDeclaration?, Worked, last_declaration, last_declaration?, merge_leading_assignments_to_declaration, no_last_declaration}
use Rattle.rules.specs.Returns.{value_or_void_0}
use Rattle.rules.proofs.BudgetMerging.{merge_leading_value}
use Rattle.moves.specs.Moved.{Moved, Turns}
use Rattle.records.proofs.Moves.{end_in, pick}
use Rattle.moves.proofs.Frames.{arrange, kept_both, kept_others, stays}
use Rattle.moves.proofs.Open.{close_decl, close_stmt, kind_of_stmt, name_of_decl, open_decl, open_stmt}
use Rattle.moves.proofs.Rows.{expr_within}
use Rattle.merging.specs.Declaring.{first_worked, joins}
use Rattle.merging.proofs.Results.{kind_of_newest, newest_kind}
use Rattle.merging.proofs.WorkedOn.{Works}

-- the first declarator's value

value_row : (v : OptionalExpr) → records_expr (value_or_void_0 v) ≡ records_optional v → optional_row v end ≡ expr_row (value_or_void_0 v) end
value_row absent e = absurd (omega arith)
value_row (present x) e = refl

pub no_value : {h : Heap} {p : Pools} {loose : List Place} {rest : List Root} {names results : ℕ} (ds : Declarators) (r : Stmts)
    → (get_or h.decls names blank_decl).value ≡ nowhere
    → Owns h p loose ((decl_at names, declarators_row ds) ∷ (stmt_at results, stmts_row r) ∷ rest)
    → Moved h h p loose ((decl_at names, declarators_row (first_worked ds r).declarators) ∷ (stmt_at results, stmts_row (first_worked ds r).results) ∷ rest)
no_value no_declarators r z o = stays o
no_value (declarator_then n absent ds) r z o = stays o
no_value {h} {names = names} (declarator_then n (present e) ds) r z o =
    let w = expr_within h (get_or h.decls names blank_decl).value e end o.held.0.2 in let s = o.short.exprs in absurd (omega arith)

pub value_merged : {exprs exprs₁ : List ExprRecord} {stmts : List StmtRecord} {decls decls₁ : List DeclRecord} {p p₁ : Pools}
    {loose : List Place} {rest : List Root} {names results target results₁ : ℕ} (ds : Declarators) (r : Stmts)
    → names ≢ nowhere → (get_or decls names blank_decl).value ≢ nowhere
    → Works (tables exprs stmts decls) p (tables exprs₁ stmts decls₁) p₁ (λ e₁ r₁. merge_leading_assignments_to_declaration false e₁ r₁)
    (get_or decls names blank_decl).value results target results₁
    → Owns (tables exprs stmts decls) p loose ((decl_at names, declarators_row ds) ∷ (stmt_at results, stmts_row r) ∷ rest)
    → Moved (tables exprs stmts decls)
    (tables exprs₁ stmts
    (set decls₁ names (record { name = (get_or decls names blank_decl).name; value = target; next = (get_or decls names blank_decl).next })))
    p₁ loose
    ((decl_at names, declarators_row (first_worked ds r).declarators) ∷ (stmt_at results₁, stmts_row (first_worked ds r).results) ∷ rest)
value_merged no_declarators r n m works o = absurd (n o.held.0)
value_merged (declarator_then x absent ds) r n m works o = absurd (m o.held.0.2)
value_merged {exprs} {exprs₁} {stmts} {decls} {decls₁} {p} {p₁} {loose} {rest} {names} {results} {target} {results₁}
    (declarator_then x (present e) ds) r n m works o =
    let w : Worked = merge_leading_assignments_to_declaration false e r in
    let q = works e r (decl_at names ∷ loose) ((decl_at (get_or decls names blank_decl).next, declarators_row ds) ∷ rest)
    (arrange (0 ∷ 1 ∷ []) (open_decl x (present e) ds o)) in
    let v = subst (λ (y : Row). Owns (tables exprs₁ stmts decls₁) p₁ (decl_at names ∷ loose)
    ((expr_at target, y) ∷ (stmt_at results₁, stmts_row w.results) ∷ (decl_at (get_or decls names blank_decl).next, declarators_row ds) ∷ rest))
    (value_row w.target (merge_leading_value e r)) q.owned in
    let c = close_decl x (present (value_or_void_0 w.target)) ds
    (record { name = (get_or decls names blank_decl).name; value = target; next = (get_or decls names blank_decl).next }) (name_of_decl x (present e) ds o)
    (arrange (0 ∷ 1 ∷ []) v) in
    record { owned = c.owned; kept = kept_both (kept_others q.kept) c.kept }

-- is the newest result a declaration that is joined
abbrev joins_last : Bool → DeclarationKind → {r : Stmts} → LastDeclaration? r → Bool
joins_last j k (last_declaration k₀ ds₀ r) = j && same_kind k₀ k
joins_last j k no_last_declaration = false

joins_newest : (j : Bool) (k : DeclarationKind) (r : Stmts) → joins j (newest_kind r) k ≡ joins_last j k (last_declaration? r)
joins_newest j k no_stmts = refl
joins_newest j k (stmt_then empty r) = refl
joins_newest j k (stmt_then (expression x) r) = refl
joins_newest j k (stmt_then (declaration k₀ ds₀) r) = refl
joins_newest j k (stmt_then (return_of v) r) = refl
joins_newest j k (stmt_then (throw x) r) = refl
joins_newest j k (stmt_then (if_then t c a) r) = refl
joins_newest j k (stmt_then (block ss) r) = refl
joins_newest j k (stmt_then (while t b) r) = refl
joins_newest j k (stmt_then (do_while b t) r) = refl
joins_newest j k (stmt_then (for i t u b) r) = refl
joins_newest j k (stmt_then (switch d cs) r) = refl
joins_newest j k (stmt_then break r) = refl
joins_newest j k (stmt_then continue r) = refl

alone : (j : Bool) (k : DeclarationKind) (ds : Declarators) {r : Stmts} (v : LastDeclaration? r) → joins_last j k v ≡ false
    → join_declarations j k ds v ≡ stmt_then (declaration k ds) r
alone false k ds v e = refl
alone true k ds (last_declaration k₀ ds₀ r) e = ap (λ (b : Bool). join_declarations_as b k₀ ds₀ k ds r) e
alone true k ds no_last_declaration e = refl

-- the newest result where they are joined, and what they are then
abbrev Joined : Bool → DeclarationKind → Declarators → {r : Stmts} → LastDeclaration? r → Type 0
Joined j k ds {r} v =
    (k₀ : DeclarationKind) × (ds₀ : Declarators) × (r' : Stmts) × (r ≡ stmt_then (declaration k₀ ds₀) r')
    × (join_declarations j k ds v ≡ stmt_then (declaration k₀ (append_declarators ds₀ ds)) r')

joined : (j : Bool) (k : DeclarationKind) (ds : Declarators) {r : Stmts} (v : LastDeclaration? r) → joins_last j k v ≡ true → Joined j k ds v
joined true k ds (last_declaration k₀ ds₀ r) e = (k₀, ds₀, r, refl, ap (λ (b : Bool). join_declarations_as b k₀ ds₀ k ds r) e)
joined false k ds (last_declaration k₀ ds₀ r) e = cc
joined j k ds no_last_declaration e = cc

-- the record of a declaration
abbrev pub declaration_record : DeclarationKind → ℕ → ℕ → StmtRecord
declaration_record k names next = record { kind = statement.Declaration k; exprs = nowhere; stmts = nowhere; decls = names; next = next }

-- a statement of its own
pub declared_alone : {h : Heap} {p : Pools} {loose : List Place} {rest : List Root} {at names results : ℕ}
    (j : Bool) (k : DeclarationKind) (ds : Declarators) (r : Stmts)
    → joins j (get_or h.stmts results blank_stmt).kind k ≡ false
    → Owns h p (stmt_at at ∷ loose) ((decl_at names, declarators_row ds) ∷ (stmt_at results, stmts_row r) ∷ rest)
    → Moved h (record { exprs = h.exprs; stmts = set h.stmts at (declaration_record k names results); decls = h.decls }) p loose
    ((stmt_at at, stmts_row (join_declarations j k ds (last_declaration? r))) ∷ rest)
declared_alone {h} {p} {loose} {rest} {at} {names} {results} j k ds r e o =
    let s = declaration_record k names results in
    let z = sym (joins_newest j k r) ∙ ap (λ (x : StatementKind). joins j x k) (sym (kind_of_newest r (pick 1 o))) ∙ e in
    subst (λ (v : Stmts). Moved h (record { exprs = h.exprs; stmts = set h.stmts at s; decls = h.decls }) p loose ((stmt_at at, stmts_row v) ∷ rest))
    (sym (alone j k ds (last_declaration? r) z))
    (close_stmt (declaration k ds) (stmts_row r) s refl (end_in (expr_at nowhere) refl (end_in (stmt_at nowhere) refl o)))

-- the newest result with another row of declarators
abbrev pub extended : StmtRecord → ℕ → StmtRecord
extended s row = record { kind = s.kind; exprs = s.exprs; stmts = s.stmts; decls = row; next = s.next }

-- behind those of the newest result; the statement's record was given back
pub declared_joined : {es : List ExprRecord} {stmts stmts₁ : List StmtRecord} {decls decls₁ : List DeclRecord} {p p₁ : Pools}
    {loose : List Place} {rest : List Root} {at names results row : ℕ} (j : Bool) (k : DeclarationKind) (ds : Declarators) (r : Stmts)
    → joins j (get_or stmts results blank_stmt).kind k ≡ true
    → ((xs ys : Declarators)
    → Turns (tables es stmts decls) p (tables es stmts decls₁) p []
    ((decl_at (get_or stmts results blank_stmt).decls, declarators_row xs) ∷ (decl_at names, declarators_row ys) ∷ [])
    ((decl_at row, declarators_row (append_declarators xs ys)) ∷ []))
    → ((roots : List Root) → Owns (tables es (set stmts results (extended (get_or stmts results blank_stmt) row)) decls₁) p (stmt_at at ∷ loose) roots
    → Moved (tables es (set stmts results (extended (get_or stmts results blank_stmt) row)) decls₁) (tables es stmts₁ decls₁) p₁ loose roots)
    → Owns (tables es stmts decls) p (stmt_at at ∷ loose) ((decl_at names, declarators_row ds) ∷ (stmt_at results, stmts_row r) ∷ rest)
    → Moved (tables es stmts decls) (tables es stmts₁ decls₁) p₁ loose ((stmt_at results, stmts_row (join_declarations j k ds (last_declaration? r))) ∷ rest)
declared_joined {es} {stmts} {stmts₁} {decls} {decls₁} {p} {p₁} {loose} {rest} {at} {names} {results} {row} j k ds r e appends gives o =
    let q = joined j k ds (last_declaration? r)
    (sym (joins_newest j k r) ∙ ap (λ (x : StatementKind). joins j x k) (sym (kind_of_newest r (pick 1 o))) ∙ e) in
    subst (λ (v : Stmts). Moved (tables es stmts decls) (tables es stmts₁ decls₁) p₁ loose ((stmt_at results, stmts_row v) ∷ rest)) (sym q.4)
    (by q.0 q.1 q.2
    (subst (λ (v : Stmts). Owns (tables es stmts decls) p (stmt_at at ∷ loose)
    ((decl_at names, declarators_row ds) ∷ (stmt_at results, stmts_row v) ∷ rest)) q.3 o))
  where
    s : StmtRecord
    s = get_or stmts results blank_stmt

    by : (k₀ : DeclarationKind) (ds₀ : Declarators) (r' : Stmts)
        → Owns (tables es stmts decls) p (stmt_at at ∷ loose)
        ((decl_at names, declarators_row ds) ∷ (stmt_at results, stmts_row (stmt_then (declaration k₀ ds₀) r')) ∷ rest)
        → Moved (tables es stmts decls) (tables es stmts₁ decls₁) p₁ loose
        ((stmt_at results, stmts_row (stmt_then (declaration k₀ (append_declarators ds₀ ds)) r')) ∷ rest)
    by k₀ ds₀ r' o₀ =
        let a = appends ds₀ ds (stmt_at results ∷ stmt_at at ∷ loose)
        ((expr_at s.exprs, end) ∷ (stmt_at s.stmts, end) ∷ (stmt_at s.next, stmts_row r') ∷ rest)
        (arrange (2 ∷ 3 ∷ []) (open_stmt (declaration k₀ ds₀) (stmts_row r') (pick 1 o₀))) in
        let c = close_stmt (declaration k₀ (append_declarators ds₀ ds)) (stmts_row r') (extended s row)
        (kind_of_stmt (declaration k₀ ds₀) (stmts_row r') (pick 1 o₀)) (arrange (1 ∷ 1 ∷ []) a.owned) in
        let g = gives _ c.owned in
        record { owned = g.owned; kept = kept_both (kept_others (kept_both (kept_others a.kept) c.kept)) g.kept }

-- both parts are the rule
pub in_parts : (j : Bool) (k : DeclarationKind) (ds : Declarators) (r : Stmts)
    → join_declarations j k (first_worked ds r).declarators (last_declaration? (first_worked ds r).results) ≡ handle_variable_declaration j k ds r
in_parts j k no_declarators r = refl
in_parts j k (declarator_then n absent ds) r = refl
in_parts j k (declarator_then n (present e) ds) r = refl

pub handled_declaration : {h h₁ h₂ : Heap} {p₁ p₂ : Pools} {loose : List Place} {rest : List Root} {at names before answer : ℕ}
    (j : Bool) (k : DeclarationKind) (ds : Declarators) (r : Stmts)
    → Moved h h₁ p₁ (stmt_at at ∷ loose)
    ((decl_at names, declarators_row (first_worked ds r).declarators) ∷ (stmt_at before, stmts_row (first_worked ds r).results) ∷ rest)
    → ((es : Declarators) (r₁ : Stmts)
    → Turns h₁ p₁ h₂ p₂ (stmt_at at ∷ []) ((decl_at names, declarators_row es) ∷ (stmt_at before, stmts_row r₁) ∷ [])
    ((stmt_at answer, stmts_row (join_declarations j k es (last_declaration? r₁))) ∷ []))
    → Moved h h₂ p₂ loose ((stmt_at answer, stmts_row (handle_variable_declaration j k ds r)) ∷ rest)
handled_declaration {h} {h₁} {h₂} {p₁} {p₂} {loose} {rest} {at} {names} {before} {answer} j k ds r m joins' =
    let q = joins' (first_worked ds r).declarators (first_worked ds r).results loose rest m.owned in
    subst (λ (v : Stmts). Moved h h₂ p₂ loose ((stmt_at answer, stmts_row v) ∷ rest)) (in_parts j k ds r)
    (record { owned = q.owned; kept = kept_both (kept_others m.kept) q.kept })
