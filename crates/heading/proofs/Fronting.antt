-- What is owned after the head of a `for` was worked.
use Rattle.std.proofs.Common.{◌≡◌, ℕ, ◌+◌, ◌≤◌, Bool, true, false, ◌&&◌, ◌≢◌, List, [], ◌∷◌, get_or, set, sym, refl, ap, ◌∙◌, subst, arith}
use Rattle.pool.specs.Chain.{nowhere}
use Rattle.script.specs.declared.DeclarationKind.{DeclarationKind}
use Rattle.script.specs.declared.DeclarationKind.TheVariants.{Const, Let, Var}
use Rattle.script.specs.declared.ForHead.{ForHead}
use Rattle.script.specs.declared.ForInit.{ForInit}
use Rattle.script.specs.declared.ForInit.TheVariants as init
use Rattle.script.specs.declared.StatementKind.TheVariants as kind
use Rattle.script.specs.Tree.{Declarators, Expr, Init, OptionalExpr, Stmt, Stmts, absent, declaration, expression, for, init_declaration}
use Rattle.script.specs.Tree.{init_expression, no_init, present, stmt_then}
use Rattle.records.specs.declared.record.DeclRecord.{DeclRecord}
use Rattle.records.specs.declared.record.ExprRecord.{ExprRecord}
use Rattle.records.specs.declared.record.Pools.{Pools}
use Rattle.records.specs.declared.record.StmtRecord.{StmtRecord}
use Rattle.records.specs.Embedding.{declarators_row, expr_row, for_head as head_of, init_exprs, init_kind, init_stmts, is_present, optional_row}
use Rattle.records.specs.Embedding.{stmt_row, stmts_row}
use Rattle.records.specs.Heap.{Heap, Place, blank_stmt, decl_at, expr_at, stmt_at}
use Rattle.records.specs.Owned.{Owns, Root}
use Rattle.records.specs.Readable.{tables}
use Rattle.records.specs.Rows.{Row, end}
use Rattle.records.proofs.Moves.{end_in, end_out, pick}
use Rattle.records.proofs.Tallies.{Equals, lengths}
use Rattle.rules.specs.Declarations.{append_declarators}
use Rattle.rules.specs.For.{WorkedHead, declaration_into_head, for_head, head_from, head_from_declaration, init_from, join_init_expression, var_into_head}
use Rattle.rules.specs.Budget.{weight_stmts}
use Rattle.rules.specs.Merging.{last_declaration?, merge_leading_assignments_to_declaration}
use Rattle.rules.proofs.BudgetMerging.{merge_leading_budget}
use Rattle.moves.specs.Moved.{Moved, Turns}
use Rattle.moves.proofs.Frames.{arrange, regroup, stays, then_move, then_use}
use Rattle.moves.proofs.Open.{close_stmt, kind_of_stmt, open_stmt}
use Rattle.heading.specs.declared.heads.Front.{Front}
use Rattle.heading.specs.Fronts.{HasHead, head_with, is_expression_kind, is_var, is_var_kind, joined_init, worked_head}
use Rattle.heading.proofs.Discriminant.{worked_spares}
use Rattle.heading.proofs.Newest.{expression_newest, newest, newest_told, no_expression_newest, no_var_before, no_var_newest, no_way, var_newest}
use Rattle.heading.proofs.Told.{expr_somewhere}

abbrev pub front : ForInit → ℕ → ℕ → ℕ → Front
front i values inner results = record { init = i; values = values; inner = inner; results = results }

-- the same head told in another way
pub as_head : {h h' : Heap} {p' : Pools} {loose : List Place} {rest : List Root} {f : Front} {a b : WorkedHead} {w y : Row} → a ≡ b
    → HasHead h h' p' loose rest f b w y → HasHead h h' p' loose rest f a w y
as_head {h} {h'} {p'} {loose} {rest} {f} {a} {b} {w} {y} e m = subst (λ (v : WorkedHead). HasHead h h' p' loose rest f v w y) (sym e) m

module _ {h : Heap} {p : Pools} {loose : List Place} {rest : List Root} {values inner results : ℕ} where
  -- no init
  pub none_put : {i : ℕ} (v : OptionalExpr) (w y : Row) (r : Stmts) → i ≡ nowhere
      → Owns h p loose ((expr_at i, optional_row v end) ∷ (expr_at values, w) ∷ (stmt_at inner, y) ∷ (stmt_at results, stmts_row r) ∷ rest)
      → HasHead h h p loose rest (front init.Absent values inner results) (head_with (init_from v) r) w y
  none_put absent w y r z o = record { init = refl; moved = stays (end_out o) }
  none_put {i} (present e) w y r z o = absurd (expr_somewhere h i e end o.short o.held.0 z)

  -- an expression as the init
  pub some_put : {h' : Heap} {i : ℕ} (v : OptionalExpr) (w y : Row) (r : Stmts) → i ≢ nowhere
      → ((e : Expr) → Turns h p h' p [] ((expr_at i, expr_row e end) ∷ (expr_at values, w) ∷ []) ((expr_at i, expr_row e w) ∷ []))
      → Owns h p loose ((expr_at i, optional_row v end) ∷ (expr_at values, w) ∷ (stmt_at inner, y) ∷ (stmt_at results, stmts_row r) ∷ rest)
      → HasHead h h' p loose rest (front init.Expression i inner results) (head_with (init_from v) r) w y
  some_put absent w y r ne f o = absurd (ne o.held.0)
  some_put (present e) w y r ne f o = record { init = refl; moved = f e loose ((stmt_at inner, y) ∷ (stmt_at results, stmts_row r) ∷ rest) o }

  -- the newest result is no `var`
  pub no_var_taken : (w y : Row) (r : Stmts) → is_var_kind (get_or h.stmts results blank_stmt).kind ≡ false
      → Owns h p loose ((expr_at values, w) ∷ (stmt_at inner, y) ∷ (stmt_at results, stmts_row r) ∷ rest)
      → HasHead h h p loose rest (front init.Absent values inner results) (declaration_into_head absent (last_declaration? r)) w y
  no_var_taken w y r n o =
      as_head (no_var_newest r (sym (newest_told is_var_kind refl h results r o.short o.held.1.1.0) ∙ n)) (record { init = refl; moved = stays o })

-- it is one, and its record goes before the body
pub var_taken : {es : List ExprRecord} {stmts stmts' : List StmtRecord} {ds : List DeclRecord} {p : Pools} {loose : List Place} {rest : List Root}
    {values inner results behind : ℕ}
    (w y : Row) (r : Stmts) → is_var_kind (get_or stmts results blank_stmt).kind ≡ true
    → ((x : Stmt) (u v : Row)
    → Turns (tables es stmts ds) p (tables es stmts' ds) p
    [] ((stmt_at results, stmt_row x u) ∷ (stmt_at inner, v) ∷ []) ((stmt_at behind, u) ∷ (stmt_at results, stmt_row x v) ∷ []))
    → Owns (tables es stmts ds) p loose ((expr_at values, w) ∷ (stmt_at inner, y) ∷ (stmt_at results, stmts_row r) ∷ rest)
    → HasHead (tables es stmts ds) (tables es stmts' ds) p loose rest
    (front init.Declaration values results behind) (declaration_into_head absent (last_declaration? r)) w y
var_taken {es} {stmts} {ds = ds} {p} {loose} {rest} {values} {inner} {results} w y r n moves o =
    let q = var_newest r (sym (newest_told is_var_kind refl (tables es stmts ds) results r o.short o.held.1.1.0) ∙ n) in
    let names = q.0 in
    let r' = q.1 in
    as_head (ap (λ (v : Stmts). declaration_into_head absent (last_declaration? v)) q.2)
    (record {
      init = refl;
      moved = regroup
          (moves (declaration Var names) (stmts_row r') y loose ((expr_at values, w) ∷ rest)
          (arrange (2 ∷ 1 ∷ [])
          (subst (λ (v : Stmts). Owns (tables es stmts ds) p loose ((expr_at values, w) ∷ (stmt_at inner, y) ∷ (stmt_at results, stmts_row v) ∷ rest)) q.2 o)))
          (λ o₁. arrange (2 ∷ 1 ∷ []) o₁);
    })

-- an expression alone, or before the init
module _ {h : Heap} {p : Pools} {loose : List Place} {rest : List Root} {a i : ℕ} where
  pub joined_some : {h' : Heap} {p' : Pools} {b : ℕ} (x : Expr) (v : OptionalExpr) → i ≢ nowhere
      → ((e : Expr) → Turns h p h' p' [] ((expr_at a, expr_row x end) ∷ (expr_at i, expr_row e end) ∷ [])
      ((expr_at b, expr_row (joined_init x (present e)) end) ∷ []))
      → Owns h p loose ((expr_at a, expr_row x end) ∷ (expr_at i, optional_row v end) ∷ rest)
      → Moved h h' p' loose ((expr_at b, expr_row (joined_init x v) end) ∷ rest)
  joined_some x absent ne f o = absurd (ne o.held.1.0)
  joined_some x (present e) ne f o = f e loose rest o

-- the parts of an expression statement among the results, whose record is loose then
pub expression_opened : {h : Heap} {p : Pools} {loose : List Place} {rest : List Root} {i values inner results : ℕ} (v : OptionalExpr) (w y : Row)
    (a : Expr) (r : Stmts)
    → Owns h p loose ((expr_at i, optional_row v end) ∷ (expr_at values, w) ∷ (stmt_at inner, y)
    ∷ (stmt_at results, stmts_row (stmt_then (expression a) r)) ∷ rest)
    → Owns h p (stmt_at results ∷ loose)
    ((expr_at (get_or h.stmts results blank_stmt).exprs, expr_row a end) ∷ (expr_at i, optional_row v end)
    ∷ (stmt_at (get_or h.stmts results blank_stmt).next, stmts_row r) ∷ (expr_at values, w) ∷ (stmt_at inner, y) ∷ rest)
expression_opened v w y a r o =
    arrange (0 ∷ 1 ∷ []) (end_out (pick 1 (end_out (pick 1 (open_stmt (expression a) (stmts_row r) (pick 3 o))))))

-- which head it is

pub sequences_off : (q : Bool) (v : OptionalExpr) (r : Stmts) → q ≡ false → head_from q v r ≡ head_with (init_from v) r
sequences_off q v r e = rw e refl

joined_init_there : (a : Expr) (v : OptionalExpr) → init_from (join_init_expression a v) ≡ init_expression (joined_init a v)
joined_init_there a absent = refl
joined_init_there a (present e) = refl

pub expression_goes : (q : Bool) (v : OptionalExpr) (a : Expr) (r : Stmts) → q ≡ true
    → head_from q v (stmt_then (expression a) r) ≡ head_with (init_expression (joined_init a v)) r
expression_goes q v a r e = rw e (ap (λ (i : Init). head_with i r) (joined_init_there a v))

-- no expression statement is the newest result
no_expression_there : {h : Heap} {p : Pools} {loose : List Place} {rest : List Root} {i values inner results : ℕ} (q : Bool) (v : OptionalExpr) (w y : Row)
    (r : Stmts)
    → q ≡ true
    → is_expression_kind (get_or h.stmts results blank_stmt).kind ≡ false
    → Owns h p loose ((expr_at i, optional_row v end) ∷ (expr_at values, w) ∷ (stmt_at inner, y) ∷ (stmt_at results, stmts_row r) ∷ rest)
    → head_from q v r ≡ declaration_into_head v (last_declaration? r)
no_expression_there {h} {results = results} q v w y r e n o =
    ap (λ (b : Bool). head_from b v r) e
    ∙ no_expression_newest v r (sym (newest_told is_expression_kind refl h results r o.short o.held.1.1.1.0) ∙ n)

module _ {h h' : Heap} {p p' : Pools} {loose : List Place} {rest : List Root} {i values inner results : ℕ} {f : Front} where
  -- the newest result is an expression statement
  pub head_by_expression : (q : Bool) (v : OptionalExpr) (w y : Row) (r : Stmts) → q ≡ true
      → is_expression_kind (get_or h.stmts results blank_stmt).kind ≡ true
      → ((a : Expr) (r' : Stmts)
      → Owns h p loose
      ((expr_at i, optional_row v end) ∷ (expr_at values, w) ∷ (stmt_at inner, y) ∷ (stmt_at results, stmts_row (stmt_then (expression a) r')) ∷ rest)
      → HasHead h h' p' loose rest f (head_with (init_expression (joined_init a v)) r') w y)
      → Owns h p loose ((expr_at i, optional_row v end) ∷ (expr_at values, w) ∷ (stmt_at inner, y) ∷ (stmt_at results, stmts_row r) ∷ rest)
      → HasHead h h' p' loose rest f (head_from q v r) w y
  head_by_expression q v w y r e n g o =
      let x = expression_newest r (sym (newest_told is_expression_kind refl h results r o.short o.held.1.1.1.0) ∙ n) in
      as_head (ap (λ (s : Stmts). head_from q v s) x.2 ∙ expression_goes q v x.0 x.1 e)
      (g x.0 x.1
      (subst (λ (s : Stmts). Owns h p loose ((expr_at i, optional_row v end) ∷ (expr_at values, w) ∷ (stmt_at inner, y)
      ∷ (stmt_at results, stmts_row s) ∷ rest)) x.2 o))

  -- it is none, and there is no init
  pub head_by_declaration : (q : Bool) (v : OptionalExpr) (w y : Row) (r : Stmts) → q ≡ true
      → is_expression_kind (get_or h.stmts results blank_stmt).kind ≡ false → i ≡ nowhere
      → (Owns h p loose ((expr_at values, w) ∷ (stmt_at inner, y) ∷ (stmt_at results, stmts_row r) ∷ rest)
      → HasHead h h' p' loose rest f (declaration_into_head absent (last_declaration? r)) w y)
      → Owns h p loose ((expr_at i, optional_row v end) ∷ (expr_at values, w) ∷ (stmt_at inner, y) ∷ (stmt_at results, stmts_row r) ∷ rest)
      → HasHead h h' p' loose rest f (head_from q v r) w y
  head_by_declaration q absent w y r e n z g o = as_head (no_expression_there q absent w y r e n o) (g (end_out o))
  head_by_declaration q (present x) w y r e n z g o = absurd (expr_somewhere h i x end o.short o.held.0 z)

  -- it is none, and there is an init
  pub head_by_init : (q : Bool) (v : OptionalExpr) (w y : Row) (r : Stmts) → q ≡ true
      → is_expression_kind (get_or h.stmts results blank_stmt).kind ≡ false → i ≢ nowhere
      → (Owns h p loose ((expr_at i, optional_row v end) ∷ (expr_at values, w) ∷ (stmt_at inner, y) ∷ (stmt_at results, stmts_row r) ∷ rest)
      → HasHead h h' p' loose rest f (head_with (init_from v) r) w y)
      → Owns h p loose ((expr_at i, optional_row v end) ∷ (expr_at values, w) ∷ (stmt_at inner, y) ∷ (stmt_at results, stmts_row r) ∷ rest)
      → HasHead h h' p' loose rest f (head_from q v r) w y
  head_by_init q absent w y r e n ne g o = absurd (ne o.held.0)
  head_by_init q (present x) w y r e n ne g o = as_head (no_expression_there q (present x) w y r e n o) (g o)

-- the leading assignments of an init go into the declaration before it, and what is left is worked with the results
pub leading_done : {h h₁ h₂ h₃ : Heap} {p p₂ p₃ : Pools} {loose : List Place} {rest : List Root} {values inner results behind target₂ results₂ : ℕ} {f : Front}
    (q : Bool) (e : Expr) (w y : Row) (r : Stmts) → 1 + (weight_stmts r).exprs ≤ p.exprs.count → Equals (lengths h₁) (lengths h₂)
    → Turns h p h₁ p [] ((expr_at values, expr_row e w) ∷ []) ((expr_at values, expr_row e end) ∷ (expr_at behind, w) ∷ [])
    → Turns h₁ p h₂ p₂ [] ((expr_at values, expr_row e end) ∷ (stmt_at results, stmts_row r) ∷ [])
    ((expr_at target₂, optional_row (merge_leading_assignments_to_declaration true e r).target end)
    ∷ (stmt_at results₂, stmts_row (merge_leading_assignments_to_declaration true e r).results) ∷ [])
    → (1 ≤ p₂.exprs.count
    → Owns h₂ p₂ loose
    ((expr_at target₂, optional_row (merge_leading_assignments_to_declaration true e r).target end) ∷ (expr_at behind, w) ∷ (stmt_at inner, y)
    ∷ (stmt_at results₂, stmts_row (merge_leading_assignments_to_declaration true e r).results) ∷ rest)
    → HasHead h₂ h₃ p₃ loose rest f (worked_head q e r) w y)
    → Owns h p loose ((expr_at values, expr_row e w) ∷ (stmt_at inner, y) ∷ (stmt_at results, stmts_row r) ∷ rest)
    → HasHead h h₃ p₃ loose rest f (worked_head q e r) w y
leading_done {h} {h₁} {h₂} {h₃} {p} {p₂} {p₃} {loose} {rest} {values} {inner} {results} {behind} {target₂} {results₂} {f} q e w y r n l cuts leads heads o =
    record {
      init = x.init;
      moved = then_move (then_move m₁ (λ k. leads loose ((expr_at behind, w) ∷ (stmt_at inner, y) ∷ rest) (arrange (0 ∷ 2 ∷ []) k)))
          (λ k. x.moved);
    }
  where
    m₁ : Moved h h₁ p loose ((expr_at values, expr_row e end) ∷ (expr_at behind, w) ∷ (stmt_at inner, y) ∷ (stmt_at results, stmts_row r) ∷ rest)
    m₁ = cuts loose ((stmt_at inner, y) ∷ (stmt_at results, stmts_row r) ∷ rest) o

    o₁ : Owns h₁ p loose ((expr_at values, expr_row e end) ∷ (stmt_at results, stmts_row r) ∷ (expr_at behind, w) ∷ (stmt_at inner, y) ∷ rest)
    o₁ = arrange (0 ∷ 2 ∷ []) m₁.owned

    o₂ : Owns h₂ p₂ loose
        ((expr_at target₂, optional_row (merge_leading_assignments_to_declaration true e r).target end)
        ∷ (stmt_at results₂, stmts_row (merge_leading_assignments_to_declaration true e r).results) ∷ (expr_at behind, w) ∷ (stmt_at inner, y) ∷ rest)
    o₂ = (leads loose ((expr_at behind, w) ∷ (stmt_at inner, y) ∷ rest) o₁).owned

    x : HasHead h₂ h₃ p₃ loose rest f (worked_head q e r) w y
    x =
        let s = worked_spares loose ((expr_at behind, w) ∷ (stmt_at inner, y) ∷ rest) e r (merge_leading_assignments_to_declaration true e r) l
        (merge_leading_budget true e r) o₁ o₂ in
        let s₁ = s.exprs in
        heads (omega arith) (arrange (0 ∷ 1 ∷ 1 ∷ []) o₂)

-- two declarations opened, the one among the results and the one in the head
pub vars_opened : {h : Heap} {p : Pools} {loose : List Place} {rest : List Root} {inner results : ℕ} (k : DeclarationKind) (xs ys : Declarators) (y z : Row)
    (own last : StmtRecord) → own ≡ get_or h.stmts inner blank_stmt → last ≡ get_or h.stmts results blank_stmt
    → Owns h p loose ((stmt_at inner, stmt_row (declaration k ys) y) ∷ (stmt_at results, stmt_row (declaration k xs) z) ∷ rest)
    → Owns h p (stmt_at inner ∷ stmt_at results ∷ loose)
    ((decl_at last.decls, declarators_row xs) ∷ (decl_at own.decls, declarators_row ys) ∷ (expr_at own.exprs, end) ∷ (stmt_at own.stmts, end)
    ∷ (stmt_at own.next, y) ∷ (stmt_at last.next, z) ∷ rest)
vars_opened k xs ys y z own last e₁ e₂ o =
    rw (e₁, e₂)
    (arrange (4 ∷ 2 ∷ []) (open_stmt (declaration k ys) y (pick 2 (end_out (end_out (open_stmt (declaration k xs) z (pick 1 o)))))))

-- the one in the head with other names
abbrev pub renamed : StmtRecord → ℕ → StmtRecord
renamed x names = record { kind = x.kind; exprs = x.exprs; stmts = x.stmts; decls = names; next = x.next }

pub var_closed : {es : List ExprRecord} {stmts stmts₁ : List StmtRecord} {ds : List DeclRecord} {p : Pools} {loose : List Place} {rest : List Root}
    {inner names : ℕ}
    (k : DeclarationKind) (xs : Declarators) (y : Row) (own : StmtRecord) → own.kind ≡ kind.Declaration k → stmts₁ ≡ set stmts inner (renamed own names)
    → Owns (tables es stmts ds) p (stmt_at inner ∷ loose)
    ((decl_at names, declarators_row xs) ∷ (expr_at own.exprs, end) ∷ (stmt_at own.stmts, end) ∷ (stmt_at own.next, y) ∷ rest)
    → Moved (tables es stmts ds) (tables es stmts₁ ds) p loose ((stmt_at inner, stmt_row (declaration k xs) y) ∷ rest)
var_closed {names = names} k xs y own e z o =
    rw z (close_stmt (declaration k xs) y (renamed own names) e (arrange (1 ∷ 1 ∷ 0 ∷ []) o))

-- a declaration as the init

declaration_stays : (q : Bool) (k : DeclarationKind) (xs : Declarators) (r : Stmts) → (q && (is_var k && newest is_var_kind r)) ≡ false
    → head_from_declaration q k xs r ≡ head_with (init_declaration k xs) r
declaration_stays true Var xs r n = no_var_before xs r n
declaration_stays true Let xs r n = refl
declaration_stays true Const xs r n = refl
declaration_stays false k xs r n = refl

-- the two tests by their records
vars_told : {h : Heap} {p : Pools} {loose : List Place} {rest : List Root} {values inner results : ℕ} (q b : Bool) (k : DeclarationKind) (xs : Declarators)
    (w y : Row) (r : Stmts)
    → b ≡ (q && (is_var_kind (get_or h.stmts inner blank_stmt).kind && is_var_kind (get_or h.stmts results blank_stmt).kind))
    → Owns h p loose ((expr_at values, w) ∷ (stmt_at inner, stmt_row (declaration k xs) y) ∷ (stmt_at results, stmts_row r) ∷ rest)
    → b ≡ (q && (is_var k && newest is_var_kind r))
vars_told {h} {inner = inner} {results = results} q b k xs w y r e o =
    e
    ∙ ap (λ (v : Bool). q && (v && is_var_kind (get_or h.stmts results blank_stmt).kind))
    (ap is_var_kind (kind_of_stmt (declaration k xs) y (pick 1 o)))
    ∙ ap (λ (v : Bool). q && (is_var k && v)) (newest_told is_var_kind refl h results r o.short o.held.1.1.0)

pub declaration_put : {h : Heap} {p : Pools} {loose : List Place} {rest : List Root} {values inner results : ℕ} (q b : Bool) (k : DeclarationKind)
    (xs : Declarators) (w y : Row) (r : Stmts)
    → b ≡ (q && (is_var_kind (get_or h.stmts inner blank_stmt).kind && is_var_kind (get_or h.stmts results blank_stmt).kind)) → b ≡ false
    → Owns h p loose ((expr_at values, w) ∷ (stmt_at inner, stmt_row (declaration k xs) y) ∷ (stmt_at results, stmts_row r) ∷ rest)
    → HasHead h h p loose rest (front init.Declaration values inner results) (head_from_declaration q k xs r) w y
declaration_put q b k xs w y r e n o =
    as_head (declaration_stays q k xs r (sym (vars_told q b k xs w y r e o) ∙ n)) (record { init = refl; moved = stays o })

module _ {h h' : Heap} {p p' : Pools} {loose : List Place} {rest : List Root} {values inner results behind : ℕ} where
  vars_go : (q : Bool) (k : DeclarationKind) (xs : Declarators) (w y : Row) (r : Stmts) → (q && (is_var k && newest is_var_kind r)) ≡ true
      → ((zs : Declarators) (z : Row) → Turns h p h' p' []
      ((stmt_at inner, stmt_row (declaration k xs) y) ∷ (stmt_at results, stmt_row (declaration k zs) z) ∷ [])
      ((stmt_at inner, stmt_row (declaration k (append_declarators zs xs)) y) ∷ (stmt_at behind, z) ∷ []))
      → Owns h p loose ((expr_at values, w) ∷ (stmt_at inner, stmt_row (declaration k xs) y) ∷ (stmt_at results, stmts_row r) ∷ rest)
      → HasHead h h' p' loose rest (front init.Declaration values inner behind) (head_from_declaration q k xs r) w y
  vars_go true Var xs w y r n f o =
      let v = var_newest r n in
      as_head (ap (λ (s : Stmts). var_into_head xs (last_declaration? s)) v.2)
      (record {
        init = refl;
        moved = regroup
            (f v.0 (stmts_row v.1) loose ((expr_at values, w) ∷ rest)
            (arrange (1 ∷ 1 ∷ [])
            (subst (λ (s : Stmts). Owns h p loose ((expr_at values, w) ∷ (stmt_at inner, stmt_row (declaration Var xs) y)
            ∷ (stmt_at results, stmts_row s) ∷ rest)) v.2 o)))
            (λ o₁. pick 2 o₁);
      })
  vars_go true Let xs w y r n f o = no_way n
  vars_go true Const xs w y r n f o = no_way n
  vars_go false k xs w y r n f o = no_way n

  pub vars_joined : (q b : Bool) (k : DeclarationKind) (xs : Declarators) (w y : Row) (r : Stmts)
      → b ≡ (q && (is_var_kind (get_or h.stmts inner blank_stmt).kind && is_var_kind (get_or h.stmts results blank_stmt).kind)) → b ≡ true
      → ((zs : Declarators) (z : Row) → Turns h p h' p' []
      ((stmt_at inner, stmt_row (declaration k xs) y) ∷ (stmt_at results, stmt_row (declaration k zs) z) ∷ [])
      ((stmt_at inner, stmt_row (declaration k (append_declarators zs xs)) y) ∷ (stmt_at behind, z) ∷ []))
      → Owns h p loose ((expr_at values, w) ∷ (stmt_at inner, stmt_row (declaration k xs) y) ∷ (stmt_at results, stmts_row r) ∷ rest)
      → HasHead h h' p' loose rest (front init.Declaration values inner behind) (head_from_declaration q k xs r) w y
  vars_joined q b k xs w y r e n f o = vars_go q k xs w y r (sym (vars_told q b k xs w y r e o) ∙ n) f o

-- the init by its kind

never : {A : Type 0} → ◌≡◌ {A = ℕ} 0 1 → A
never z = absurd (omega arith)

module _ {h h' : Heap} {p p' : Pools} {loose : List Place} {rest : List Root} {values inner results : ℕ} {f : Front} where
  pub by_absent : (q : Bool) (i : Init) (w y : Row) (r : Stmts) → init.Absent ≡ init_kind i
      → (Owns h p loose ((expr_at nowhere, end) ∷ (expr_at values, w) ∷ (stmt_at inner, y) ∷ (stmt_at results, stmts_row r) ∷ rest)
      → HasHead h h' p' loose rest f (head_from q absent r) w y)
      → Owns h p loose ((expr_at values, init_exprs i w) ∷ (stmt_at inner, init_stmts i y) ∷ (stmt_at results, stmts_row r) ∷ rest)
      → HasHead h h' p' loose rest f (for_head q i r) w y
  by_absent q no_init w y r e g o = g (end_in (expr_at nowhere) refl o)
  by_absent q (init_expression x) w y r e g o = never (cc)
  by_absent q (init_declaration k ds) w y r e g o = never (cc)

  pub by_expression : (q : Bool) (i : Init) (w y : Row) (r : Stmts) → init.Expression ≡ init_kind i
      → ((x : Expr) → Owns h p loose ((expr_at values, expr_row x w) ∷ (stmt_at inner, y) ∷ (stmt_at results, stmts_row r) ∷ rest)
      → HasHead h h' p' loose rest f (worked_head q x r) w y)
      → Owns h p loose ((expr_at values, init_exprs i w) ∷ (stmt_at inner, init_stmts i y) ∷ (stmt_at results, stmts_row r) ∷ rest)
      → HasHead h h' p' loose rest f (for_head q i r) w y
  by_expression q no_init w y r e g o = never (cc)
  by_expression q (init_expression x) w y r e g o = g x o
  by_expression q (init_declaration k ds) w y r e g o = never (cc)

  pub by_declaration : (q : Bool) (i : Init) (w y : Row) (r : Stmts) → init.Declaration ≡ init_kind i
      → ((k : DeclarationKind) (xs : Declarators)
      → Owns h p loose ((expr_at values, w) ∷ (stmt_at inner, stmt_row (declaration k xs) y) ∷ (stmt_at results, stmts_row r) ∷ rest)
      → HasHead h h' p' loose rest f (head_from_declaration q k xs r) w y)
      → Owns h p loose ((expr_at values, init_exprs i w) ∷ (stmt_at inner, init_stmts i y) ∷ (stmt_at results, stmts_row r) ∷ rest)
      → HasHead h h' p' loose rest f (for_head q i r) w y
  by_declaration q no_init w y r e g o = never (cc)
  by_declaration q (init_expression x) w y r e g o = never (cc)
  by_declaration q (init_declaration k ds) w y r e g o = g k ds o

-- the record of a `for` with its head
abbrev pub for_record : Front → ForHead → StmtRecord
for_record f head = record {
  kind = kind.For (record { init = f.init; test = head.test; update = head.update });
  exprs = f.values;
  stmts = f.inner;
  decls = nowhere;
  next = f.results;
}

pub for_closed : {h : Heap} {es : List ExprRecord} {stmts : List StmtRecord} {ds : List DeclRecord} {p : Pools} {loose : List Place} {rest : List Root}
    {at : ℕ}
    (f : Front) (hd : ForHead) (head : WorkedHead) (i : Init) (t u : OptionalExpr) (b : Stmt) → hd ≡ head_of i t u
    → HasHead h (tables es stmts ds) p (stmt_at at ∷ loose) rest f head (optional_row t (optional_row u end)) (stmt_row b end)
    → Moved h (tables es (set stmts at (for_record f hd)) ds) p loose ((stmt_at at, stmts_row (stmt_then (for head.init t u b) head.results)) ∷ rest)
for_closed f hd head i t u b e x =
    let e₁ = x.init in
    let e₂ : hd.test ≡ is_present t = ap (λ (v : ForHead). v.test) e in
    let e₃ : hd.update ≡ is_present u = ap (λ (v : ForHead). v.update) e in
    then_use x.moved
    (λ o. close_stmt (for head.init t u b) (stmts_row head.results) (for_record f hd)
    (λ j. kind.For (record { init = e₁ j; test = e₂ j; update = e₃ j })) (arrange (1 ∷ 1 ∷ 0 ∷ []) (end_in (decl_at nowhere) refl o)))
