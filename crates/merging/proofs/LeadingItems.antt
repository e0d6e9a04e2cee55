-- Leading assignments merged one by one, and the sequence of what is left.
use Rattle.std.proofs.Common.{◌≡◌, ℕ, suc, ◌+◌, ◌≤◌, Bool, true, false, ◌||◌, ◌≢◌, List, [], ◌∷◌, length, Option, None, Some, get_or, set}
use Rattle.std.proofs.Common.{sym, refl, ◌∙◌, subst, arith}
use Rattle.pool.specs.Chain.{nowhere}
use Rattle.script.specs.declared.DeclarationKind.{DeclarationKind}
use Rattle.script.specs.declared.ExpressionKind.TheVariants as expression
use Rattle.script.specs.declared.StatementKind.TheVariants as statement
use Rattle.script.specs.Sound.{count_exprs}
use Rattle.script.specs.Tree.{Declarators, Expr, Exprs, Stmts, assignment, declaration, expr_then, no_exprs, sequence, stmt_then}
use Rattle.records.specs.declared.record.DeclRecord.{DeclRecord}
use Rattle.records.specs.declared.record.ExprRecord.{ExprRecord}
use Rattle.records.specs.declared.record.Pools.{Pools}
use Rattle.records.specs.declared.record.StmtRecord.{StmtRecord}
use Rattle.records.specs.Embedding.{declarators_row, expr_row, exprs_row, optional_row, stmts_row}
use Rattle.records.specs.Heap.{Heap, Place, blank_expr, blank_stmt, decl_at, expr_at, stmt_at}
use Rattle.records.specs.Owned.{Owns, Root, Short}
use Rattle.records.specs.Readable.{tables}
use Rattle.records.specs.Rows.{At, Row, end}
use Rattle.rules.specs.Expressions.{Assignment?, Sequence?, assignment?, is_assignment, no_assignment, sequence?}
use Rattle.rules.specs.Merging.{LastDeclaration?, Leading, Merge, blocked, clear, has_items, items_of, merge_assignment_to_declaration}
use Rattle.rules.specs.Merging.{merge_leading, merge_leading_after, merge_leading_assignments_as, merge_leading_assignments_to_declaration, merge_leading_item}
use Rattle.rules.specs.Merging.{merged, sequence_of_items}
use Rattle.moves.specs.Moved.{Moved, Turns}
use Rattle.records.proofs.Moves.{end_in, end_out, pick}
use Rattle.joining.proofs.Sequences.{no_sequence_here}
use Rattle.moves.proofs.ByKind.{expr_of_kind}
use Rattle.moves.proofs.Frames.{arrange, kept_both, kept_others, regroup, stays}
use Rattle.moves.proofs.Lenses.{inside_stmt}
use Rattle.moves.proofs.Open.{close_expr, kind_of_expr, open_expr}
use Rattle.moves.proofs.Rows.{expr_behind, expr_within, row_fits}
use Rattle.merging.specs.Leading.{Step, declarators_after, has_taken, items_after, leading_step, rests, step_item, step_merged, takes}
use Rattle.merging.proofs.LeadingStep.{Stepped}
use Rattle.merging.proofs.Results.{declaration_newest, kind_of_newest, no_declaration_newest}

-- what the rule makes of the items, told by its first step
abbrev Leads : Leading → Bool → DeclarationKind → Exprs → Declarators → Step → Type 0
Leads l d k xs ds (takes ys es) = (l ≡ merge_leading d ys k es) × (suc (count_exprs ys) ≡ count_exprs xs)
Leads l d k xs ds rests = l ≡ record { items = xs; declarators = ds }

first_step : (d : Bool) (k : DeclarationKind) (xs : Exprs) (ds : Declarators) → Leads (merge_leading d xs k ds) d k xs ds (leading_step d xs k ds)
first_step d k no_exprs ds = refl
first_step d k (expr_then x xs) ds = by (d || has_items xs) (assignment? x)
  where
    after : (g : Merge) (n : ℕ) (e : Expr)
        → Leads (merge_leading_after g (expr_then (assignment n e) xs) ds (λ ds'. merge_leading d xs k ds'))
        d k (expr_then (assignment n e) xs) ds (step_merged g xs)
    after (merged ds') n e = (refl, refl)
    after blocked n e = refl
    after clear n e = refl

    by : (b : Bool) {y : Expr} (v : Assignment? y)
        → Leads (merge_leading_item b v xs k ds (λ ds'. merge_leading d xs k ds')) d k (expr_then y xs) ds (step_item b v xs k ds)
    by false v = refl
    by true (is_assignment n e) = after (merge_assignment_to_declaration k ds n e) n e
    by true no_assignment = refl

-- n items are merged, and with the others and the declarators now the rule comes to the same
abbrev pub Going : List ExprRecord → List DeclRecord → Pools → List ExprRecord → List DeclRecord → Pools → Bool → DeclarationKind → ℕ → ℕ → ℕ → ℕ → Type 0
Going exprs₀ decls₀ p₀ exprs decls p d k names items left n =
    (ss : List StmtRecord) (xs : Exprs) (ds : Declarators) (loose : List Place) (rest : List Root)
    → Owns (tables exprs₀ ss decls₀) p₀ loose ((decl_at names, declarators_row ds) ∷ (expr_at items, exprs_row xs) ∷ rest)
    → (ys : Exprs) × (es : Declarators)
    × Moved (tables exprs₀ ss decls₀) (tables exprs ss decls) p loose ((decl_at names, declarators_row es) ∷ (expr_at left, exprs_row ys) ∷ rest)
    × (merge_leading d xs k ds ≡ merge_leading d ys k es) × (count_exprs ys + n ≤ count_exprs xs)

-- what a step promises
abbrev pub Steps : List ExprRecord → List DeclRecord → Pools → List ExprRecord → List DeclRecord → Pools → Bool → DeclarationKind → ℕ → ℕ → Option ℕ → Type 0
Steps exprs decls p exprs₁ decls₁ p₁ d k names left behind =
    (ss : List StmtRecord) (xs : Exprs) (ds : Declarators) (loose : List Place) (rest : List Root)
    → Owns (tables exprs ss decls) p loose ((decl_at names, declarators_row ds) ∷ (expr_at left, exprs_row xs) ∷ rest)
    → Stepped (tables exprs ss decls) (tables exprs₁ ss decls₁) p₁ loose rest names left behind ds xs (leading_step d xs k ds)

-- no row has more items than the table
items_fit : {h : Heap} {p : Pools} {loose : List Place} {rest : List Root} {i : ℕ} (xs : Exprs) → Owns h p loose ((expr_at i, exprs_row xs) ∷ rest)
    → count_exprs xs ≤ length h.exprs
items_fit no_exprs o = omega arith
items_fit (expr_then x xs) o = let f = row_fits x xs o in omega arith

module _ (exprs₀ : List ExprRecord) (decls₀ : List DeclRecord) (p₀ : Pools) (exprs : List ExprRecord) (decls : List DeclRecord) (p : Pools)
    (d : Bool) (k : DeclarationKind) (names items left n : ℕ) (inv : Going exprs₀ decls₀ p₀ exprs decls p d k names items left n) where
  abbrev After : List StmtRecord → List ExprRecord → List DeclRecord → Pools → List Place → List Root → ℕ → Leading → Type 0
  After ss exprs₁ decls₁ p₁ loose rest left₁ l =
      Moved (tables exprs₀ ss decls₀) (tables exprs₁ ss decls₁) p₁ loose
      ((decl_at names, declarators_row l.declarators) ∷ (expr_at left₁, exprs_row l.items) ∷ rest)

  -- no item is left after as many turns as there are records
  pub all_merged : (ss : List StmtRecord) (xs : Exprs) (ds : Declarators) (loose : List Place) (rest : List Root) → length exprs₀ ≤ n
      → Owns (tables exprs₀ ss decls₀) p₀ loose ((decl_at names, declarators_row ds) ∷ (expr_at items, exprs_row xs) ∷ rest)
      → After ss exprs decls p loose rest left (merge_leading d xs k ds)
  all_merged ss xs ds loose rest l o =
      let q = inv ss xs ds loose rest o in
      subst (λ (v : Leading). After ss exprs decls p loose rest left v) (sym q.3) (by q.0 q.1 q.2 q.4)
    where
      by : (ys : Exprs) (es : Declarators)
          → Moved (tables exprs₀ ss decls₀) (tables exprs ss decls) p loose ((decl_at names, declarators_row es) ∷ (expr_at left, exprs_row ys) ∷ rest)
          → count_exprs ys + n ≤ count_exprs xs → After ss exprs decls p loose rest left (merge_leading d ys k es)
      by no_exprs es m c = m
      by (expr_then y ys) es m c = let f = items_fit xs (pick 1 o) in absurd (omega arith)

  module _ (exprs₁ : List ExprRecord) (decls₁ : List DeclRecord) (p₁ : Pools) where
    -- the first item stays, and with it all of them
    pub step_stays : Steps exprs decls p exprs₁ decls₁ p₁ d k names left None
        → (ss : List StmtRecord) (xs : Exprs) (ds : Declarators) (loose : List Place) (rest : List Root)
        → Owns (tables exprs₀ ss decls₀) p₀ loose ((decl_at names, declarators_row ds) ∷ (expr_at items, exprs_row xs) ∷ rest)
        → After ss exprs₁ decls₁ p₁ loose rest left (merge_leading d xs k ds)
    step_stays step ss xs ds loose rest o =
        let q = inv ss xs ds loose rest o in
        let s = step ss q.0 q.1 loose rest q.2.owned in
        subst (λ (v : Leading). After ss exprs₁ decls₁ p₁ loose rest left v) (sym q.3)
        (by q.0 q.1 (leading_step d q.0 k q.1) (first_step d k q.0 q.1) s.0 (record { owned = s.1.owned; kept = kept_both q.2.kept s.1.kept }))
      where
        by : (ys : Exprs) (es : Declarators) (s : Step) → Leads (merge_leading d ys k es) d k ys es s → false ≡ has_taken s
            → Moved (tables exprs₀ ss decls₀) (tables exprs₁ ss decls₁) p₁ loose
            ((decl_at names, declarators_row (declarators_after s es)) ∷ (expr_at left, exprs_row (items_after s ys)) ∷ rest)
            → After ss exprs₁ decls₁ p₁ loose rest left (merge_leading d ys k es)
        by ys es (takes ys' es') l z m = cc
        by ys es rests l z m = subst (λ (v : Leading). After ss exprs₁ decls₁ p₁ loose rest left v) (sym l) m

    -- one item more is merged
    pub step_goes : (behind : ℕ) → Steps exprs decls p exprs₁ decls₁ p₁ d k names left (Some behind)
        → Going exprs₀ decls₀ p₀ exprs₁ decls₁ p₁ d k names items behind (n + 1)
    step_goes behind step ss xs ds loose rest o =
        let q = inv ss xs ds loose rest o in
        let s = step ss q.0 q.1 loose rest q.2.owned in
        by q.0 q.1 q.3 q.4 (leading_step d q.0 k q.1) (first_step d k q.0 q.1) s.0 (record { owned = s.1.owned; kept = kept_both q.2.kept s.1.kept })
      where
        by : (ys : Exprs) (es : Declarators) → merge_leading d xs k ds ≡ merge_leading d ys k es → count_exprs ys + n ≤ count_exprs xs
            → (s : Step) → Leads (merge_leading d ys k es) d k ys es s → true ≡ has_taken s
            → Moved (tables exprs₀ ss decls₀) (tables exprs₁ ss decls₁) p₁ loose
            ((decl_at names, declarators_row (declarators_after s es)) ∷ (expr_at behind, exprs_row (items_after s ys)) ∷ rest)
            → (ys' : Exprs) × (es' : Declarators)
            × Moved (tables exprs₀ ss decls₀) (tables exprs₁ ss decls₁) p₁ loose
            ((decl_at names, declarators_row es') ∷ (expr_at behind, exprs_row ys') ∷ rest)
            × (merge_leading d xs k ds ≡ merge_leading d ys' k es') × (count_exprs ys' + (n + 1) ≤ count_exprs xs)
        by ys es e c (takes ys' es') l z m = (ys', es', m, e ∙ l.0, let f = l.1 in (omega arith))
        by ys es e c rests l z m = cc

-- the sequence of what is left

pub no_items : (h : Heap) (i : ℕ) (xs : Exprs) → Short h → At h (expr_at i) (exprs_row xs) → i ≡ nowhere
    → exprs_row xs ≡ optional_row (sequence_of_items xs) end
no_items h i no_exprs s a z = refl
no_items h i (expr_then x xs) s a z = let w = expr_within h i x (exprs_row xs) a in let l = s.exprs in absurd (omega arith)

pub one_item : (h : Heap) (i : ℕ) (xs : Exprs) → Short h → At h (expr_at i) (exprs_row xs) → (get_or h.exprs i blank_expr).next ≡ nowhere
    → exprs_row xs ≡ optional_row (sequence_of_items xs) end
one_item h i no_exprs s a z = refl
one_item h i (expr_then x no_exprs) s a z = refl
one_item h i (expr_then x (expr_then y ys)) s a z =
    let w = expr_within h (get_or h.exprs i blank_expr).next y (exprs_row ys) (expr_behind h i x (exprs_row (expr_then y ys)) a) in
    let l = s.exprs in
    absurd (omega arith)

pub few_left : {h h₁ : Heap} {p p₁ : Pools} {loose : List Place} {rest : List Root} {at items : ℕ} (xs : Exprs)
    → exprs_row xs ≡ optional_row (sequence_of_items xs) end → Owns h p (expr_at at ∷ loose) ((expr_at items, exprs_row xs) ∷ rest)
    → ((roots : List Root) → Owns h p (expr_at at ∷ loose) roots → Moved h h₁ p₁ loose roots)
    → Moved h h₁ p₁ loose ((expr_at items, optional_row (sequence_of_items xs) end) ∷ rest)
few_left xs e o gives = gives _ (rw e at o)

pub many_left : {h : Heap} {p : Pools} {loose : List Place} {rest : List Root} {at items : ℕ} (xs : Exprs)
    → items ≢ nowhere → (get_or h.exprs items blank_expr).next ≢ nowhere → Owns h p (expr_at at ∷ loose) ((expr_at items, exprs_row xs) ∷ rest)
    → Moved h
    (record { exprs = set h.exprs at (record { kind = expression.Sequence; first = items; next = nowhere }); stmts = h.stmts; decls = h.decls }) p loose
    ((expr_at at, optional_row (sequence_of_items xs) end) ∷ rest)
many_left no_exprs n m o = absurd (n o.held.0)
many_left {h} {items = items} (expr_then x no_exprs) n m o = absurd (m (expr_behind h items x end o.held.0))
many_left {items = items} (expr_then x (expr_then y ys)) n m o =
    close_expr (sequence x (expr_then y ys)) end (record { kind = expression.Sequence; first = items; next = nowhere }) refl
    (pick 1 (end_in (expr_at nowhere) refl o))

-- of an expression that is no sequence all is left, or nothing
lone_item : (d : Bool) (k : DeclarationKind) (ds : Declarators) (e : Expr)
    → exprs_row (merge_leading d (expr_then e no_exprs) k ds).items ≡ optional_row (sequence_of_items (merge_leading d (expr_then e no_exprs) k ds).items) end
lone_item d k ds e = by (d || false) (assignment? e)
  where
    after : (g : Merge) (y : Expr)
        → exprs_row (merge_leading_after g (expr_then y no_exprs) ds (λ ds'. merge_leading d no_exprs k ds')).items
        ≡ optional_row (sequence_of_items (merge_leading_after g (expr_then y no_exprs) ds (λ ds'. merge_leading d no_exprs k ds')).items) end
    after (merged ds') y = refl
    after blocked y = refl
    after clear y = refl

    by : (b : Bool) {y : Expr} (v : Assignment? y)
        → exprs_row (merge_leading_item b v no_exprs k ds (λ ds'. merge_leading d no_exprs k ds')).items
        ≡ optional_row (sequence_of_items (merge_leading_item b v no_exprs k ds (λ ds'. merge_leading d no_exprs k ds')).items) end
    by false v = refl
    by true (is_assignment n x) = after (merge_assignment_to_declaration k ds n x) (assignment n x)
    by true no_assignment = refl

-- what merging items promises
abbrev pub MergesItems : Heap → Pools → Heap → Pools → Bool → DeclarationKind → ℕ → ℕ → ℕ → Type 0
MergesItems h p h' p' d k names items left =
    (xs : Exprs) (ds : Declarators)
    → Turns h p h' p' [] ((decl_at names, declarators_row ds) ∷ (expr_at items, exprs_row xs) ∷ [])
    ((decl_at names, declarators_row (merge_leading d xs k ds).declarators) ∷ (expr_at left, exprs_row (merge_leading d xs k ds).items) ∷ [])

-- what merging the items of an expression promises
abbrev pub MergedLeading : Heap → Heap → Pools → List Place → List Root → Bool → DeclarationKind → ℕ → ℕ → Exprs → Declarators → Type 0
MergedLeading h h' p' loose rest d k names left xs ds =
    Moved h h' p' loose
    ((decl_at names, declarators_row (merge_leading d xs k ds).declarators)
    ∷ (expr_at left, optional_row (sequence_of_items (merge_leading d xs k ds).items) end) ∷ rest)

pub leading_lone : {h h₁ : Heap} {p p₁ : Pools} {loose : List Place} {rest : List Root} {names target left : ℕ}
    (d : Bool) (k : DeclarationKind) (e : Expr) (ds : Declarators)
    → ((get_or h.exprs target blank_expr).kind ≡ expression.Sequence → ⊥) → MergesItems h p h₁ p₁ d k names target left
    → Owns h p loose ((decl_at names, declarators_row ds) ∷ (expr_at target, expr_row e end) ∷ rest)
    → MergedLeading h h₁ p₁ loose rest d k names left (items_of (sequence? e)) ds
leading_lone {h} {h₁} {p} {p₁} {loose} {rest} {names} {target} {left} d k e ds n merges o =
    subst (λ (v : Sequence? e). MergedLeading h h₁ p₁ loose rest d k names left (items_of v) ds)
    (sym (no_sequence_here e (λ z. n (kind_of_expr e end (pick 1 o) ∙ z))))
    (subst (λ (w : Row). Moved h h₁ p₁ loose
    ((decl_at names, declarators_row (merge_leading d (expr_then e no_exprs) k ds).declarators) ∷ (expr_at left, w) ∷ rest))
    (lone_item d k ds e) (merges (expr_then e no_exprs) ds loose rest o))

pub leading_sequence : {h h₁ h₂ : Heap} {p p₁ p₂ : Pools} {loose : List Place} {rest : List Root} {names target left closed : ℕ}
    (d : Bool) (k : DeclarationKind) (e : Expr) (ds : Declarators)
    → expression.Sequence ≡ (get_or h.exprs target blank_expr).kind → MergesItems h p h₁ p₁ d k names (get_or h.exprs target blank_expr).first left
    → ((xs : Exprs)
    → Turns h₁ p₁ h₂ p₂ (expr_at target ∷ []) ((expr_at left, exprs_row xs) ∷ []) ((expr_at closed, optional_row (sequence_of_items xs) end) ∷ []))
    → Owns h p loose ((decl_at names, declarators_row ds) ∷ (expr_at target, expr_row e end) ∷ rest)
    → MergedLeading h h₂ p₂ loose rest d k names closed (items_of (sequence? e)) ds
leading_sequence {h} {h₁} {h₂} {p} {p₁} {p₂} {loose} {rest} {names} {target} {left} {closed} d k e ds is merges closes o =
    let s = expr_of_kind e (is ∙ kind_of_expr e end (pick 1 o)) in
    subst (λ (v : Expr). Owns h p loose ((decl_at names, declarators_row ds) ∷ (expr_at target, expr_row v end) ∷ rest)
    → MergedLeading h h₂ p₂ loose rest d k names closed (items_of (sequence? v)) ds)
    (sym s.2) (by s.0 s.1) o
  where
    by : (x : Expr) (xs : Exprs) → Owns h p loose ((decl_at names, declarators_row ds) ∷ (expr_at target, expr_row (sequence x xs) end) ∷ rest)
        → MergedLeading h h₂ p₂ loose rest d k names closed (expr_then x xs) ds
    by x xs o₀ =
        let l = merge_leading d (expr_then x xs) k ds in
        let m = merges (expr_then x xs) ds (expr_at target ∷ loose) rest (pick 1 (end_out (pick 1 (open_expr (sequence x xs) end (pick 1 o₀))))) in
        let c = closes l.items loose ((decl_at names, declarators_row l.declarators) ∷ rest) (pick 1 m.owned) in
        record { owned = pick 1 c.owned; kept = kept_both (kept_others m.kept) c.kept }

-- the newest result

module _ {h h₁ : Heap} {p p₁ : Pools} {loose : List Place} {rest : List Root} {target results : ℕ} where
  -- a declaration: its declarators took what they could
  pub in_declaration : {left : ℕ} (d : Bool) (k : DeclarationKind) (e : Expr) (r : Stmts) → statement.Declaration k ≡ (get_or h.stmts results blank_stmt).kind
      → ((x : Expr) (ds : Declarators) (loose' : List Place) (rest' : List Root)
      → Owns h p loose' ((decl_at (get_or h.stmts results blank_stmt).decls, declarators_row ds) ∷ (expr_at target, expr_row x end) ∷ rest')
      → MergedLeading h h₁ p₁ loose' rest' d k (get_or h.stmts results blank_stmt).decls left (items_of (sequence? x)) ds)
      → Owns h p loose ((expr_at target, expr_row e end) ∷ (stmt_at results, stmts_row r) ∷ rest)
      → Moved h h₁ p₁ loose
      ((expr_at left, optional_row (merge_leading_assignments_to_declaration d e r).target end)
      ∷ (stmt_at results, stmts_row (merge_leading_assignments_to_declaration d e r).results) ∷ rest)
  in_declaration {left} d k e r is merges o =
      let q = declaration_newest r k (is ∙ kind_of_newest r (pick 1 o)) in
      subst (λ (v : Stmts). Owns h p loose ((expr_at target, expr_row e end) ∷ (stmt_at results, stmts_row v) ∷ rest)
      → Moved h h₁ p₁ loose
      ((expr_at left, optional_row (merge_leading_assignments_to_declaration d e v).target end)
      ∷ (stmt_at results, stmts_row (merge_leading_assignments_to_declaration d e v).results) ∷ rest))
      (sym q.2) (by q.0 q.1) o
    where
      by : (ds : Declarators) (r' : Stmts)
          → Owns h p loose ((expr_at target, expr_row e end) ∷ (stmt_at results, stmts_row (stmt_then (declaration k ds) r')) ∷ rest)
          → Moved h h₁ p₁ loose
          ((expr_at left, optional_row (sequence_of_items (merge_leading d (items_of (sequence? e)) k ds).items) end)
          ∷ (stmt_at results, stmts_row (stmt_then (declaration k (merge_leading d (items_of (sequence? e)) k ds).declarators) r')) ∷ rest)
      by ds r' o₀ =
          regroup
          (inside_stmt (declaration k ds) (declaration k (merge_leading d (items_of (sequence? e)) k ds).declarators)
          (stmts_row r') (stmts_row r') refl (pick 1 o₀)
          (λ o₁. regroup
          (merges e ds (stmt_at results ∷ loose)
          ((expr_at (get_or h.stmts results blank_stmt).exprs, end) ∷ (stmt_at (get_or h.stmts results blank_stmt).stmts, end)
          ∷ (stmt_at (get_or h.stmts results blank_stmt).next, stmts_row r') ∷ rest)
          (arrange (2 ∷ 3 ∷ []) o₁))
          (λ o₂. arrange (2 ∷ 2 ∷ 0 ∷ 1 ∷ []) o₂)))
          (λ o₃. pick 1 o₃)

pub in_none : {h : Heap} {p : Pools} {loose : List Place} {rest : List Root} {target results : ℕ} (d : Bool) (e : Expr) (r : Stmts)
    → ((k : DeclarationKind) → (get_or h.stmts results blank_stmt).kind ≡ statement.Declaration k → ⊥)
    → Owns h p loose ((expr_at target, expr_row e end) ∷ (stmt_at results, stmts_row r) ∷ rest)
    → Moved h h p loose
    ((expr_at target, optional_row (merge_leading_assignments_to_declaration d e r).target end)
    ∷ (stmt_at results, stmts_row (merge_leading_assignments_to_declaration d e r).results) ∷ rest)
in_none {h} {p} {loose} {rest} {target} {results} d e r n o =
    subst (λ (v : LastDeclaration? r). Moved h h p loose
    ((expr_at target, optional_row (merge_leading_assignments_as v d e).target end)
    ∷ (stmt_at results, stmts_row (merge_leading_assignments_as v d e).results) ∷ rest))
    (sym (no_declaration_newest r (λ k z. n k (kind_of_newest r (pick 1 o) ∙ z)))) (stays o)
