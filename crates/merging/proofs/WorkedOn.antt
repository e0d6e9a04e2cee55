-- An expression through one rule after the other, and put onto the results.
use Rattle.std.proofs.Common.{◌≡◌, ℕ, Bool, true, ◌≢◌, List, [], ◌∷◌, set, arith}
use Rattle.pool.specs.Chain.{nowhere}
use Rattle.script.specs.Tree.{Expr, OptionalExpr, Stmts, absent, present}
use Rattle.records.specs.declared.record.Pools.{Pools}
use Rattle.records.specs.Embedding.{expr_row, optional_row, stmts_row}
use Rattle.records.specs.Heap.{Heap, Place, expr_at, stmt_at}
use Rattle.records.specs.Owned.{Owns, Root}
use Rattle.records.specs.Rows.{end}
use Rattle.rules.specs.Expressions.{join_sequence}
use Rattle.rules.specs.Merging.{LastExpression?, Worked, handle_expression_statement, last_expression, last_expression?, merge_last_expression_as}
use Rattle.rules.specs.Merging.{merge_last_expression_into_sequence, merge_leading_assignments_to_declaration, next_work, no_last_expression}
use Rattle.rules.specs.Merging.{push_optional_expression}
use Rattle.moves.specs.Moved.{Moved, Turns}
use Rattle.records.proofs.Moves.{end_out}
use Rattle.moves.proofs.Frames.{kept_both, kept_others}
use Rattle.moves.proofs.Rows.{expr_within}
use Rattle.merging.proofs.LastExpression.{expression_record, put_expression}

-- what a further rule promises of the target and the results
abbrev pub Works : Heap → Pools → Heap → Pools → (Expr → Stmts → Worked) → ℕ → ℕ → ℕ → ℕ → Type 0
Works h p h' p' f target results target' results' =
    (e : Expr) (r : Stmts)
    → Turns h p h' p' [] ((expr_at target, expr_row e end) ∷ (stmt_at results, stmts_row r) ∷ [])
    ((expr_at target', optional_row (f e r).target end) ∷ (stmt_at results', stmts_row (f e r).results) ∷ [])

-- an expression that was merged with the last one is there, and goes through a further rule
pub worked_next : {h h' : Heap} {p p' : Pools} {loose : List Place} {rest : List Root} {target results target' results' : ℕ} {r : Stmts}
    (v : LastExpression? r) (e : Expr) (f : Expr → Stmts → Worked) → Works h p h' p' f target results target' results'
    → Owns h p loose
    ((expr_at target, optional_row (merge_last_expression_as v e).target end) ∷ (stmt_at results, stmts_row (merge_last_expression_as v e).results) ∷ rest)
    → Moved h h' p' loose
    ((expr_at target', optional_row (next_work (merge_last_expression_as v e).target (merge_last_expression_as v e).results f).target end)
    ∷ (stmt_at results', stmts_row (next_work (merge_last_expression_as v e).target (merge_last_expression_as v e).results f).results) ∷ rest)
worked_next {loose = loose} {rest = rest} (last_expression a r) e f works o = works (join_sequence a e) r loose rest o
worked_next {loose = loose} {rest = rest} {r = r} no_last_expression e f works o = works e r loose rest o

-- no target: the statement's record was given back
pub push_none : {h h₁ : Heap} {p p₁ : Pools} {loose : List Place} {rest : List Root} {at target results : ℕ} (v : OptionalExpr) (r : Stmts) → target ≡ nowhere
    → ((roots : List Root) → Owns h p (stmt_at at ∷ loose) roots → Moved h h₁ p₁ loose roots)
    → Owns h p (stmt_at at ∷ loose) ((expr_at target, optional_row v end) ∷ (stmt_at results, stmts_row r) ∷ rest)
    → Moved h h₁ p₁ loose ((stmt_at results, stmts_row (push_optional_expression v r)) ∷ rest)
push_none absent r z gives o = gives _ (end_out o)
push_none {h} {target = target} (present e) r z gives o =
    let w = expr_within h target e end o.held.0 in let l = o.short.exprs in absurd (omega arith)

pub push_some : {h : Heap} {p : Pools} {loose : List Place} {rest : List Root} {at target results : ℕ} (v : OptionalExpr) (r : Stmts) → target ≢ nowhere
    → Owns h p (stmt_at at ∷ loose) ((expr_at target, optional_row v end) ∷ (stmt_at results, stmts_row r) ∷ rest)
    → Moved h (record { exprs = h.exprs; stmts = set h.stmts at (expression_record target results); decls = h.decls }) p loose
    ((stmt_at at, stmts_row (push_optional_expression v r)) ∷ rest)
push_some absent r n o = absurd (n o.held.0)
push_some (present e) r n o = put_expression e (stmts_row r) o

-- the rule on expression statements
pub handled : {h h₁ h₂ h₃ : Heap} {p₁ p₂ p₃ : Pools} {loose : List Place} {rest : List Root} {at target₁ results₁ target₂ results₂ answer : ℕ}
    (q : Bool) (e : Expr) (r : Stmts)
    → Moved h h₁ p₁ (stmt_at at ∷ loose)
    ((expr_at target₁, optional_row (merge_last_expression_into_sequence q e r).target end)
    ∷ (stmt_at results₁, stmts_row (merge_last_expression_into_sequence q e r).results) ∷ rest)
    → Works h₁ p₁ h₂ p₂ (λ e₁ r₁. merge_leading_assignments_to_declaration true e₁ r₁) target₁ results₁ target₂ results₂
    → ((v : OptionalExpr) (r₂ : Stmts)
    → Turns h₂ p₂ h₃ p₃ (stmt_at at ∷ []) ((expr_at target₂, optional_row v end) ∷ (stmt_at results₂, stmts_row r₂) ∷ [])
    ((stmt_at answer, stmts_row (push_optional_expression v r₂)) ∷ []))
    → Moved h h₃ p₃ loose ((stmt_at answer, stmts_row (handle_expression_statement q e r)) ∷ rest)
handled {loose = loose} {rest = rest} q e r m works pushes =
    let b : Worked = merge_last_expression_into_sequence q e r in
    let w : Worked = next_work b.target b.results (λ e₁ r₁. merge_leading_assignments_to_declaration true e₁ r₁) in
    let l = worked_next (last_expression? q r) e (λ e₁ r₁. merge_leading_assignments_to_declaration true e₁ r₁) works m.owned in
    let s = pushes w.target w.results loose rest l.owned in
    record { owned = s.owned; kept = kept_both (kept_others (kept_both m.kept l.kept)) s.kept }
