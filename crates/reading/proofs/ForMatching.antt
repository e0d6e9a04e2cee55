-- Performing the command of a for puts what it makes.
use Rattle.std.proofs.Common.{◌≡◌, ℕ, ◌+◌, Bool, List, [], sym, ap, ◌∙◌, ap₂, inl, inr, arith}
use Rattle.script.specs.declared.StatementKind.TheVariants as kind
use Rattle.script.specs.declared.ForInit.{ForInit}
use Rattle.script.specs.declared.ForInit.TheVariants as init
use Rattle.script.specs.declared.Command.TheVariants as command
use Rattle.script.specs.Tree.{OptionalExpr, Stmt, Init, no_init, init_expression, init_declaration, for}
use Rattle.script.specs.Stacks.{Item, statement, Stacks, perform}
use Rattle.reading.specs.declared.making.Making.TheVariants as makes
use Rattle.records.specs.Heap.{stmt_label}
use Rattle.records.specs.Rows.{Row, end, node}
use Rattle.records.specs.Embedding.{optional_row, stmt_row, item_row, expr_row, expr_stack, is_present, init_kind, init_exprs, init_stmts}
use Rattle.shapes.specs.Shape.{head_expressions, init_statements}
use Rattle.reading.specs.Making.{parts_of, Matches}
use Rattle.reading.proofs.TakenParts.{Taken, none, pop_taken, optional_stack, pop_if_taken, first_if_taken}
use Rattle.reading.proofs.Made.{misplaced, made}
use Rattle.reading.proofs.ItemSurveys.{branch_taken, init_taken}
use Rattle.reading.proofs.Fitting.{head_of, for_absent, for_expression, for_declaration_test, for_other, for_declaration}
use Rattle.script.proofs.Exprs.{optional_on}

recount : {A : Type 0} {n m : ℕ} {before parts after : List A} → n ≡ m → Taken n before parts after → Taken m before parts after
recount e t = record { list = t.list; count = t.count ∙ e }

-- the label tells which parts there are
for_row : (i : Init) (t u : OptionalExpr) (b : Stmt) {test update : Bool} → is_present t ≡ test → is_present u ≡ update → (w : Row) →
    stmt_row (for i t u b) w
    ≡ node (stmt_label (kind.For (head_of (init_kind i) test update))) (init_exprs i (expr_stack (optional_on t (optional_on u [])))) (init_stmts i (stmt_row b end)) end w
for_row i t u b {test} {update} pt pu w =
    ap₂ (λ (x y : Bool). node (stmt_label (kind.For (head_of (init_kind i) x y))) (init_exprs i (optional_row t (optional_row u end))) (init_stmts i (stmt_row b end)) end w) pt pu
    ∙ ap (λ (r : Row). node (stmt_label (kind.For (head_of (init_kind i) test update))) (init_exprs i r) (init_stmts i (stmt_row b end)) end w)
    (sym (optional_stack t (optional_on u []) ∙ ap (optional_row t) (optional_stack u [])))

pub for_matches : (i : ForInit) (test update : Bool) (s : Stacks) →
    Matches (makes.Stmt (kind.For (head_of i test update)) (parts_of (head_expressions (head_of i test update)) (1 + init_statements i) 0)) s
    (perform (command.For (head_of i test update)) s)
for_matches init.Absent test update s =
    let h = head_of init.Absent test update in
    let P = Matches (makes.Stmt (kind.For h) (parts_of (head_expressions h) 1 0)) s in
    first_if_taken P update s.exprs _ (λ lack. inl (omega arith)) (λ u es₁ pu t₁.
    pop_if_taken P test es₁ _ t₁ (λ lack. inl (omega arith)) (λ t es pt t₂.
    pop_taken P s.stmts _ none (λ lack. inr (inl lack)) (λ b is ti.
    let te = recount {m = head_expressions h} (omega arith) t₂ in
    branch_taken P b _
    (λ bad. misplaced s te ti none (kind.For h) (for_absent test update b ∙ bad))
    (λ b' p good. made s te ti none (kind.For h) (statement (for no_init t u b')) (for_absent test update b ∙ good)
    (λ w. for_row no_init t u b' pt pu w
    ∙ ap (λ (i : Item). node (stmt_label (kind.For h)) (expr_stack (optional_on t (optional_on u []))) (item_row i end) end w) (sym p))))))
for_matches init.Expression test update s =
    let h = head_of init.Expression test update in
    let P = Matches (makes.Stmt (kind.For h) (parts_of (head_expressions h) 1 0)) s in
    first_if_taken P update s.exprs _ (λ lack. inl (omega arith)) (λ u es₁ pu t₁.
    pop_if_taken P test es₁ _ t₁ (λ lack. inl (omega arith)) (λ t es₂ pt t₂.
    pop_taken P s.stmts _ none (λ lack. inr (inl lack)) (λ b is ti.
    pop_taken P es₂ _ t₂ (λ lack. inl (omega arith)) (λ e es t₃.
    let te = recount {m = head_expressions h} (omega arith) t₃ in
    branch_taken P b _
    (λ bad. misplaced s te ti none (kind.For h) (for_expression test update b ∙ bad))
    (λ b' p good. made s te ti none (kind.For h) (statement (for (init_expression e) t u b')) (for_expression test update b ∙ good)
    (λ w. for_row (init_expression e) t u b' pt pu w
    ∙ ap (λ (i : Item). node (stmt_label (kind.For h)) (expr_row e (expr_stack (optional_on t (optional_on u [])))) (item_row i end) end w) (sym p)))))))
for_matches init.Declaration test update s =
    let h = head_of init.Declaration test update in
    let P = Matches (makes.Stmt (kind.For h) (parts_of (head_expressions h) 2 0)) s in
    first_if_taken P update s.exprs _ (λ lack. inl (omega arith)) (λ u es₁ pu t₁.
    pop_if_taken P test es₁ _ t₁ (λ lack. inl (omega arith)) (λ t es pt t₂.
    pop_taken P s.stmts _ none (λ lack. inr (inl (omega arith))) (λ b is₁ ti₁.
    pop_taken P is₁ _ ti₁ (λ lack. inr (inl lack)) (λ i is ti.
    let te = recount {m = head_expressions h} (omega arith) t₂ in
    init_taken P i _ (λ other. misplaced s te ti none (kind.For h) (for_other test update b i other)) (λ d ds q.
    let fits = ap (for_declaration_test test update b) q ∙ for_declaration test update b d ds in
    branch_taken P b _
    (λ bad. misplaced s te ti none (kind.For h) (fits ∙ bad))
    (λ b' p good. made s te ti none (kind.For h) (statement (for (init_declaration d ds) t u b')) (fits ∙ good)
    (λ w. for_row (init_declaration d ds) t u b' pt pu w
    ∙ ap₂ (λ (j k : Item). node (stmt_label (kind.For h)) (expr_stack (optional_on t (optional_on u []))) (item_row j (item_row k end)) end w) (sym q) (sym p))))))))
