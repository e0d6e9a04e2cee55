-- The rules by what was read of the statements.
use mathlib.Core.Path.{◌≡◌, refl, sym}
use mathlib.Core.Bool.{false, true, not as negated}
use mathlib.Core.Logic.{◌≢◌}
use Prim.Native.Nat.{ℕ}
use borrow.Author.Tests.{clash}
use Rattle.pool.specs.Chain.{nowhere}
use Rattle.script.specs.declared.ExpressionKind.TheVariants as expression
use Rattle.script.specs.Tree.{Alternate, Expr, Stmt, alternate, assignment, block, call, conditional, expression, if_then, logical, name, no_alternate}
use Rattle.script.specs.Tree.{no_stmts, not, number, sequence, stmt_then, strict_equality, void, word}
use Rattle.records.specs.Embedding.{alternate_row}
use Rattle.records.specs.Heap.{Heap, stmt_at}
use Rattle.records.specs.Owned.{Short}
use Rattle.records.specs.Rows.{At, end}
use Rattle.hosts.specs.Meaning.{Meaning}
use Rattle.rules.specs.Expressions.{Not?, is_not, minimize_not, no_not, not?}
use Rattle.rules.specs.Folding.{is_if}
use Rattle.rules.specs.Ifs.{Branch?, Empty?, branch?, is_empty, is_empty_block, is_expression, is_full_if, is_lone_if, minimize_empty_else, minimize_empty_if}
use Rattle.rules.specs.Ifs.{minimize_full_if, minimize_if_alone, minimize_if_else, no_branch, no_empty, swap_branches, try_minimize_if_as}
use Rattle.rules.specs.Ifs.{wrap_to_avoid_ambiguous_else}
use Rattle.moves.specs.First.{expr_kind}
use Rattle.branching.specs.declared.views.Branch.{Branch}
use Rattle.branching.specs.declared.views.Branch.TheVariants.{Expression, FullIf, LoneIf, Other}
use Rattle.branching.specs.Views.{branch_kind, is_nothing, swaps}
use Rattle.branching.proofs.Viewing.{somewhere}

-- the test

pub no_not_here : (t : Expr) → (expr_kind t ≢ expression.Not) → not? t ≡ no_not
no_not_here (number b) n = refl
no_not_here (word c) n = refl
no_not_here (name m) n = refl
no_not_here (assignment m e) n = refl
no_not_here (call m es) n = refl
no_not_here (sequence e es) n = refl
no_not_here (conditional t a b) n = refl
no_not_here (logical o a b) n = refl
no_not_here (not e) n = absurd (n refl)
no_not_here (void e) n = refl
no_not_here (strict_equality a b) n = refl

pub swaps_not : (e : Expr) {x : Stmt} (v : Branch? x) → negated (is_if v) ≡ swaps (is_not e) v
swaps_not e (is_expression b) = refl
swaps_not e (is_lone_if t c) = refl
swaps_not e (is_full_if t c y) = refl
swaps_not e no_branch = refl

pub not_swapped : (t : Expr) {x : Stmt} (v : Branch? x) → (expr_kind t ≢ expression.Not) → false ≡ swaps (not? t) v
not_swapped t v n = rw (no_not_here t n) refl

pub swapped : {t : Expr} (n : Not? t) (c : Stmt) {x : Stmt} (v : Branch? x) → swaps n v ≡ true
    → (e : Expr) × (t ≡ not e) × (if_then e x (alternate c) ≡ swap_branches n c v)
swapped (is_not t) c (is_expression e) z = (t, refl, refl)
swapped (is_not t) c (is_lone_if u d) z = absurd (clash z)
swapped (is_not t) c (is_full_if u d y) z = absurd (clash z)
swapped (is_not t) c no_branch z = (t, refl, refl)
swapped no_not c v z = absurd (clash z)

pub in_order : {t : Expr} (n : Not? t) (c : Stmt) {x : Stmt} (v : Branch? x) → swaps n v ≡ false
    → if_then t (wrap_to_avoid_ambiguous_else (branch? c)) (alternate x) ≡ swap_branches n c v
in_order (is_not t) c (is_expression e) z = absurd (clash (sym z))
in_order (is_not t) c (is_lone_if u d) z = refl
in_order (is_not t) c (is_full_if u d y) z = refl
in_order (is_not t) c no_branch z = absurd (clash (sym z))
in_order no_not c v z = refl

-- the branches

-- the statement, or else the view, that stands behind the kind of a branch
abbrev OfKind : Branch → {x : Stmt} → Branch? x → Type 0
OfKind Expression {x} v = (e : Expr) × (x ≡ expression e)
OfKind LoneIf {x} v = (t : Expr) × (c : Stmt) × (x ≡ if_then t c no_alternate)
OfKind FullIf {x} v = (t : Expr) × (c : Stmt) × (y : Stmt) × (x ≡ if_then t c (alternate y))
OfKind Other {x} v = v ≡ no_branch

is_of_kind : {x : Stmt} (v : Branch? x) → OfKind (branch_kind v) v
is_of_kind (is_expression e) = (e, refl)
is_of_kind (is_lone_if t c) = (t, c, refl)
is_of_kind (is_full_if t c y) = (t, c, y, refl)
is_of_kind no_branch = refl

pub of_kind : {k : Branch} {x : Stmt} (v : Branch? x) → k ≡ branch_kind v → OfKind k v
of_kind v e = rw e (is_of_kind v)

pub wrapped : (x : Stmt) → FullIf ≡ branch_kind (branch? x) → block (stmt_then x no_stmts) ≡ wrap_to_avoid_ambiguous_else (branch? x)
wrapped x e = rw (of_kind (branch? x) e).3 refl

pub not_wrapped : {x : Stmt} (v : Branch? x) → (branch_kind v ≢ FullIf) → x ≡ wrap_to_avoid_ambiguous_else v
not_wrapped (is_expression e) n = refl
not_wrapped (is_lone_if t c) n = refl
not_wrapped (is_full_if t c y) n = absurd (n refl)
not_wrapped no_branch n = refl

pub alone_in_braces : (t : Expr) (x : Stmt) → FullIf ≡ branch_kind (branch? x)
    → if_then t (block (stmt_then x no_stmts)) no_alternate ≡ minimize_if_alone t (branch? x)
alone_in_braces t x e = rw (of_kind (branch? x) e).3 refl

pub else_swaps : (t : Expr) {c x : Stmt} (v : Branch? c) (w : Branch? x) → (branch_kind v ≢ Expression)
    → swap_branches (not? t) c w ≡ minimize_if_else t v w
else_swaps t (is_expression e) w n = absurd (n refl)
else_swaps t (is_lone_if u d) w n = refl
else_swaps t (is_full_if u d y) w n = refl
else_swaps t no_branch w n = refl

pub else_as_it_is : (t e : Expr) {x : Stmt} (w : Branch? x) → (branch_kind w ≢ Expression)
    → if_then t (expression e) (alternate x) ≡ minimize_if_else t (is_expression e) w
else_as_it_is t e (is_expression b) n = absurd (n refl)
else_as_it_is t e (is_lone_if u d) n = refl
else_as_it_is t e (is_full_if u d y) n = refl
else_as_it_is t e no_branch n = refl

pub empty_else_turned : (t : Expr) {x : Stmt} (v : Branch? x) → (branch_kind v ≢ Expression)
    → minimize_if_alone (minimize_not t) v ≡ minimize_empty_else t v
empty_else_turned t (is_expression e) n = absurd (n refl)
empty_else_turned t (is_lone_if u d) n = refl
empty_else_turned t (is_full_if u d y) n = refl
empty_else_turned t no_branch n = refl

-- the consequent

pub when_nothing : (host : Meaning) (t : Expr) {c : Stmt} (v : Empty? c) (a : Alternate) → is_nothing v ≡ true
    → minimize_empty_if host t a ≡ try_minimize_if_as host t v a
when_nothing host t is_empty a z = refl
when_nothing host t is_empty_block a z = refl
when_nothing host t no_empty a z = absurd (clash z)

pub when_something : (host : Meaning) (t : Expr) {c : Stmt} (v : Empty? c) (a : Alternate) → is_nothing v ≡ false
    → minimize_full_if t c a ≡ try_minimize_if_as host t v a
when_something host t is_empty a z = absurd (clash (sym z))
when_something host t is_empty_block a z = absurd (clash (sym z))
when_something host t no_empty a z = refl

-- the alternate

pub none_there : (h : Heap) (i : ℕ) (a : Alternate) → Short h → At h (stmt_at i) (alternate_row a) → i ≡ nowhere → a ≡ no_alternate
none_there h i no_alternate s b z = refl
none_there h i (alternate x) s b z = absurd (somewhere h i s x end b z)

pub some_there : (h : Heap) (i : ℕ) (a : Alternate) → At h (stmt_at i) (alternate_row a) → (i ≢ nowhere) → (x : Stmt) × (a ≡ alternate x)
some_there h i no_alternate b n = absurd (n b)
some_there h i (alternate x) b n = (x, refl)
