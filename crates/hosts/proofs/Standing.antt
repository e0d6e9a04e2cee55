-- An expression that stands at a place: the kind of its record, the row of its parts, and what follows it.
use Rattle.std.proofs.Common.{◌≡◌, ℕ, zero, suc, ◌<◌, ◌≤◌, List, [], ◌∷◌, length, get_or, slice_get, Some, None, sym, refl, arith}
use Rattle.std.proofs.lemmas.Option.{get_or_from_slice_get, none-some, slice_get_within}
use Rattle.script.specs.declared.ExpressionKind.{ExpressionKind}
use Rattle.script.specs.declared.ExpressionKind.TheVariants as expression
use Rattle.script.specs.Tree.{Expr, number, word, name, assignment, call, sequence, conditional, logical, not, void, strict_equality}
use Rattle.script.specs.Tree.{Exprs, no_exprs, expr_then}
use Rattle.script.specs.Sound.{records_expr, records_exprs}
use Rattle.records.specs.declared.record.ExprRecord.{ExprRecord}
use Rattle.records.specs.Heap.{Heap, expr_label, expr_at, blank_expr}
use Rattle.records.specs.Rows.{Row, end, At}
use Rattle.records.specs.Owned.{Short}
use Rattle.records.specs.Embedding.{expr_row, exprs_row}

-- the record that is read at a place, and a place where none is
abbrev pub Found : List ExprRecord → ℕ → ExprRecord → Type 0
Found exprs at x = Some x ≡ slice_get exprs at

pub found_within : (exprs : List ExprRecord) (at : ℕ) (x : ExprRecord) → Found exprs at x → at < length exprs
found_within exprs at x f = slice_get_within exprs at x (sym f)

pub found_there : (exprs : List ExprRecord) (at : ℕ) (x : ExprRecord) → Found exprs at x → get_or exprs at blank_expr ≡ x
found_there exprs at x f = get_or_from_slice_get exprs at x blank_expr (sym f)

pub none_found : (exprs : List ExprRecord) (at : ℕ) → None ≡ slice_get exprs at → length exprs ≤ at
none_found [] at n = omega arith
none_found (x ∷ xs) zero n = absurd (none-some x n)
none_found (x ∷ xs) (suc at) n = let l = none_found xs at n in omega arith

abbrev pub kind_of : Expr → ExpressionKind
kind_of (number b) = expression.Number b
kind_of (word w) = expression.Word w
kind_of (name n) = expression.Name n
kind_of (assignment n e) = expression.Assignment n
kind_of (call n es) = expression.Call n
kind_of (sequence e es) = expression.Sequence
kind_of (conditional t a b) = expression.Conditional
kind_of (logical o a b) = expression.Logical o
kind_of (not e) = expression.Not
kind_of (void e) = expression.Void
kind_of (strict_equality a b) = expression.StrictEquality

abbrev pub parts_of : Expr → Exprs
parts_of (number b) = no_exprs
parts_of (word w) = no_exprs
parts_of (name n) = no_exprs
parts_of (assignment n e) = expr_then e no_exprs
parts_of (call n es) = es
parts_of (sequence e es) = expr_then e es
parts_of (conditional t a b) = expr_then t (expr_then a (expr_then b no_exprs))
parts_of (logical o a b) = expr_then a (expr_then b no_exprs)
parts_of (not e) = expr_then e no_exprs
parts_of (void e) = expr_then e no_exprs
parts_of (strict_equality a b) = expr_then a (expr_then b no_exprs)

abbrev pub record_of : Heap → ℕ → ExprRecord
record_of h at = get_or h.exprs at blank_expr

pub record Stands (h : Heap) (at : ℕ) (e : Expr) (w : Row) : Type 0 where
  pub within : at < length h.exprs
  pub kind : (record_of h at).kind ≡ kind_of e
  pub parts : At h (expr_at (record_of h at).first) (exprs_row (parts_of e))
  pub next : At h (expr_at (record_of h at).next) w

same_kind : (k l : ExpressionKind) → expr_label k ≡ expr_label l → k ≡ l
same_kind k l h = cc

pub stands : (h : Heap) (at : ℕ) (e : Expr) (w : Row) → At h (expr_at at) (expr_row e w) → Stands h at e w
stands h at (number b) w a = record { within = a.0; kind = same_kind _ _ a.1; parts = a.2; next = a.5 }
stands h at (word c) w a = record { within = a.0; kind = same_kind _ _ a.1; parts = a.2; next = a.5 }
stands h at (name n) w a = record { within = a.0; kind = same_kind _ _ a.1; parts = a.2; next = a.5 }
stands h at (assignment n e) w a = record { within = a.0; kind = same_kind _ _ a.1; parts = a.2; next = a.5 }
stands h at (call n es) w a = record { within = a.0; kind = same_kind _ _ a.1; parts = a.2; next = a.5 }
stands h at (sequence e es) w a = record { within = a.0; kind = same_kind _ _ a.1; parts = a.2; next = a.5 }
stands h at (conditional t x y) w a = record { within = a.0; kind = same_kind _ _ a.1; parts = a.2; next = a.5 }
stands h at (logical o x y) w a = record { within = a.0; kind = same_kind _ _ a.1; parts = a.2; next = a.5 }
stands h at (not e) w a = record { within = a.0; kind = same_kind _ _ a.1; parts = a.2; next = a.5 }
stands h at (void e) w a = record { within = a.0; kind = same_kind _ _ a.1; parts = a.2; next = a.5 }
stands h at (strict_equality x y) w a = record { within = a.0; kind = same_kind _ _ a.1; parts = a.2; next = a.5 }

pub records_parts : (e : Expr) → records_expr e ≡ suc (records_exprs (parts_of e))
records_parts (number b) = refl
records_parts (word c) = refl
records_parts (name n) = refl
records_parts (assignment n e) = omega arith
records_parts (call n es) = refl
records_parts (sequence e es) = refl
records_parts (conditional t x y) = omega arith
records_parts (logical o x y) = omega arith
records_parts (not e) = omega arith
records_parts (void e) = omega arith
records_parts (strict_equality x y) = omega arith

-- a row is at its end where its place lies outside the table
pub ended : (h : Heap) (at : ℕ) (es : Exprs) → At h (expr_at at) (exprs_row es) → length h.exprs ≤ at → es ≡ no_exprs
ended h at no_exprs a o = refl
ended h at (expr_then e es) a o = let s = (stands h at e (exprs_row es) a).within in absurd (omega arith)

pub outside : (h : Heap) (at : ℕ) → Short h → At h (expr_at at) end → length h.exprs ≤ at
outside h at s n = let l = s.exprs in omega arith
