-- The bytes of an expression are taken, and put that expression on its stack.
use mathlib.Core.Path.{◌≡◌, refl, ap, ◌∙◌}
use mathlib.Core.Bool.{cond}
use mathlib.Core.List.{List, ◌∷◌, reverse_aux}
use Prim.Native.Nat.{ℕ, suc, ◌/◌, ◌%◌, ◌≤◌}
use borrow.Author.Tests.{le-ltb}
use native.Mathlib.Omega.{arith}
use Rattle.script.specs.declared.Word.{Word}
use Rattle.script.specs.declared.Word.TheVariants.{False, True, Null}
use Rattle.script.specs.declared.LogicalOperator.{LogicalOperator}
use Rattle.script.specs.declared.LogicalOperator.TheVariants.{And, Or, Nullish}
use Rattle.script.specs.declared.Awaiting.TheVariants as awaiting
use Rattle.script.specs.declared.Command.TheVariants as command
use Rattle.script.specs.declared.Counted.TheVariants as counted
use Rattle.script.specs.Tree.{Expr, number, word, name, assignment, call, sequence, conditional, logical, not, void, strict_equality}
use Rattle.script.specs.Tree.{Exprs, no_exprs, expr_then, OptionalExpr, absent, present}
use Rattle.script.specs.Format.{refused, bad_operand, ends, lexed}
use Rattle.script.specs.Stacks.{Stacks, puts_expr, perform}
use Rattle.script.specs.Judge.{Spares, Model, between, push_expr}
use Rattle.script.specs.Sound.{count_exprs, SoundExpr, SoundExprs, SoundOptional, plus, exprs_only, records_expr, records_exprs, records_optional}
use Rattle.script.specs.Written.{word_byte, operator_byte, expr_bytes, exprs_bytes, optional_bytes}
use Rattle.script.proofs.Counting.{count_ends_with, number_ends_with}
use Rattle.script.proofs.Parts.{expr_list, exprs_of_list, pops_exprs}
use Rattle.script.proofs.Taking.{Takes, Covers, exactly, one_expr, none_spent, byte, puts_an_expr}

abbrev pub push_exprs : Exprs → Stacks → Stacks
push_exprs es s = record { exprs = reverse_aux (expr_list es) s.exprs; stmts = s.stmts; decls = s.decls }

word_ends : (w : Word) → lexed awaiting.Word (word_byte w) ≡ ends (command.Word w)
word_ends False = refl
word_ends True = refl
word_ends Null = refl

operator_ends : (o : LogicalOperator) → lexed awaiting.LogicalOperator (operator_byte o) ≡ ends (command.Logical o)
operator_ends And = refl
operator_ends Or = refl
operator_ends Nullish = refl

sequence_ends : (n : ℕ) → 2 ≤ n → lexed (awaiting.CountHigh counted.Sequence (n % 256)) (n / 256) ≡ ends (command.Sequence n)
sequence_ends n h = count_ends_with counted.Sequence n ∙ ap (λ few. cond few (refused bad_operand) (ends (command.Sequence n))) (le-ltb n 2 h)

call_performed : (n : ℕ) (es : Exprs) (s : Stacks) → perform (command.Call n (count_exprs es)) (push_exprs es s) ≡ puts_expr (call n es) s
call_performed n es s = pops_exprs es s.exprs _ ∙ ap (λ parts. puts_expr (call n parts) s) (exprs_of_list es)

sequence_performed : (e : Expr) (es : Exprs) (s : Stacks) →
    perform (command.Sequence (suc (count_exprs es))) (push_exprs (expr_then e es) s) ≡ puts_expr (sequence e es) s
sequence_performed e es s = pops_exprs (expr_then e es) s.exprs _ ∙ ap (λ parts. puts_expr (sequence e parts) s) (exprs_of_list es)

mutual
  pub expr_takes : (e : Expr) {bytes : List ℕ} {s : Stacks} {spare : Spares} {end : Model} (rest : Spares) →
      SoundExpr e → Covers spare (exprs_only (records_expr e)) rest →
      Takes bytes (between (push_expr e s) rest) end → Takes (expr_bytes e bytes) (between s spare) end
  expr_takes (number n) rest ok h t = byte refl (byte refl (byte refl (byte refl (puts_an_expr (number_ends_with n) refl h t))))
  expr_takes (word w) rest ok h t = byte refl (puts_an_expr (word_ends w) refl h t)
  expr_takes (name n) rest ok h t = byte refl (puts_an_expr refl refl h t)
  expr_takes (assignment n e) rest ok h t =
      expr_takes e (plus one_expr rest) ok (omega arith) (byte refl (puts_an_expr refl refl exactly t))
  expr_takes (call n es) {s = s} rest ok h t =
      exprs_takes es (plus one_expr rest) ok.1 (omega arith)
      (byte refl (byte refl (puts_an_expr refl (call_performed n es s) exactly t)))
  expr_takes (sequence e es) {s = s} rest ok h t =
      expr_takes e (plus (exprs_only (records_exprs es)) (plus one_expr rest)) ok.1 (omega arith)
      (exprs_takes es (plus one_expr rest) ok.2 exactly
      (byte refl (byte refl (puts_an_expr (sequence_ends (suc (count_exprs es)) (omega arith)) (sequence_performed e es s) exactly t))))
  expr_takes (conditional c a b) rest ok h t =
      expr_takes c (plus (exprs_only (records_expr a)) (plus (exprs_only (records_expr b)) (plus one_expr rest))) ok.0 (omega arith)
      (expr_takes a (plus (exprs_only (records_expr b)) (plus one_expr rest)) ok.1 exactly
      (expr_takes b (plus one_expr rest) ok.2 exactly (puts_an_expr refl refl exactly t)))
  expr_takes (logical o a b) rest ok h t =
      expr_takes a (plus (exprs_only (records_expr b)) (plus one_expr rest)) ok.0 (omega arith)
      (expr_takes b (plus one_expr rest) ok.1 exactly (byte refl (puts_an_expr (operator_ends o) refl exactly t)))
  expr_takes (not e) rest ok h t = expr_takes e (plus one_expr rest) ok (omega arith) (puts_an_expr refl refl exactly t)
  expr_takes (void e) rest ok h t = expr_takes e (plus one_expr rest) ok (omega arith) (puts_an_expr refl refl exactly t)
  expr_takes (strict_equality a b) rest ok h t =
      expr_takes a (plus (exprs_only (records_expr b)) (plus one_expr rest)) ok.0 (omega arith)
      (expr_takes b (plus one_expr rest) ok.1 exactly (puts_an_expr refl refl exactly t))

  pub exprs_takes : (es : Exprs) {bytes : List ℕ} {s : Stacks} {spare : Spares} {end : Model} (rest : Spares) →
      SoundExprs es → Covers spare (exprs_only (records_exprs es)) rest →
      Takes bytes (between (push_exprs es s) rest) end → Takes (exprs_bytes es bytes) (between s spare) end
  exprs_takes no_exprs rest ok h t = none_spent h t
  exprs_takes (expr_then e es) rest ok h t =
      expr_takes e (plus (exprs_only (records_exprs es)) rest) ok.0 (omega arith) (exprs_takes es rest ok.1 exactly t)

-- a part that may be absent

abbrev pub optional_on : OptionalExpr → List Expr → List Expr
optional_on absent es = es
optional_on (present e) es = e ∷ es

abbrev pub push_optional : OptionalExpr → Stacks → Stacks
push_optional v s = record { exprs = optional_on v s.exprs; stmts = s.stmts; decls = s.decls }

pub optional_takes : (v : OptionalExpr) {bytes : List ℕ} {s : Stacks} {spare : Spares} {end : Model} (rest : Spares) →
    SoundOptional v → Covers spare (exprs_only (records_optional v)) rest →
    Takes bytes (between (push_optional v s) rest) end → Takes (optional_bytes v bytes) (between s spare) end
optional_takes absent rest ok h t = none_spent h t
optional_takes (present e) rest ok h t = expr_takes e rest ok h t
