-- The bytes of a statement are taken and put that statement on its stack, so the bytes of a body make that body.
use mathlib.Core.Path.{◌≡◌, refl, ap, ◌∙◌}
use mathlib.Core.List.{List}
use Prim.Native.Nat.{ℕ, ◌/◌, ◌%◌}
use native.Mathlib.Omega.{arith}
use Rattle.script.specs.declared.Awaiting.TheVariants as awaiting
use Rattle.script.specs.declared.Counted.TheVariants as counted
use Rattle.script.specs.Tree.{Init, no_init, init_expression, init_declaration, Alternate, no_alternate, alternate}
use Rattle.script.specs.Tree.{Stmt, empty, expression, declaration, return_of, throw, if_then, block, while, do_while, for, switch, break, continue}
use Rattle.script.specs.Tree.{Stmts, no_stmts, stmt_then, Cases, no_cases, case_then}
use Rattle.script.specs.Stacks.{statement, Stacks, no_items}
use Rattle.script.specs.Judge.{complete, Spares, Model, taken, between, push_item, settled, after_lexing, judge}
use Rattle.script.specs.Sound.{count_stmts, count_cases, SoundInit, SoundStmt, SoundAlternate, SoundStmts, SoundCases}
use Rattle.script.specs.Sound.{plus, exprs_only, records_expr, records_optional, records_init, records_stmt, records_alternate, records_stmts, records_cases}
use Rattle.script.specs.Written.{init_bytes, stmt_bytes, alternate_bytes, stmts_bytes, cases_bytes}
use Rattle.script.specs.Laws.{WrittenIsTaken}
use Rattle.script.proofs.Counting.{count_ends_with}
use Rattle.script.proofs.Taking.{Takes, Covers, exactly, one_stmt, begun_at, none_spent, byte, awaited, puts_an_item}
use Rattle.script.proofs.Exprs.{expr_takes, optional_takes}
use Rattle.script.proofs.Declarations.{declaration_takes}
use Rattle.script.proofs.Performing.{push_stmts, push_cases, push_alternate, push_init, return_ends, if_ends, test_awaits, head_ends}
use Rattle.script.proofs.Performing.{return_performed, if_performed, block_performed, while_performed, do_while_performed, for_performed, case_performed, switch_performed, body_performed}

init_takes : (i : Init) {bytes : List ℕ} {s : Stacks} {spare : Spares} {end : Model} (rest : Spares) →
    SoundInit i → Covers spare (records_init i) rest →
    Takes bytes (between (push_init i s) rest) end → Takes (init_bytes i bytes) (between s spare) end
init_takes no_init rest ok h t = none_spent h t
init_takes (init_expression e) rest ok h t = expr_takes e rest ok h t
init_takes (init_declaration k ds) rest ok h t = declaration_takes k ds rest ok h t

mutual
  stmt_takes : (p : Stmt) {bytes : List ℕ} {s : Stacks} {spare : Spares} {end : Model} (rest : Spares) →
      SoundStmt p → Covers spare (records_stmt p) rest →
      Takes bytes (between (push_item (statement p) s) rest) end → Takes (stmt_bytes p bytes) (between s spare) end
  stmt_takes empty rest ok h t = puts_an_item refl refl (omega arith) t
  stmt_takes (expression e) rest ok h t = expr_takes e (plus one_stmt rest) ok (omega arith) (puts_an_item refl refl exactly t)
  stmt_takes (declaration k ds) rest ok h t = declaration_takes k ds rest ok h t
  stmt_takes (return_of v) {s = s} rest ok h t =
      optional_takes v (plus one_stmt rest) ok (omega arith) (puts_an_item (return_ends v) (return_performed s v) exactly t)
  stmt_takes (throw e) rest ok h t = expr_takes e (plus one_stmt rest) ok (omega arith) (puts_an_item refl refl exactly t)
  stmt_takes (if_then c p a) {s = s} rest ok h t =
      expr_takes c (plus (records_stmt p) (plus (records_alternate a) (plus one_stmt rest))) ok.0 (omega arith)
      (stmt_takes p (plus (records_alternate a) (plus one_stmt rest)) ok.2 exactly
      (alternate_takes a (plus one_stmt rest) ok.3 exactly
      (puts_an_item (if_ends a) (if_performed s c p a ok.1 ok.3) exactly t)))
  stmt_takes (block ss) {s = s} rest ok h t =
      stmts_takes ss (plus one_stmt rest) ok (omega arith)
      (byte refl (byte refl (puts_an_item (count_ends_with counted.Block (count_stmts ss)) (block_performed s ss) exactly t)))
  stmt_takes (while c p) {s = s} rest ok h t =
      expr_takes c (plus (records_stmt p) (plus one_stmt rest)) ok.0 (omega arith)
      (stmt_takes p (plus one_stmt rest) ok.2 exactly (puts_an_item refl (while_performed s c p ok.1) exactly t))
  stmt_takes (do_while p c) {s = s} rest ok h t =
      stmt_takes p (plus (exprs_only (records_expr c)) (plus one_stmt rest)) ok.1 (omega arith)
      (expr_takes c (plus one_stmt rest) ok.2 exactly (puts_an_item refl (do_while_performed s p c ok.0) exactly t))
  stmt_takes (for i c u p) {s = s} rest ok h t =
      init_takes i (plus (exprs_only (records_optional c)) (plus (exprs_only (records_optional u)) (plus (records_stmt p) (plus one_stmt rest)))) ok.0 (omega arith)
      (optional_takes c (plus (exprs_only (records_optional u)) (plus (records_stmt p) (plus one_stmt rest))) ok.1 exactly
      (optional_takes u (plus (records_stmt p) (plus one_stmt rest)) ok.2 exactly
      (stmt_takes p (plus one_stmt rest) ok.4 exactly
      (byte refl (puts_an_item (head_ends i c u) (for_performed s i c u p ok.3) exactly t)))))
  stmt_takes (switch e cs) {s = s} rest ok h t =
      expr_takes e (plus (records_cases cs) (plus one_stmt rest)) ok.0 (omega arith)
      (cases_takes cs (plus one_stmt rest) ok.2 exactly
      (byte refl (byte refl (puts_an_item (count_ends_with counted.Switch (count_cases cs)) (switch_performed s e cs ok.1) exactly t))))
  stmt_takes break rest ok h t = puts_an_item refl refl (omega arith) t
  stmt_takes continue rest ok h t = puts_an_item refl refl (omega arith) t

  alternate_takes : (a : Alternate) {bytes : List ℕ} {s : Stacks} {spare : Spares} {end : Model} (rest : Spares) →
      SoundAlternate a → Covers spare (records_alternate a) rest →
      Takes bytes (between (push_alternate a s) rest) end → Takes (alternate_bytes a bytes) (between s spare) end
  alternate_takes no_alternate rest ok h t = none_spent h t
  alternate_takes (alternate p) rest ok h t = stmt_takes p rest ok.1 h t

  stmts_takes : (ss : Stmts) {bytes : List ℕ} {s : Stacks} {spare : Spares} {end : Model} (rest : Spares) →
      SoundStmts ss → Covers spare (records_stmts ss) rest →
      Takes bytes (between (push_stmts ss s) rest) end → Takes (stmts_bytes ss bytes) (between s spare) end
  stmts_takes no_stmts rest ok h t = none_spent h t
  stmts_takes (stmt_then p ss) rest ok h t =
      stmt_takes p (plus (records_stmts ss) rest) ok.0 (omega arith) (stmts_takes ss rest ok.1 exactly t)

  cases_takes : (cs : Cases) {bytes : List ℕ} {s : Stacks} {spare : Spares} {end : Model} (rest : Spares) →
      SoundCases cs → Covers spare (records_cases cs) rest →
      Takes bytes (between (push_cases cs s) rest) end → Takes (cases_bytes cs bytes) (between s spare) end
  cases_takes no_cases rest ok h t = none_spent h t
  cases_takes (case_then c ss cs) {s = s} rest ok h t =
      optional_takes c (plus (records_stmts ss) (plus one_stmt (plus (records_cases cs) rest))) ok.0 (omega arith)
      (stmts_takes ss (plus one_stmt (plus (records_cases cs) rest)) ok.1 exactly
      (byte refl (awaited (test_awaits c) (byte refl
      (puts_an_item (count_ends_with (counted.Case _) (count_stmts ss)) (case_performed s c ss) exactly (cases_takes cs rest ok.2 exactly t))))))

-- the last byte of a body
body_ends : (body : Stmts) (spare : Spares) → let n = count_stmts body in
    judge (begun_at (awaiting.CountHigh counted.Body (n % 256)) (push_stmts body no_items) spare) (n / 256)
    ≡ taken (record { stage = complete body; stacks = no_items; spares = spare })
body_ends body spare =
    ap (λ l. after_lexing l (push_stmts body no_items) spare) (count_ends_with counted.Body (count_stmts body))
    ∙ ap (λ p. settled p spare) (body_performed no_items body)

pub written_is_taken : WrittenIsTaken
written_is_taken body spare ok =
    (stmts_takes body spare ok exactly (byte refl (byte refl (byte refl (byte (body_ends body spare) (record { all = refl })))))).all
