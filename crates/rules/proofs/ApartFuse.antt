-- A body whose fusing opens no block is fused to one with no two expressions side by side.
use Rattle.std.proofs.Common.{◌≡◌, ℕ, zero, suc, ◌≤◌, true, sym, refl, ◌∙◌, subst, arith}
use Rattle.script.specs.Tree.{Stmts, Stmt, empty, expression, declaration, return_of, throw, if_then, block, while, do_while, for, switch}
use Rattle.script.specs.Tree.{break, continue, Cases, no_cases, case_then, Alternate, no_alternate, alternate, no_stmts, stmt_then}
use Rattle.rules.specs.Holder.{Holder, other_list, loop_block, body_list}
use Rattle.rules.specs.Statements.{push_all}
use Rattle.rules.specs.Jumps.{drop_last_jump}
use Rattle.rules.specs.Folding.{Context}
use Rattle.rules.specs.Minimize.{minimize_onto_with, minimize_onto, minimize_statements}
use Rattle.rules.specs.JumpCount.{jumps_list}
use Rattle.rules.specs.Fuse.{Setting, minimize_list, fuse_statement, fuse_cases, fuse_list, do_while_holder, fuse_alternate}
use Rattle.rules.specs.Opened.{opened_onto_with, opened_onto, opened_by_statements, opened_by_list, opened_in_statement, opened_in_alternate}
use Rattle.rules.specs.Opened.{opened_inside, opened_in_cases, opened_in_list}
use Rattle.rules.specs.Neighbours.{begins_with_expression, ApartStatement, ApartAlternate, Apart, ApartCases}
use Rattle.rules.specs.Laws.{NoNeighbours}
use Rattle.rules.proofs.Booleans.{and_false}
use Rattle.rules.proofs.NoMoreJumps.{push_all_no_more_jumps, minimize_onto_jumps}
use Rattle.rules.proofs.Depth.{minimize_onto_with_same}
use Rattle.rules.proofs.OpenedDepth.{opened_onto_with_same}
use Rattle.rules.proofs.ApartStatements.{EachApart}
use Rattle.rules.proofs.ApartIfs.{drop_last_jump_apart, in_source_order_apart}
use Rattle.rules.proofs.ApartMinimize.{KeepsApart, minimize_onto_with_apart}

-- the same work, but below level zero there is nothing: a list whose jumps are within its level never comes there
abbrev shallow_onto : ℕ → Context → Stmts → Stmts → Stmts
shallow_onto zero s todo r = minimize_onto_with s (λ todo₁ r₁. no_stmts) todo r
shallow_onto (suc n) s todo r = minimize_onto_with s (λ todo₁ r₁. shallow_onto n s todo₁ r₁) todo r

abbrev shallow_opened : ℕ → Context → Stmts → Stmts → ℕ
shallow_opened zero s todo r = opened_onto_with s (λ todo₁ r₁. no_stmts) (λ todo₁ r₁. 0) todo r
shallow_opened (suc n) s todo r =
    opened_onto_with s (λ todo₁ r₁. shallow_onto n s todo₁ r₁) (λ todo₁ r₁. shallow_opened n s todo₁ r₁) todo r

module _ (st : Context) where
  shallow_onto_same : (n : ℕ) (todo r : Stmts) → jumps_list todo ≤ n → minimize_onto n st todo r ≡ shallow_onto n st todo r
  shallow_onto_same zero todo r p =
      minimize_onto_with_same st (λ todo₁ r₁. push_all todo₁ r₁) (λ todo₁ r₁. no_stmts) push_all_no_more_jumps
      0 (λ todo₁ r₁ h. absurd (omega arith)) todo r p
  shallow_onto_same (suc n) todo r p =
      minimize_onto_with_same st (λ todo₁ r₁. minimize_onto n st todo₁ r₁) (λ todo₁ r₁. shallow_onto n st todo₁ r₁)
      (minimize_onto_jumps st n) (suc n) (λ todo₁ r₁ h. shallow_onto_same n todo₁ r₁ (omega arith)) todo r p

  shallow_opened_same : (n : ℕ) (todo r : Stmts) → jumps_list todo ≤ n → opened_onto n st todo r ≡ shallow_opened n st todo r
  shallow_opened_same zero todo r p =
      opened_onto_with_same st (λ todo₁ r₁. push_all todo₁ r₁) (λ todo₁ r₁. no_stmts) push_all_no_more_jumps
      0 (λ todo₁ r₁ h. absurd (omega arith)) (λ todo₁ r₁. 0) (λ todo₁ r₁. 0) (λ todo₁ r₁ h. refl) todo r p
  shallow_opened_same (suc n) todo r p =
      opened_onto_with_same st (λ todo₁ r₁. minimize_onto n st todo₁ r₁) (λ todo₁ r₁. shallow_onto n st todo₁ r₁)
      (minimize_onto_jumps st n) (suc n) (λ todo₁ r₁ h. shallow_onto_same n todo₁ r₁ (omega arith))
      (λ todo₁ r₁. opened_onto n st todo₁ r₁) (λ todo₁ r₁. shallow_opened n st todo₁ r₁)
      (λ todo₁ r₁ h. shallow_opened_same n todo₁ r₁ (omega arith)) todo r p

  module _ (on : st.sequences ≡ true) where
    shallow_apart : (n : ℕ) → KeepsApart (λ todo r. shallow_onto n st todo r) (λ todo r. shallow_opened n st todo r)
    shallow_apart zero todo r p q z =
        minimize_onto_with_apart st on (λ todo₁ r₁. no_stmts) (λ todo₁ r₁. 0) (λ todo₁ r₁ p₁ q₁ z₁. tt) todo r p q z
    shallow_apart (suc n) todo r p q z =
        minimize_onto_with_apart st on (λ todo₁ r₁. shallow_onto n st todo₁ r₁) (λ todo₁ r₁. shallow_opened n st todo₁ r₁)
        (shallow_apart n) todo r p q z

    minimize_statements_apart : (n : ℕ) (ss : Stmts) → jumps_list ss ≤ n → EachApart ss → opened_by_statements n st ss ≡ 0
        → Apart (minimize_statements n st ss)
    minimize_statements_apart n ss b p z =
        let r : Stmts = drop_last_jump st.holder (minimize_onto n st ss no_stmts) in
        let q : Apart (minimize_onto n st ss no_stmts) =
        subst Apart (sym (shallow_onto_same n ss no_stmts b))
        (shallow_apart n ss no_stmts p tt (sym (shallow_opened_same n ss no_stmts b) ∙ z)) in
        in_source_order_apart r no_stmts (drop_last_jump_apart st.holder (minimize_onto n st ss no_stmts) q) tt
        (and_false (begins_with_expression r))

module _ (m : Setting) (on : m.sequences ≡ true) where
  minimize_list_apart : (h : Holder) (ss : Stmts) → EachApart ss → opened_by_list m h ss ≡ 0 → Apart (minimize_list m h ss)
  minimize_list_apart h ss p z =
      minimize_statements_apart (record { sequences = m.sequences; join_vars = m.join_vars; host = m.host; holder = h }) on
      (jumps_list ss) ss (omega arith) p z

  mutual
    fuse_statement_apart : (x : Stmt) (h : Holder) → opened_in_statement m h x ≡ 0 → ApartStatement (fuse_statement m h x)
    fuse_statement_apart empty h z = tt
    fuse_statement_apart (expression e) h z = tt
    fuse_statement_apart (declaration k ds) h z = tt
    fuse_statement_apart (return_of v) h z = tt
    fuse_statement_apart (throw e) h z = tt
    fuse_statement_apart (if_then t c a) h z = (fuse_statement_apart c other_list (omega arith), fuse_alternate_apart a (omega arith))
    fuse_statement_apart (block ss) h z = minimize_list_apart h (fuse_list m ss) (fuse_list_apart ss (omega arith)) (omega arith)
    fuse_statement_apart (while t b) h z = fuse_statement_apart b loop_block z
    fuse_statement_apart (do_while b t) h z = fuse_statement_apart b (do_while_holder (m.host.truth t)) z
    fuse_statement_apart (for i t u b) h z = fuse_statement_apart b loop_block z
    fuse_statement_apart (switch d cs) h z = fuse_cases_apart cs z
    fuse_statement_apart break h z = tt
    fuse_statement_apart continue h z = tt

    fuse_alternate_apart : (a : Alternate) → opened_in_alternate m a ≡ 0 → ApartAlternate (fuse_alternate m a)
    fuse_alternate_apart no_alternate z = tt
    fuse_alternate_apart (alternate x) z = fuse_statement_apart x other_list z

    fuse_list_apart : (ss : Stmts) → opened_inside m ss ≡ 0 → EachApart (fuse_list m ss)
    fuse_list_apart no_stmts z = tt
    fuse_list_apart (stmt_then x xs) z = (fuse_statement_apart x other_list (omega arith), fuse_list_apart xs (omega arith))

    fuse_cases_apart : (cs : Cases) → opened_in_cases m cs ≡ 0 → ApartCases (fuse_cases m cs)
    fuse_cases_apart no_cases z = tt
    fuse_cases_apart (case_then t ss cs) z = (
      minimize_list_apart other_list (fuse_list m ss) (fuse_list_apart ss (omega arith)) (omega arith),
      fuse_cases_apart cs (omega arith),
    )

  -- the same of a list that h holds
  pub list_apart : (h : Holder) (ss : Stmts) → opened_in_list m h ss ≡ 0 → Apart (minimize_list m h (fuse_list m ss))
  list_apart h ss z = minimize_list_apart h (fuse_list m ss) (fuse_list_apart ss (omega arith)) (omega arith)

pub no_neighbours : NoNeighbours
no_neighbours m on body z = list_apart m on body_list body z
