-- What is told of a statement by its parts.
use mathlib.Core.Path.{◌≡◌, ◌∙◌, ap, refl, subst, sym}
use mathlib.Core.Bool.{Bool, ◌&&◌, ◌||◌, false, true}
use mathlib.Core.List.{List}
use Prim.Native.Nat.{ℕ, ◌+◌, ◌-◌, ◌≤◌}
use native.Mathlib.Omega.{arith}
use lib.ListN.{get_or}
use Rattle.pool.specs.Chain.{nowhere}
use Rattle.script.specs.declared.StatementKind.TheVariants as statement
use Rattle.script.specs.Sound.{records_alternate, records_stmt, records_stmts}
use Rattle.script.specs.Tree.{Alternate, OptionalExpr, Stmt, Stmts, absent, alternate, block, if_then, no_alternate, no_stmts, present, return_of, stmt_then}
use Rattle.records.specs.declared.record.StmtRecord.{StmtRecord}
use Rattle.records.specs.Embedding.{alternate_row, optional_row, stmt_row, stmts_row}
use Rattle.records.specs.Heap.{Heap, blank_stmt, expr_at, stmt_at}
use Rattle.records.specs.Owned.{Short}
use Rattle.records.specs.Readable.{tables}
use Rattle.records.specs.Rows.{At, Row, end}
use Rattle.rules.specs.Holder.{Holder}
use Rattle.rules.specs.Jumps.{can_remove_termination_statement, drops_return}
use Rattle.rules.specs.Statements.{is_terminated, is_terminated_alternate, is_terminated_list}
use Rattle.rules.specs.Switches.{has_nested_break, has_nested_break_in_alternate, has_nested_break_in_list}
use Rattle.moves.proofs.ByKind.{stmt_of_kind}
use Rattle.moves.proofs.Told.{told_expr_within, told_stmt_exprs, told_stmt_kind, told_stmt_next, told_stmt_stmts, told_stmt_within}
use Rattle.predicates.specs.Within.{TellsBranchesWithin, TellsStmtWithin, TellsStmtsWithin}
use Rattle.rules.proofs.BudgetUnreachable.{some_statement}

-- the branches of an if as a list
abbrev branches : Stmt → Alternate → Stmts
branches c no_alternate = stmt_then c no_stmts
branches c (alternate s) = stmt_then c (stmt_then s no_stmts)

branches_row : (c : Stmt) (a : Alternate) → stmt_row c (alternate_row a) ≡ stmts_row (branches c a)
branches_row c no_alternate = refl
branches_row c (alternate s) = refl

branches_records : (c : Stmt) (a : Alternate) → (records_stmts (branches c a)).stmts ≡ (records_stmt c).stmts + (records_alternate a).stmts
branches_records c no_alternate = omega arith
branches_records c (alternate s) = omega arith

or_false : (b : Bool) → (b || false) ≡ b
or_false true = refl
or_false false = refl

and_false : (b : Bool) → (b && false) ≡ false
and_false true = refl
and_false false = refl

branches_break : (c : Stmt) (a : Alternate) → has_nested_break_in_list (branches c a) ≡ (has_nested_break c || has_nested_break_in_alternate a)
branches_break c no_alternate = refl
branches_break c (alternate s) = ap (λ (b : Bool). has_nested_break c || b) (or_false (has_nested_break s))

-- no statement is told of within none
pub within_none : {A : Type 0} (fact : Stmt → A) (stmts : List StmtRecord) (at bound : ℕ) (b : A) → (1 ≤ bound → ⊥) → TellsStmtWithin fact stmts at bound b
within_none fact stmts at bound b z es ds x w s a n l = let q = some_statement x in absurd (z (omega arith))

module _ (stmts : List StmtRecord) (at bound left : ℕ) (r : StmtRecord) (read : r ≡ get_or stmts at blank_stmt) (some : (1 ≤ bound) × (left ≡ bound - 1)) where
  -- a statement of this kind is told of by its row of statements
  pub if_terminated : {b : Bool} → r.kind ≡ statement.If
      → TellsBranchesWithin (λ c a. is_terminated c && is_terminated_alternate a) stmts r.stmts left b
      → TellsStmtWithin is_terminated stmts at bound b
  if_terminated k f es ds x w s a n l =
      let q = stmt_of_kind x (sym k ∙ told_stmt_kind (tables es stmts ds) at x w read a) in
      let e = q.3 in
      let y = if_then q.0 q.1 q.2 in
      let a' = subst (λ (v : Stmt). At (tables es stmts ds) (stmt_at at) (stmt_row v w)) e a in
      let n' = subst (λ (v : Stmt). (records_stmt v).stmts ≤ bound) e n in
      let o = some.0 in
      let p = some.1 in
      f es ds q.1 q.2 s (told_stmt_stmts (tables es stmts ds) at y w read a') (omega arith) (omega arith) ∙ ap is_terminated (sym e)

  pub block_terminated : {b : Bool} → r.kind ≡ statement.Block → TellsStmtsWithin is_terminated_list stmts r.stmts left b
      → TellsStmtWithin is_terminated stmts at bound b
  block_terminated k f es ds x w s a n l =
      let q = stmt_of_kind x (sym k ∙ told_stmt_kind (tables es stmts ds) at x w read a) in
      let e = q.1 in
      let y = block q.0 in
      let a' = subst (λ (v : Stmt). At (tables es stmts ds) (stmt_at at) (stmt_row v w)) e a in
      let n' = subst (λ (v : Stmt). (records_stmt v).stmts ≤ bound) e n in
      let o = some.0 in
      let p = some.1 in
      f es ds q.0 s (told_stmt_stmts (tables es stmts ds) at y w read a') (omega arith) (omega arith) ∙ ap is_terminated (sym e)

  pub if_breaks : {b : Bool} → r.kind ≡ statement.If → TellsStmtsWithin has_nested_break_in_list stmts r.stmts left b
      → TellsStmtWithin has_nested_break stmts at bound b
  if_breaks k f es ds x w s a n l =
      let q = stmt_of_kind x (sym k ∙ told_stmt_kind (tables es stmts ds) at x w read a) in
      let e = q.3 in
      let y = if_then q.0 q.1 q.2 in
      let a' = subst (λ (v : Stmt). At (tables es stmts ds) (stmt_at at) (stmt_row v w)) e a in
      let n' = subst (λ (v : Stmt). (records_stmt v).stmts ≤ bound) e n in
      let o = some.0 in
      let p = some.1 in
      let m = branches_records q.1 q.2 in
      f es ds (branches q.1 q.2) s
      (subst (λ (v : Row). At (tables es stmts ds) (stmt_at r.stmts) v) (branches_row q.1 q.2) (told_stmt_stmts (tables es stmts ds) at y w read a'))
      (omega arith) (omega arith)
      ∙ branches_break q.1 q.2 ∙ ap has_nested_break (sym e)

  pub block_breaks : {b : Bool} → r.kind ≡ statement.Block → TellsStmtsWithin has_nested_break_in_list stmts r.stmts left b
      → TellsStmtWithin has_nested_break stmts at bound b
  block_breaks k f es ds x w s a n l =
      let q = stmt_of_kind x (sym k ∙ told_stmt_kind (tables es stmts ds) at x w read a) in
      let e = q.1 in
      let y = block q.0 in
      let a' = subst (λ (v : Stmt). At (tables es stmts ds) (stmt_at at) (stmt_row v w)) e a in
      let n' = subst (λ (v : Stmt). (records_stmt v).stmts ≤ bound) e n in
      let o = some.0 in
      let p = some.1 in
      f es ds q.0 s (told_stmt_stmts (tables es stmts ds) at y w read a') (omega arith) (omega arith) ∙ ap has_nested_break (sym e)

-- the branches of an if, where the first was read
module _ (stmts : List StmtRecord) (row bound : ℕ) (r : StmtRecord) (read : r ≡ get_or stmts row blank_stmt) where
  pub one_branch : r.next ≡ nowhere → TellsBranchesWithin (λ c a. is_terminated c && is_terminated_alternate a) stmts row bound false
  one_branch z es ds c no_alternate s a n l = sym (and_false (is_terminated c))
  one_branch z es ds c (alternate x) s a n l =
      let b = told_stmt_next (tables es stmts ds) row c (stmt_row x end) read a in
      let v = told_stmt_within (tables es stmts ds) r.next x end refl b in
      let u = s.stmts in
      absurd (omega arith)

  pub first_goes_on : TellsStmtWithin is_terminated stmts row bound false
      → TellsBranchesWithin (λ c a. is_terminated c && is_terminated_alternate a) stmts row bound false
  first_goes_on f es ds c a s t n l =
      ap (λ (b : Bool). b && is_terminated_alternate a) (f es ds c (alternate_row a) s t (omega arith) l)

  pub second_tells : {b : Bool} → (r.next ≡ nowhere → ⊥) → TellsStmtWithin is_terminated stmts row bound true
      → TellsStmtWithin is_terminated stmts r.next bound b
      → TellsBranchesWithin (λ c a. is_terminated c && is_terminated_alternate a) stmts row bound b
  second_tells ne f g es ds c no_alternate s t n l = absurd (ne (told_stmt_next (tables es stmts ds) row c end read t))
  second_tells ne f g es ds c (alternate x) s t n l =
      g es ds x end s (told_stmt_next (tables es stmts ds) row c (stmt_row x end) read t) (omega arith) l
      ∙ ap (λ (b : Bool). b && is_terminated x) (f es ds c (stmt_row x end) s t (omega arith) l)

-- a return without a value
module _ (h : Holder) (heap : Heap) (at : ℕ) (r : StmtRecord) (read : r ≡ get_or heap.stmts at blank_stmt) (x : Stmt) (w : Row) (s : Short heap)
    (a : At heap (stmt_at at) (stmt_row x w)) (k : r.kind ≡ statement.Return) where
  returns : (v : OptionalExpr) × (x ≡ return_of v)
  returns = stmt_of_kind x (sym k ∙ told_stmt_kind heap at x w read a)

  value : (v : OptionalExpr) → x ≡ return_of v → At heap (expr_at r.exprs) (optional_row v end)
  value v e = told_stmt_exprs heap at (return_of v) w read (subst (λ (u : Stmt). At heap (stmt_at at) (stmt_row u w)) e a)

  pub return_goes : r.exprs ≡ nowhere → drops_return h ≡ can_remove_termination_statement h x
  return_goes z = by returns.0 returns.1
    where
      by : (v : OptionalExpr) → x ≡ return_of v → drops_return h ≡ can_remove_termination_statement h x
      by absent e = ap (can_remove_termination_statement h) (sym e)
      by (present y) e =
          let b = told_expr_within heap r.exprs y end refl (value (present y) e) in let u = s.exprs in absurd (omega arith)
