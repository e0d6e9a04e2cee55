-- What holds of the three tables.
use Rattle.std.proofs.Common.{◌≡◌, ℕ, ◌⊎◌, inl, inr, sym, refl, ap, rules}
use Rattle.records.specs.declared.record.DeclRecord.{DeclRecord}
use Rattle.records.specs.declared.record.ExprRecord.{ExprRecord}
use Rattle.records.specs.declared.record.StmtRecord.{StmtRecord}
use Rattle.records.specs.Heap.{Label, Place, decl_at, expr_at, stmt_at}
use Rattle.records.specs.TableOf.{Elsewhere, Tabled, decl_table, expr_table, of_label, stmt_table}
use Rattle.records.specs.Turning.{decl_next, decl_relinked, expr_next, expr_relinked, stmt_next, stmt_relinked}

expr_or_elsewhere : (k : Place) → ((i : ℕ) × (k ≡ expr_at i)) ⊎ Elsewhere expr_table k
expr_or_elsewhere (expr_at j) = inl (j, refl)
expr_or_elsewhere (stmt_at j) = inr (search rules)
expr_or_elsewhere (decl_at j) = inr (search rules)

pub exprs_tabled : Tabled ExprRecord expr_table expr_next expr_relinked
exprs_tabled = record {
  nowhere_in = λ i e. e;
  nowhere_out = λ i e. e;
  within_in = λ h i v. v;
  within_out = λ h i v. v;
  sames = λ i j. refl;
  each = expr_or_elsewhere;
  cells = λ h i. refl;
  links = λ x. refl;
  link_relinked = λ x n. refl;
  relinks = λ x n. refl;
  table_with = λ h xs. refl;
  with_with = λ h xs ys. refl;
  pool_with = λ p q. refl;
  short = λ h s. s.exprs;
  short_with = λ h xs s l. record { exprs = l; stmts = s.stmts; decls = s.decls };
  spares = λ h p i. refl;
  chain = λ h p c. c.exprs;
  chains_table = λ h p xs c l. record { exprs = l; stmts = c.stmts; decls = c.decls };
  chains_pool = λ h p q c l. record { exprs = l; stmts = c.stmts; decls = c.decls };
  counts_plus = λ a b. refl;
  counts_all = λ h. refl;
  counts_one = λ h i l e. ap (λ (v : Label). (of_label v).exprs) (sym e);
}

stmt_or_elsewhere : (k : Place) → ((i : ℕ) × (k ≡ stmt_at i)) ⊎ Elsewhere stmt_table k
stmt_or_elsewhere (expr_at j) = inr (search rules)
stmt_or_elsewhere (stmt_at j) = inl (j, refl)
stmt_or_elsewhere (decl_at j) = inr (search rules)

pub stmts_tabled : Tabled StmtRecord stmt_table stmt_next stmt_relinked
stmts_tabled = record {
  nowhere_in = λ i e. e;
  nowhere_out = λ i e. e;
  within_in = λ h i v. v;
  within_out = λ h i v. v;
  sames = λ i j. refl;
  each = stmt_or_elsewhere;
  cells = λ h i. refl;
  links = λ x. refl;
  link_relinked = λ x n. refl;
  relinks = λ x n. refl;
  table_with = λ h xs. refl;
  with_with = λ h xs ys. refl;
  pool_with = λ p q. refl;
  short = λ h s. s.stmts;
  short_with = λ h xs s l. record { exprs = s.exprs; stmts = l; decls = s.decls };
  spares = λ h p i. refl;
  chain = λ h p c. c.stmts;
  chains_table = λ h p xs c l. record { exprs = c.exprs; stmts = l; decls = c.decls };
  chains_pool = λ h p q c l. record { exprs = c.exprs; stmts = l; decls = c.decls };
  counts_plus = λ a b. refl;
  counts_all = λ h. refl;
  counts_one = λ h i l e. ap (λ (v : Label). (of_label v).stmts) (sym e);
}

decl_or_elsewhere : (k : Place) → ((i : ℕ) × (k ≡ decl_at i)) ⊎ Elsewhere decl_table k
decl_or_elsewhere (expr_at j) = inr (search rules)
decl_or_elsewhere (stmt_at j) = inr (search rules)
decl_or_elsewhere (decl_at j) = inl (j, refl)

pub decls_tabled : Tabled DeclRecord decl_table decl_next decl_relinked
decls_tabled = record {
  nowhere_in = λ i e. e;
  nowhere_out = λ i e. e;
  within_in = λ h i v. v;
  within_out = λ h i v. v;
  sames = λ i j. refl;
  each = decl_or_elsewhere;
  cells = λ h i. refl;
  links = λ x. refl;
  link_relinked = λ x n. refl;
  relinks = λ x n. refl;
  table_with = λ h xs. refl;
  with_with = λ h xs ys. refl;
  pool_with = λ p q. refl;
  short = λ h s. s.decls;
  short_with = λ h xs s l. record { exprs = s.exprs; stmts = s.stmts; decls = l };
  spares = λ h p i. refl;
  chain = λ h p c. c.decls;
  chains_table = λ h p xs c l. record { exprs = c.exprs; stmts = c.stmts; decls = l };
  chains_pool = λ h p q c l. record { exprs = c.exprs; stmts = c.stmts; decls = l };
  counts_plus = λ a b. refl;
  counts_all = λ h. refl;
  counts_one = λ h i l e. ap (λ (v : Label). (of_label v).decls) (sym e);
}
