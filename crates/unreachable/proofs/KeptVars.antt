-- The `var` that keeps the names of dead statements, and the spare records for it.
use Rattle.std.proofs.Common.{◌≡◌, ℕ, ◌<◌, ◌≤◌, ◌≢◌, List, [], ◌∷◌, length, set, sym, refl, ap, arith}
use Rattle.pool.specs.Chain.{nowhere}
use Rattle.pool.specs.declared.Pool.{Pool}
use Rattle.script.specs.declared.DeclarationKind.TheVariants.{Var}
use Rattle.script.specs.declared.StatementKind.TheVariants as statement
use Rattle.script.specs.Tree.{Stmts, declaration}
use Rattle.records.specs.declared.record.DeclRecord.{DeclRecord}
use Rattle.records.specs.declared.record.ExprRecord.{ExprRecord}
use Rattle.records.specs.declared.record.Pools.{Pools}
use Rattle.records.specs.declared.record.StmtRecord.{StmtRecord}
use Rattle.records.specs.Embedding.{declarators_row, stmts_row}
use Rattle.records.specs.Heap.{Heap, Place, decl_at, expr_at, stmt_at, stmt_links}
use Rattle.records.specs.Owned.{Owns, Root}
use Rattle.records.specs.Readable.{tables}
use Rattle.records.proofs.Moves.{end_in}
use Rattle.records.proofs.Tallies.{equal, lengths, records_declarators_row, records_stmts_row}
use Rattle.run.specs.Names.{var_declared_list}
use Rattle.rules.specs.Statements.{push_all}
use Rattle.rules.specs.Unreachable.{bare_declarators, keep_declarations, lexical_declarations, note_hoisted_names, push_kept_vars}
use Rattle.rules.proofs.BudgetUnreachable.{bare_declarators_records, dead_and_kept, kept_statement, names_are_dead, noted_names, noted_statement}
use Rattle.rules.proofs.StatementMoves.{push_all_records}
use Rattle.moves.specs.Cells.{Took}
use Rattle.moves.specs.Moved.{Moved, Turns}
use Rattle.moves.proofs.Frames.{kept_both, then_move}
use Rattle.moves.proofs.Open.{close_stmt}
use Rattle.moves.proofs.Single.{take_stmt_of}
use Rattle.moves.proofs.Spared.{spared}

-- the record of the `var`
abbrev pub var_record : ℕ → ℕ → StmtRecord
var_record names results = record { kind = statement.Declaration Var; exprs = nowhere; stmts = nowhere; decls = names; next = results }

module _ {es : List ExprRecord} {stmts : List StmtRecord} {decls decls₁ : List DeclRecord} {p p₁ : Pools} {p₂ : Pool} {loose : List Place}
    {rest : List Root} {names results at : ℕ} where
  pub push_noted : (l : List ℕ) (r : Stmts) → length l ≢ 0 → length decls₁ ≡ length decls → (1 ≤ length l → 1 ≤ p.stmts.count)
      → Turns (tables es stmts decls) p (tables es stmts decls₁) p₁ [] [] ((decl_at names, declarators_row (bare_declarators l)) ∷ [])
      → Took (stmt_links stmts) p₁.stmts at p₂
      → Owns (tables es stmts decls) p loose ((stmt_at results, stmts_row r) ∷ rest)
      → Moved (tables es stmts decls) (tables es (set stmts at (var_record names results)) decls₁)
      (record { exprs = p₁.exprs; stmts = p₂; decls = p₁.decls }) loose ((stmt_at at, stmts_row (push_kept_vars l r)) ∷ rest)
  push_noted [] r ne same spare bares took o = absurd (ne refl)
  push_noted (n ∷ ns) r ne same spare bares took o =
      let m = bares loose ((stmt_at results, stmts_row r) ∷ rest) o in
      let lengths_same : lengths (tables es stmts decls) ≡ lengths (tables es stmts decls₁) =
      ap (λ (v : ℕ). record { exprs = length es; stmts = length stmts; decls = v }) (sym same) in
      let z = spared loose ((stmt_at results, stmts_row r) ∷ rest) [] [] ((decl_at names, declarators_row (bare_declarators (n ∷ ns))) ∷ []) lengths_same o
      m.owned in
      let y = z.stmts in
      let d = (records_declarators_row (bare_declarators (n ∷ ns))).stmts in
      let b = (bare_declarators_records (n ∷ ns)).stmts in
      let s = spare (omega arith) in
      let enough : 0 < p₁.stmts.count = omega arith in
      let o₁ = take_stmt_of at p₂ took enough m.owned in
      let q = close_stmt (declaration Var (bare_declarators (n ∷ ns))) (stmts_row r) (var_record names results) refl
      (end_in (expr_at nowhere) refl (end_in (stmt_at nowhere) refl o₁)) in
      record { owned = q.owned; kept = kept_both m.kept q.kept }

-- the names that are noted of dead statements
abbrev pub noted_of : Stmts → List ℕ
noted_of xs = note_hoisted_names (var_declared_list xs) []

-- enough is spare for them after the dead statements were given back
pub record EnoughForNames (xs : Stmts) (p : Pools) : Type 0 where
  pub decls : length (noted_of xs) ≤ p.decls.count
  pub stmts : 1 ≤ length (noted_of xs) → 1 ≤ p.stmts.count

pub enough_for_names : {h h₁ : Heap} {p p₁ : Pools} {loose : List Place} {rest : List Root} {row results kept : ℕ} (xs r : Stmts)
    → lengths h ≡ lengths h₁
    → Owns h p loose ((stmt_at row, stmts_row xs) ∷ (stmt_at results, stmts_row r) ∷ rest)
    → Owns h₁ p₁ loose ((stmt_at kept, stmts_row (push_all (lexical_declarations xs) r)) ∷ rest)
    → EnoughForNames xs p₁
enough_for_names {loose = loose} {rest} {row} {results} {kept} xs r same o o₁ =
    let z = spared loose rest [] ((stmt_at row, stmts_row xs) ∷ (stmt_at results, stmts_row r) ∷ [])
    ((stmt_at kept, stmts_row (push_all (lexical_declarations xs) r)) ∷ []) same o o₁ in
    let a = records_stmts_row xs in
    let b = records_stmts_row r in
    let c = records_stmts_row (push_all (lexical_declarations xs) r) in
    let d = push_all_records (lexical_declarations xs) r in
    let e = dead_and_kept xs in
    let f = names_are_dead xs in
    let g = noted_names (var_declared_list xs) [] in
    let s = noted_statement (var_declared_list xs) [] in
    record { decls = omega arith; stmts = λ n. (let k = some_kept (noted_of xs) n in omega arith) }
  where
    some_kept : (l : List ℕ) → 1 ≤ length l → 1 ≤ kept_statement l
    some_kept [] n = absurd (omega arith)
    some_kept (m ∷ l) n = omega arith

-- after the dead statements were given back, their names are kept
pub names_kept : {p p₁ p₂ : Pools} {loose : List Place} {rest : List Root} {row results kept at : ℕ} (h h₁ h₂ : Heap) (xs r : Stmts)
    → length h₁.exprs ≡ length h.exprs → length h₁.stmts ≡ length h.stmts → length h₁.decls ≡ length h.decls
    → Owns h p loose ((stmt_at row, stmts_row xs) ∷ (stmt_at results, stmts_row r) ∷ rest)
    → Moved h h₁ p₁ loose ((stmt_at kept, stmts_row (push_all (lexical_declarations xs) r)) ∷ rest)
    → (EnoughForNames xs p₁
    → Turns h₁ p₁ h₂ p₂ [] ((stmt_at kept, stmts_row (push_all (lexical_declarations xs) r)) ∷ []) ((stmt_at at, stmts_row (keep_declarations xs r)) ∷ []))
    → Moved h h₂ p₂ loose ((stmt_at at, stmts_row (keep_declarations xs r)) ∷ rest)
names_kept {loose = loose} {rest} h h₁ h₂ xs r a b c o m pushes =
    let same : lengths h ≡ lengths h₁ = equal (record { exprs = sym a; stmts = sym b; decls = sym c }) in
    then_move m (λ q. pushes (enough_for_names xs r same o q) loose rest q)
