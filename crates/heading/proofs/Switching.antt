-- What is owned after a `switch` was worked.
use Rattle.std.proofs.Common.{◌≡◌, ℕ, Bool, true, false, not as negated, ◌&&◌, T, ◌≢◌, List, [], ◌∷◌, get_or, set, sym, refl, subst}
use Rattle.pool.specs.Chain.{nowhere}
use Rattle.script.specs.declared.StatementKind.TheVariants as kind
use Rattle.script.specs.Tree.{Cases, Expr, Stmt, Stmts, absent, case_then, no_alternate, no_cases, no_stmts, present, stmt_then, strict_equality}
use Rattle.script.specs.Tree.{block, break, continue, declaration, do_while, empty, expression, for, if_then, return_of, switch, throw, while}
use Rattle.records.specs.declared.record.DeclRecord.{DeclRecord}
use Rattle.records.specs.declared.record.ExprRecord.{ExprRecord}
use Rattle.records.specs.declared.record.Pools.{Pools}
use Rattle.records.specs.declared.record.StmtRecord.{StmtRecord}
use Rattle.records.specs.Embedding.{cases_row, expr_row, stmt_row, stmts_row}
use Rattle.records.specs.Heap.{Heap, Place, blank_stmt, decl_at, expr_at, stmt_at}
use Rattle.records.specs.Owned.{Owns, Root}
use Rattle.records.specs.Readable.{tables}
use Rattle.records.specs.Rows.{Row, end}
use Rattle.records.proofs.Moves.{end_in, end_out, opened, pick}
use Rattle.rules.specs.Literals.{is_literal}
use Rattle.rules.specs.Switches.{case_block, has_nested_break_in_list, inline_switch_case, one_case?, one_test?, push_discriminant}
use Rattle.moves.specs.Moved.{Moved, Turns}
use Rattle.moves.proofs.Frames.{arrange, then_move, then_use}
use Rattle.moves.proofs.Open.{close_stmt}
use Rattle.heading.specs.Cases.{inlines, is_one_block}
use Rattle.heading.proofs.Pushing.{block_closed, block_record}
use Rattle.heading.proofs.Told.{expr_somewhere}
use Rattle.heading.proofs.Newest.{no_way}

-- the list of a case as a block

pub block_already : (xs : Stmts) → is_one_block xs ≡ true → stmts_row xs ≡ stmt_row (case_block xs) end
block_already no_stmts e = no_way e
block_already (stmt_then empty no_stmts) e = no_way e
block_already (stmt_then (expression x) no_stmts) e = no_way e
block_already (stmt_then (declaration k ds) no_stmts) e = no_way e
block_already (stmt_then (return_of v) no_stmts) e = no_way e
block_already (stmt_then (throw x) no_stmts) e = no_way e
block_already (stmt_then (if_then t c a) no_stmts) e = no_way e
block_already (stmt_then (block ss) no_stmts) e = refl
block_already (stmt_then (while t b) no_stmts) e = no_way e
block_already (stmt_then (do_while b t) no_stmts) e = no_way e
block_already (stmt_then (for i t u b) no_stmts) e = no_way e
block_already (stmt_then (switch d cs) no_stmts) e = no_way e
block_already (stmt_then break no_stmts) e = no_way e
block_already (stmt_then continue no_stmts) e = no_way e
block_already (stmt_then x (stmt_then y ys)) e = no_way e

pub block_anew : (xs : Stmts) → is_one_block xs ≡ false → case_block xs ≡ block xs
block_anew no_stmts e = refl
block_anew (stmt_then empty no_stmts) e = refl
block_anew (stmt_then (expression x) no_stmts) e = refl
block_anew (stmt_then (declaration k ds) no_stmts) e = refl
block_anew (stmt_then (return_of v) no_stmts) e = refl
block_anew (stmt_then (throw x) no_stmts) e = refl
block_anew (stmt_then (if_then t c a) no_stmts) e = refl
block_anew (stmt_then (block ss) no_stmts) e = no_way (sym e)
block_anew (stmt_then (while t b) no_stmts) e = refl
block_anew (stmt_then (do_while b t) no_stmts) e = refl
block_anew (stmt_then (for i t u b) no_stmts) e = refl
block_anew (stmt_then (switch d cs) no_stmts) e = refl
block_anew (stmt_then break no_stmts) e = refl
block_anew (stmt_then continue no_stmts) e = refl
block_anew (stmt_then x (stmt_then y ys)) e = refl

pub case_given : {h h₁ : Heap} {p₁ : Pools} {loose : List Place} {rest : List Root} {list : ℕ} (xs : Stmts) → is_one_block xs ≡ true
    → Moved h h₁ p₁ loose ((stmt_at list, stmts_row xs) ∷ rest) → Moved h h₁ p₁ loose ((stmt_at list, stmt_row (case_block xs) end) ∷ rest)
case_given {h} {h₁} {p₁} {loose} {rest} {list} xs e m =
    subst (λ (w : Row). Moved h h₁ p₁ loose ((stmt_at list, w) ∷ rest)) (block_already xs e) m

pub case_becomes : {es : List ExprRecord} {stmts : List StmtRecord} {ds : List DeclRecord} {p : Pools} {loose : List Place} {rest : List Root} {at list : ℕ}
    (xs : Stmts) → is_one_block xs ≡ false → Owns (tables es stmts ds) p (stmt_at at ∷ loose) ((stmt_at list, stmts_row xs) ∷ rest)
    → Moved (tables es stmts ds) (tables es (set stmts at (block_record list nowhere)) ds) p loose ((stmt_at at, stmt_row (case_block xs) end) ∷ rest)
case_becomes {es} {stmts} {ds} {p} {loose} {rest} {at} {list} xs e o =
    subst (λ (x : Stmt). Moved (tables es stmts ds) (tables es (set stmts at (block_record list nowhere)) ds) p loose ((stmt_at at, stmt_row x end) ∷ rest))
    (sym (block_anew xs e)) (block_closed xs end (pick 1 (end_in (stmt_at nowhere) refl o)))

-- an `if` with a test and a branch
abbrev pub if_record : ℕ → ℕ → ℕ → StmtRecord
if_record test branch next = record { kind = kind.If; exprs = test; stmts = branch; decls = nowhere; next = next }

pub if_closed : {es : List ExprRecord} {stmts : List StmtRecord} {ds : List DeclRecord} {p : Pools} {loose : List Place} {rest : List Root}
    {at test branch next : ℕ}
    (t : Expr) (x : Stmt) (w : Row)
    → Owns (tables es stmts ds) p (stmt_at at ∷ loose) ((stmt_at branch, stmt_row x end) ∷ (expr_at test, expr_row t end) ∷ (stmt_at next, w) ∷ rest)
    → Moved (tables es stmts ds) (tables es (set stmts at (if_record test branch next)) ds) p loose
    ((stmt_at at, stmt_row (if_then t x no_alternate) w) ∷ rest)
if_closed {test = test} {branch = branch} {next = next} t x w o =
    close_stmt (if_then t x no_alternate) w (if_record test branch next) refl (arrange (2 ∷ 1 ∷ 0 ∷ []) (end_in (decl_at nowhere) refl o))

-- a switch as it is
abbrev pub switch_record : ℕ → ℕ → ℕ → StmtRecord
switch_record discriminant cases next = record { kind = kind.Switch; exprs = discriminant; stmts = cases; decls = nowhere; next = next }

pub switch_closed : {es : List ExprRecord} {stmts : List StmtRecord} {ds : List DeclRecord} {p : Pools} {loose : List Place} {rest : List Root}
    {at discriminant cases next : ℕ} (d : Expr) (cs : Cases) (w : Row)
    → Owns (tables es stmts ds) p (stmt_at at ∷ loose) ((expr_at discriminant, expr_row d end) ∷ (stmt_at cases, cases_row cs) ∷ (stmt_at next, w) ∷ rest)
    → Moved (tables es stmts ds) (tables es (set stmts at (switch_record discriminant cases next)) ds) p loose
    ((stmt_at at, stmt_row (switch d cs) w) ∷ rest)
switch_closed {discriminant = discriminant} {cases = cases} {next = next} d cs w o =
    close_stmt (switch d cs) w (switch_record discriminant cases next) refl (arrange (1 ∷ 1 ∷ 0 ∷ []) (end_in (decl_at nowhere) refl o))

-- the rule on cases that are not inlined, on a test and on a default

test_stays : (q : Bool) (d e : Expr) (ss r : Stmts) (b : Bool) (t : T b → T (is_literal e)) → (negated (has_nested_break_in_list ss) && b) ≡ false
    → inline_switch_case q d (one_test? b e t ss) r ≡ stmt_then (switch d (case_then (present e) ss no_cases)) r
test_stays q d e ss r true t n = by (has_nested_break_in_list ss) refl n
  where
    by : (m : Bool) → has_nested_break_in_list ss ≡ m → (negated m && true) ≡ false
        → inline_switch_case q d (one_test? true e t ss) r ≡ stmt_then (switch d (case_then (present e) ss no_cases)) r
    by true z k = rw z refl
    by false z k = no_way (sym k)
test_stays q d e ss r false t n = refl

pub cases_stay : (q : Bool) (d : Expr) (cs : Cases) (r : Stmts) → inlines cs ≡ false → inline_switch_case q d (one_case? cs) r ≡ stmt_then (switch d cs) r
cases_stay q d no_cases r n = refl
cases_stay q d (case_then absent ss no_cases) r n = by (has_nested_break_in_list ss) refl n
  where
    by : (m : Bool) → has_nested_break_in_list ss ≡ m → (negated m && true) ≡ false
        → inline_switch_case q d (one_case? (case_then absent ss no_cases)) r ≡ stmt_then (switch d (case_then absent ss no_cases)) r
    by true z k = rw z refl
    by false z k = no_way (sym k)
cases_stay q d (case_then (present e) ss no_cases) r n = test_stays q d e ss r (is_literal e) (λ t. t) n
cases_stay q d (case_then v ss (case_then u ts cs)) r n = refl

both : (m b : Bool) → (negated m && b) ≡ true → (m ≡ false) × (b ≡ true)
both true b e = no_way e
both false b e = (refl, e)

test_goes : (q : Bool) (d e : Expr) (ss r : Stmts) (b : Bool) (t : T b → T (is_literal e)) → b ≡ true → has_nested_break_in_list ss ≡ false
    → inline_switch_case q d (one_test? b e t ss) r ≡ stmt_then (if_then (strict_equality d e) (case_block ss) no_alternate) r
test_goes q d e ss r true t l n = rw n refl
test_goes q d e ss r false t l n = no_way l

default_goes : (q : Bool) (d : Expr) (ss r : Stmts) → has_nested_break_in_list ss ≡ false
    → inline_switch_case q d (one_case? (case_then absent ss no_cases)) r ≡ stmt_then (case_block ss) (push_discriminant q (is_literal d) d r)
default_goes q d ss r n = rw n refl

pub in_stays : {exprs : List ExprRecord} {stmts : List StmtRecord} {ds : List DeclRecord} {p : Pools} {loose : List Place} {rest : List Root}
    {at discriminant cases results : ℕ} (q : Bool) (d : Expr) (cs : Cases) (r : Stmts) → inlines cs ≡ false
    → Owns (tables exprs stmts ds) p (stmt_at at ∷ loose)
    ((expr_at discriminant, expr_row d end) ∷ (stmt_at cases, cases_row cs) ∷ (stmt_at results, stmts_row r) ∷ rest)
    → Moved (tables exprs stmts ds) (tables exprs (set stmts at (switch_record discriminant cases results)) ds) p loose
    ((stmt_at at, stmts_row (inline_switch_case q d (one_case? cs) r)) ∷ rest)
in_stays {exprs} {stmts} {ds} {p} {loose} {rest} {at} {discriminant} {cases} {results} q d cs r n o =
    subst (λ (xs : Stmts). Moved (tables exprs stmts ds) (tables exprs (set stmts at (switch_record discriminant cases results)) ds) p loose
    ((stmt_at at, stmts_row xs) ∷ rest)) (sym (cases_stay q d cs r n)) (switch_closed d cs (stmts_row r) o)

module _ {exprs exprs₁ : List ExprRecord} {stmts stmts₁ : List StmtRecord} {ds : List DeclRecord} {p p₁ : Pools} {loose : List Place} {rest : List Root}
    {at discriminant cases results : ℕ} where
  pub in_default : (res : ℕ) (q : Bool) (d : Expr) (cs : Cases) (r : Stmts) → inlines cs ≡ true → (get_or stmts cases blank_stmt).exprs ≡ nowhere
      → ((xs : Stmts) → Turns (tables exprs stmts ds) p (tables exprs₁ stmts₁ ds) p₁ (stmt_at cases ∷ stmt_at at ∷ [])
      ((expr_at discriminant, expr_row d end) ∷ (stmt_at (get_or stmts cases blank_stmt).stmts, stmts_row xs) ∷ (stmt_at results, stmts_row r) ∷ [])
      ((stmt_at res, stmt_row (case_block xs) (stmts_row (push_discriminant q (is_literal d) d r))) ∷ []))
      → Owns (tables exprs stmts ds) p (stmt_at at ∷ loose)
      ((expr_at discriminant, expr_row d end) ∷ (stmt_at cases, cases_row cs) ∷ (stmt_at results, stmts_row r) ∷ rest)
      → Moved (tables exprs stmts ds) (tables exprs₁ stmts₁ ds) p₁ loose ((stmt_at res, stmts_row (inline_switch_case q d (one_case? cs) r)) ∷ rest)
  in_default res q d no_cases r n z f o = no_way n
  in_default res q d (case_then absent ss no_cases) r n z f o =
      subst (λ (xs : Stmts). Moved (tables exprs stmts ds) (tables exprs₁ stmts₁ ds) p₁ loose ((stmt_at res, stmts_row xs) ∷ rest))
      (sym (default_goes q d ss r (both (has_nested_break_in_list ss) true n).0))
      (f ss loose rest (pick 1 (end_out (pick 1 (end_out (pick 1 (end_out (opened (pick 1 o)))))))))
  in_default res q d (case_then (present e) ss no_cases) r n z f o =
      absurd (expr_somewhere (tables exprs stmts ds) (get_or stmts cases blank_stmt).exprs e end o.short o.held.1.0.2 z)
  in_default res q d (case_then v ss (case_then u ts cs)) r n z f o = no_way n

  pub in_test : (q : Bool) (d : Expr) (cs : Cases) (r : Stmts) → inlines cs ≡ true → (get_or stmts cases blank_stmt).exprs ≢ nowhere
      → ((e : Expr) (xs : Stmts) → Turns (tables exprs stmts ds) p (tables exprs₁ stmts₁ ds) p₁ (stmt_at cases ∷ stmt_at at ∷ [])
      ((expr_at discriminant, expr_row d end) ∷ (expr_at (get_or stmts cases blank_stmt).exprs, expr_row e end)
      ∷ (stmt_at (get_or stmts cases blank_stmt).stmts, stmts_row xs) ∷ (stmt_at results, stmts_row r) ∷ [])
      ((stmt_at at, stmt_row (if_then (strict_equality d e) (case_block xs) no_alternate) (stmts_row r)) ∷ []))
      → Owns (tables exprs stmts ds) p (stmt_at at ∷ loose)
      ((expr_at discriminant, expr_row d end) ∷ (stmt_at cases, cases_row cs) ∷ (stmt_at results, stmts_row r) ∷ rest)
      → Moved (tables exprs stmts ds) (tables exprs₁ stmts₁ ds) p₁ loose ((stmt_at at, stmts_row (inline_switch_case q d (one_case? cs) r)) ∷ rest)
  in_test q d no_cases r n ne f o = no_way n
  in_test q d (case_then absent ss no_cases) r n ne f o = absurd (ne o.held.1.0.2)
  in_test q d (case_then (present e) ss no_cases) r n ne f o =
      let k = both (has_nested_break_in_list ss) (is_literal e) n in
      subst (λ (xs : Stmts). Moved (tables exprs stmts ds) (tables exprs₁ stmts₁ ds) p₁ loose ((stmt_at at, stmts_row xs) ∷ rest))
      (sym (test_goes q d e ss r (is_literal e) (λ t. t) k.1 k.0))
      (f e ss loose rest (arrange (2 ∷ 0 ∷ 0 ∷ []) (end_out (pick 2 (end_out (pick 2 (opened (pick 1 o))))))))
  in_test q d (case_then v ss (case_then u ts cs)) r n ne f o = no_way n

-- a default alone: the discriminant is kept, the list becomes a block, the switch's record is given back, and the block stands behind what is kept
pub default_done : {h h₁ h₂ h₃ h₄ : Heap} {p p₁ p₂ p₃ : Pools} {loose : List Place} {rest : List Root} {at case discriminant list results kept branch : ℕ}
    (d : Expr) (xs r r₁ : Stmts)
    → Turns h p h₁ p₁ [] ((expr_at discriminant, expr_row d end) ∷ (stmt_at results, stmts_row r) ∷ []) ((stmt_at kept, stmts_row r₁) ∷ [])
    → Turns h₁ p₁ h₂ p₂ (stmt_at case ∷ []) ((stmt_at list, stmts_row xs) ∷ []) ((stmt_at branch, stmt_row (case_block xs) end) ∷ [])
    → ((roots : List Root) → Owns h₂ p₂ (stmt_at at ∷ loose) roots → Moved h₂ h₃ p₃ loose roots)
    → Turns h₃ p₃ h₄ p₃ [] ((stmt_at branch, stmt_row (case_block xs) end) ∷ (stmt_at kept, stmts_row r₁) ∷ [])
    ((stmt_at branch, stmt_row (case_block xs) (stmts_row r₁)) ∷ [])
    → Owns h p (stmt_at case ∷ stmt_at at ∷ loose)
    ((expr_at discriminant, expr_row d end) ∷ (stmt_at list, stmts_row xs) ∷ (stmt_at results, stmts_row r) ∷ rest)
    → Moved h h₄ p₃ loose ((stmt_at branch, stmt_row (case_block xs) (stmts_row r₁)) ∷ rest)
default_done {loose = loose} {rest = rest} {at = at} {case = case} {list = list} {kept = kept} {branch = branch} d xs r r₁ keeps blocks gives links o =
    then_use
    (then_use (keeps (stmt_at case ∷ stmt_at at ∷ loose) ((stmt_at list, stmts_row xs) ∷ rest) (arrange (0 ∷ 1 ∷ []) o))
    (λ o₁. blocks (stmt_at at ∷ loose) ((stmt_at kept, stmts_row r₁) ∷ rest) (pick 1 o₁)))
    (λ o₂. then_move (gives ((stmt_at branch, stmt_row (case_block xs) end) ∷ (stmt_at kept, stmts_row r₁) ∷ rest) o₂) (λ o₃. links loose rest o₃))
