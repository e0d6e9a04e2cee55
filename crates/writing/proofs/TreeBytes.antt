-- The bytes of a row that stands for trees are the bytes of those trees.
use Rattle.std.proofs.Common.{◌≡◌, ℕ, suc, ◌+◌, ◌*◌, ◌/◌, ◌%◌, cond, eqb, leb, List, [], ◌∷◌, refl, ap, ◌∙◌, mod-eq_of_lt, arith}
use Rattle.script.specs.declared.DeclarationKind.{DeclarationKind}
use Rattle.script.specs.Tree.{Expr, number, word, name, assignment, call, sequence, conditional, logical, not, void, strict_equality}
use Rattle.script.specs.Tree.{Exprs, no_exprs, expr_then, OptionalExpr, absent, present, Declarators, no_declarators, declarator_then}
use Rattle.script.specs.Tree.{Init, no_init, init_expression, init_declaration, Alternate, no_alternate, alternate}
use Rattle.script.specs.Tree.{Stmt, empty, expression, declaration, return_of, throw, if_then, block, while, do_while, for, switch, break, continue}
use Rattle.script.specs.Tree.{Stmts, no_stmts, stmt_then, Cases, no_cases, case_then}
use Rattle.script.specs.Sound.{count_exprs, count_declarators, count_stmts, count_cases}
use Rattle.script.specs.Sound.{SoundExpr, SoundExprs, SoundOptional, SoundDeclarators, SoundDeclaration, SoundInit}
use Rattle.script.specs.Sound.{SoundStmt, SoundAlternate, SoundStmts, SoundCases}
use Rattle.script.specs.Written.{operator_byte, expr_bytes, exprs_bytes, optional_bytes, either_code, flag, declarators_bytes, declaration_bytes}
use Rattle.script.specs.Written.{init_bytes, init_flag, if_code, kind_byte, init_byte, head_byte}
use Rattle.script.specs.Written.{stmt_bytes, alternate_bytes, stmts_bytes, cases_bytes, body_bytes}
use Rattle.records.specs.Rows.{Row, end, row_length}
use Rattle.records.specs.Embedding.{expr_row, exprs_row, optional_row, declarators_row, declaration_row, init_kind, is_present, for_head, init_exprs}
use Rattle.records.specs.Embedding.{init_stmts}
use Rattle.records.specs.Embedding.{stmt_row, alternate_row, stmts_row, cases_row}
use Rattle.writing.specs.Bytes.{exprs_row_bytes, decls_row_bytes, first_bytes, others_bytes, stmts_row_bytes, body_row_bytes, init_order, in_order}
use Rattle.records.proofs.RowLengths.{expr_row_length, stmt_row_length}

exprs_length : (es : Exprs) → row_length (exprs_row es) ≡ count_exprs es
exprs_length no_exprs = refl
exprs_length (expr_then e es) = expr_row_length e (exprs_row es) ∙ ap suc (exprs_length es)

declarators_length : (ds : Declarators) → row_length (declarators_row ds) ≡ count_declarators ds
declarators_length no_declarators = refl
declarators_length (declarator_then n v ds) = ap suc (declarators_length ds)

pub stmts_length : (ss : Stmts) → row_length (stmts_row ss) ≡ count_stmts ss
stmts_length no_stmts = refl
stmts_length (stmt_then s ss) = stmt_row_length s (stmts_row ss) ∙ ap suc (stmts_length ss)

cases_length : (cs : Cases) → row_length (cases_row cs) ≡ count_cases cs
cases_length no_cases = refl
cases_length (case_then t ss cs) = ap suc (cases_length cs)

-- expressions
mutual
  pub expr_is : (e : Expr) → SoundExpr e → (w : Row) (rest : List ℕ) → exprs_row_bytes (expr_row e w) rest ≡ expr_bytes e (exprs_row_bytes w rest)
  expr_is (number b) s w rest = refl
  expr_is (word c) s w rest = refl
  expr_is (name n) s w rest = refl
  expr_is (assignment n e) s w rest = expr_is e s end (0x04 ∷ n ∷ exprs_row_bytes w rest)
  expr_is (call n es) s w rest =
      let c = row_length (exprs_row es) in
      let q : c ≡ count_exprs es = exprs_length es in
      let m : c % 256 ≡ c = mod-eq_of_lt (omega (arith, s.0)) in
      exprs_is es s.1 (0x05 ∷ n ∷ c % 256 ∷ exprs_row_bytes w rest)
      ∙ ap (λ v. exprs_bytes es (0x05 ∷ n ∷ v ∷ exprs_row_bytes w rest)) (m ∙ q)
  expr_is (sequence e es) s w rest =
      let c = row_length (expr_row e (exprs_row es)) in
      let q : c ≡ suc (count_exprs es) = expr_row_length e (exprs_row es) ∙ ap suc (exprs_length es) in
      let bs : ℕ → List ℕ = λ v. 0x06 ∷ v % 256 ∷ v / 256 ∷ exprs_row_bytes w rest in
      expr_is e s.1 (exprs_row es) (bs c) ∙ ap (expr_bytes e) (exprs_is es s.2 (bs c) ∙ ap (λ v. exprs_bytes es (bs v)) q)
  expr_is (conditional t a b) s w rest =
      let bs : List ℕ = 0x07 ∷ exprs_row_bytes w rest in
      expr_is t s.0 (expr_row a (expr_row b end)) bs
      ∙ ap (expr_bytes t) (expr_is a s.1 (expr_row b end) bs ∙ ap (expr_bytes a) (expr_is b s.2 end bs))
  expr_is (logical o a b) s w rest =
      let bs : List ℕ = 0x08 ∷ operator_byte o ∷ exprs_row_bytes w rest in
      expr_is a s.0 (expr_row b end) bs ∙ ap (expr_bytes a) (expr_is b s.1 end bs)
  expr_is (not e) s w rest = expr_is e s end (0x09 ∷ exprs_row_bytes w rest)
  expr_is (void e) s w rest = expr_is e s end (0x0a ∷ exprs_row_bytes w rest)
  expr_is (strict_equality a b) s w rest =
      let bs : List ℕ = 0x0b ∷ exprs_row_bytes w rest in
      expr_is a s.0 (expr_row b end) bs ∙ ap (expr_bytes a) (expr_is b s.1 end bs)

  pub exprs_is : (es : Exprs) → SoundExprs es → (rest : List ℕ) → exprs_row_bytes (exprs_row es) rest ≡ exprs_bytes es rest
  exprs_is no_exprs s rest = refl
  exprs_is (expr_then e es) s rest = expr_is e s.0 (exprs_row es) rest ∙ ap (expr_bytes e) (exprs_is es s.1 rest)

optional_is : (v : OptionalExpr) → SoundOptional v → (w : Row) (rest : List ℕ)
    → exprs_row_bytes (optional_row v w) rest ≡ optional_bytes v (exprs_row_bytes w rest)
optional_is absent s w rest = refl
optional_is (present e) s w rest = expr_is e s w rest

-- a command by whether an expression is there
code_is : (v : OptionalExpr) (a b : ℕ) → cond (eqb (row_length (optional_row v end)) 0) a b ≡ either_code v a b
code_is absent a b = refl
code_is (present e) a b = ap (λ n. cond (eqb n 0) a b) (expr_row_length e end)

-- declarators
declarators_is : (ds : Declarators) → SoundDeclarators ds → (rest : List ℕ) → decls_row_bytes (declarators_row ds) rest ≡ declarators_bytes ds rest
declarators_is no_declarators s rest = refl
declarators_is (declarator_then n v ds) s rest =
    let bs : ℕ → List ℕ → List ℕ = λ c tail. c ∷ n ∷ tail in
    optional_is v s.0 end (bs (cond (eqb (row_length (optional_row v end)) 0) 0x10 0x11) (decls_row_bytes (declarators_row ds) rest))
    ∙ ap (λ c. optional_bytes v (bs c (decls_row_bytes (declarators_row ds) rest))) (code_is v 0x10 0x11)
    ∙ ap (λ tail. optional_bytes v (bs (either_code v 0x10 0x11) tail)) (declarators_is ds s.1 rest)

declaration_is : (k : DeclarationKind) (ds : Declarators) → SoundDeclaration k ds → (w : Row) (rest : List ℕ)
    → first_bytes (declaration_row k ds w) rest ≡ declaration_bytes k ds rest
declaration_is k ds s w rest =
    let bs : ℕ → List ℕ = λ n. 0x22 ∷ kind_byte k ∷ n % 256 ∷ n / 256 ∷ rest in
    declarators_is ds s.2 (bs (row_length (declarators_row ds))) ∙ ap (λ n. declarators_bytes ds (bs n)) (declarators_length ds)

-- the head of a for
init_byte_is : (i : Init) → init_byte (init_kind i) ≡ init_flag i
init_byte_is no_init = refl
init_byte_is (init_expression e) = refl
init_byte_is (init_declaration k ds) = refl

flag_is : (v : OptionalExpr) (n : ℕ) → n * cond (is_present v) 1 0 ≡ flag v n
flag_is absent n = omega arith
flag_is (present e) n = omega arith

head_is : (i : Init) (t u : OptionalExpr) → head_byte (for_head i t u) ≡ init_flag i + (flag t 4 + flag u 8)
head_is i t u = let a = init_byte_is i in let b = flag_is t 4 in let c = flag_is u 8 in omega arith

optionals_is : (t u : OptionalExpr) → SoundOptional t → SoundOptional u → (rest : List ℕ)
    → exprs_row_bytes (optional_row t (optional_row u end)) rest ≡ optional_bytes t (optional_bytes u rest)
optionals_is t u s₁ s₂ rest = optional_is t s₁ (optional_row u end) rest ∙ ap (optional_bytes t) (optional_is u s₂ end rest)

-- the parts of a for whose body is the row b
for_is : (i : Init) (t u : OptionalExpr) → SoundInit i → SoundOptional t → SoundOptional u → (b : Row) (rest : List ℕ)
    → in_order (init_order (init_kind i)) (exprs_row_bytes (init_exprs i (optional_row t (optional_row u end))))
    (first_bytes (init_stmts i b)) (others_bytes (init_stmts i b)) (decls_row_bytes end) rest
    ≡ init_bytes i (optional_bytes t (optional_bytes u (stmts_row_bytes b rest)))
for_is no_init t u s s₁ s₂ b rest = optionals_is t u s₁ s₂ (stmts_row_bytes b rest)
for_is (init_expression e) t u s s₁ s₂ b rest =
    expr_is e s (optional_row t (optional_row u end)) (stmts_row_bytes b rest) ∙ ap (expr_bytes e) (optionals_is t u s₁ s₂ (stmts_row_bytes b rest))
for_is (init_declaration k ds) t u s s₁ s₂ b rest =
    declaration_is k ds s b (exprs_row_bytes (optional_row t (optional_row u end)) (stmts_row_bytes b rest))
    ∙ ap (declaration_bytes k ds) (optionals_is t u s₁ s₂ (stmts_row_bytes b rest))

if_is : (c : Stmt) (a : Alternate) → cond (leb (row_length (stmt_row c (alternate_row a))) 1) 0x26 0x27 ≡ if_code a
if_is c no_alternate = ap (λ n. cond (leb n 1) 0x26 0x27) (stmt_row_length c end)
if_is c (alternate s) = ap (λ n. cond (leb n 1) 0x26 0x27) (stmt_row_length c (stmt_row s end) ∙ ap suc (stmt_row_length s end))

others_is : (s : Stmt) (w : Row) (rest : List ℕ) → others_bytes (stmt_row s w) rest ≡ stmts_row_bytes w rest
others_is empty w rest = refl
others_is (expression e) w rest = refl
others_is (declaration k ds) w rest = refl
others_is (return_of v) w rest = refl
others_is (throw e) w rest = refl
others_is (if_then t c a) w rest = refl
others_is (block ss) w rest = refl
others_is (while t b) w rest = refl
others_is (do_while b t) w rest = refl
others_is (for i t u b) w rest = refl
others_is (switch d cs) w rest = refl
others_is break w rest = refl
others_is continue w rest = refl

-- a first statement in front of others
front_is : (s : Stmt) (w : Row) (rest : List ℕ) → ((rest : List ℕ) → first_bytes (stmt_row s w) rest ≡ stmt_bytes s rest)
    → stmts_row_bytes (stmt_row s w) rest ≡ stmt_bytes s (stmts_row_bytes w rest)
front_is s w rest f = f (others_bytes (stmt_row s w) rest) ∙ ap (stmt_bytes s) (others_is s w rest)

-- statements
mutual
  pub first_is : (s : Stmt) → SoundStmt s → (w : Row) (rest : List ℕ) → first_bytes (stmt_row s w) rest ≡ stmt_bytes s rest
  first_is empty s w rest = refl
  first_is (expression e) s w rest = expr_is e s end (0x21 ∷ rest)
  first_is (declaration k ds) s w rest = declaration_is k ds s w rest
  first_is (return_of v) s w rest =
      optional_is v s end (cond (eqb (row_length (optional_row v end)) 0) 0x23 0x24 ∷ rest)
      ∙ ap (λ c. optional_bytes v (c ∷ rest)) (code_is v 0x23 0x24)
  first_is (throw e) s w rest = expr_is e s end (0x25 ∷ rest)
  first_is (if_then t c a) s w rest =
      let bs : List ℕ = cond (leb (row_length (stmt_row c (alternate_row a))) 1) 0x26 0x27 ∷ rest in
      expr_is t s.0 end (stmts_row_bytes (stmt_row c (alternate_row a)) bs)
      ∙ ap (expr_bytes t)
      (front_is c (alternate_row a) bs (first_is c s.2 (alternate_row a))
      ∙ ap (stmt_bytes c) (alternate_is a s.3 bs ∙ ap (λ n. alternate_bytes a (n ∷ rest)) (if_is c a)))
  first_is (block ss) s w rest =
      let bs : ℕ → List ℕ = λ n. 0x28 ∷ n % 256 ∷ n / 256 ∷ rest in
      stmts_is ss s (bs (row_length (stmts_row ss))) ∙ ap (λ n. stmts_bytes ss (bs n)) (stmts_length ss)
  first_is (while t b) s w rest =
      expr_is t s.0 end (stmts_row_bytes (stmt_row b end) (0x29 ∷ rest))
      ∙ ap (expr_bytes t) (front_is b end (0x29 ∷ rest) (first_is b s.2 end))
  first_is (do_while b t) s w rest =
      front_is b end (exprs_row_bytes (expr_row t end) (0x2a ∷ rest)) (first_is b s.1 end)
      ∙ ap (stmt_bytes b) (expr_is t s.2 end (0x2a ∷ rest))
  first_is (for i t u b) s w rest =
      let bs : ℕ → List ℕ = λ n. 0x2b ∷ n ∷ rest in
      for_is i t u s.0 s.1 s.2 (stmt_row b end) (bs (head_byte (for_head i t u)))
      ∙ ap (λ v. init_bytes i (optional_bytes t (optional_bytes u v)))
      (front_is b end (bs (head_byte (for_head i t u))) (first_is b s.4 end) ∙ ap (λ n. stmt_bytes b (bs n)) (head_is i t u))
  first_is (switch d cs) s w rest =
      let bs : ℕ → List ℕ = λ n. 0x30 ∷ n % 256 ∷ n / 256 ∷ rest in
      expr_is d s.0 end (stmts_row_bytes (cases_row cs) (bs (row_length (cases_row cs))))
      ∙ ap (expr_bytes d) (cases_is cs s.2 (bs (row_length (cases_row cs))) ∙ ap (λ n. cases_bytes cs (bs n)) (cases_length cs))
  first_is break s w rest = refl
  first_is continue s w rest = refl

  alternate_is : (a : Alternate) → SoundAlternate a → (rest : List ℕ) → stmts_row_bytes (alternate_row a) rest ≡ alternate_bytes a rest
  alternate_is no_alternate s rest = refl
  alternate_is (alternate c) s rest = front_is c end rest (first_is c s.1 end)

  pub stmts_is : (ss : Stmts) → SoundStmts ss → (rest : List ℕ) → stmts_row_bytes (stmts_row ss) rest ≡ stmts_bytes ss rest
  stmts_is no_stmts s rest = refl
  stmts_is (stmt_then c ss) s rest =
      front_is c (stmts_row ss) rest (first_is c s.0 (stmts_row ss)) ∙ ap (stmt_bytes c) (stmts_is ss s.1 rest)

  cases_is : (cs : Cases) → SoundCases cs → (rest : List ℕ) → stmts_row_bytes (cases_row cs) rest ≡ cases_bytes cs rest
  cases_is no_cases s rest = refl
  cases_is (case_then t ss cs) s rest =
      let bs : ℕ → ℕ → List ℕ → List ℕ = λ f n tail. 0x2f ∷ f ∷ n % 256 ∷ n / 256 ∷ tail in
      let f = cond (eqb (row_length (optional_row t end)) 0) 0 1 in
      let n = row_length (stmts_row ss) in
      let tail = stmts_row_bytes (cases_row cs) rest in
      optional_is t s.0 end (stmts_row_bytes (stmts_row ss) (bs f n tail))
      ∙ ap (optional_bytes t)
      (stmts_is ss s.1 (bs f n tail)
      ∙ ap (λ v. stmts_bytes ss (bs v n tail)) (code_is t 0 1)
      ∙ ap (λ v. stmts_bytes ss (bs (flag t 1) v tail)) (stmts_length ss)
      ∙ ap (λ v. stmts_bytes ss (bs (flag t 1) (count_stmts ss) v)) (cases_is cs s.2 rest))

pub body_is : (ss : Stmts) → SoundStmts ss → body_row_bytes (stmts_row ss) ≡ body_bytes ss
body_is ss s =
    let bs : ℕ → List ℕ = λ n. 0x3f ∷ 0 ∷ n % 256 ∷ n / 256 ∷ [] in
    stmts_is ss s (bs (row_length (stmts_row ss))) ∙ ap (λ n. stmts_bytes ss (bs n)) (stmts_length ss)
