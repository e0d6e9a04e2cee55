-- What a command takes off a stack: the parts in source order, the stack that is left, and the rows of both.
use Rattle.std.proofs.Common.{◌≡◌, ℕ, zero, suc, ◌+◌, ◌<◌, ◌≤◌, Bool, true, false, List, [], ◌∷◌, ◌++◌, length, sym, refl, ap, ◌∙◌, append-nil, zero-add, arith}
use mathlib.Core.List.{reverse_aux}
use Rattle.script.specs.Tree.{Expr, OptionalExpr, absent, present}
use Rattle.script.specs.Tree.{number, word, name, assignment, call, sequence, conditional, logical, not, void, strict_equality}
use Rattle.script.specs.Tree.{empty, expression, declaration, return_of, throw, if_then, block, while, do_while, for, switch, break, continue}
use Rattle.script.specs.Stacks.{Item, statement, case, Declarator, declarator, Performed, lacks, pop, pop_if, pops}
use Rattle.records.specs.Rows.{Row, end}
use Rattle.records.specs.Embedding.{expr_row, optional_row, item_row, declarator_row, expr_stack, stmt_stack, decl_stack, is_present}
use Rattle.records.specs.Flags.{one_if as flag_number}
use Rattle.records.specs.Turning.{front, behind}
use Rattle.reading.specs.Making.{LessExprs, LessStmts, LessDecls}
use Rattle.script.proofs.Exprs.{optional_on}

-- n parts are taken off a stack
pub record Taken {A : Type 0} (n : ℕ) (before parts after : List A) : Type 0 where
  pub list : before ≡ reverse_aux parts after
  pub count : length parts ≡ n

pub none : {A : Type 0} {xs : List A} → Taken 0 xs [] xs
none = record { list = refl; count = refl }

length_turned : {A : Type 0} (parts after : List A) → length (reverse_aux parts after) ≡ length parts + length after
length_turned [] after = omega arith
length_turned (x ∷ parts) after = let e = length_turned parts (x ∷ after) in omega arith

module _ {A : Type 0} {n : ℕ} {before parts after : List A} (t : Taken n before parts after) where
  pub taken_length : length after + n ≡ length before
  taken_length = let e = ap length t.list ∙ length_turned parts after in let c = t.count in omega arith

  pub taken_enough : n ≤ length before
  taken_enough = let e = taken_length in omega arith

-- taking, by what it comes to
module _ {A : Type 0} (P : Performed → Type 0) where
  pub pop_taken : {n : ℕ} {before parts : List A} (after : List A) (k : A → List A → Performed) →
      Taken n before parts after →
      (length before < suc n → P lacks) →
      ((x : A) (rest : List A) → Taken (suc n) before (x ∷ parts) rest → P (k x rest)) →
      P (pop after k)
  pop_taken [] k t short found = short (let e = taken_length t in omega arith)
  pop_taken (x ∷ after) k t short found = found x after (record { list = t.list; count = ap suc t.count })

  pub pops_taken : (n : ℕ) (after : List A) {m : ℕ} {before parts : List A} (k : List A → List A → Performed) →
      Taken m before parts after →
      (length before < n + m → P lacks) →
      ((taken rest : List A) → Taken (n + m) before taken rest → P (k taken rest)) →
      P (pops n after parts k)
  pops_taken zero after {m} {before} {parts} k t short found =
      found parts after (record { list = t.list; count = t.count ∙ sym (zero-add m) })
  pops_taken (suc n) [] k t short found = short (let e = taken_length t in omega arith)
  pops_taken (suc n) (x ∷ after) {m} {before} k t short found =
      pops_taken n after k (record { list = t.list; count = ap suc t.count }) (λ lack. short (omega arith))
      (λ taken rest u. found taken rest (record { list = u.list; count = let e = u.count in omega arith }))

  pub all_taken : (n : ℕ) (before : List A) (k : List A → List A → Performed) →
      (length before < n → P lacks) →
      ((taken rest : List A) → Taken n before taken rest → P (k taken rest)) →
      P (pops n before [] k)
  all_taken n before k short found =
      pops_taken n before k none (λ lack. short (omega arith))
      (λ taken rest u. found taken rest (record { list = u.list; count = let e = u.count in omega arith }))

pub optional_stack : (v : OptionalExpr) (es : List Expr) → expr_stack (optional_on v es) ≡ optional_row v (expr_stack es)
optional_stack absent es = refl
optional_stack (present e) es = refl

pub pop_if_taken : (P : Performed → Type 0) {n : ℕ} {before parts : List Expr} (flag : Bool) (after : List Expr) (k : OptionalExpr → List Expr → Performed) →
    Taken n before parts after →
    (length before < flag_number flag + n → P lacks) →
    ((v : OptionalExpr) (rest : List Expr) → is_present v ≡ flag → Taken (flag_number flag + n) before (optional_on v parts) rest → P (k v rest)) →
    P (pop_if flag after k)
pop_if_taken P {n} false after k t short found =
    found absent after refl (record { list = t.list; count = t.count ∙ sym (zero-add n) })
pop_if_taken P {n} true after k t short found =
    pop_taken P after (λ x. k (present x)) t (λ lack. short (omega arith))
    (λ x rest u. found (present x) rest refl (record { list = u.list; count = let e = u.count in omega arith }))

pub first_if_taken : (P : Performed → Type 0) (flag : Bool) (before : List Expr) (k : OptionalExpr → List Expr → Performed) →
    (length before < flag_number flag → P lacks) →
    ((v : OptionalExpr) (rest : List Expr) → is_present v ≡ flag → Taken (flag_number flag) before (optional_on v []) rest → P (k v rest)) →
    P (pop_if flag before k)
first_if_taken P flag before k short found =
    pop_if_taken P flag before k none (λ lack. short (omega arith))
    (λ v rest p u. found v rest p (record { list = u.list; count = let e = u.count in omega arith }))

-- the rows of what is taken and of what is left
module _ {A : Type 0} (stack : List A → Row)
    (front_more : (n : ℕ) (x : A) (xs acc : List A) → front (suc n) (stack (x ∷ xs)) (stack acc) ≡ front n (stack xs) (stack (x ∷ acc)))
    (behind_more : (n : ℕ) (x : A) (xs : List A) → behind (suc n) (stack (x ∷ xs)) ≡ behind n (stack xs)) where
  turned_front : (parts after acc : List A) (n more : ℕ) → n ≡ length parts + more →
      front n (stack (reverse_aux parts after)) (stack acc) ≡ front more (stack after) (stack (parts ++ acc))
  turned_front [] after acc n more e = ap (λ (k : ℕ). front k (stack after) (stack acc)) (e ∙ zero-add more)
  turned_front (x ∷ parts) after acc n more e =
      turned_front parts (x ∷ after) acc n (suc more) (omega arith) ∙ front_more more x after (parts ++ acc)

  turned_behind : (parts after : List A) (n more : ℕ) → n ≡ length parts + more → behind n (stack (reverse_aux parts after)) ≡ behind more (stack after)
  turned_behind [] after n more e = ap (λ (k : ℕ). behind k (stack after)) (e ∙ zero-add more)
  turned_behind (x ∷ parts) after n more e = turned_behind parts (x ∷ after) n (suc more) (omega arith) ∙ behind_more more x after

  module _ {n : ℕ} {before parts after : List A} (t : Taken n before parts after) where
    taken_front : front n (stack before) (stack []) ≡ stack parts
    taken_front =
        ap (λ (xs : List A). front n (stack xs) (stack [])) t.list
        ∙ turned_front parts after [] n 0 (let c = t.count in omega arith)
        ∙ ap stack (append-nil parts)

    taken_behind : stack after ≡ behind n (stack before)
    taken_behind =
        sym (ap (λ (xs : List A). behind n (stack xs)) t.list ∙ turned_behind parts after n 0 (let c = t.count in omega arith))

expr_front : (n : ℕ) (e : Expr) (w acc : Row) → front (suc n) (expr_row e w) acc ≡ front n w (expr_row e acc)
expr_front n (number b) w acc = refl
expr_front n (word c) w acc = refl
expr_front n (name x) w acc = refl
expr_front n (assignment x e) w acc = refl
expr_front n (call x es) w acc = refl
expr_front n (sequence e es) w acc = refl
expr_front n (conditional t a b) w acc = refl
expr_front n (logical o a b) w acc = refl
expr_front n (not e) w acc = refl
expr_front n (void e) w acc = refl
expr_front n (strict_equality a b) w acc = refl

expr_behind : (n : ℕ) (e : Expr) (w : Row) → behind (suc n) (expr_row e w) ≡ behind n w
expr_behind n (number b) w = refl
expr_behind n (word c) w = refl
expr_behind n (name x) w = refl
expr_behind n (assignment x e) w = refl
expr_behind n (call x es) w = refl
expr_behind n (sequence e es) w = refl
expr_behind n (conditional t a b) w = refl
expr_behind n (logical o a b) w = refl
expr_behind n (not e) w = refl
expr_behind n (void e) w = refl
expr_behind n (strict_equality a b) w = refl

item_front : (n : ℕ) (i : Item) (w acc : Row) → front (suc n) (item_row i w) acc ≡ front n w (item_row i acc)
item_front n (case t ss) w acc = refl
item_front n (statement empty) w acc = refl
item_front n (statement (expression e)) w acc = refl
item_front n (statement (declaration k ds)) w acc = refl
item_front n (statement (return_of v)) w acc = refl
item_front n (statement (throw e)) w acc = refl
item_front n (statement (if_then t c a)) w acc = refl
item_front n (statement (block ss)) w acc = refl
item_front n (statement (while t b)) w acc = refl
item_front n (statement (do_while b t)) w acc = refl
item_front n (statement (for i t u b)) w acc = refl
item_front n (statement (switch d cs)) w acc = refl
item_front n (statement break) w acc = refl
item_front n (statement continue) w acc = refl

item_behind : (n : ℕ) (i : Item) (w : Row) → behind (suc n) (item_row i w) ≡ behind n w
item_behind n (case t ss) w = refl
item_behind n (statement empty) w = refl
item_behind n (statement (expression e)) w = refl
item_behind n (statement (declaration k ds)) w = refl
item_behind n (statement (return_of v)) w = refl
item_behind n (statement (throw e)) w = refl
item_behind n (statement (if_then t c a)) w = refl
item_behind n (statement (block ss)) w = refl
item_behind n (statement (while t b)) w = refl
item_behind n (statement (do_while b t)) w = refl
item_behind n (statement (for i t u b)) w = refl
item_behind n (statement (switch d cs)) w = refl
item_behind n (statement break) w = refl
item_behind n (statement continue) w = refl

declarator_front : (n : ℕ) (d : Declarator) (w acc : Row) → front (suc n) (declarator_row d w) acc ≡ front n w (declarator_row d acc)
declarator_front n (declarator x v) w acc = refl

declarator_behind : (n : ℕ) (d : Declarator) (w : Row) → behind (suc n) (declarator_row d w) ≡ behind n w
declarator_behind n (declarator x v) w = refl

module _ {n : ℕ} {before parts after : List Expr} (t : Taken n before parts after) where
  pub exprs_front : front n (expr_stack before) end ≡ expr_stack parts
  exprs_front = taken_front expr_stack (λ m e es acc. expr_front m e _ _) (λ m e es. expr_behind m e _) t

  pub exprs_less : LessExprs n before after
  exprs_less = record {
    rows = taken_behind expr_stack (λ m e es acc. expr_front m e _ _) (λ m e es. expr_behind m e _) t;
    count = taken_length t;
  }

module _ {n : ℕ} {before parts after : List Item} (t : Taken n before parts after) where
  pub stmts_front : front n (stmt_stack before) end ≡ stmt_stack parts
  stmts_front = taken_front stmt_stack (λ m i is acc. item_front m i _ _) (λ m i is. item_behind m i _) t

  pub stmts_less : LessStmts n before after
  stmts_less = record {
    rows = taken_behind stmt_stack (λ m i is acc. item_front m i _ _) (λ m i is. item_behind m i _) t;
    count = taken_length t;
  }

module _ {n : ℕ} {before parts after : List Declarator} (t : Taken n before parts after) where
  pub decls_front : front n (decl_stack before) end ≡ decl_stack parts
  decls_front = taken_front decl_stack (λ m d ds acc. declarator_front m d _ _) (λ m d ds. declarator_behind m d _) t

  pub decls_less : LessDecls n before after
  decls_less = record {
    rows = taken_behind decl_stack (λ m d ds acc. declarator_front m d _ _) (λ m d ds. declarator_behind m d _) t;
    count = taken_length t;
  }
