-- In tables that hold a sheet every record is counted: it is one of the sheet's or a spare.
use Rattle.std.proofs.Common.{◌≡◌, ℕ, zero, suc, ◌+◌, ◌<◌, List, [], ◌∷◌, length, get_or, sym, refl, ◌∙◌, arith}
use lib.ListN.{length-map}
use Rattle.pool.specs.Chain.{Chain, places, same_place, occurrences}
use Rattle.script.specs.Tree.{Expr, number, word, name, assignment, call, sequence, conditional, logical, not, void, strict_equality}
use Rattle.script.specs.Tree.{Exprs, no_exprs, expr_then, OptionalExpr, absent, present, Declarators, no_declarators, declarator_then}
use Rattle.script.specs.Tree.{Init, no_init, init_expression, init_declaration, Alternate, no_alternate, alternate}
use Rattle.script.specs.Tree.{Stmt, empty, expression, declaration, return_of, throw, if_then, block, while, do_while, for, switch, break, continue}
use Rattle.script.specs.Tree.{Stmts, no_stmts, stmt_then, Cases, no_cases, case_then}
use Rattle.script.specs.Stacks.{Item, statement, case, Declarator, declarator, Stacks}
use Rattle.script.specs.Judge.{Stage as ModelStage, reading, complete, Spares, Model}
use Rattle.script.specs.Sound.{none_used, plus, with_stmt, exprs_only, records_expr, records_exprs, records_optional, records_declarators}
use Rattle.script.specs.Sound.{records_init, records_stmt, records_alternate, records_stmts, records_cases}
use Rattle.records.specs.declared.record.ExprRecord.{ExprRecord}
use Rattle.records.specs.declared.record.StmtRecord.{StmtRecord}
use Rattle.records.specs.declared.record.DeclRecord.{DeclRecord}
use Rattle.records.specs.declared.record.Pools.{Pools}
use Rattle.records.specs.declared.record.Stage.{Stage}
use Rattle.records.specs.declared.record.Stage.TheVariants.{Reading, Complete}
use Rattle.records.specs.declared.record.Draft.{Draft}
use Rattle.records.specs.declared.record.Whole.{Whole}
use Rattle.records.specs.Heap.{Heap, Place, expr_at, stmt_at, decl_at, Label, expr_label, stmt_label, decl_label, cell, Within, same}
use Rattle.records.specs.Heap.{expr_links, stmt_links, decl_links, spare}
use Rattle.records.specs.Rows.{Row, end, node, At, uses}
use Rattle.records.specs.Owned.{Root, Held, uses_all, Owns}
use Rattle.records.specs.Embedding.{expr_row, exprs_row, optional_row, declarators_row, init_exprs, init_stmts, stmt_row, alternate_row, stmts_row, cases_row}
use Rattle.records.specs.Embedding.{item_row, declarator_row, expr_stack, stmt_stack, decl_stack}
pub use Rattle.records.specs.TableOf.{of_label}
use Rattle.records.specs.Holds.{SameStage, body_root, roots, counted, Holds, HoldsWhole}
use Rattle.records.proofs.Sizes.{total, total_add, total_none, total_same}

-- numbers that are the same in each table
pub record Equals (a b : Spares) : Type 0 where
  pub exprs : a.exprs ≡ b.exprs
  pub stmts : a.stmts ≡ b.stmts
  pub decls : a.decls ≡ b.decls

pub equal : {a b : Spares} → Equals a b → a ≡ b
equal e = λ i. record { exprs = e.exprs i; stmts = e.stmts i; decls = e.decls i }

-- the records of a row, by the tables of their labels
abbrev pub records_row : Row → Spares
records_row end = none_used
records_row (node l x y z w) = plus (of_label l) (plus (records_row x) (plus (records_row y) (plus (records_row z) (records_row w))))

-- a tree in front of a row
mutual
  pub records_expr_row : (e : Expr) (w : Row) → Equals (records_row (expr_row e w)) (plus (exprs_only (records_expr e)) (records_row w))
  records_expr_row (number b) w = omega arith
  records_expr_row (word c) w = omega arith
  records_expr_row (name n) w = omega arith
  records_expr_row (assignment n e) w = let r = records_expr_row e end in omega arith
  records_expr_row (call n es) w = let r = records_exprs_row es in omega arith
  records_expr_row (sequence e es) w = let r = records_expr_row e (exprs_row es) in let t = records_exprs_row es in omega arith
  records_expr_row (conditional t a b) w =
      let r₁ = records_expr_row t (expr_row a (expr_row b end)) in
      let r₂ = records_expr_row a (expr_row b end) in
      let r₃ = records_expr_row b end in
      omega arith
  records_expr_row (logical o a b) w = let r = records_expr_row a (expr_row b end) in let t = records_expr_row b end in omega arith
  records_expr_row (not e) w = let r = records_expr_row e end in omega arith
  records_expr_row (void e) w = let r = records_expr_row e end in omega arith
  records_expr_row (strict_equality a b) w = let r = records_expr_row a (expr_row b end) in let t = records_expr_row b end in omega arith

  pub records_exprs_row : (es : Exprs) → Equals (records_row (exprs_row es)) (exprs_only (records_exprs es))
  records_exprs_row no_exprs = omega arith
  records_exprs_row (expr_then e es) = let r = records_expr_row e (exprs_row es) in let t = records_exprs_row es in omega arith

pub records_optional_row : (v : OptionalExpr) (w : Row) → Equals (records_row (optional_row v w)) (plus (exprs_only (records_optional v)) (records_row w))
records_optional_row absent w = omega arith
records_optional_row (present e) w = records_expr_row e w

pub records_declarators_row : (ds : Declarators) → Equals (records_row (declarators_row ds)) (records_declarators ds)
records_declarators_row no_declarators = omega arith
records_declarators_row (declarator_then n v ds) = let r = records_optional_row v end in let t = records_declarators_row ds in omega arith

-- a for begins with expressions in one row and statements in another
pub records_init_rows : (i : Init) (x y : Row) →
    Equals (plus (records_row (init_exprs i x)) (records_row (init_stmts i y))) (plus (records_init i) (plus (records_row x) (records_row y)))
records_init_rows no_init x y = omega arith
records_init_rows (init_expression e) x y = let r = records_expr_row e x in omega arith
records_init_rows (init_declaration k ds) x y = let r = records_declarators_row ds in omega arith

mutual
  pub records_stmt_row : (s : Stmt) (w : Row) → Equals (records_row (stmt_row s w)) (plus (records_stmt s) (records_row w))
  records_stmt_row empty w = omega arith
  records_stmt_row (expression e) w = let r = records_expr_row e end in omega arith
  records_stmt_row (declaration k ds) w = let r = records_declarators_row ds in omega arith
  records_stmt_row (return_of v) w = let r = records_optional_row v end in omega arith
  records_stmt_row (throw e) w = let r = records_expr_row e end in omega arith
  records_stmt_row (if_then t c a) w =
      let r₁ = records_expr_row t end in let r₂ = records_stmt_row c (alternate_row a) in let r₃ = records_alternate_row a in omega arith
  records_stmt_row (block ss) w = let r = records_stmts_row ss in omega arith
  records_stmt_row (while t b) w = let r₁ = records_expr_row t end in let r₂ = records_stmt_row b end in omega arith
  records_stmt_row (do_while b t) w = let r₁ = records_expr_row t end in let r₂ = records_stmt_row b end in omega arith
  records_stmt_row (for i t u b) w =
      let r₁ = records_init_rows i (optional_row t (optional_row u end)) (stmt_row b end) in
      let r₂ = records_optional_row t (optional_row u end) in
      let r₃ = records_optional_row u end in
      let r₄ = records_stmt_row b end in
      omega arith
  records_stmt_row (switch d cs) w = let r₁ = records_expr_row d end in let r₂ = records_cases_row cs in omega arith
  records_stmt_row break w = omega arith
  records_stmt_row continue w = omega arith

  pub records_alternate_row : (a : Alternate) → Equals (records_row (alternate_row a)) (records_alternate a)
  records_alternate_row no_alternate = omega arith
  records_alternate_row (alternate s) = let r = records_stmt_row s end in omega arith

  pub records_stmts_row : (ss : Stmts) → Equals (records_row (stmts_row ss)) (records_stmts ss)
  records_stmts_row no_stmts = omega arith
  records_stmts_row (stmt_then s ss) = let r₁ = records_stmt_row s (stmts_row ss) in let r₂ = records_stmts_row ss in omega arith

  pub records_cases_row : (cs : Cases) → Equals (records_row (cases_row cs)) (records_cases cs)
  records_cases_row no_cases = omega arith
  records_cases_row (case_then t ss cs) =
      let r₁ = records_optional_row t end in let r₂ = records_stmts_row ss in let r₃ = records_cases_row cs in omega arith

-- the sums of g over the places of each table
abbrev pub sums : Heap → (Place → ℕ) → Spares
sums h g = record {
  exprs = total (length h.exprs) (λ i. g (expr_at i));
  stmts = total (length h.stmts) (λ i. g (stmt_at i));
  decls = total (length h.decls) (λ i. g (decl_at i));
}

pub sums_add : (h : Heap) (f g : Place → ℕ) → sums h (λ q. f q + g q) ≡ plus (sums h f) (sums h g)
sums_add h f g = equal (record {
  exprs = total_add (length h.exprs) (λ i. f (expr_at i)) (λ i. g (expr_at i));
  stmts = total_add (length h.stmts) (λ i. f (stmt_at i)) (λ i. g (stmt_at i));
  decls = total_add (length h.decls) (λ i. f (decl_at i)) (λ i. g (decl_at i));
})

pub sums_none : (h : Heap) → sums h (λ q. 0) ≡ none_used
sums_none h = equal (record { exprs = total_none (length h.exprs); stmts = total_none (length h.stmts); decls = total_none (length h.decls) })

-- how many records each table has
abbrev pub lengths : Heap → Spares
lengths h = record { exprs = length h.exprs; stmts = length h.stmts; decls = length h.decls }

pub total_ones : (n : ℕ) (g : ℕ → ℕ) → ((i : ℕ) → i < n → g i ≡ 1) → total n g ≡ n
total_ones zero g h = refl
total_ones (suc n) g h = let a = total_ones n g (λ i l. h i (omega arith)) in let b = h n (omega arith) in omega arith

pub sums_ones : (h : Heap) (g : Place → ℕ) → ((q : Place) → Within h q → g q ≡ 1) → sums h g ≡ lengths h
sums_ones h g u = equal (record {
  exprs = total_ones (length h.exprs) (λ i. g (expr_at i)) (λ i l. u (expr_at i) l);
  stmts = total_ones (length h.stmts) (λ i. g (stmt_at i)) (λ i l. u (stmt_at i) l);
  decls = total_ones (length h.decls) (λ i. g (decl_at i)) (λ i l. u (decl_at i) l);
})

-- a place counts in the table of its label
sums_same : (h : Heap) (k : Place) (l : Label) → Within h k → (cell h k).label ≡ l → sums h (λ q. same q k) ≡ of_label l
sums_same h (expr_at i) (expr_label k) v e =
    equal (record { exprs = total_same (length h.exprs) i v; stmts = total_none (length h.stmts); decls = total_none (length h.decls) })
sums_same h (expr_at i) (stmt_label k) v e = let z : ◌≡◌ {A = ℕ} 0 1 = cc in absurd (omega arith)
sums_same h (expr_at i) (decl_label n) v e = let z : ◌≡◌ {A = ℕ} 0 1 = cc in absurd (omega arith)
sums_same h (stmt_at i) (expr_label k) v e = let z : ◌≡◌ {A = ℕ} 0 1 = cc in absurd (omega arith)
sums_same h (stmt_at i) (stmt_label k) v e =
    equal (record { exprs = total_none (length h.exprs); stmts = total_same (length h.stmts) i v; decls = total_none (length h.decls) })
sums_same h (stmt_at i) (decl_label n) v e = let z : ◌≡◌ {A = ℕ} 0 1 = cc in absurd (omega arith)
sums_same h (decl_at i) (expr_label k) v e = let z : ◌≡◌ {A = ℕ} 0 1 = cc in absurd (omega arith)
sums_same h (decl_at i) (stmt_label k) v e = let z : ◌≡◌ {A = ℕ} 0 1 = cc in absurd (omega arith)
sums_same h (decl_at i) (decl_label n) v e =
    equal (record { exprs = total_none (length h.exprs); stmts = total_none (length h.stmts); decls = total_same (length h.decls) i v })

-- the sum of two, each by its own equation
pub both : {a b c d : Spares} → a ≡ b → c ≡ d → plus a c ≡ plus b d
both p q = λ i. plus (p i) (q i)

sums_uses : (h : Heap) (k : Place) (r : Row) → At h k r → sums h (λ q. uses q h k r) ≡ records_row r
sums_uses h k end a = sums_none h
sums_uses h k (node l x y z w) a =
    let ux : Place → ℕ = λ q. uses q h (cell h k).exprs x in
    let uy : Place → ℕ = λ q. uses q h (cell h k).stmts y in
    let uz : Place → ℕ = λ q. uses q h (cell h k).decls z in
    let uw : Place → ℕ = λ q. uses q h (cell h k).next w in
    sums_add h (λ q. same q k) (λ q. ux q + (uy q + (uz q + uw q)))
    ∙ both (sums_same h k l a.0 a.1)
    (sums_add h ux (λ q. uy q + (uz q + uw q))
    ∙ both (sums_uses h (cell h k).exprs x a.2)
    (sums_add h uy (λ q. uz q + uw q)
    ∙ both (sums_uses h (cell h k).stmts y a.3)
    (sums_add h uz uw ∙ both (sums_uses h (cell h k).decls z a.4) (sums_uses h (cell h k).next w a.5))))

abbrev pub records_roots : List Root → Spares
records_roots [] = none_used
records_roots (r ∷ rs) = plus (records_row r.1) (records_roots rs)

pub sums_roots : (h : Heap) (rs : List Root) → Held h rs → sums h (λ q. uses_all q h rs) ≡ records_roots rs
sums_roots h [] a = sums_none h
sums_roots h (r ∷ rs) a =
    sums_add h (λ q. uses q h r.0 r.1) (λ q. uses_all q h rs) ∙ both (sums_uses h r.0 r.1 a.0) (sums_roots h rs a.1)

pub total_places : (links : List ℕ) (at c n : ℕ) → n ≡ length links → Chain links at c → total n (λ i. occurrences i (places links at c)) ≡ c
total_places links at zero n e ch = total_none n
total_places links at (suc c) n e ch =
    let a = total_add n (λ i. same_place i at) (λ i. occurrences i (places links (get_or links at 0) c)) in
    let b = total_same n at (omega arith) in
    let r = total_places links (get_or links at 0) c n e ch.1 in
    omega arith

pub sums_spare : (h : Heap) (p : Pools) (loose : List Place) (rs : List Root) → Owns h p loose rs → sums h (λ q. spare q h p) ≡ counted p
sums_spare h p loose rs o = equal (record {
  exprs = total_places (expr_links h.exprs) p.exprs.head p.exprs.count (length h.exprs) (sym (length-map h.exprs (λ (x : ExprRecord). x.next))) o.chains.exprs;
  stmts = total_places (stmt_links h.stmts) p.stmts.head p.stmts.count (length h.stmts) (sym (length-map h.stmts (λ (x : StmtRecord). x.next))) o.chains.stmts;
  decls = total_places (decl_links h.decls) p.decls.head p.decls.count (length h.decls) (sym (length-map h.decls (λ (x : DeclRecord). x.next))) o.chains.decls;
})

owned_lengths : (h : Heap) (p : Pools) (rs : List Root) → Owns h p [] rs → lengths h ≡ plus (records_roots rs) (counted p)
owned_lengths h p rs o =
    sym (sums_ones h (λ q. uses_all q h rs + spare q h p) (λ q v. let n = o.once q v in omega arith))
    ∙ sums_add h (λ q. uses_all q h rs) (λ q. spare q h p)
    ∙ both (sums_roots h rs o.held) (sums_spare h p [] rs o)

pub whole_lengths : (h : Heap) (w : Whole) (body : Stmts) → HoldsWhole h w body →
    ◌≡◌ {A = Spares} (record { exprs = length h.exprs; stmts = length h.stmts; decls = length h.decls }) (plus (records_stmts body) (counted w.pools))
whole_lengths h w body o =
    let r = records_stmts_row body in
    owned_lengths h w.pools ((stmt_at w.body, stmts_row body) ∷ []) o.owned
    ∙ both (equal (omega arith)) refl

-- the records of a model: of its stacks' items and of its body
abbrev pub records_item : Item → Spares
records_item (statement s) = records_stmt s
records_item (case t ss) = with_stmt (plus (exprs_only (records_optional t)) (records_stmts ss))

abbrev pub records_declarator : Declarator → Spares
records_declarator (declarator n v) = record { exprs = records_optional v; stmts = 0; decls = 1 }

abbrev pub records_all : {A : Type 0} → (A → Spares) → List A → Spares
records_all f [] = none_used
records_all f (x ∷ xs) = plus (f x) (records_all f xs)

abbrev pub records_stacks : Stacks → Spares
records_stacks s =
    plus (records_all (λ e. exprs_only (records_expr e)) s.exprs) (plus (records_all records_item s.stmts) (records_all records_declarator s.decls))

abbrev pub records_stage : ModelStage → Spares
records_stage (reading a) = none_used
records_stage (complete ss) = records_stmts ss

abbrev pub records_model : Model → Spares
records_model m = plus (records_stacks m.stacks) (records_stage m.stage)

records_expr_stack : (es : List Expr) → Equals (records_row (expr_stack es)) (records_all (λ e. exprs_only (records_expr e)) es)
records_expr_stack [] = omega arith
records_expr_stack (e ∷ es) = let r₁ = records_expr_row e (expr_stack es) in let r₂ = records_expr_stack es in omega arith

records_item_row : (i : Item) (w : Row) → Equals (records_row (item_row i w)) (plus (records_item i) (records_row w))
records_item_row (statement s) w = records_stmt_row s w
records_item_row (case t ss) w = let r₁ = records_optional_row t end in let r₂ = records_stmts_row ss in omega arith

records_stmt_stack : (is : List Item) → Equals (records_row (stmt_stack is)) (records_all records_item is)
records_stmt_stack [] = omega arith
records_stmt_stack (i ∷ is) = let r₁ = records_item_row i (stmt_stack is) in let r₂ = records_stmt_stack is in omega arith

records_declarator_row : (d : Declarator) (w : Row) → Equals (records_row (declarator_row d w)) (plus (records_declarator d) (records_row w))
records_declarator_row (declarator n v) w = let r = records_optional_row v end in omega arith

records_decl_stack : (ds : List Declarator) → Equals (records_row (decl_stack ds)) (records_all records_declarator ds)
records_decl_stack [] = omega arith
records_decl_stack (d ∷ ds) = let r₁ = records_declarator_row d (decl_stack ds) in let r₂ = records_decl_stack ds in omega arith

records_body_root : (s : Stage) (t : ModelStage) → SameStage s t → Equals (records_roots (body_root s t)) (records_stage t)
records_body_root (Reading a) (reading b) e = omega arith
records_body_root (Reading a) (complete ss) e = absurd e
records_body_root (Complete at) (reading b) e = absurd e
records_body_root (Complete at) (complete ss) e = let r = records_stmts_row ss in omega arith

pub draft_lengths : (h : Heap) (d : Draft) (m : Model) → Holds h d m →
    ◌≡◌ {A = Spares} (record { exprs = length h.exprs; stmts = length h.stmts; decls = length h.decls }) (plus (records_model m) (counted d.pools))
draft_lengths h d m o =
    let r₁ = records_expr_stack m.stacks.exprs in
    let r₂ = records_stmt_stack m.stacks.stmts in
    let r₃ = records_decl_stack m.stacks.decls in
    let r₄ = records_body_root d.stage m.stage o.stage in
    owned_lengths h d.pools (roots d m) o.owned ∙ both (equal (omega arith)) refl
