-- Writing rows: from the writing of a record to that of a row, and how a reading goes down.
use Rattle.std.proofs.Common.{◌≡◌, ℕ, ◌<◌, ◌≤◌, List, [], map, length, get_or, sym, refl, ap, ◌∙◌, subst, arith}
use lib.ListN.{length-map}
use Rattle.pool.specs.Chain.{nowhere, Chain}
use Rattle.records.specs.declared.record.ExprRecord.{ExprRecord}
use Rattle.records.specs.declared.record.StmtRecord.{StmtRecord}
use Rattle.records.specs.declared.record.DeclRecord.{DeclRecord}
use Rattle.records.specs.Heap.{Heap, Place, expr_at, stmt_at, decl_at, Label, expr_label, stmt_label, decl_label, cell, Within, Nowhere, blank_expr}
use Rattle.records.specs.Heap.{blank_stmt, blank_decl, expr_links, stmt_links, decl_links}
use Rattle.records.specs.Rows.{Row, end, node, At, size, row_length}
use Rattle.records.specs.Owned.{Short}
use Rattle.records.specs.Readable.{Readable}
use Rattle.writing.specs.Bytes.{expr_spelling, decl_spelling, stmt_spelling, exprs_row_bytes, first_expr_bytes, decls_row_bytes, first_decl_bytes}
use Rattle.writing.specs.Bytes.{Order, order, in_order, first_bytes, others_bytes, stmts_row_bytes, parts_bytes, command_bytes, around_bytes, placed}
use Rattle.writing.specs.Bytes.{Puts, Writable, weight, Writes, Countable, body_spelling, body_row_bytes}
use Rattle.records.specs.Owned.{Limited}
use Rattle.records.specs.TableOf.{TableOf, Tabled}
use Rattle.records.proofs.Sizes.{reach_is, row_size}
use Rattle.records.proofs.Counting.{at_next, chain_unique, decl_chain, expr_chain, stmt_chain, there}

pub outside : (h : Heap) → Short h → (k : Place) → Nowhere k → Within h k → ⊥
outside h s (expr_at i) n v = let q = s.exprs in omega arith
outside h s (stmt_at i) n v = let q = s.stmts in omega arith
outside h s (decl_at i) n v = let q = s.decls in omega arith

-- a heap holds one row at a place
pub at_unique : (h : Heap) → Short h → (k : Place) (r t : Row) → At h k r → At h k t → r ≡ t
at_unique h s k end end a b = refl
at_unique h s k end (node l x y z w) a b = absurd (outside h s k a b.0)
at_unique h s k (node l x y z w) end a b = absurd (outside h s k b a.0)
at_unique h s k (node l x y z w) (node m p q u v) a b =
    let e₀ : l ≡ m = sym a.1 ∙ b.1 in
    let e₁ = at_unique h s (cell h k).exprs x p a.2 b.2 in
    let e₂ = at_unique h s (cell h k).stmts y q a.3 b.3 in
    let e₃ = at_unique h s (cell h k).decls z u a.4 b.4 in
    let e₄ = at_unique h s (cell h k).next w v a.5 b.5 in
    cc

pub weight_is : (h : Heap) (k : Place) (r : Row) → Short h → At h k r → size r ≤ 65535 → weight h k ≡ size r
unfolding weight
weight_is h k r s a b = reach_is h k r 65535 s a b

-- a place that can be read and is not nowhere
pub record Opened (h : Heap) (k : Place) : Type 0 where
  pub within : Within h k
  pub exprs : Writable h (cell h k).exprs
  pub stmts : Writable h (cell h k).stmts
  pub decls : Writable h (cell h k).decls
  pub next : Writable h (cell h k).next
  pub exprs_less : weight h (cell h k).exprs < weight h k
  pub stmts_less : weight h (cell h k).stmts < weight h k
  pub decls_less : weight h (cell h k).decls < weight h k
  pub next_less : weight h (cell h k).next < weight h k

pub opened : {h : Heap} {k : Place} → Writable h k → (Nowhere k → ⊥) → Opened h k
opened {h} {k} v ne = go v.row v.held v.small
  where
    s : Short h
    s = v.short

    go : (r : Row) → At h k r → size r ≤ 65535 → Opened h k
    go end a b = absurd (ne a)
    go (node l x y z w) a b =
        let e = weight_is h k (node l x y z w) s a b in
        let b₁ : size x ≤ 65535 = omega arith in
        let b₂ : size y ≤ 65535 = omega arith in
        let b₃ : size z ≤ 65535 = omega arith in
        let b₄ : size w ≤ 65535 = omega arith in
        let e₁ = weight_is h (cell h k).exprs x s a.2 b₁ in
        let e₂ = weight_is h (cell h k).stmts y s a.3 b₂ in
        let e₃ = weight_is h (cell h k).decls z s a.4 b₃ in
        let e₄ = weight_is h (cell h k).next w s a.5 b₄ in
        record {
          within = a.0;
          exprs = record { row = x; held = a.2; small = b₁; short = s };
          stmts = record { row = y; held = a.3; small = b₂; short = s };
          decls = record { row = z; held = a.4; small = b₃; short = s };
          next = record { row = w; held = a.5; small = b₄; short = s };
          exprs_less = omega arith;
          stmts_less = omega arith;
          decls_less = omega arith;
          next_less = omega arith;
        }

-- the part of a row that is written, and the part that is left, which begins at a place
pub record Going {R : Type 0} (t : TableOf R) (bytes : Row → List ℕ → List ℕ) (h : Heap) (row at : ℕ) (out : List ℕ) (from : ℕ)
    (out' : List ℕ) (from' : ℕ) : Type 0 where
  pub whole : Row
  pub left : Row
  pub whole_at : At h (t.place row) whole
  pub left_at : At h (t.place at) left
  pub less : size left ≤ size whole
  pub small : size whole ≤ 65535
  pub short : Short h
  pub written : (rest : List ℕ) → placed out from (bytes whole rest) ≡ placed out' from' (bytes left rest)

pub going_from : {R : Type 0} {t : TableOf R} {bytes : Row → List ℕ → List ℕ} {h : Heap} {row : ℕ} {out : List ℕ} {from : ℕ} → Writable h (t.place row)
    → Going t bytes h row row out from out from
going_from v = record {
  whole = v.row;
  left = v.row;
  whole_at = v.held;
  left_at = v.held;
  less = omega arith;
  small = v.small;
  short = v.short;
  written = λ rest. refl;
}

-- the record at the place, where there is one
pub record Here {R : Type 0} (t : TableOf R) (h : Heap) (row at : ℕ) : Type 0 where
  pub writable : Writable h (t.place at)
  pub opened : Opened h (t.place at)
  pub less : weight h (t.place at) ≤ weight h (t.place row)

module _ {R : Type 0} {t : TableOf R} {link : R → ℕ} {relinked : R → ℕ → R} (tabled : Tabled R t link relinked)
    {bytes : Row → List ℕ → List ℕ} {h : Heap} {row at : ℕ} {out : List ℕ} {from : ℕ} {out' : List ℕ} {from' : ℕ} (g : Going t bytes h row at out from out' from') where
  pub going_here : (at ≡ nowhere → ⊥) → Here t h row at
  going_here ne =
      let l = g.less in
      let b = g.small in
      let v : Writable h (t.place at) = record { row = g.left; held = g.left_at; small = omega arith; short = g.short } in
      let e₁ = weight_is h (t.place row) g.whole g.short g.whole_at b in
      let e₂ = weight_is h (t.place at) g.left g.short g.left_at (omega arith) in
      record { writable = v; opened = opened v (λ n. ne (tabled.nowhere_out at n)); less = omega arith }

  pub going_on : (at ≡ nowhere → ⊥) → (first : Row → List ℕ → List ℕ)
      → ((l : Label) (x y z w : Row) (rest : List ℕ) → bytes (node l x y z w) rest ≡ first (node l x y z w) (bytes w rest))
      → {out'' : List ℕ} {from'' : ℕ} → Writes first h (t.place at) out' from' out'' from'' → Going t bytes h row (link (there tabled h at)) out from out'' from''
  going_on ne first law {out''} {from''} v = go g.left g.left_at g.less g.written
    where
      go : (r : Row) → At h (t.place at) r → size r ≤ size g.whole
          → ((others : List ℕ) → placed out from (bytes g.whole others) ≡ placed out' from' (bytes r others))
          → Going t bytes h row (link (there tabled h at)) out from out'' from''
      go end a b p = absurd (ne (tabled.nowhere_out at a))
      go (node l x y z w) a b p =
          let o : v.row ≡ node l x y z w = at_unique h g.short (t.place at) v.row (node l x y z w) v.held a in
          let d : Puts (first (node l x y z w)) out' from' out'' from'' = subst (λ (r : Row). Puts (first r) out' from' out'' from'') o v.put in
          record {
            whole = g.whole;
            left = w;
            whole_at = g.whole_at;
            left_at = at_next tabled h at w a.5;
            less = omega arith;
            small = g.small;
            short = g.short;
            written = λ others. p others ∙ ap (placed out' from') (law l x y z w others) ∙ d (bytes w others);
          }

  pub going_off : at ≡ nowhere → ((rest : List ℕ) → bytes end rest ≡ rest) → Writes bytes h (t.place row) out from out' from'
  going_off e law = go g.left g.left_at g.written
    where
      go : (r : Row) → At h (t.place at) r → ((rest : List ℕ) → placed out from (bytes g.whole rest) ≡ placed out' from' (bytes r rest))
          → Writes bytes h (t.place row) out from out' from'
      go end a p = record { row = g.whole; held = g.whole_at; put = λ rest. p rest ∙ ap (placed out' from') (law rest) }
      go (node l x y z w) a p = absurd (outside h g.short (t.place at) (tabled.nowhere_in at e) a.0)

-- the laws of rows
pub exprs_law : (l : Label) (x y z w : Row) (rest : List ℕ)
    → exprs_row_bytes (node l x y z w) rest ≡ first_expr_bytes (node l x y z w) (exprs_row_bytes w rest)
exprs_law (expr_label k) x y z w rest = refl
exprs_law (stmt_label k) x y z w rest = refl
exprs_law (decl_label n) x y z w rest = refl

pub decls_law : (l : Label) (x y z w : Row) (rest : List ℕ)
    → decls_row_bytes (node l x y z w) rest ≡ first_decl_bytes (node l x y z w) (decls_row_bytes w rest)
decls_law (expr_label k) x y z w rest = refl
decls_law (stmt_label k) x y z w rest = refl
decls_law (decl_label n) x y z w rest = refl

pub stmts_law : (l : Label) (x y z w : Row) (rest : List ℕ) → stmts_row_bytes (node l x y z w) rest ≡ first_bytes (node l x y z w) (stmts_row_bytes w rest)
stmts_law l x y z w rest = refl

-- what can be read can be counted
module _ {h : Heap} {i : ℕ} where
  pub exprs_countable : Writable h (expr_at i) → Countable (expr_links h.exprs) i
  exprs_countable v = (row_length v.row, expr_chain h i v.row v.held, (let a = row_size v.row in let b = v.small in omega arith))

  pub stmts_countable : Writable h (stmt_at i) → Countable (stmt_links h.stmts) i
  stmts_countable v = (row_length v.row, stmt_chain h i v.row v.held, (let a = row_size v.row in let b = v.small in omega arith))

  pub decls_countable : Writable h (decl_at i) → Countable (decl_links h.decls) i
  decls_countable v = (row_length v.row, decl_chain h i v.row v.held, (let a = row_size v.row in let b = v.small in omega arith))

-- links that lead through n records and then nowhere tell the row's length
short_links : {X : Type 0} (link : X → ℕ) (t : List X) → length t ≤ nowhere → length (map link t) ≤ nowhere
short_links link t s = omega (arith, length-map t link)

module _ (h : Heap) (i n : ℕ) (r : Row) (s : Short h) where
  exprs_counted : Chain (expr_links h.exprs) i n → At h (expr_at i) r → n ≡ row_length r
  exprs_counted c a = chain_unique (expr_links h.exprs) i n (row_length r) (short_links (λ (x : ExprRecord). x.next) h.exprs s.exprs) c (expr_chain h i r a)

  stmts_counted : Chain (stmt_links h.stmts) i n → At h (stmt_at i) r → n ≡ row_length r
  stmts_counted c a = chain_unique (stmt_links h.stmts) i n (row_length r) (short_links (λ (x : StmtRecord). x.next) h.stmts s.stmts) c (stmt_chain h i r a)

  decls_counted : Chain (decl_links h.decls) i n → At h (decl_at i) r → n ≡ row_length r
  decls_counted c a = chain_unique (decl_links h.decls) i n (row_length r) (short_links (λ (x : DeclRecord). x.next) h.decls s.decls) c (decl_chain h i r a)

-- one expression or declarator: its row, then its command
module _ {h : Heap} {i : ℕ} {out : List ℕ} {from : ℕ} {out₁ : List ℕ} {from₁ : ℕ} {out₂ : List ℕ} {from₂ : ℕ} (n : ℕ) where
  pub expr_written : Writable h (expr_at i) → (i ≡ nowhere → ⊥) → Writes exprs_row_bytes h (cell h (expr_at i)).exprs out from out₁ from₁
      → Chain (expr_links h.exprs) (get_or h.exprs i blank_expr).first n → Puts (expr_spelling (get_or h.exprs i blank_expr).kind n) out₁ from₁ out₂ from₂
      → Writes first_expr_bytes h (expr_at i) out from out₂ from₂
  expr_written v ne p c q = go v.row v.held
    where
      go : (r : Row) → At h (expr_at i) r → Writes first_expr_bytes h (expr_at i) out from out₂ from₂
      go end a = absurd (ne a)
      go (node l x y z w) a =
          let expr = get_or h.exprs i blank_expr in
          let m : n ≡ row_length p.row = exprs_counted h expr.first n p.row v.short c p.held in
          record {
            row = node (expr_label expr.kind) p.row y z w;
            held = (a.0, refl, p.held, a.3, a.4, a.5);
            put = λ rest. p.put (expr_spelling expr.kind (row_length p.row) rest)
                ∙ ap (λ (k : ℕ). placed out₁ from₁ (expr_spelling expr.kind k rest)) (sym m) ∙ q rest;
          }

  pub decl_written : Writable h (decl_at i) → (i ≡ nowhere → ⊥) → Writes exprs_row_bytes h (cell h (decl_at i)).exprs out from out₁ from₁
      → Chain (expr_links h.exprs) (get_or h.decls i blank_decl).value n → Puts (decl_spelling (get_or h.decls i blank_decl).name n) out₁ from₁ out₂ from₂
      → Writes first_decl_bytes h (decl_at i) out from out₂ from₂
  decl_written v ne p c q = go v.row v.held
    where
      go : (r : Row) → At h (decl_at i) r → Writes first_decl_bytes h (decl_at i) out from out₂ from₂
      go end a = absurd (ne a)
      go (node l x y z w) a =
          let decl = get_or h.decls i blank_decl in
          let m : n ≡ row_length p.row = exprs_counted h decl.value n p.row v.short c p.held in
          record {
            row = node (decl_label decl.name) p.row y z w;
            held = (a.0, refl, p.held, a.3, a.4, a.5);
            put = λ rest. p.put (decl_spelling decl.name (row_length p.row) rest)
                ∙ ap (λ (k : ℕ). placed out₁ from₁ (decl_spelling decl.name k rest)) (sym m) ∙ q rest;
          }

-- one statement
module _ {h : Heap} {i : ℕ} {out : List ℕ} {from : ℕ} {out₁ : List ℕ} {from₁ : ℕ} where
  -- its command, by the lengths of its rows
  pub command_written : (x y z : ℕ) → Writable h (stmt_at i) → (i ≡ nowhere → ⊥)
      → Chain (expr_links h.exprs) (get_or h.stmts i blank_stmt).exprs x → Chain (stmt_links h.stmts) (get_or h.stmts i blank_stmt).stmts y
      → Chain (decl_links h.decls) (get_or h.stmts i blank_stmt).decls z
      → Puts (stmt_spelling (get_or h.stmts i blank_stmt).kind x y z) out from out₁ from₁ → Writes command_bytes h (stmt_at i) out from out₁ from₁
  command_written x y z v ne cx cy cz q = go v.row v.held
    where
      go : (r : Row) → At h (stmt_at i) r → Writes command_bytes h (stmt_at i) out from out₁ from₁
      go end a = absurd (ne a)
      go (node l r s t w) a =
          let stmt = get_or h.stmts i blank_stmt in
          let e₁ : x ≡ row_length r = exprs_counted h stmt.exprs x r v.short cx a.2 in
          let e₂ : y ≡ row_length s = stmts_counted h stmt.stmts y s v.short cy a.3 in
          let e₃ : z ≡ row_length t = decls_counted h stmt.decls z t v.short cz a.4 in
          record {
            row = node (stmt_label stmt.kind) r s t w;
            held = (a.0, refl, a.2, a.3, a.4, a.5);
            put =
                subst (λ (k : ℕ). Puts (stmt_spelling stmt.kind k (row_length s) (row_length t)) out from out₁ from₁) e₁
                (subst (λ (k : ℕ). Puts (stmt_spelling stmt.kind x k (row_length t)) out from out₁ from₁) e₂
                (subst (λ (k : ℕ). Puts (stmt_spelling stmt.kind x y k) out from out₁ from₁) e₃ q));
          }

  -- its parts, then its command
  pub stmt_written : {out₂ : List ℕ} {from₂ : ℕ} → Writable h (stmt_at i) → Writes parts_bytes h (stmt_at i) out from out₁ from₁
      → Writes command_bytes h (stmt_at i) out₁ from₁ out₂ from₂ → Writes first_bytes h (stmt_at i) out from out₂ from₂
  stmt_written {out₂} {from₂} v p c =
      let e : c.row ≡ p.row = at_unique h v.short (stmt_at i) c.row p.row c.held p.held in
      record { row = p.row; held = p.held; put = go p.row p.put (subst (λ (r : Row). Puts (command_bytes r) out₁ from₁ out₂ from₂) e c.put) }
    where
      go : (r : Row) → Puts (parts_bytes r) out from out₁ from₁ → Puts (command_bytes r) out₁ from₁ out₂ from₂ → Puts (first_bytes r) out from out₂ from₂
      go end p q = λ rest. p rest ∙ q rest
      go (node (expr_label k) x y z w) p q = λ rest. p rest ∙ q rest
      go (node (stmt_label k) x y z w) p q = λ rest. p (stmt_spelling k (row_length x) (row_length y) (row_length z) rest) ∙ q rest
      go (node (decl_label n) x y z w) p q = λ rest. p rest ∙ q rest

  -- its parts, in the order of its kind
  pub parts_written : Writable h (stmt_at i) → (i ≡ nowhere → ⊥) → (o : Order) → o ≡ order (get_or h.stmts i blank_stmt).kind → (x y z : Row)
      → At h (cell h (stmt_at i)).exprs x → At h (cell h (stmt_at i)).stmts y → At h (cell h (stmt_at i)).decls z
      → Puts (in_order o (exprs_row_bytes x) (first_bytes y) (others_bytes y) (decls_row_bytes z)) out from out₁ from₁
      → Writes parts_bytes h (stmt_at i) out from out₁ from₁
  parts_written v ne o e x y z ax ay az p = go v.row v.held
    where
      go : (r : Row) → At h (stmt_at i) r → Writes parts_bytes h (stmt_at i) out from out₁ from₁
      go end a = absurd (ne a)
      go (node l x₀ y₀ z₀ w) a = record {
        row = node (stmt_label (get_or h.stmts i blank_stmt).kind) x y z w;
        held = (a.0, refl, ax, ay, az, a.5);
        put = subst (λ (t : Order). Puts (in_order t (exprs_row_bytes x) (first_bytes y) (others_bytes y) (decls_row_bytes z)) out from out₁ from₁) e p;
      }

  -- with no statement at all
  pub around_bare : Writable h (stmt_at i) → (i ≡ nowhere → ⊥) → (get_or h.stmts i blank_stmt).stmts ≡ nowhere
      → Writes exprs_row_bytes h (cell h (stmt_at i)).exprs out from out₁ from₁ → Writes around_bytes h (stmt_at i) out from out₁ from₁
  around_bare v ne e p = go v.row v.held
    where
      go : (r : Row) → At h (stmt_at i) r → Writes around_bytes h (stmt_at i) out from out₁ from₁
      go end a = absurd (ne a)
      go (node l x y z w) a = record { row = node l p.row end z w; held = (a.0, a.1, p.held, e, a.4, a.5); put = p.put }

  -- with a first statement
  pub around_written : {out₂ : List ℕ} {from₂ : ℕ} {out₃ : List ℕ} {from₃ : ℕ} → Writable h (stmt_at i) → (i ≡ nowhere → ⊥)
      → ((get_or h.stmts i blank_stmt).stmts ≡ nowhere → ⊥)
      → Writes first_bytes h (cell h (stmt_at i)).stmts out from out₁ from₁ → Writes exprs_row_bytes h (cell h (stmt_at i)).exprs out₁ from₁ out₂ from₂
      → Writes stmts_row_bytes h (cell h (cell h (stmt_at i)).stmts).next out₂ from₂ out₃ from₃ → Writes around_bytes h (stmt_at i) out from out₃ from₃
  around_written {out₂} {from₂} {out₃} {from₃} v ne some f p o = go v.row v.held f.row f.held f.put
    where
      go : (r : Row) → At h (stmt_at i) r → (y : Row) → At h (cell h (stmt_at i)).stmts y → Puts (first_bytes y) out from out₁ from₁
          → Writes around_bytes h (stmt_at i) out from out₃ from₃
      go end a y b q = absurd (ne a)
      go (node l x y₀ z w) a end b q = absurd (some b)
      go (node l x y₀ z w) a (node m x₁ y₁ z₁ w₁) b q =
          let u : o.row ≡ w₁ = at_unique h v.short (cell h (cell h (stmt_at i)).stmts).next o.row w₁ o.held b.5 in
          let t : Puts (stmts_row_bytes w₁) out₂ from₂ out₃ from₃ = subst (λ (r : Row). Puts (stmts_row_bytes r) out₂ from₂ out₃ from₃) u o.put in
          record {
            row = node l p.row (node m x₁ y₁ z₁ w₁) z w;
            held = (a.0, a.1, p.held, b, a.4, a.5);
            put = λ rest. q (exprs_row_bytes p.row (stmts_row_bytes w₁ rest)) ∙ p.put (stmts_row_bytes w₁ rest) ∙ t rest;
          }

-- a body and its command
pub body_written : {h : Heap} {i : ℕ} {out out₁ : List ℕ} {from₁ : ℕ} {out₂ : List ℕ} {from₂ : ℕ} (n : ℕ) → Writable h (stmt_at i)
    → Writes stmts_row_bytes h (stmt_at i) out 0 out₁ from₁
    → Chain (stmt_links h.stmts) i n → Puts (body_spelling n) out₁ from₁ out₂ from₂ → (r : Row) → At h (stmt_at i) r
    → placed out 0 (body_row_bytes r) ≡ (out₂, from₂)
body_written {h} {i} {out} {out₁} {from₁} {out₂} {from₂} n v p c q r a =
    let u : p.row ≡ r = at_unique h v.short (stmt_at i) p.row r p.held a in
    let t : Puts (stmts_row_bytes r) out 0 out₁ from₁ = subst (λ (w : Row). Puts (stmts_row_bytes w) out 0 out₁ from₁) u p.put in
    let m : n ≡ row_length r = stmts_counted h i n r v.short c a in
    t (body_spelling (row_length r) []) ∙ ap (λ (k : ℕ). placed out₁ from₁ (body_spelling k [])) (sym m) ∙ q []

pub small_row : {h : Heap} {k : Place} → Writable h k → (r : Row) → At h k r → size r ≤ 65535
small_row {h} {k} v r a = subst (λ (w : Row). size w ≤ 65535) (at_unique h v.short k v.row r v.held a) v.small

-- what can be read in tables that are not too long
pub limited : (h : Heap) (k : Place) → Readable h k → Limited h → Writable h k
limited h k v l = record { row = v.0; held = v.1; small = let a = v.2 in let x = l.exprs in let y = l.stmts in let z = l.decls in omega arith; short = v.3 }
