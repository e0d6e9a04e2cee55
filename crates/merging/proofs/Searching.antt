-- The walk along the declarators finds the one that the rule merges into.
use Rattle.std.proofs.Common.{◌≡◌, ℕ, zero, suc, ◌<◌, ◌≤◌, Bool, true, false, cond, not, eqb, List, [], ◌∷◌, length, Option, None, Some, get_or, set, fold}
use Rattle.std.proofs.Common.{sym, refl, ap, ◌∙◌, arith, eq-eqb, ne_eqb}
use Rattle.pool.specs.Chain.{nowhere}
use Rattle.script.specs.declared.DeclarationKind.{DeclarationKind}
use Rattle.script.specs.declared.DeclarationKind.TheVariants.{Const, Let, Var}
use Rattle.script.specs.Judge.{Spares}
use Rattle.script.specs.Sound.{records_declarators}
use Rattle.script.specs.Tree.{Declarators, Expr, OptionalExpr, absent, declarator_then, no_declarators, present}
use Rattle.records.specs.declared.record.DeclRecord.{DeclRecord}
use Rattle.records.specs.declared.record.Pools.{Pools}
use Rattle.records.specs.Embedding.{declarators_row, expr_row, is_present, optional_row}
use Rattle.records.specs.Heap.{Heap, Place, blank_decl, decl_at, expr_at}
use Rattle.records.specs.Owned.{Owns, Root, Short}
use Rattle.records.specs.Rows.{At, end}
use Rattle.rules.specs.Merging.{Merge, blocked, clear, merge_in_declarator, merge_in_later_or, merge_into_declarators, mergeable, merged}
use Rattle.moves.specs.Moved.{Moved}
use Rattle.records.specs.Walked.{walked}
use Rattle.records.proofs.Balance.{balance}
use Rattle.records.proofs.Moves.{end_out, pick}
use Rattle.records.proofs.Tables.{decls_tabled}
use Rattle.records.specs.Turning.{decl_next}
use Rattle.records.proofs.Tallies.{lengths, records_declarators_row}
use Rattle.moves.proofs.Frames.{arrange, regroup, stays}
use Rattle.moves.proofs.Lenses.{inside_decl}
use Rattle.moves.proofs.Open.{close_decl, label_name, name_of_decl, open_decl}
use Rattle.moves.proofs.Rows.{expr_within}
use Rattle.records.proofs.Walked.{walked_end, walked_node}
use Rattle.merging.specs.Searched.{Searched, found, is_merged, later_or, leads, merged_roots, passed, place_or, searched, searched_here, stopped}

-- a link leads to a value where there is one
value_leads : (h : Heap) (i : ℕ) (v : OptionalExpr) → Short h → At h (expr_at i) (optional_row v end) → leads i ≡ is_present v
value_leads h i absent s a = ap not (eq-eqb i nowhere a)
value_leads h i (present e) s a =
    let w = expr_within h i e end a in
    ap not (ne_eqb i nowhere (λ z. let l = s.exprs in omega arith))

place_step : (f : Option ℕ) (later here : Searched) → place_or f (later_or later here) ≡ place_or (place_or f here) later
place_step f passed here = refl
place_step f stopped here = refl
place_step f (found j) here = refl

-- what is found with one declarator more
abbrev pub found_with : DeclarationKind → Bool → ℕ → Option ℕ → ℕ × DeclRecord → Option ℕ
found_with k l name f d = place_or f (searched_here k l (eqb d.1.name name) (leads d.1.value) d.0)

-- a walk along a row finds what the search finds
pub walk_finds : (h : Heap) (k : DeclarationKind) (l : Bool) (name i n : ℕ) (f : Option ℕ) (ds : Declarators) → Short h
    → At h (decl_at i) (declarators_row ds) → (records_declarators ds).decls ≤ n
    → fold (found_with k l name) f (walked decl_next h.decls i n) ≡ place_or f (searched h.decls k l name ds i)
walk_finds h k l name i n f no_declarators s a c = rw (walked_end decls_tabled h i n s a) refl
walk_finds h k l name i zero f (declarator_then m v ds) s a c = absurd (omega arith)
walk_finds h k l name i (suc n) f (declarator_then m v ds) s a c =
    let y = get_or h.decls i blank_decl in
    let e₁ : y.name ≡ m = ap label_name a.1 in
    let e₂ : leads y.value ≡ is_present v = value_leads h y.value v s a.2 in
    ap (fold (found_with k l name) f) (walked_node decls_tabled h i n a.0)
    ∙ walk_finds h k l name y.next n (found_with k l name f (i, y)) ds s a.5 (omega arith)
    ∙ ap (λ (b : ℕ). place_or (place_or f (searched_here k l (eqb b name) (leads y.value) i)) (searched h.decls k l name ds y.next)) e₁
    ∙ ap (λ (t : Bool). place_or (place_or f (searched_here k l (eqb m name) t i)) (searched h.decls k l name ds y.next)) e₂
    ∙ sym (place_step f (searched h.decls k l name ds y.next) (searched_here k l (eqb m name) (is_present v) i))

-- the declarator at a place gets a value
abbrev pub valued : Heap → ℕ → ℕ → Heap
valued h j value = record {
  exprs = h.exprs;
  stmts = h.stmts;
  decls = set h.decls j (record { name = (get_or h.decls j blank_decl).name; value = value; next = (get_or h.decls j blank_decl).next });
}

-- the search stops where the rule does, and the place that it finds is that of the declarator that the rule merges into
abbrev Agrees : Heap → ℕ → Declarators → Expr → Searched → Merge → Type 0
Agrees h i ds e passed (merged ds') = ⊥
Agrees h i ds e passed blocked = ⊥
Agrees h i ds e passed clear = Unit {0}
Agrees h i ds e stopped (merged ds') = ⊥
Agrees h i ds e stopped blocked = Unit {0}
Agrees h i ds e stopped clear = ⊥
Agrees h i ds e (found j) (merged ds') =
    (j < length h.decls)
    × ((value : ℕ) (p : Pools) (loose : List Place) (rest : List Root)
    → Owns h p loose ((decl_at i, declarators_row ds) ∷ (expr_at value, expr_row e end) ∷ rest)
    → Moved h (valued h j value) p loose ((decl_at i, declarators_row ds') ∷ rest))
Agrees h i ds e (found j) blocked = ⊥
Agrees h i ds e (found j) clear = ⊥

here_agrees : (h : Heap) (k : DeclarationKind) (l : Bool) (n : ℕ) (e : Expr) (b : Bool) (m : ℕ) (v : OptionalExpr) (ds : Declarators) (i : ℕ)
    → At h (decl_at i) (declarators_row (declarator_then m v ds))
    → Agrees h i (declarator_then m v ds) e (searched_here k l b (is_present v) i) (merge_in_declarator k l n e b m v ds)
here_agrees h k l n e b m (present x) ds i a = tt
here_agrees h k l n e true m absent ds i a = by (mergeable k l)
  where
    by : (c : Bool) → Agrees h i (declarator_then m absent ds) e (cond c (found i) stopped) (cond c (merged (declarator_then m (present e) ds)) blocked)
    by true = (
      a.0,
      λ value p loose rest o.
          close_decl m (present e) ds (record { name = (get_or h.decls i blank_decl).name; value = value; next = (get_or h.decls i blank_decl).next })
          (name_of_decl m absent ds o) (pick 1 (end_out (open_decl m absent ds o))),
    )
    by false = tt
here_agrees h Var l n e false m absent ds i a = tt
here_agrees h Let l n e false m absent ds i a = tt
here_agrees h Const l n e false m absent ds i a = tt

later_agrees : (h : Heap) (e : Expr) (m : ℕ) (v : OptionalExpr) (ds : Declarators) (i : ℕ) (s : Searched) (g : Merge) (s' : Searched) (g' : Merge)
    → Agrees h (get_or h.decls i blank_decl).next ds e s g → Agrees h i (declarator_then m v ds) e s' g'
    → Agrees h i (declarator_then m v ds) e (later_or s s') (merge_in_later_or g m v g')
later_agrees h e m v ds i passed (merged ds') s' g' x y = absurd x
later_agrees h e m v ds i passed blocked s' g' x y = absurd x
later_agrees h e m v ds i passed clear s' g' x y = y
later_agrees h e m v ds i stopped (merged ds') s' g' x y = absurd x
later_agrees h e m v ds i stopped blocked s' g' x y = tt
later_agrees h e m v ds i stopped clear s' g' x y = absurd x
later_agrees h e m v ds i (found j) (merged ds') s' g' x y = (
  x.0,
  λ value p loose rest o.
      inside_decl m v v ds ds' o
      (λ o₁. regroup (x.1 value p (decl_at i ∷ loose) ((expr_at (get_or h.decls i blank_decl).value, optional_row v end) ∷ rest) (arrange (1 ∷ 1 ∷ []) o₁))
      (λ o₂. pick 1 o₂)),
)
later_agrees h e m v ds i (found j) blocked s' g' x y = absurd x
later_agrees h e m v ds i (found j) clear s' g' x y = absurd x

agrees : (h : Heap) (k : DeclarationKind) (l : Bool) (n : ℕ) (e : Expr) (ds : Declarators) (i : ℕ) → At h (decl_at i) (declarators_row ds)
    → Agrees h i ds e (searched h.decls k l n ds i) (merge_into_declarators k l n e ds)
agrees h k l n e no_declarators i a = tt
agrees h k l n e (declarator_then m v ds) i a =
    later_agrees h e m v ds i (searched h.decls k l n ds (get_or h.decls i blank_decl).next) (merge_into_declarators k l n e ds)
    (searched_here k l (eqb m n) (is_present v) i) (merge_in_declarator k l n e (eqb m n) m v ds)
    (agrees h k l n e ds (get_or h.decls i blank_decl).next a.5) (here_agrees h k l n e (eqb m n) m v ds i a)

-- no row has more declarators than the table
pub declarators_fit : {h : Heap} {p : Pools} {loose : List Place} {rest : List Root} {i : ℕ} (ds : Declarators)
    → Owns h p loose ((decl_at i, declarators_row ds) ∷ rest) → (records_declarators ds).decls ≤ length h.decls
declarators_fit {h} ds o =
    let b : (lengths h).decls ≡ _ = ap (λ (s : Spares). s.decls) (balance o) in
    let r = records_declarators_row ds in
    let q = r.decls in
    omega arith

module _ {h : Heap} {p : Pools} {loose : List Place} {rest : List Root} {names value : ℕ} (ds : Declarators) (e : Expr)
    (o : Owns h p loose ((decl_at names, declarators_row ds) ∷ (expr_at value, expr_row e end) ∷ rest)) where
  none_by : (s : Searched) (g : Merge) → Agrees h names ds e s g → None ≡ place_or None s
      → (false ≡ is_merged g) × Moved h h p loose (merged_roots names ds value e g rest)
  none_by passed (merged ds') a z = absurd a
  none_by passed blocked a z = absurd a
  none_by passed clear a z = (refl, stays o)
  none_by stopped (merged ds') a z = absurd a
  none_by stopped blocked a z = (refl, stays o)
  none_by stopped clear a z = absurd a
  none_by (found j) (merged ds') a z = cc
  none_by (found j) blocked a z = absurd a
  none_by (found j) clear a z = absurd a

  found_by : (at : ℕ) (s : Searched) (g : Merge) → Agrees h names ds e s g → Some at ≡ place_or None s
      → (true ≡ is_merged g) × Moved h (valued h at value) p loose (merged_roots names ds value e g rest)
  found_by at passed (merged ds') a z = absurd a
  found_by at passed blocked a z = absurd a
  found_by at passed clear a z = cc
  found_by at stopped (merged ds') a z = absurd a
  found_by at stopped blocked a z = cc
  found_by at stopped clear a z = absurd a
  found_by at (found j) (merged ds') a z = let y : at ≡ j = cc in rw y (refl, a.1 value p loose rest o)
  found_by at (found j) blocked a z = absurd a
  found_by at (found j) clear a z = absurd a

  pub none_found : (k : DeclarationKind) (l : Bool) (n : ℕ) → None ≡ place_or None (searched h.decls k l n ds names)
      → (false ≡ is_merged (merge_into_declarators k l n e ds)) × Moved h h p loose (merged_roots names ds value e (merge_into_declarators k l n e ds) rest)
  none_found k l n z =
      none_by (searched h.decls k l n ds names) (merge_into_declarators k l n e ds) (agrees h k l n e ds names o.held.0) z

  pub one_found : (k : DeclarationKind) (l : Bool) (n at : ℕ) → Some at ≡ place_or None (searched h.decls k l n ds names)
      → (true ≡ is_merged (merge_into_declarators k l n e ds))
      × Moved h (valued h at value) p loose (merged_roots names ds value e (merge_into_declarators k l n e ds) rest)
  one_found k l n at z =
      found_by at (searched h.decls k l n ds names) (merge_into_declarators k l n e ds) (agrees h k l n e ds names o.held.0) z
