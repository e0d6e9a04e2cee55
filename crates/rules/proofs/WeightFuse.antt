-- Fusing leaves a body as it is or makes it lighter.
use Rattle.std.proofs.Common.{◌≡◌, ℕ, ◌+◌, ◌<◌, ◌≤◌, cond, ◌⊎◌, refl, ap, ap₂, inl, inr, arith}
use Rattle.script.specs.Sound.{records_expr, records_optional}
use Rattle.script.specs.Tree.{Stmts, Stmt, empty, expression, declaration, return_of, throw, if_then, block, while, do_while, for, switch}
use Rattle.script.specs.Tree.{break, continue, Cases, no_cases, case_then, Alternate, no_alternate, alternate, no_stmts, stmt_then}
use Rattle.rules.specs.Holder.{Holder, other_list, loop_block, body_list}
use Rattle.rules.specs.Statements.{statement_cares_about_scope}
use Rattle.rules.specs.JumpCount.{jumps_list}
use Rattle.rules.specs.Fuse.{Setting, minimize_list, fuse_statement, fuse_cases, fuse_list, do_while_holder, fuse_alternate}
use Rattle.rules.specs.Weight.{weight, weight_of_statement, weight_of_alternate, weight_of_cases, weight_of_init, vars_here, vars_ahead_within}
use Rattle.rules.specs.Weight.{vars_ahead_in_alternate, vars_ahead_after, vars_ahead, vars_ahead_in_cases}
use Rattle.rules.specs.Laws.{FusingLightens}
use Rattle.rules.proofs.WeightMinimize.{Lightens, minimize_statements_lightens}

-- the two numbers of a thing; the second by how many var declarations stand before it
record Measure (A : Type 0) : Type 0 where
  heavy : A → ℕ
  ahead : ℕ → A → ℕ

abbrev Eased : {A : Type 0} → Measure A → A → A → Type 0
Eased m a b = (a ≡ b) ⊎ ((m.heavy a < m.heavy b) ⊎ ((m.heavy a ≡ m.heavy b) × ((n : ℕ) → m.ahead n a < m.ahead n b)))

abbrev of_statement : Measure Stmt
of_statement = record { heavy = weight_of_statement; ahead = λ n x. vars_ahead_within x }

abbrev of_alternate : Measure Alternate
of_alternate = record { heavy = weight_of_alternate; ahead = λ n a. vars_ahead_in_alternate a }

abbrev of_list : Measure Stmts
of_list = record { heavy = weight; ahead = vars_ahead_after }

abbrev of_whole : Measure Stmts
of_whole = record { heavy = weight; ahead = λ n ss. vars_ahead ss }

abbrev of_cases : Measure Cases
of_cases = record { heavy = weight_of_cases; ahead = λ n cs. vars_ahead_in_cases cs }

-- with one part eased
module _ {A C : Type 0} (p : Measure A) (q : Measure C) (g : A → C) (k : ℕ) (w : (a : A) → q.heavy (g a) ≡ k + p.heavy a)
    (v : (n : ℕ) (a : A) → q.ahead n (g a) ≡ p.ahead n a) where
  eased_part : (a b : A) → Eased p a b → Eased q (g a) (g b)
  eased_part a b (inl e) = inl (ap g e)
  eased_part a b (inr (inl l)) = let i = w a in let j = w b in inr (inl (omega arith))
  eased_part a b (inr (inr (e, l))) =
      let i = w a in
      let j = w b in
      inr (inr (omega arith, λ n. let c = v n a in let d = v n b in let f = l n in omega arith))

not_heavier : {A : Type 0} (p : Measure A) (a b : A) → Eased p a b → p.heavy a ≤ p.heavy b
not_heavier p a b (inl e) = let i : p.heavy a ≡ p.heavy b = ap p.heavy e in omega arith
not_heavier p a b (inr (inl l)) = omega arith
not_heavier p a b (inr (inr (e, l))) = omega arith

-- with two parts eased: by n vars before the whole there are i n before the second part, and c n pairs besides
module _ {A B C : Type 0} (p : Measure A) (q : Measure B) (s : Measure C) (g : A → B → C) (k : ℕ) (i c : ℕ → ℕ) where
  abbrev Adds : A → B → Type 0
  Adds a b = (s.heavy (g a b) ≡ k + (p.heavy a + q.heavy b)) × ((n : ℕ) → s.ahead n (g a b) ≡ c n + (p.ahead n a + q.ahead (i n) b))

  eased_parts : (a a' : A) (b b' : B) → Adds a b → Adds a' b' → Eased p a a' → Eased q b b' → Eased s (g a b) (g a' b')
  eased_parts a a' b b' u u' (inl e) (inl f) = inl (ap₂ g e f)
  eased_parts a a' b b' u u' (inl e) (inr (inl l)) =
      let j = not_heavier p a a' (inl e) in inr (inl (omega (arith, u.0, u'.0)))
  eased_parts a a' b b' u u' (inl e) (inr (inr (f, l))) =
      let j : p.heavy a ≡ p.heavy a' = ap p.heavy e in
      inr (inr (
        omega (arith, u.0, u'.0),
        λ n.
            let o : p.ahead n a ≡ p.ahead n a' = ap (p.ahead n) e in let t = l (i n) in omega (arith, u.1 n, u'.1 n),
      ))
  eased_parts a a' b b' u u' (inr (inl l)) h = let j = not_heavier q b b' h in inr (inl (omega (arith, u.0, u'.0)))
  eased_parts a a' b b' u u' (inr (inr (e, l))) (inl f) =
      let j : q.heavy b ≡ q.heavy b' = ap q.heavy f in
      inr (inr (
        omega (arith, u.0, u'.0),
        λ n.
            let o : q.ahead (i n) b ≡ q.ahead (i n) b' = ap (q.ahead (i n)) f in let t = l n in omega (arith, u.1 n, u'.1 n),
      ))
  eased_parts a a' b b' u u' (inr (inr (e, l))) (inr (inl f)) = inr (inl (omega (arith, u.0, u'.0)))
  eased_parts a a' b b' u u' (inr (inr (e, l))) (inr (inr (f, h))) =
      inr (inr (omega (arith, u.0, u'.0), λ n. let o = l n in let t = h (i n) in omega (arith, u.1 n, u'.1 n)))

-- lists

eased_whole : (a b c : Stmts) → Lightens a b → Eased of_list b c → Lightens a c
eased_whole a b c (inl e) (inl f) = inl (cc)
eased_whole a b c (inl e) (inr (inl l)) = let i : weight a ≡ weight b = ap weight e in inr (inl (omega arith))
eased_whole a b c (inl e) (inr (inr (f, l))) =
    let i : weight a ≡ weight b = ap weight e in
    let j : vars_ahead a ≡ vars_ahead b = ap vars_ahead e in let k = l 0 in inr (inr (omega arith, omega arith))
eased_whole a b c (inr (inl l)) h = let i = not_heavier of_list b c h in inr (inl (omega arith))
eased_whole a b c (inr (inr (e, l))) (inl f) =
    let i : weight b ≡ weight c = ap weight f in
    let j : vars_ahead b ≡ vars_ahead c = ap vars_ahead f in inr (inr (omega arith, omega arith))
eased_whole a b c (inr (inr (e, l))) (inr (inl f)) = inr (inl (omega arith))
eased_whole a b c (inr (inr (e, l))) (inr (inr (f, h))) = let i = h 0 in inr (inr (omega arith, omega arith))

as_whole : (a b : Stmts) → Lightens a b → Eased of_whole a b
as_whole a b (inl e) = inl e
as_whole a b (inr (inl l)) = inr (inl l)
as_whole a b (inr (inr (e, l))) = inr (inr (e, λ n. l))

module _ (m : Setting) where
  minimize_list_lightens : (h : Holder) (ss : Stmts) → Lightens (minimize_list m h ss) ss
  minimize_list_lightens h ss =
      minimize_statements_lightens (record { sequences = m.sequences; join_vars = m.join_vars; host = m.host; holder = h })
      (jumps_list ss) ss

  -- a statement is the same to its list
  fuse_statement_vars : (h : Holder) (x : Stmt) → vars_here (fuse_statement m h x) ≡ vars_here x
  fuse_statement_vars h empty = refl
  fuse_statement_vars h (expression e) = refl
  fuse_statement_vars h (declaration k ds) = refl
  fuse_statement_vars h (return_of p) = refl
  fuse_statement_vars h (throw e) = refl
  fuse_statement_vars h (if_then t c a) = refl
  fuse_statement_vars h (block ss) = refl
  fuse_statement_vars h (while t b) = refl
  fuse_statement_vars h (do_while b t) = refl
  fuse_statement_vars h (for i t u b) = refl
  fuse_statement_vars h (switch d cs) = refl
  fuse_statement_vars h break = refl
  fuse_statement_vars h continue = refl

  fuse_statement_scope : (h : Holder) (x : Stmt) → statement_cares_about_scope (fuse_statement m h x) ≡ statement_cares_about_scope x
  fuse_statement_scope h empty = refl
  fuse_statement_scope h (expression e) = refl
  fuse_statement_scope h (declaration k ds) = refl
  fuse_statement_scope h (return_of p) = refl
  fuse_statement_scope h (throw e) = refl
  fuse_statement_scope h (if_then t c a) = refl
  fuse_statement_scope h (block ss) = refl
  fuse_statement_scope h (while t b) = refl
  fuse_statement_scope h (do_while b t) = refl
  fuse_statement_scope h (for i t u b) = refl
  fuse_statement_scope h (switch d cs) = refl
  fuse_statement_scope h break = refl
  fuse_statement_scope h continue = refl

  ahead_of : (x y : Stmt) (xs : Stmts) → statement_cares_about_scope y ≡ statement_cares_about_scope x → vars_here y ≡ vars_here x
      → (n : ℕ) → vars_ahead_after n (stmt_then y xs)
      ≡ cond (statement_cares_about_scope x) n 0 + (vars_ahead_within y + vars_ahead_after (n + vars_here x) xs)
  ahead_of x y xs e f n = rw (e, f) (omega arith)

  minimized_eased : (h : Holder) (xs ss : Stmts) → Eased of_list xs ss → Eased of_whole (minimize_list m h xs) ss
  minimized_eased h xs ss p =
      as_whole (minimize_list m h xs) ss (eased_whole (minimize_list m h xs) xs ss (minimize_list_lightens h xs) p)

  mutual
    fuse_statement_eased : (x : Stmt) (h : Holder) → Eased of_statement (fuse_statement m h x) x
    fuse_statement_eased empty h = inl refl
    fuse_statement_eased (expression e) h = inl refl
    fuse_statement_eased (declaration k ds) h = inl refl
    fuse_statement_eased (return_of p) h = inl refl
    fuse_statement_eased (throw e) h = inl refl
    fuse_statement_eased (if_then t c a) h =
        eased_parts of_statement of_alternate of_statement (if_then t) (2 + records_expr t) (λ n. n) (λ n. 0) (fuse_statement m other_list c)
        c (fuse_alternate m a) a (omega arith, λ n. omega arith) (omega arith, λ n. omega arith) (fuse_statement_eased c other_list)
        (fuse_alternate_eased a)
    fuse_statement_eased (block ss) h =
        eased_part of_whole of_statement block 1 (λ ss₁. refl) (λ n ss₁. refl) (minimize_list m h (fuse_list m ss)) ss
        (minimized_eased h (fuse_list m ss) ss (fuse_list_eased ss))
    fuse_statement_eased (while t b) h =
        eased_part of_statement of_statement (while t) (1 + records_expr t) (λ x. omega arith) (λ n x. refl) (fuse_statement m loop_block b) b
        (fuse_statement_eased b loop_block)
    fuse_statement_eased (do_while b t) h =
        eased_part of_statement of_statement (λ x. do_while x t) (1 + records_expr t) (λ x. omega arith) (λ n x. refl)
        (fuse_statement m (do_while_holder (m.host.truth t)) b) b (fuse_statement_eased b (do_while_holder (m.host.truth t)))
    fuse_statement_eased (for i t u b) h =
        eased_part of_statement of_statement (for i t u) (2 + (weight_of_init i + (records_optional t + records_optional u)))
        (λ x. omega arith) (λ n x. refl) (fuse_statement m loop_block b) b (fuse_statement_eased b loop_block)
    fuse_statement_eased (switch d cs) h =
        eased_part of_cases of_statement (switch d) (10 + records_expr d) (λ cs₁. omega arith) (λ n cs₁. refl) (fuse_cases m cs) cs
        (fuse_cases_eased cs)
    fuse_statement_eased break h = inl refl
    fuse_statement_eased continue h = inl refl

    fuse_alternate_eased : (a : Alternate) → Eased of_alternate (fuse_alternate m a) a
    fuse_alternate_eased no_alternate = inl refl
    fuse_alternate_eased (alternate x) =
        eased_part of_statement of_alternate alternate 1 (λ y. refl) (λ n y. refl) (fuse_statement m other_list x) x
        (fuse_statement_eased x other_list)

    fuse_list_eased : (ss : Stmts) → Eased of_list (fuse_list m ss) ss
    fuse_list_eased no_stmts = inl refl
    fuse_list_eased (stmt_then x xs) =
        let y : Stmt = fuse_statement m other_list x in
        eased_parts of_statement of_list of_list stmt_then 0 (λ n. n + vars_here x) (λ n. cond (statement_cares_about_scope x) n 0) y x
        (fuse_list m xs) xs
        (omega arith, ahead_of x y (fuse_list m xs) (fuse_statement_scope other_list x) (fuse_statement_vars other_list x))
        (omega arith, ahead_of x x xs refl refl) (fuse_statement_eased x other_list) (fuse_list_eased xs)

    fuse_cases_eased : (cs : Cases) → Eased of_cases (fuse_cases m cs) cs
    fuse_cases_eased no_cases = inl refl
    fuse_cases_eased (case_then p ss cs) =
        eased_parts of_whole of_cases of_cases (case_then p) (1 + records_optional p) (λ n. n) (λ n. 0)
        (minimize_list m other_list (fuse_list m ss)) ss (fuse_cases m cs) cs (omega arith, λ n. omega arith) (omega arith, λ n. omega arith)
        (minimized_eased other_list (fuse_list m ss) ss (fuse_list_eased ss)) (fuse_cases_eased cs)

pub fusing_lightens : FusingLightens
fusing_lightens m body =
    eased_whole (minimize_list m body_list (fuse_list m body)) (fuse_list m body) body (minimize_list_lightens m body_list (fuse_list m body))
    (fuse_list_eased m body)
