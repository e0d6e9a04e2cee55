-- How moves one after the other are performed.
use Rattle.std.proofs.Common.{◌≡◌, ℕ, zero, suc, ◌≤◌, Bool, true, false, cond, List, [], ◌∷◌, ◌++◌, Some, None, Option, refl, ◌∙◌, arith}
use Rattle.script.specs.Judge.{Spares}
use Rattle.script.specs.Sound.{none_used, plus, records_stmts, exprs_only, records_optional}
use Rattle.script.specs.Tree.{Stmts}
use Rattle.rules.specs.Merging.{Worked}
use Rattle.rules.specs.Budget.{AtMost, SameNumber}
use Rattle.rules.specs.Moves.{Move, Succeeds, perform, gives, with_spares, one_less, Table, one_of, takes, expressions, statements}
use Rattle.rules.specs.Moves.{declarators, take_one}

-- with that many spares at least, all moves are performed, and what was in use before becomes what is in use after
pub record Performs (need : Spares) (ms : List Move) (before after : Spares) : Type 0 where
  pub runs : (s : Spares) → AtMost need s → Succeeds (perform ms s) s before after

pub nothing : {n x y : Spares} → SameNumber x y → Performs n [] x y
nothing h = record { runs = λ s g. record { left = s; is = refl; same = search arith } }

pub give : (g : Spares) → Performs none_used (gives g ∷ []) g none_used
give g = record { runs = λ s h. record { left = plus s g; is = refl; same = search arith } }

-- a table of n spares, of which f keeps the others
less_succeeds : (n : ℕ) (f : ℕ → Spares) (s u : Spares) → 1 ≤ n
    → ((m : ℕ) → suc m ≡ n → SameNumber (plus (f m) u) (plus s none_used))
    → Succeeds (with_spares (one_less n f) (λ s₁. perform [] s₁)) s none_used u
less_succeeds zero f s u h g = absurd (omega arith)
less_succeeds (suc n) f s u h g = record { left = f n; is = refl; same = g n refl }

pub take : (t : Table) → Performs (one_of t) (takes t ∷ []) none_used (one_of t)
take expressions = record { runs = λ s h. less_succeeds s.exprs _ s (one_of expressions) h.exprs (λ m e. search arith) }
take statements = record { runs = λ s h. less_succeeds s.stmts _ s (one_of statements) h.stmts (λ m e. search arith) }
take declarators = record { runs = λ s h. less_succeeds s.decls _ s (one_of declarators) h.decls (λ m e. search arith) }

-- one list of moves after another

perform_append : (ms ns : List Move) (s l : Spares) → perform ms s ≡ Some l → perform (ms ++ ns) s ≡ perform ns l
perform_append [] ns s l e = let h : s ≡ l = cc in cc
perform_append (takes t ∷ ms) ns s l e = by (take_one t s) e (λ s₁ f. perform_append ms ns s₁ l f)
  where
    by : (o : Option Spares) → with_spares o (λ s₁. perform ms s₁) ≡ Some l
        → ((s₁ : Spares) → perform ms s₁ ≡ Some l → perform (ms ++ ns) s₁ ≡ perform ns l)
        → with_spares o (λ s₁. perform (ms ++ ns) s₁) ≡ perform ns l
    by None f g = absurd (let z : ◌≡◌ {A = ℕ} 0 1 = cc in omega arith)
    by (Some s₁) f g = g s₁ f
perform_append (gives g ∷ ms) ns s l e = perform_append ms ns (plus s g) l e

-- the first may lower the spares, but not below what the second needs
pub in_turn : {n₁ n₂ a b c d : Spares} {ms ns : List Move} {n x y : Spares} → Performs n₁ ms a b → Performs n₂ ns c d
    → AtMost n₁ n → AtMost (plus n₂ b) (plus n a) → SameNumber (plus y (plus a c)) (plus x (plus b d))
    → Performs n (ms ++ ns) x y
in_turn {n₁} {n₂} {a} {b} {c} {d} {ms} {ns} {n} {x} {y} p q u v w =
    record { runs = λ s h. both s h }
  where
    second : (s : Spares) → AtMost n s → (i : Succeeds (perform ms s) s a b) → Succeeds (perform (ms ++ ns) s) s x y
    second s h i =
        let j : Succeeds (perform ns i.left) i.left c d = q.runs i.left (search arith) in
        record { left = j.left; is = perform_append ms ns s i.left i.is ∙ j.is; same = search arith }

    both : (s : Spares) → AtMost n s → Succeeds (perform (ms ++ ns) s) s x y
    both s h = second s h (p.runs s (search arith))

-- the second only gives back
pub then_freely : {n₁ a b c d : Spares} {ms ns : List Move} {n x y : Spares} → Performs n₁ ms a b → Performs none_used ns c d
    → AtMost n₁ n → SameNumber (plus y (plus a c)) (plus x (plus b d)) → Performs n (ms ++ ns) x y
then_freely {n₁} {a} {b} {c} {d} {ms} {ns} {n} {x} {y} p q u w = record { runs = λ s h. second s (p.runs s (search arith)) }
  where
    second : (s : Spares) → (i : Succeeds (perform ms s) s a b) → Succeeds (perform (ms ++ ns) s) s x y
    second s i =
        let j : Succeeds (perform ns i.left) i.left c d = q.runs i.left (search arith) in
        record { left = j.left; is = perform_append ms ns s i.left i.is ∙ j.is; same = search arith }

-- with more to spare, and more in use besides
pub beside : {n₁ a b : Spares} {ms : List Move} {n x y : Spares} → Performs n₁ ms a b → AtMost n₁ n → SameNumber (plus y a) (plus x b)
    → Performs n ms x y
beside {n₁} {a} {b} {ms} {n} {x} {y} p u w = record { runs = λ s h. more s (p.runs s (search arith)) }
  where
    more : (s : Spares) → Succeeds (perform ms s) s a b → Succeeds (perform ms s) s x y
    more s i = record { left = i.left; is = i.is; same = search arith }

pub either_performs : {n x : Spares} (b : Bool) {ms ns : List Move} (y z : Stmts) → Performs n ms x (records_stmts y)
    → Performs n ns x (records_stmts z)
    → Performs n (cond b ms ns) x (records_stmts (cond b y z))
either_performs true y z p q = p
either_performs false y z p q = q

-- no more is in use after than was in use and needed
pub in_use_after : {n a b : Spares} {ms : List Move} → Performs n ms a b → AtMost b (plus n a)
in_use_after {n} {a} {b} {ms} p = bound (p.runs n (search arith))
  where
    bound : Succeeds (perform ms n) n a b → AtMost b (plus n a)
    bound i = search arith

-- what is spare after is enough for what comes next, if that needs no more than what was given back leaves
pub spare_after : {n a b n' : Spares} {ms : List Move} (p : Performs n ms a b) → AtMost (plus n' b) (plus n a)
    → (s : Spares) (h : AtMost n s) → AtMost n' (p.runs s h).left
spare_after {n} {a} {b} {n'} {ms} p u s h = bound (p.runs s h)
  where
    bound : (i : Succeeds (perform ms s) s a b) → AtMost n' i.left
    bound i = search arith

abbrev pub records_worked : Worked → Spares
records_worked w = plus (exprs_only (records_optional w.target)) (records_stmts w.results)
