-- The hosts keep the laws.
use Rattle.std.specs.Prelude.{◌≡◌, Bool, true, false, not as negated, ◌&&◌, Some, None, Option, refl}
use Rattle.std.proofs.Common.{sym, ◌∙◌, ap, subst}
use borrow.Author.Tests.{clash}
use Rattle.script.specs.declared.Word.{Word}
use Rattle.script.specs.declared.Word.TheVariants.{False, True, Null}
use Rattle.script.specs.Tree.{Expr, number, word, name, assignment, call, sequence, conditional, logical, not, void, strict_equality}
use Rattle.script.specs.Tree.{Exprs, no_exprs, expr_then}
use Rattle.run.specs.Values.{Value, undefined, boolean, integer, to_boolean, is_strictly_equal}
use Rattle.run.specs.Completion.{State, Completion, normal, abrupt, and_then, branch}
use Rattle.run.specs.Evaluate.{word_value, goes_right, evaluate, evaluate_others}
use Rattle.hosts.specs.Meaning.{Tests, Lawful}
use Rattle.hosts.specs.Known.{word_truth, bare_harmless, bare_truth, bare, reader_harmless, all_harmless, last_or, reader_undefined, last_undefined, turned, false_if, reader_truth, reader}

-- a completion is normal, in the same state
abbrev Stays : Completion Value → State → Type 0
Stays r s = (v : Value) × (r ≡ normal v s)

stays_then : (r : Completion Value) (s : State) (next : Value → State → Completion Value) → Stays r s → ((v : Value) → Stays (next v s) s) → Stays (and_then r next) s
stays_then r s next p q = ((q p.0).0, ap (λ x. and_then x next) p.1 ∙ (q p.0).1)

stays_branch : (b : Bool) (f g : State → Completion Value) (s : State) → Stays (f s) s → Stays (g s) s → Stays (branch b f g s) s
stays_branch true f g s p q = p
stays_branch false f g s p q = q

and_left : (a b : Bool) → a && b ≡ true → a ≡ true
and_left true b t = refl
and_left false b t = t

and_right : (a b : Bool) → a && b ≡ true → b ≡ true
and_right true b t = t
and_right false b t = absurd (clash t)

mutual
  harmless_stays : (e : Expr) → reader_harmless e ≡ true → (s : State) → Stays (evaluate e s) s
  harmless_stays (number b) t s = (integer b, refl)
  harmless_stays (word w) t s = (word_value w, refl)
  harmless_stays (name n) t s = absurd (clash t)
  harmless_stays (assignment n e) t s = absurd (clash t)
  harmless_stays (call n es) t s = absurd (clash t)
  harmless_stays (sequence e es) t s =
      stays_then (evaluate e s) s _ (harmless_stays e (and_left _ _ t) s) (λ v. harmless_others es (and_right (reader_harmless e) _ t) v s)
  harmless_stays (conditional c a b) t s =
      stays_then (evaluate c s) s _ (harmless_stays c (and_left _ _ t) s) (λ v. stays_branch (to_boolean v) _ _ s
      (harmless_stays a (and_left _ _ (and_right (reader_harmless c) _ t)) s)
      (harmless_stays b (and_right (reader_harmless a) _ (and_right (reader_harmless c) _ t)) s))
  harmless_stays (logical o a b) t s =
      stays_then (evaluate a s) s _ (harmless_stays a (and_left _ _ t) s) (λ v. stays_branch (goes_right o v) _ (λ s₁. normal v s₁) s
      (harmless_stays b (and_right (reader_harmless a) _ t) s) (v, refl))
  harmless_stays (not e) t s = stays_then (evaluate e s) s _ (harmless_stays e t s) (λ v. (boolean (negated (to_boolean v)), refl))
  harmless_stays (void e) t s = stays_then (evaluate e s) s _ (harmless_stays e t s) (λ v. (undefined, refl))
  harmless_stays (strict_equality a b) t s =
      stays_then (evaluate a s) s _ (harmless_stays a (and_left _ _ t) s) (λ u.
      stays_then (evaluate b s) s _ (harmless_stays b (and_right (reader_harmless a) _ t) s) (λ v. (boolean (is_strictly_equal u v), refl)))

  harmless_others : (es : Exprs) → all_harmless es ≡ true → (v : Value) (s : State) → Stays (evaluate_others es v s) s
  harmless_others no_exprs t v s = (v, refl)
  harmless_others (expr_then e es) t v s =
      stays_then (evaluate e s) s _ (harmless_stays e (and_left _ _ t) s) (λ u. harmless_others es (and_right (reader_harmless e) _ t) u s)

-- where a completion is normal, its value is undefined
abbrev Undefined : Completion Value → Type 0
Undefined r = (s : State) (v : Value) → r ≡ normal v s → v ≡ undefined

undefined_then : (r : Completion Value) (next : Value → State → Completion Value) → ((u : Value) (s : State) → Undefined (next u s)) → Undefined (and_then r next)
undefined_then (normal u s) next h s₁ v e = h u s s₁ v e
undefined_then (abrupt j s) next h s₁ v e = cc

undefined_normal : (s : State) → Undefined (normal undefined s)
undefined_normal s s₁ v e = cc

then_normal : (r : Completion Value) → and_then r (λ v s. normal v s) ≡ r
then_normal (normal v s) = refl
then_normal (abrupt j s) = refl

last_item : (es : Exprs) (e : Expr) (s : State) → last_or (reader_undefined e) es (last_undefined es) ≡ true
    → (reader_undefined e ≡ true → (s₁ : State) → Undefined (evaluate e s₁))
    → (last_undefined es ≡ true → (u : Value) (s₁ : State) → Undefined (evaluate_others es u s₁))
    → Undefined (and_then (evaluate e s) (λ u s₁. evaluate_others es u s₁))
last_item no_exprs e s t p q s₁ v h = p t s s₁ v (sym (then_normal (evaluate e s)) ∙ h)
last_item (expr_then x xs) e s t p q s₁ v h = undefined_then (evaluate e s) (λ u s₂. evaluate_others (expr_then x xs) u s₂) (q t) s₁ v h

mutual
  undefined_is : (e : Expr) → reader_undefined e ≡ true → (s : State) → Undefined (evaluate e s)
  undefined_is (number b) t s = absurd (clash t)
  undefined_is (word w) t s = absurd (clash t)
  undefined_is (name n) t s = absurd (clash t)
  undefined_is (assignment n e) t s = absurd (clash t)
  undefined_is (call n es) t s = absurd (clash t)
  undefined_is (sequence e es) t s = last_item es e s t (undefined_is e) (undefined_others es)
  undefined_is (conditional c a b) t s = absurd (clash t)
  undefined_is (logical o a b) t s = absurd (clash t)
  undefined_is (not e) t s = absurd (clash t)
  undefined_is (void e) t s = undefined_then (evaluate e s) _ (λ u s₁. undefined_normal s₁)
  undefined_is (strict_equality a b) t s = absurd (clash t)

  undefined_others : (es : Exprs) → last_undefined es ≡ true → (u : Value) (s : State) → Undefined (evaluate_others es u s)
  undefined_others no_exprs t u s = absurd (clash t)
  undefined_others (expr_then e es) t u s = last_item es e s t (undefined_is e) (undefined_others es)

-- what a known truth promises
abbrev Known : Expr → Option Bool → Type 0
Known e None = Unit {0}
Known e (Some b) = (s : State) → Tests e b s

word_known : (w : Word) → to_boolean (word_value w) ≡ word_truth w
word_known False = refl
word_known True = refl
word_known Null = refl

known_not : (e : Expr) (o : Option Bool) → Known e o → Known (not e) (turned o)
known_not e None k = tt
known_not e (Some b) k = λ s. let h = k s in
    (boolean (negated (to_boolean h.0)), ap (λ r. and_then r (λ v s₁. normal (boolean (negated (to_boolean v))) s₁)) h.1, ap negated h.2)

known_void : (e : Expr) (b : Bool) → (b ≡ true → (s : State) → Stays (evaluate e s) s) → Known (void e) (false_if b)
known_void e true h = λ s. (undefined, ap (λ r. and_then r (λ v s₁. normal undefined s₁)) (h refl s).1, refl)
known_void e false h = tt

known_is : (e : Expr) → Known e (reader_truth e)
known_is (number b) = λ s. (integer b, refl, refl)
known_is (word w) = λ s. (word_value w, refl, word_known w)
known_is (name n) = tt
known_is (assignment n e) = tt
known_is (call n es) = tt
known_is (sequence e es) = tt
known_is (conditional c a b) = tt
known_is (logical o a b) = tt
known_is (not e) = known_not e (reader_truth e) (known_is e)
known_is (void e) = known_void e (reader_harmless e) (harmless_stays e)
known_is (strict_equality a b) = tt

pub reader_lawful : Lawful reader
reader_lawful = record {
  harmless_law = harmless_stays;
  undefined_law = λ e t s s₁ v h. undefined_is e t s s₁ v h;
  truth_law = λ e b h. subst (λ (o : Option Bool). Known e o) h (known_is e);
}

literal_stays : (e : Expr) → bare_harmless e ≡ true → (s : State) → Stays (evaluate e s) s
literal_stays (number b) t s = (integer b, refl)
literal_stays (word w) t s = (word_value w, refl)
literal_stays (name n) t s = absurd (clash t)
literal_stays (assignment n e) t s = absurd (clash t)
literal_stays (call n es) t s = absurd (clash t)
literal_stays (sequence e es) t s = absurd (clash t)
literal_stays (conditional c a b) t s = absurd (clash t)
literal_stays (logical o a b) t s = absurd (clash t)
literal_stays (not e) t s = absurd (clash t)
literal_stays (void e) t s = absurd (clash t)
literal_stays (strict_equality a b) t s = absurd (clash t)

literal_known : (e : Expr) → Known e (bare_truth e)
literal_known (number b) = λ s. (integer b, refl, refl)
literal_known (word w) = λ s. (word_value w, refl, word_known w)
literal_known (name n) = tt
literal_known (assignment n e) = tt
literal_known (call n es) = tt
literal_known (sequence e es) = tt
literal_known (conditional c a b) = tt
literal_known (logical o a b) = tt
literal_known (not e) = tt
literal_known (void e) = tt
literal_known (strict_equality a b) = tt

pub bare_lawful : Lawful bare
bare_lawful = record {
  harmless_law = literal_stays;
  undefined_law = λ e t. absurd (clash t);
  truth_law = λ e b h. subst (λ (o : Option Bool). Known e o) h (literal_known e);
}
