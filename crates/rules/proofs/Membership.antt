-- Names in lists of names.
use Rattle.std.proofs.Common.{◌≡◌, ℕ, Bool, true, false, cond, ◌||◌, T, eqb, List, [], ◌∷◌, ◌++◌, sym, refl, ap, ◌∙◌, subst, append_assoc, append-nil, eqb→eq}
use Rattle.run.specs.Environment.{among}
use Rattle.run.specs.Names.{bound_names}
use Rattle.rules.specs.Unreachable.{note_hoisted_names, bare_declarators}

pub among_append : (n : ℕ) (xs ys : List ℕ) → among n (xs ++ ys) ≡ among n xs || among n ys
among_append n [] ys = refl
among_append n (x ∷ xs) ys = by (eqb n x) (among_append n xs ys)
  where
    by : (b : Bool) → among n (xs ++ ys) ≡ among n xs || among n ys
        → cond b true (among n (xs ++ ys)) ≡ cond b true (among n xs) || among n ys
    by true h = refl
    by false h = h

pub or_comm : (a b : Bool) → a || b ≡ b || a
or_comm true true = refl
or_comm true false = refl
or_comm false true = refl
or_comm false false = refl

pub or_false : (a : Bool) → a || false ≡ a
or_false true = refl
or_false false = refl

pub or_assoc : (a b c : Bool) → (a || b) || c ≡ a || (b || c)
or_assoc true b c = refl
or_assoc false b c = refl

or_true : (a : Bool) → a || true ≡ true
or_true true = refl
or_true false = refl

or_self : (a b : Bool) → a || (a || b) ≡ a || b
or_self true b = refl
or_self false b = refl

-- a name that is there already adds nothing
pub among_swap : (n : ℕ) (xs ys : List ℕ) → among n (xs ++ ys) ≡ among n (ys ++ xs)
among_swap n xs ys = among_append n xs ys ∙ or_comm (among n xs) (among n ys) ∙ sym (among_append n ys xs)

note_hoisted_names_step : (n x : ℕ) (ns seen : List ℕ) (b : Bool) → among x seen ≡ b
    → among n (cond b seen (seen ++ (x ∷ [])) ++ ns) ≡ among n (seen ++ (x ∷ ns))
note_hoisted_names_step n x ns seen false e = ap (among n) (append_assoc seen (x ∷ []) ns)
note_hoisted_names_step n x ns seen true e = simp among_append (by (eqb n x) refl)
  where
    by : (b : Bool) → eqb n x ≡ b → among n seen || among n ns ≡ among n seen || cond b true (among n ns)
    by true h =
        ap (λ c. c || among n ns) (ap (λ m. among m seen) (eqb→eq n x (subst T (sym h) tt)) ∙ e)
        ∙ sym (ap (λ c. c || true) (ap (λ m. among m seen) (eqb→eq n x (subst T (sym h) tt)) ∙ e))
    by false h = refl

pub among_noted : (n : ℕ) (ns seen : List ℕ) → among n (note_hoisted_names ns seen) ≡ among n (seen ++ ns)
among_noted n [] seen = ap (among n) (sym (append-nil seen))
among_noted n (x ∷ ns) seen =
    among_noted n ns (cond (among x seen) seen (seen ++ (x ∷ []))) ∙ note_hoisted_names_step n x ns seen (among x seen) refl

pub bound_names_bare : (ns : List ℕ) → bound_names (bare_declarators ns) ≡ ns
bound_names_bare [] = refl
bound_names_bare (n ∷ ns) = ap (λ l. n ∷ l) (bound_names_bare ns)

-- a list under a context
pub among_right : (n : ℕ) (xs ys ys' : List ℕ) → among n ys ≡ among n ys' → among n (xs ++ ys) ≡ among n (xs ++ ys')
among_right n xs ys ys' h = simp among_append (ap (λ b. among n xs || b) h)

pub among_left : (n : ℕ) (xs xs' ys : List ℕ) → among n xs ≡ among n xs' → among n (xs ++ ys) ≡ among n (xs' ++ ys)
among_left n xs xs' ys h = simp among_append (ap (λ b. b || among n ys) h)
