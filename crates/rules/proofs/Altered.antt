-- A body that fusing alters is known by its two measures, and by its bytes.
use Rattle.std.proofs.Common.{◌≡◌, ℕ, true, false, T, ◌⊎◌, sym, refl, ap, ◌∙◌, subst, inl, inr, arith}
use mathlib.Core.Option.{some}
use Rattle.script.specs.Sound.{SoundStmts}
use Rattle.script.specs.Tree.{Stmts}
use Rattle.script.specs.Written.{body_bytes}
use Rattle.script.specs.Reading.{Reading, plain_reading}
use Rattle.script.proofs.Agreement.{accepted_bytes_spell}
use Rattle.script.proofs.Stmts.{written_is_taken}
use Rattle.script.proofs.Spelling.{written_spells}
use Rattle.rules.specs.Equal.{stmts_eq}
use Rattle.rules.specs.Fuse.{fuse_body}
use Rattle.rules.specs.Weight.{weight, vars_ahead, Lighter, measures}
use Rattle.rules.specs.Altered.{differ}
use Rattle.rules.specs.Laws.{AlteredIsLighter, AlteredIsBytesDiffer}
use Rattle.rules.proofs.SoundFuse.{fusing_keeps_the_rules}
use Rattle.rules.proofs.WeightFuse.{fusing_lightens}

never : {A : Type 0} → true ≡ false → A
never e = absurd (subst T e tt)

differ_apart : {xs ys : Stmts} (d : Dec (xs ≡ ys)) → differ d ≡ true → xs ≡ ys → ⊥
differ_apart (yes p) e q = never (sym e)
differ_apart (no n) e q = n q

not_differ_same : {xs ys : Stmts} (d : Dec (xs ≡ ys)) → differ d ≡ false → xs ≡ ys
not_differ_same (yes p) e = p
not_differ_same (no n) e = never e

apart_differ : {xs ys : Stmts} (d : Dec (xs ≡ ys)) → (xs ≡ ys → ⊥) → differ d ≡ true
apart_differ (yes p) n = absurd (n p)
apart_differ (no n) m = refl

lighter_measures : (a b : Stmts) → Lighter a b → measures a ≡ measures b → ⊥
lighter_measures a b (inl l) e = let h : weight a ≡ weight b = ap (λ (x : ℕ × ℕ). x.0) e in omega arith
lighter_measures a b (inr (u, l)) e = let h : vars_ahead a ≡ vars_ahead b = ap (λ (x : ℕ × ℕ). x.1) e in omega arith

same_measures : (a b : Stmts) → (a ≡ b) ⊎ Lighter a b → measures a ≡ measures b → a ≡ b
same_measures a b (inl e) h = e
same_measures a b (inr l) h = absurd (lighter_measures a b l h)

pub altered_is_lighter : AlteredIsLighter
altered_is_lighter m body = (
  λ t e. differ_apart (stmts_eq (fuse_body m body) body) t (same_measures (fuse_body m body) body (fusing_lightens m body) e),
  λ n. apart_differ (stmts_eq (fuse_body m body) body) (λ e. n (ap measures e)),
)

-- bodies of the same bytes are the same, since the bytes spell the body
spelled_same : (a b : Stmts) → some a ≡ some b → a ≡ b
spelled_same a b e = cc

same_bytes : (a b : Stmts) → SoundStmts a → SoundStmts b → body_bytes a ≡ body_bytes b → a ≡ b
same_bytes a b p q e =
    spelled_same a b (ap (λ (r : Reading). r.body)
    (sym (written_spells accepted_bytes_spell written_is_taken a p) ∙ ap plain_reading e
    ∙ written_spells accepted_bytes_spell written_is_taken b q))

pub altered_is_bytes_differ : AlteredIsBytesDiffer
altered_is_bytes_differ m law body p = (
  λ t e. differ_apart (stmts_eq (fuse_body m body) body) t
      (same_bytes (fuse_body m body) body (fusing_keeps_the_rules m law body p) p e),
  λ f. ap body_bytes (not_differ_same (stmts_eq (fuse_body m body) body) f),
)
