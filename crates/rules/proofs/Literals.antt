-- A literal has the same value in every state.
use Rattle.std.proofs.Common.{◌≡◌, not as negated, T, refl, ap}
use Rattle.script.specs.Tree.{Expr, number, word, name, assignment, call, sequence, conditional, logical, not, void, strict_equality}
use Rattle.run.specs.Values.{Value, integer, boolean, to_boolean, undefined}
use Rattle.run.specs.Completion.{State, normal, and_then}
use Rattle.run.specs.Evaluate.{evaluate, word_value}
use Rattle.rules.specs.Literals.{is_literal_value, is_literal}

-- a literal's value, whatever the state
pub literal_evaluates : (e : Expr) → T (is_literal_value e) → (v : Value) × ((s : State) → evaluate e s ≡ normal v s)
literal_evaluates (number bits) t = (integer bits, λ s. refl)
literal_evaluates (word w) t = (word_value w, λ s. refl)
literal_evaluates (name n) t = absurd t
literal_evaluates (assignment n e) t = absurd t
literal_evaluates (call n es) t = absurd t
literal_evaluates (sequence e es) t = absurd t
literal_evaluates (conditional c a b) t = absurd t
literal_evaluates (logical o a b) t = absurd t
literal_evaluates (not e) t =
    let h = literal_evaluates e t in
    (boolean (negated (to_boolean h.0)), λ s. ap (λ r. and_then r (λ v s₁. normal (boolean (negated (to_boolean v))) s₁)) (h.1 s))
literal_evaluates (void e) t =
    let h = literal_evaluates e t in (undefined, λ s. ap (λ r. and_then r (λ v s₁. normal undefined s₁)) (h.1 s))
literal_evaluates (strict_equality a b) t = absurd t

pub literal_is_value : (e : Expr) → T (is_literal e) → T (is_literal_value e)
literal_is_value (number bits) t = tt
literal_is_value (word w) t = tt
literal_is_value (name n) t = absurd t
literal_is_value (assignment n e) t = absurd t
literal_is_value (call n es) t = absurd t
literal_is_value (sequence e es) t = absurd t
literal_is_value (conditional c a b) t = absurd t
literal_is_value (logical o a b) t = absurd t
literal_is_value (not e) t = absurd t
literal_is_value (void e) t = absurd t
literal_is_value (strict_equality a b) t = absurd t
