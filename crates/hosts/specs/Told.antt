-- The three facts of one expression together, and that they are so in every run.
use Rattle.std.specs.Prelude.{◌≡◌, Bool, true, Some}
use Rattle.script.specs.Tree.{Expr}
use Rattle.run.specs.Values.{Value, undefined as undefined_value}
use Rattle.run.specs.Completion.{State, normal}
use Rattle.run.specs.Evaluate.{evaluate}
use Rattle.hosts.specs.declared.host.Facts.{Facts}
use Rattle.hosts.specs.Meaning.{Meaning, Leaves, Tests}

-- what a meaning tells of an expression
abbrev pub facts_of : Meaning → Expr → Facts
facts_of m e = record { harmless = m.harmless e; undefined = m.undefined e; truth = m.truth e }

-- these facts are so in every run
pub record So (f : Facts) (e : Expr) : Type 0 where
  pub harmless_so : f.harmless ≡ true → (s : State) → Leaves e s
  pub undefined_so : f.undefined ≡ true → (s s₁ : State) (v : Value) → evaluate e s ≡ normal v s₁ → v ≡ undefined_value
  pub truth_so : (b : Bool) → f.truth ≡ Some b → (s : State) → Tests e b s
