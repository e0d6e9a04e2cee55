-- What a routine over tables does to the spare records, in its order: it takes one, or gives some back.
use Rattle.std.specs.Prelude.{◌≡◌, ℕ, zero, suc, List, [], ◌∷◌, Some, None, Option}
use Rattle.script.specs.Judge.{Spares}
use Rattle.script.specs.Sound.{plus, exprs_only}
use Rattle.rules.specs.Budget.{SameNumber}

pub data Table : Type 0 where
  expressions statements declarators : Table

pub data Move : Type 0 where
  takes : Table → Move
  gives : Spares → Move

abbrev pub one_of : Table → Spares
one_of expressions = record { exprs = 1; stmts = 0; decls = 0 }
one_of statements = record { exprs = 0; stmts = 1; decls = 0 }
one_of declarators = record { exprs = 0; stmts = 0; decls = 1 }

-- none where there is no spare
abbrev pub one_less : ℕ → (ℕ → Spares) → Option Spares
one_less zero f = None
one_less (suc n) f = Some (f n)

abbrev pub take_one : Table → Spares → Option Spares
take_one expressions s = one_less s.exprs (λ n. record { exprs = n; stmts = s.stmts; decls = s.decls })
take_one statements s = one_less s.stmts (λ n. record { exprs = s.exprs; stmts = n; decls = s.decls })
take_one declarators s = one_less s.decls (λ n. record { exprs = s.exprs; stmts = s.stmts; decls = n })

abbrev pub with_spares : Option Spares → (Spares → Option Spares) → Option Spares
with_spares None f = None
with_spares (Some s) f = f s

abbrev pub perform : List Move → Spares → Option Spares
perform [] s = Some s
perform (takes t ∷ ms) s = with_spares (take_one t s) (λ s₁. perform ms s₁)
perform (gives g ∷ ms) s = perform ms (plus s g)

-- no take has failed, and no record is lost: what is spare after, and in use after, is what was
pub record Succeeds (outcome : Option Spares) (spares before after : Spares) : Type 0 where
  pub left : Spares
  pub is : outcome ≡ Some left
  pub same : SameNumber (plus left after) (plus spares before)

abbrev pub takes_expression : List Move
takes_expression = takes expressions ∷ []

abbrev pub takes_statement : List Move
takes_statement = takes statements ∷ []

abbrev pub gives_expression : List Move
gives_expression = gives (exprs_only 1) ∷ []

-- n statements, without their parts
abbrev pub gives_statements : ℕ → List Move
gives_statements n = gives (record { exprs = 0; stmts = n; decls = 0 }) ∷ []
