-- The rule on declarations in two parts: the first declarator's value, and the joining of declarations.
use Rattle.std.specs.Prelude.{Bool, false, ◌&&◌}
use Rattle.script.specs.declared.DeclarationKind.{DeclarationKind}
use Rattle.script.specs.declared.StatementKind.{StatementKind}
use Rattle.script.specs.declared.StatementKind.TheVariants as statement
use Rattle.script.specs.Tree.{Declarators, Stmts, absent, declarator_then, no_declarators, present}
use Rattle.rules.specs.Equal.{same_kind}
use Rattle.rules.specs.Merging.{Worked, merge_leading_assignments_to_declaration}
use Rattle.rules.specs.Returns.{value_or_void_0}

-- declarators, and the results before them
pub record Declared : Type 0 where
  pub declarators : Declarators
  pub results : Stmts

-- the first declarator's value gives its leading assignments to the declaration before
abbrev pub first_worked : Declarators → Stmts → Declared
first_worked no_declarators r = record { declarators = no_declarators; results = r }
first_worked (declarator_then n absent ds) r = record { declarators = declarator_then n absent ds; results = r }
first_worked (declarator_then n (present e) ds) r =
    let w : Worked = merge_leading_assignments_to_declaration false e r in
    record { declarators = declarator_then n (present (value_or_void_0 w.target)) ds; results = w.results }

-- is the newest result a declaration of this kind, and are such declarations joined
abbrev pub joins : Bool → StatementKind → DeclarationKind → Bool
joins j statement.Empty k = false
joins j statement.Expression k = false
joins j (statement.Declaration k₀) k = j && same_kind k₀ k
joins j statement.Return k = false
joins j statement.Throw k = false
joins j statement.If k = false
joins j statement.Block k = false
joins j statement.While k = false
joins j statement.DoWhile k = false
joins j (statement.For h) k = false
joins j statement.Switch k = false
joins j statement.Case k = false
joins j statement.Break k = false
joins j statement.Continue k = false
