-- Bodies with what they must not be fused to.
use Rattle.std.specs.Prelude.{List, [], ◌∷◌, ◌≢◌}
use Rattle.std.proofs.Math.Option.{none}
use Rattle.script.specs.declared.DeclarationKind.TheVariants.{Let}
use Rattle.script.specs.declared.LogicalOperator.TheVariants.{And}
use Rattle.script.specs.Tree.{Stmts, stmt_then, if_then, return_of, absent, no_alternate, expression, logical, declaration, not, block}
use Rattle.script.specs.Tree.{assignment, case_then, declarator_then, name, no_cases, no_declarators, present, switch}
use Rattle.run.specs.Values.{integer}
use Rattle.run.specs.World.{World, gives}
use Rattle.run.specs.Run.{run}
use Rattle.rules.specs.Marked.{bare_a, call_f, call_g, only, two}

pub record Wrong : Type 0 where
  pub body : Stmts
  pub fused : Stmts

-- every call gives 1, and no name is set
abbrev pub all_give_one : World
all_give_one events = record { reply = gives (integer 1); settings = λ n. none }

-- in that world, with no loop turns, each runs otherwise than its body
abbrev pub AllAlterRuns : List Wrong → Type 0
AllAlterRuns [] = Unit {0}
AllAlterRuns (c ∷ cs) = (run all_give_one 0 c.fused ≢ run all_give_one 0 c.body) × AllAlterRuns cs

abbrev pub wrong_readings : List Wrong
wrong_readings =
    -- the test of `if (f()) return; g()` is not turned
    record {
      body = stmt_then (if_then call_f (return_of absent) no_alternate) (only (expression call_g));
      fused = only (expression (logical And call_f call_g));
    }
    -- a tail that holds a let is folded: `if (f()) return; let a; g()` to `if (!f()) { let a; g() }`
    ∷ record {
      body = stmt_then (if_then call_f (return_of absent) no_alternate) (stmt_then (declaration Let bare_a) (only (expression call_g)));
      fused = only (if_then (not call_f) (block (stmt_then (declaration Let bare_a) (only (expression call_g)))) no_alternate);
    }
    -- a call is moved into a let: `let a; a = f()` to `let a = f()`
    ∷ record {
      body = stmt_then (declaration Let bare_a) (only (expression (assignment 0 call_f)));
      fused = only (declaration Let (declarator_then 0 (present call_f) no_declarators));
    }
    ∷ []

-- a let behind a jump is dropped
abbrev pub dropped_lets : List Wrong
dropped_lets =
    -- `return a; let a` to `return a`
    record {
      body = stmt_then (return_of (present (name 0))) (only (declaration Let bare_a));
      fused = only (return_of (present (name 0)));
    }
    -- the same with a call before the jump: `f(); return; let a` to `f()`
    ∷ record {
      body = stmt_then (expression call_f) (stmt_then (return_of absent) (only (declaration Let bare_a)));
      fused = only (expression call_f);
    }
    -- the same in a switch: `switch (f()) { case 2: return; let a; case a: g() }` to one without the let
    ∷ record {
      body = only (switch call_f
          (case_then (present two) (stmt_then (return_of absent) (only (declaration Let bare_a)))
          (case_then (present (name 0)) (only (expression call_g)) no_cases)));
      fused = only (switch call_f
          (case_then (present two) (only (return_of absent))
          (case_then (present (name 0)) (only (expression call_g)) no_cases)));
    }
    ∷ []
