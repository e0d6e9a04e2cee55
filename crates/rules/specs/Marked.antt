-- Bodies with what they are fused to.
use Rattle.std.specs.Prelude.{◌≡◌, true, false, List, [], ◌∷◌}
use Rattle.script.specs.declared.DeclarationKind.TheVariants.{Var, Let}
use Rattle.script.specs.declared.LogicalOperator.TheVariants.{Or}
use Rattle.script.specs.Tree.{Stmts, Expr, call, no_exprs, number, Stmt, stmt_then, no_stmts, Declarators, declarator_then, absent}
use Rattle.script.specs.Tree.{no_declarators, expression, sequence, expr_then, if_then, return_of, no_alternate, logical, present}
use Rattle.script.specs.Tree.{conditional, while, block, void, declaration, assignment, switch, case_then, no_cases, strict_equality}
use Rattle.hosts.specs.Meaning.{Meaning}
use Rattle.hosts.specs.Known.{bare, reader}
use Rattle.rules.specs.Fuse.{Setting, fuse_body}

pub record Case : Type 0 where
  pub setting : Setting
  pub body : Stmts
  pub fused : Stmts

abbrev pub AllFuse : List Case → Type 0
AllFuse [] = Unit {0}
AllFuse (c ∷ cs) = (fuse_body c.setting c.body ≡ c.fused) × AllFuse cs

-- both options on
abbrev pub under : Meaning → Setting
under host = record { sequences = true; join_vars = true; host = host }

abbrev pub without_sequences : Setting
without_sequences = record { sequences = false; join_vars = true; host = bare }

-- calls 0 and 1
abbrev pub call_f : Expr
call_f = call 0 no_exprs

abbrev pub call_g : Expr
call_g = call 1 no_exprs

abbrev pub one : Expr
one = number 1

abbrev pub two : Expr
two = number 2

abbrev pub only : Stmt → Stmts
only x = stmt_then x no_stmts

-- names 0 and 1, a and b
abbrev pub bare_a : Declarators
bare_a = declarator_then 0 absent no_declarators

abbrev pub bare_b : Declarators
bare_b = declarator_then 1 absent no_declarators

abbrev pub marked : List Case
marked =
    -- the empty body
    record { setting = under bare; body = no_stmts; fused = no_stmts }
    -- `f(); g()` gives `f(), g()`, and stays without sequences
    ∷ record {
      setting = under bare;
      body = stmt_then (expression call_f) (only (expression call_g));
      fused = only (expression (sequence call_f (expr_then call_g no_exprs)));
    }
    ∷ record {
      setting = without_sequences;
      body = stmt_then (expression call_f) (only (expression call_g));
      fused = stmt_then (expression call_f) (only (expression call_g));
    }
    -- `if (f()) return; g()` gives `f() || g()`
    ∷ record {
      setting = under bare;
      body = stmt_then (if_then call_f (return_of absent) no_alternate) (only (expression call_g));
      fused = only (expression (logical Or call_f call_g));
    }
    -- `if (f()) return 1; return 2` gives `return f() ? 1 : 2`
    ∷ record {
      setting = under bare;
      body = stmt_then (if_then call_f (return_of (present one)) no_alternate) (only (return_of (present two)));
      fused = only (return_of (present (conditional call_f one two)));
    }
    -- `while (f()) { if (g()) return; return 2 }` gives `while (f()) { return g() ? void 0 : 2 }`
    ∷ record {
      setting = under bare;
      body = only (while call_f (block (stmt_then (if_then call_g (return_of absent) no_alternate) (only (return_of (present two))))));
      fused = only (while call_f (block (only (return_of (present (conditional call_g (void (number 0)) two))))));
    }
    -- `var a; a = f(); var b` gives `var a = f(), b`
    ∷ record {
      setting = under bare;
      body = stmt_then (declaration Var bare_a) (stmt_then (expression (assignment 0 call_f)) (only (declaration Var bare_b)));
      fused = only (declaration Var (declarator_then 0 (present call_f) bare_b));
    }
    -- `let a; a = 1` gives `let a = 1`, and `let a; a = f()` stays
    ∷ record {
      setting = under bare;
      body = stmt_then (declaration Let bare_a) (only (expression (assignment 0 one)));
      fused = only (declaration Let (declarator_then 0 (present one) no_declarators));
    }
    ∷ record {
      setting = under bare;
      body = stmt_then (declaration Let bare_a) (only (expression (assignment 0 call_f)));
      fused = stmt_then (declaration Let bare_a) (only (expression (assignment 0 call_f)));
    }
    -- `switch (f()) { case 1: g() }` gives `if (f() === 1) { g() }`
    ∷ record {
      setting = under bare;
      body = only (switch call_f (case_then (present one) (only (expression call_g)) no_cases));
      fused = only (if_then (strict_equality call_f one) (block (only (expression call_g))) no_alternate);
    }
    -- `return 1; let a; f(); var b` gives `return 1; let a; var b`
    ∷ record {
      setting = under bare;
      body = stmt_then (return_of (present one))
          (stmt_then (declaration Let bare_a) (stmt_then (expression call_f) (only (declaration Var bare_b))));
      fused = stmt_then (return_of (present one)) (stmt_then (declaration Let bare_a) (only (declaration Var bare_b)));
    }
    -- `return void f()` gives `void f()` under Reader, and stays under Bare
    ∷ record { setting = under reader; body = only (return_of (present (void call_f))); fused = only (expression (void call_f)) }
    ∷ record { setting = under bare; body = only (return_of (present (void call_f))); fused = only (return_of (present (void call_f))) }
    ∷ []
