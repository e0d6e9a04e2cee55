-- Worked examples: bodies with what they do. f and g are the calls 0 and 1, a and b the names 0 and 1.
use Rattle.std.specs.Prelude.{◌≡◌, true, false, List, [], ◌∷◌, ℕ, zero, suc}
use Rattle.std.proofs.Math.Option.{none, some}
use Rattle.script.specs.declared.Word.TheVariants.{False, True, Null}
use Rattle.script.specs.declared.LogicalOperator.TheVariants.{And, Or, Nullish}
use Rattle.script.specs.declared.DeclarationKind.{DeclarationKind}
use Rattle.script.specs.declared.DeclarationKind.TheVariants.{Var, Let, Const}
use Rattle.script.specs.Tree.{Expr, number, word, name, assignment, call, conditional, logical, not, void, strict_equality}
use Rattle.script.specs.Tree.{no_exprs, expr_then, absent, present, no_declarators, declarator_then}
use Rattle.script.specs.Tree.{no_init, init_declaration, no_alternate}
use Rattle.script.specs.Tree.{Stmt, expression, declaration, return_of, throw, if_then, block, while, do_while, for, switch, break, continue}
use Rattle.script.specs.Tree.{Stmts, no_stmts, stmt_then, Cases, no_cases, case_then}
use Rattle.run.specs.Values.{Value, undefined, boolean, integer, object}
use Rattle.run.specs.World.{Sight, not_in_sight, without_value, with_value, Event, Reply, gives, throws, World}
use Rattle.run.specs.Completion.{Abrupt, returned, thrown, broke, continued, cut}
use Rattle.run.specs.Run.{run}

infixr 20 ◌&◌
-- how the examples are written

abbrev pub ◌&◌ : Stmt → Stmts → Stmts
x & xs = stmt_then x xs

abbrev pub end : Stmts
end = no_stmts

abbrev pub f : Expr
f = call 0 no_exprs

abbrev pub g : Expr
g = call 1 no_exprs

abbrev pub f_of : Expr → Expr
f_of e = call 0 (expr_then e no_exprs)

abbrev pub a : Expr
a = name 0

abbrev pub b : Expr
b = name 1

abbrev pub declared : DeclarationKind → ℕ → Expr → Stmt
declared k n e = declaration k (declarator_then n (present e) no_declarators)

abbrev pub declared_bare : DeclarationKind → ℕ → Stmt
declared_bare k n = declaration k (declarator_then n absent no_declarators)

abbrev pub when : Expr → Stmts → Cases → Cases
when e xs cs = case_then (present e) xs cs

abbrev pub otherwise : Stmts → Cases → Cases
otherwise xs cs = case_then absent xs cs

-- the worlds of the examples: the replies come one after the other, and undefined when they are used up

abbrev pub earlier : List Event → ℕ
earlier [] = 0
earlier (e ∷ []) = 0
earlier (e ∷ e₁ ∷ es) = suc (earlier (e₁ ∷ es))

abbrev pub nth_reply : List Reply → ℕ → Reply
nth_reply [] n = gives undefined
nth_reply (r ∷ rs) zero = r
nth_reply (r ∷ rs) (suc n) = nth_reply rs n

abbrev pub replying : List Reply → World
replying rs events = record { reply = nth_reply rs (earlier events); settings = λ _. none }

-- a world that would set every name to 9
abbrev pub setting : World
setting events = record { reply = gives undefined; settings = λ _. some (integer 9) }

-- what is told of an event: its number, its arguments, and how a and b are seen
pub record Call : Type 0 where
  pub number : ℕ
  pub arguments : List Value
  pub sees_a : Sight
  pub sees_b : Sight

abbrev pub call_of : Event → Call
call_of e = record { number = e.number; arguments = e.arguments; sees_a = e.sight 0; sees_b = e.sight 1 }

abbrev pub calls_of : List Event → List Call
calls_of [] = []
calls_of (e ∷ es) = call_of e ∷ calls_of es

-- a call where neither name is in sight
abbrev pub plain : ℕ → List Value → Call
plain n vs = record { number = n; arguments = vs; sees_a = not_in_sight; sees_b = not_in_sight }

abbrev pub seeing_a : ℕ → List Value → Sight → Call
seeing_a n vs sight = record { number = n; arguments = vs; sees_a = sight; sees_b = not_in_sight }

pub record Example : Type 0 where
  pub world : World
  pub turns : ℕ
  pub body : Stmts
  pub calls : List Call
  pub completion : Abrupt

abbrev pub Holds : Example → Type 0
Holds x =
    (calls_of (run x.world x.turns x.body).events ≡ x.calls)
    × ((run x.world x.turns x.body).completion ≡ x.completion)

abbrev pub AllHold : List Example → Type 0
AllHold [] = Unit {0}
AllHold (x ∷ xs) = Holds x × AllHold xs

-- the examples

abbrev pub examples : List Example
examples =
    -- a; let a = 1
    record {
      world = replying [];
      turns = 0;
      body = expression a & declared Let 0 (number 1) & end;
      calls = [];
      completion = thrown (object 2);
    }
    -- f(); let a
    ∷ record {
      world = replying [];
      turns = 0;
      body = expression f & declared_bare Let 0 & end;
      calls = seeing_a 0 [] without_value ∷ [];
      completion = returned undefined;
    }
    -- const a = 1; a = 2
    ∷ record {
      world = replying [];
      turns = 0;
      body = declared Const 0 (number 1) & expression (assignment 0 (number 2)) & end;
      calls = [];
      completion = thrown (object 3);
    }
    -- switch (9) { case 1: f(1); default: f(2); case 3: f(3) }
    ∷ record {
      world = replying [];
      turns = 0;
      body = switch (number 9) (when (number 1) (expression (f_of (number 1)) & end)
          (otherwise (expression (f_of (number 2)) & end) (when (number 3) (expression (f_of (number 3)) & end) no_cases))) & end;
      calls = plain 0 (integer 2 ∷ []) ∷ plain 0 (integer 3 ∷ []) ∷ [];
      completion = returned undefined;
    }
    -- switch (3) { case f(): f(1); default: f(2); case 3: f(3) }
    ∷ record {
      world = replying [];
      turns = 0;
      body = switch (number 3) (when f (expression (f_of (number 1)) & end)
          (otherwise (expression (f_of (number 2)) & end) (when (number 3) (expression (f_of (number 3)) & end) no_cases))) & end;
      calls = plain 0 [] ∷ plain 0 (integer 3 ∷ []) ∷ [];
      completion = returned undefined;
    }
    -- switch (1) { case 1: let a = 2; case 2: f(a) }
    ∷ record {
      world = replying [];
      turns = 0;
      body = switch (number 1) (when (number 1) (declared Let 0 (number 2) & end)
          (when (number 2) (expression (f_of a) & end) no_cases)) & end;
      calls = seeing_a 0 (integer 2 ∷ []) (with_value (integer 2)) ∷ [];
      completion = returned undefined;
    }
    -- while (true) { switch (1) { case 1: switch (2) { case 2: break } f(); return 5 } }
    ∷ record {
      world = replying [];
      turns = 1;
      body = while (word True) (block (switch (number 1) (when (number 1)
          (switch (number 2) (when (number 2) (break & end) no_cases) & expression f & return_of (present (number 5)) & end) no_cases) & end)) & end;
      calls = plain 0 [] ∷ [];
      completion = returned (integer 5);
    }
    -- for (; f(); g()) { continue; f() }
    ∷ record {
      world = replying (gives (boolean true) ∷ gives undefined ∷ gives (boolean false) ∷ []);
      turns = 1;
      body = for no_init (present f) (present g) (block (continue & expression f & end)) & end;
      calls = plain 0 [] ∷ plain 1 [] ∷ plain 0 [] ∷ [];
      completion = returned undefined;
    }
    -- do { f() } while (true)
    ∷ record {
      world = replying [];
      turns = 2;
      body = do_while (block (expression f & end)) (word True) & end;
      calls = plain 0 [] ∷ plain 0 [] ∷ [];
      completion = cut;
    }
    -- { let a = 1; var a = 2; f(a) } f(a)
    ∷ record {
      world = replying [];
      turns = 0;
      body = block (declared Let 0 (number 1) & declared Var 0 (number 2) & expression (f_of a) & end) & expression (f_of a) & end;
      calls = seeing_a 0 (integer 2 ∷ []) (with_value (integer 2)) ∷ seeing_a 0 (undefined ∷ []) (with_value undefined) ∷ [];
      completion = returned undefined;
    }
    -- var a = 1; let a
    ∷ record {
      world = replying [];
      turns = 0;
      body = declared Var 0 (number 1) & declared_bare Let 0 & end;
      calls = [];
      completion = thrown (object 2);
    }
    -- f(g())
    ∷ record {
      world = replying (throws (integer 7) ∷ []);
      turns = 0;
      body = expression (f_of g) & end;
      calls = plain 1 [] ∷ [];
      completion = thrown (integer 7);
    }
    -- let a = 1; a = 2; const a = 3; a = 4
    ∷ record {
      world = replying [];
      turns = 0;
      body = declared Let 0 (number 1) & expression (assignment 0 (number 2)) & declared Const 0 (number 3)
          & expression (assignment 0 (number 4)) & end;
      calls = [];
      completion = thrown (object 3);
    }
    -- const a = 1; let a = 2; a = 3; return a
    ∷ record {
      world = replying [];
      turns = 0;
      body = declared Const 0 (number 1) & declared Let 0 (number 2) & expression (assignment 0 (number 3)) & return_of (present a) & end;
      calls = [];
      completion = returned (integer 3);
    }
    -- f(); continue; f()
    ∷ record {
      world = replying [];
      turns = 0;
      body = expression f & continue & expression f & end;
      calls = plain 0 [] ∷ [];
      completion = continued;
    }
    -- if (f()) break; f()
    ∷ record {
      world = replying (gives (object 0) ∷ []);
      turns = 0;
      body = if_then f break no_alternate & expression f & end;
      calls = plain 0 [] ∷ [];
      completion = broke;
    }
    -- f(a)
    ∷ record {
      world = replying [];
      turns = 0;
      body = expression (f_of a) & end;
      calls = [];
      completion = thrown (object 1);
    }
    -- a = f()
    ∷ record {
      world = replying [];
      turns = 0;
      body = expression (assignment 0 f) & end;
      calls = plain 0 [] ∷ [];
      completion = thrown (object 1);
    }
    -- let a = 1; const b = 2; f(); return a === 9 && b
    ∷ record {
      world = setting;
      turns = 0;
      body = declared Let 0 (number 1) & declared Const 1 (number 2) & expression f
          & return_of (present (logical And (strict_equality a (number 9)) b)) & end;
      calls = record { number = 0; arguments = []; sees_a = with_value (integer 1); sees_b = with_value (integer 2) } ∷ [];
      completion = returned (integer 2);
    }
    -- var a = 1; { let a = 2; f(); } return a
    ∷ record {
      world = setting;
      turns = 0;
      body = declared Var 0 (number 1) & block (declared Let 0 (number 2) & expression f & end) & return_of (present a) & end;
      calls = seeing_a 0 [] (with_value (integer 2)) ∷ [];
      completion = returned (integer 1);
    }
    -- for (let a = 0; !a; a = true) f(a); return a
    ∷ record {
      world = replying [];
      turns = 1;
      body = for (init_declaration Let (declarator_then 0 (present (number 0)) no_declarators)) (present (not a))
          (present (assignment 0 (word True))) (expression (f_of a)) & return_of (present a) & end;
      calls = seeing_a 0 (integer 0 ∷ []) (with_value (integer 0)) ∷ [];
      completion = thrown (object 1);
    }
    -- for (const a = 1; f(); a = 2) {}
    ∷ record {
      world = replying (gives (boolean true) ∷ []);
      turns = 1;
      body = for (init_declaration Const (declarator_then 0 (present (number 1)) no_declarators)) (present f)
          (present (assignment 0 (number 2))) (block end) & end;
      calls = seeing_a 0 [] (with_value (integer 1)) ∷ [];
      completion = thrown (object 3);
    }
    -- return null ?? (0 || !f())
    ∷ record {
      world = replying [];
      turns = 0;
      body = return_of (present (logical Nullish (word Null) (logical Or (number 0) (not f)))) & end;
      calls = plain 0 [] ∷ [];
      completion = returned (boolean true);
    }
    -- throw void f() === null ? 1 : 0 === false
    ∷ record {
      world = replying [];
      turns = 0;
      body = throw (conditional (strict_equality (void f) (word Null)) (number 1) (strict_equality (number 0) (word False))) & end;
      calls = plain 0 [] ∷ [];
      completion = thrown (boolean false);
    }
    -- while (f()) { return }
    ∷ record {
      world = replying (gives (integer 1) ∷ []);
      turns = 0;
      body = while f (block (return_of absent & end)) & end;
      calls = plain 0 [] ∷ [];
      completion = cut;
    }
    ∷ []
