-- What an expression does.
use Rattle.std.specs.Prelude.{Bool, true, false, not as negated, List, [], ◌∷◌, ℕ}
use Rattle.script.specs.declared.Word.{Word}
use Rattle.script.specs.declared.Word.TheVariants.{False, True, Null}
use Rattle.script.specs.declared.LogicalOperator.{LogicalOperator}
use Rattle.script.specs.declared.LogicalOperator.TheVariants.{And, Or, Nullish}
use Rattle.script.specs.Tree.{Expr, number, word, name, assignment, call, sequence, conditional, logical, not, void, strict_equality}
use Rattle.script.specs.Tree.{Exprs, no_exprs, expr_then, OptionalExpr, absent, present}
use Rattle.run.specs.Values.{Value, undefined, null, boolean, integer, object, to_boolean, undefined_or_null, is_strictly_equal}
use Rattle.run.specs.Environment.{mutable, immutable, Binding, unbound, uninitialised, initialised, lookup, set_innermost}
use Rattle.run.specs.World.{Event, sight_of, Reply, gives, throws, Answer, apply_settings}
use Rattle.run.specs.Completion.{State, with_environment, thrown, Completion, normal, abrupt, and_then, branch}

-- the thrown objects: a ReferenceError for an undeclared name, one for an uninitialised name, and a TypeError for a const
abbrev pub undeclared_error : Value
undeclared_error = object 1

abbrev pub uninitialised_error : Value
uninitialised_error = object 2

abbrev pub constant_error : Value
constant_error = object 3

-- "GetValue", "GetBindingValue"
abbrev pub get_value : Binding → State → Completion Value
get_value unbound s = abrupt (thrown undeclared_error) s
get_value uninitialised s = abrupt (thrown uninitialised_error) s
get_value (initialised m v) s = normal v s

-- "PutValue", "SetMutableBinding", for the binding that was found
abbrev pub put_value_in : Binding → ℕ → Value → State → Completion Value
put_value_in unbound n v s = abrupt (thrown undeclared_error) s
put_value_in uninitialised n v s = abrupt (thrown uninitialised_error) s
put_value_in (initialised immutable u) n v s = abrupt (thrown constant_error) s
put_value_in (initialised mutable u) n v s =
    normal v (with_environment (set_innermost n (initialised mutable v) s.environment) s)

abbrev pub put_value : ℕ → Value → State → Completion Value
put_value n v s = put_value_in (lookup s.environment n) n v s

-- a call of the world: the event comes to those so far, and the answer's settings are made before its reply counts
abbrev pub event_at : ℕ → List Value → State → Event
event_at n arguments s = record { number = n; arguments = arguments; sight = λ m. sight_of (lookup s.environment m) }

abbrev pub reply_completion : Reply → State → Completion Value
reply_completion (gives v) s = normal v s
reply_completion (throws v) s = abrupt (thrown v) s

abbrev pub answered : Answer → List Event → State → Completion Value
answered a events s =
    reply_completion a.reply
    (record { world = s.world; events = events; environment = apply_settings a.settings s.environment; turns = s.turns })

abbrev pub call_world : ℕ → List Value → State → Completion Value
call_world n arguments s =
    let events : List Event = event_at n arguments s ∷ s.events in
    answered (s.world events) events s

-- "Literals"
abbrev pub word_value : Word → Value
word_value False = boolean false
word_value True = boolean true
word_value Null = null

-- "Binary Logical Operators": whether the right side is evaluated, by the value of the left one
abbrev pub goes_right : LogicalOperator → Value → Bool
goes_right And v = to_boolean v
goes_right Or v = negated (to_boolean v)
goes_right Nullish v = undefined_or_null v

abbrev mutual
  -- "Evaluation" of each expression
  pub evaluate : Expr → State → Completion Value
  evaluate (number bits) s = normal (integer bits) s
  evaluate (word w) s = normal (word_value w) s
  evaluate (name n) s = get_value (lookup s.environment n) s
  evaluate (assignment n e) s = and_then (evaluate e s) (λ v s₁. put_value n v s₁)
  evaluate (call n es) s = and_then (evaluate_arguments es s) (λ vs s₁. call_world n vs s₁)
  evaluate (sequence e es) s = and_then (evaluate e s) (λ v s₁. evaluate_others es v s₁)
  evaluate (conditional t a b) s =
      and_then (evaluate t s) (λ v s₁. branch (to_boolean v) (λ s₂. evaluate a s₂) (λ s₂. evaluate b s₂) s₁)
  evaluate (logical o a b) s =
      and_then (evaluate a s) (λ v s₁. branch (goes_right o v) (λ s₂. evaluate b s₂) (λ s₂. normal v s₂) s₁)
  evaluate (not e) s = and_then (evaluate e s) (λ v s₁. normal (boolean (negated (to_boolean v))) s₁)
  evaluate (void e) s = and_then (evaluate e s) (λ v s₁. normal undefined s₁)
  evaluate (strict_equality a b) s =
      and_then (evaluate a s) (λ u s₁. and_then (evaluate b s₁) (λ v s₂. normal (boolean (is_strictly_equal u v)) s₂))

  -- "ArgumentListEvaluation"
  pub evaluate_arguments : Exprs → State → Completion (List Value)
  evaluate_arguments no_exprs s = normal [] s
  evaluate_arguments (expr_then e es) s =
      and_then (evaluate e s) (λ v s₁. and_then (evaluate_arguments es s₁) (λ vs s₂. normal (v ∷ vs) s₂))

  -- "Comma Operator": the value of the last item, which is v where no other is left
  pub evaluate_others : Exprs → Value → State → Completion Value
  evaluate_others no_exprs v s = normal v s
  evaluate_others (expr_then e es) v s = and_then (evaluate e s) (λ u s₁. evaluate_others es u s₁)

-- an expression that may be absent, with the value that then stands for it
abbrev pub evaluate_optional : Value → OptionalExpr → State → Completion Value
evaluate_optional v absent s = normal v s
evaluate_optional v (present e) s = evaluate e s
