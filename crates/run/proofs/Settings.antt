-- A world's settings touch nothing that is out of sight, uninitialised or const.
use mathlib.Core.Path.{◌≡◌, refl, sym, ap, ◌∙◌, subst}
use mathlib.Core.List.{List, [], ◌∷◌}
use mathlib.Core.Option.{Option, none}
use Prim.Native.Nat.{ℕ, zero, suc}
use lib.ListN.{length, take}
use Rattle.run.specs.Values.{Value}
use Rattle.run.specs.Environment.{mutable, immutable, Binding, unbound, uninitialised, initialised, Environment, or_outer, lookup}
use Rattle.run.specs.World.{Reply, gives, throws, as_set, left_for_outer, apply_settings}
use Rattle.run.specs.Completion.{State}
use Rattle.run.specs.Evaluate.{reply_completion, call_world}
use Rattle.run.specs.Laws.{state_after, binding_at, Setting, answer_to, SettingsStayInSight}

nothing_left : (nearer : Binding) → left_for_outer nearer none ≡ none
nothing_left unbound = refl
nothing_left uninitialised = refl
nothing_left (initialised m v) = refl

left_through : (b c : Binding) (setting : Option Value) → left_for_outer c (left_for_outer b setting) ≡ left_for_outer (or_outer b c) setting
left_through unbound c setting = refl
left_through uninitialised c setting = nothing_left c
left_through (initialised m v) c setting = nothing_left c

-- each binding is set by what no binding further in takes away
at_depth : (settings : ℕ → Option Value) (e : Environment) (depth n : ℕ)
    → binding_at depth (apply_settings settings e) n ≡ as_set (binding_at depth e n) (left_for_outer (lookup (take depth e) n) (settings n))
at_depth settings [] depth n = refl
at_depth settings (r ∷ outer) zero n = refl
at_depth settings (r ∷ outer) (suc depth) n =
    at_depth (λ m. left_for_outer (r m) (settings m)) outer depth n
    ∙ ap (as_set (binding_at depth outer n)) (left_through (r n) (lookup (take depth outer) n) (settings n))

set_none : (b : Binding) → as_set b none ≡ b
set_none unbound = refl
set_none uninitialised = refl
set_none (initialised mutable v) = refl
set_none (initialised immutable v) = refl

hidden : (nearer : Binding) (setting : Option Value) → ¬ (nearer ≡ unbound) → left_for_outer nearer setting ≡ none
hidden unbound setting h = absurd (h refl)
hidden uninitialised setting h = refl
hidden (initialised m v) setting h = refl

setting : (settings : ℕ → Option Value) (e : Environment) (depth n : ℕ) → Setting settings e (apply_settings settings e) depth n
setting settings e depth n = record {
  out_of_sight = λ h. now ∙ ap (as_set was) (hidden nearer (settings n) h) ∙ set_none was;
  none_there = λ h. now ∙ ap (λ b. as_set b left) h;
  not_initialised = λ h. now ∙ ap (λ b. as_set b left) h;
  const_kept = λ v h. now ∙ ap (λ b. as_set b left) h;
  not_named = λ h. now ∙ ap (λ o. as_set was (left_for_outer nearer o)) h ∙ ap (as_set was) (nothing_left nearer) ∙ set_none was;
  is_set = λ v u in_sight h named.
      now ∙ ap (λ b. as_set b left) h ∙ ap (λ b. as_set (initialised mutable v) (left_for_outer b (settings n))) in_sight
      ∙ ap (as_set (initialised mutable v)) named;
}
  where
    was : Binding
    was = binding_at depth e n

    nearer : Binding
    nearer = lookup (take depth e) n

    left : Option Value
    left = left_for_outer nearer (settings n)

    now : binding_at depth (apply_settings settings e) n ≡ as_set was left
    now = at_depth settings e depth n

as_many : (settings : ℕ → Option Value) (e : Environment) → length (apply_settings settings e) ≡ length e
as_many settings [] = refl
as_many settings (r ∷ outer) = ap suc (as_many _ outer)

-- the reply does not matter
after_reply : (r : Reply) (s : State) → state_after (reply_completion r s) ≡ s
after_reply (gives v) s = refl
after_reply (throws v) s = refl

module _ (number : ℕ) (arguments : List Value) (s : State) where
  after_call : apply_settings (answer_to number arguments s).settings s.environment ≡ (state_after (call_world number arguments s)).environment
  after_call = ap (λ t. t.environment) (sym (after_reply (answer_to number arguments s).reply _))

pub settings_stay_in_sight : SettingsStayInSight
settings_stay_in_sight = record {
  bindings = λ number arguments s depth n.
      let settings : ℕ → Option Value = (answer_to number arguments s).settings in
      subst (λ e. Setting settings s.environment e depth n) (after_call number arguments s) (setting settings s.environment depth n);
  records = λ number arguments s. ap length (sym (after_call number arguments s)) ∙ as_many _ s.environment;
}
