-- Bytes that are all taken, one more in front of them at a time.
use mathlib.Core.Path.{◌≡◌, refl, ap, ◌∙◌}
use mathlib.Core.List.{List, ◌∷◌}
use Prim.Native.Nat.{ℕ, suc, ◌+◌}
use native.Mathlib.Omega.{arith}
use Rattle.script.specs.declared.Awaiting.{Awaiting}
use Rattle.script.specs.declared.Command.{Command}
use Rattle.script.specs.Tree.{Expr}
use Rattle.script.specs.Format.{awaits, ends, lexed}
use Rattle.script.specs.Stacks.{Item, Declarator, Stacks, puts_expr, puts_item, puts_declarator, perform}
use Rattle.script.specs.Judge.{reading, Spares, Model, taken, between, push_expr, push_item, push_declarator, settled, after_lexing, judge}
use Rattle.script.specs.Judge.{all_taken, one_more, then_fed, judge_all}
use Rattle.script.specs.Sound.{plus, none_used, exprs_only}

-- from one model to another by these bytes
pub record Takes (bytes : List ℕ) (start end : Model) : Type 0 where
  pub all : judge_all bytes start ≡ all_taken end

-- so many records spare, of which some are used and the others left
pub record Covers (spare used rest : Spares) : Type 0 where
  pub exprs : spare.exprs ≡ used.exprs + rest.exprs
  pub stmts : spare.stmts ≡ used.stmts + rest.stmts
  pub decls : spare.decls ≡ used.decls + rest.decls

pub exactly : {used rest : Spares} → Covers (plus used rest) used rest
exactly = record { exprs = refl; stmts = refl; decls = refl }

abbrev pub one_expr : Spares
one_expr = exprs_only 1

abbrev pub one_stmt : Spares
one_stmt = record { exprs = 0; stmts = 1; decls = 0 }

abbrev pub one_declarator : Spares
one_declarator = record { exprs = 0; stmts = 0; decls = 1 }

-- a command is begun
abbrev pub begun_at : Awaiting → Stacks → Spares → Model
begun_at a s n = record { stage = reading a; stacks = s; spares = n }

pub byte : {b : ℕ} {bytes : List ℕ} {start next end : Model} → judge start b ≡ taken next → Takes bytes next end → Takes (b ∷ bytes) start end
byte {bytes = bytes} {start = start} e t =
    record { all = ap (λ v. then_fed v start (λ m. judge_all bytes m)) e ∙ ap one_more t.all }

-- a byte in the middle of a command
pub awaited : {a next : Awaiting} {b : ℕ} {bytes : List ℕ} {s : Stacks} {spare : Spares} {end : Model} →
    lexed a b ≡ awaits next → Takes bytes (begun_at next s spare) end → Takes (b ∷ bytes) (begun_at a s spare) end
awaited {s = s} {spare = spare} e t = byte (ap (λ l. after_lexing l s spare) e) t

-- spares that are known by their numbers
alike : {a b : Spares} → a.exprs ≡ b.exprs → a.stmts ≡ b.stmts → a.decls ≡ b.decls → a ≡ b
alike p q r = λ i. record { exprs = p i; stmts = q i; decls = r i }

pub none_spent : {bytes : List ℕ} {s : Stacks} {spare rest : Spares} {end : Model} → Covers spare none_used rest →
    Takes bytes (between s rest) end → Takes bytes (between s spare) end
none_spent {bytes = bytes} {s = s} {spare = spare} {rest = rest} h t =
    let e : spare ≡ rest = alike (omega arith) (omega arith) (omega arith) in
    record { all = ap (λ n. judge_all bytes (between s n)) e ∙ t.all }

-- an item takes its record
module _ {spare rest : Spares} (s : Stacks) where
  expr_settles : (x : Expr) → Covers spare one_expr rest → settled (puts_expr x s) spare ≡ taken (between (push_expr x s) rest)
  expr_settles x h =
      let more : Spares = record { exprs = suc rest.exprs; stmts = rest.stmts; decls = rest.decls } in
      let e : spare ≡ more = alike (omega arith) (omega arith) (omega arith) in
      ap (settled (puts_expr x s)) e

  item_settles : (i : Item) → Covers spare one_stmt rest → settled (puts_item i s) spare ≡ taken (between (push_item i s) rest)
  item_settles i h =
      let more : Spares = record { exprs = rest.exprs; stmts = suc rest.stmts; decls = rest.decls } in
      let e : spare ≡ more = alike (omega arith) (omega arith) (omega arith) in
      ap (settled (puts_item i s)) e

  declarator_settles : (d : Declarator) → Covers spare one_declarator rest → settled (puts_declarator d s) spare ≡ taken (between (push_declarator d s) rest)
  declarator_settles d h =
      let more : Spares = record { exprs = rest.exprs; stmts = rest.stmts; decls = suc rest.decls } in
      let e : spare ≡ more = alike (omega arith) (omega arith) (omega arith) in
      ap (settled (puts_declarator d s)) e

-- the last byte of a command
module _ {a : Awaiting} {b : ℕ} {c : Command} {bytes : List ℕ} {s : Stacks} {spare : Spares} {end : Model} (e : lexed a b ≡ ends c) where
  settles : {next : Model} → settled (perform c s) spare ≡ taken next → Takes bytes next end → Takes (b ∷ bytes) (begun_at a s spare) end
  settles q t = byte (ap (λ l. after_lexing l s spare) e ∙ q) t

  module _ {s' : Stacks} {rest : Spares} where
    pub puts_an_expr : {x : Expr} → perform c s ≡ puts_expr x s' → Covers spare one_expr rest →
        Takes bytes (between (push_expr x s') rest) end → Takes (b ∷ bytes) (begun_at a s spare) end
    puts_an_expr q h t = settles (ap (λ p. settled p spare) q ∙ expr_settles s' _ h) t

    pub puts_an_item : {i : Item} → perform c s ≡ puts_item i s' → Covers spare one_stmt rest →
        Takes bytes (between (push_item i s') rest) end → Takes (b ∷ bytes) (begun_at a s spare) end
    puts_an_item q h t = settles (ap (λ p. settled p spare) q ∙ item_settles s' _ h) t

    pub puts_a_declarator : {d : Declarator} → perform c s ≡ puts_declarator d s' → Covers spare one_declarator rest →
        Takes bytes (between (push_declarator d s') rest) end → Takes (b ∷ bytes) (begun_at a s spare) end
    puts_a_declarator q h t = settles (ap (λ p. settled p spare) q ∙ declarator_settles s' _ h) t
