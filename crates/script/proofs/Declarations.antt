-- The bytes of declarators are taken and put them on their stack, and those of a declaration put a statement.
use mathlib.Core.Path.{◌≡◌, refl, ap, ◌∙◌}
use mathlib.Core.Bool.{true, cond}
use mathlib.Core.Bool.{not as negated}
use mathlib.Core.List.{List, reverse_aux}
use Prim.Native.Nat.{ℕ, ◌/◌, ◌%◌, ◌≤◌}
use borrow.Author.Tests.{le-ltb}
use native.Mathlib.Omega.{arith}
use Rattle.script.specs.declared.DeclarationKind.{DeclarationKind}
use Rattle.script.specs.declared.DeclarationKind.TheVariants.{Var, Let, Const}
use Rattle.script.specs.declared.Awaiting.TheVariants as awaiting
use Rattle.script.specs.declared.Command.TheVariants as command
use Rattle.script.specs.declared.Counted.TheVariants as counted
use Rattle.script.specs.Tree.{absent, present, Declarators, no_declarators, declarator_then, declaration}
use Rattle.script.specs.Format.{refused, bad_operand, awaits, ends, lexed}
use Rattle.script.specs.Stacks.{statement, Stacks, puts_item, sound_declaration, unless, perform}
use Rattle.script.specs.Judge.{Spares, Model, between, push_item}
use Rattle.script.specs.Sound.{count_declarators, SoundDeclarators, SoundDeclaration, plus, with_stmt, records_declarators}
use Rattle.script.specs.Written.{kind_byte, declarators_bytes, declaration_bytes}
use Rattle.script.proofs.Counting.{count_ends_with}
use Rattle.script.proofs.Parts.{declarator_list, declarators_of_list, pops_declarators}
use Rattle.script.proofs.Taking.{Takes, Covers, exactly, one_stmt, one_declarator, none_spent, byte, awaited, puts_an_item, puts_a_declarator}
use Rattle.script.proofs.Exprs.{expr_takes}

abbrev pub push_declarators : Declarators → Stacks → Stacks
push_declarators ds s = record { exprs = s.exprs; stmts = s.stmts; decls = reverse_aux (declarator_list ds) s.decls }

pub declarators_takes : (ds : Declarators) {bytes : List ℕ} {s : Stacks} {spare : Spares} {end : Model} (rest : Spares) →
    SoundDeclarators ds → Covers spare (records_declarators ds) rest →
    Takes bytes (between (push_declarators ds s) rest) end → Takes (declarators_bytes ds bytes) (between s spare) end
declarators_takes no_declarators rest ok h t = none_spent h t
declarators_takes (declarator_then n absent ds) rest ok h t =
    byte refl (puts_a_declarator refl refl (omega arith) (declarators_takes ds rest ok.1 exactly t))
declarators_takes (declarator_then n (present e) ds) rest ok h t =
    expr_takes e (plus one_declarator (plus (records_declarators ds) rest)) ok.0 (omega arith)
    (byte refl (puts_a_declarator refl refl exactly (declarators_takes ds rest ok.1 exactly t)))

kind_awaits : (k : DeclarationKind) → lexed awaiting.DeclarationKind (kind_byte k) ≡ awaits (awaiting.Count (counted.Declaration k))
kind_awaits Var = refl
kind_awaits Let = refl
kind_awaits Const = refl

declaration_ends : (k : DeclarationKind) (n : ℕ) → 1 ≤ n → lexed (awaiting.CountHigh (counted.Declaration k) (n % 256)) (n / 256) ≡ ends (command.Declaration k n)
declaration_ends k n h =
    count_ends_with (counted.Declaration k) n ∙ ap (λ few. cond few (refused bad_operand) (ends (command.Declaration k n))) (le-ltb n 1 h)

declaration_performed : (k : DeclarationKind) (ds : Declarators) (s : Stacks) → sound_declaration k ds ≡ true →
    perform (command.Declaration k (count_declarators ds)) (push_declarators ds s) ≡ puts_item (statement (declaration k ds)) s
declaration_performed k ds s ok =
    pops_declarators ds s.decls _
    ∙ ap (λ list. unless (negated (sound_declaration k list)) (puts_item (statement (declaration k list)) s)) (declarators_of_list ds)
    ∙ ap (λ sound. unless (negated sound) (puts_item (statement (declaration k ds)) s)) ok

pub declaration_takes : (k : DeclarationKind) (ds : Declarators) {bytes : List ℕ} {s : Stacks} {spare : Spares} {end : Model} (rest : Spares) →
    SoundDeclaration k ds → Covers spare (with_stmt (records_declarators ds)) rest →
    Takes bytes (between (push_item (statement (declaration k ds)) s) rest) end → Takes (declaration_bytes k ds bytes) (between s spare) end
declaration_takes k ds {s = s} rest ok h t =
    declarators_takes ds (plus one_stmt rest) ok.2 (omega arith)
    (byte refl (awaited (kind_awaits k) (byte refl
    (puts_an_item (declaration_ends k (count_declarators ds) ok.0) (declaration_performed k ds s ok.1) exactly t))))
