-- What a statement's kind alone tells.
use mathlib.Core.Path.{◌≡◌, ap, refl, sym}
use mathlib.Core.Bool.{false, true}
use Rattle.script.specs.declared.StatementKind.TheVariants as statement
use Rattle.script.specs.Tree.{Stmt, block, break, continue, declaration, do_while, empty, expression, for, if_then, return_of, switch, throw, while}
use Rattle.rules.specs.Statements.{is_terminated}
use Rattle.rules.specs.Switches.{has_nested_break}
use Rattle.moves.specs.First.{stmt_kind}
use Rattle.moves.proofs.ByKind.{stmt_of_kind}

-- it ends what follows
pub return_told : (x : Stmt) → statement.Return ≡ stmt_kind x → true ≡ is_terminated x
return_told x e = let s = stmt_of_kind x e in ap is_terminated (sym s.1)

pub throw_told : (x : Stmt) → statement.Throw ≡ stmt_kind x → true ≡ is_terminated x
throw_told x e = let s = stmt_of_kind x e in ap is_terminated (sym s.1)

pub break_told : (x : Stmt) → statement.Break ≡ stmt_kind x → true ≡ is_terminated x
break_told x e = ap is_terminated (sym (stmt_of_kind x e))

pub continue_told : (x : Stmt) → statement.Continue ≡ stmt_kind x → true ≡ is_terminated x
continue_told x e = ap is_terminated (sym (stmt_of_kind x e))

pub not_ended_told : (x : Stmt) → (stmt_kind x ≡ statement.Return → ⊥) → (stmt_kind x ≡ statement.Throw → ⊥) → (stmt_kind x ≡ statement.Break → ⊥)
    → (stmt_kind x ≡ statement.Continue → ⊥) → (stmt_kind x ≡ statement.If → ⊥) → (stmt_kind x ≡ statement.Block → ⊥) → false ≡ is_terminated x
not_ended_told empty r t b c i l = refl
not_ended_told (expression e) r t b c i l = refl
not_ended_told (declaration k ds) r t b c i l = refl
not_ended_told (return_of v) r t b c i l = absurd (r refl)
not_ended_told (throw e) r t b c i l = absurd (t refl)
not_ended_told (if_then e s a) r t b c i l = absurd (i refl)
not_ended_told (block ss) r t b c i l = absurd (l refl)
not_ended_told (while e s) r t b c i l = refl
not_ended_told (do_while s e) r t b c i l = refl
not_ended_told (for j e u s) r t b c i l = refl
not_ended_told (switch d cs) r t b c i l = refl
not_ended_told break r t b c i l = absurd (b refl)
not_ended_told continue r t b c i l = absurd (c refl)

-- it leaves a switch
pub broke_told : (x : Stmt) → statement.Break ≡ stmt_kind x → true ≡ has_nested_break x
broke_told x e = ap has_nested_break (sym (stmt_of_kind x e))

pub not_broke_told : (x : Stmt) → (stmt_kind x ≡ statement.Break → ⊥) → (stmt_kind x ≡ statement.If → ⊥) → (stmt_kind x ≡ statement.Block → ⊥)
    → false ≡ has_nested_break x
not_broke_told empty b i l = refl
not_broke_told (expression e) b i l = refl
not_broke_told (declaration k ds) b i l = refl
not_broke_told (return_of v) b i l = refl
not_broke_told (throw e) b i l = refl
not_broke_told (if_then e s a) b i l = absurd (i refl)
not_broke_told (block ss) b i l = absurd (l refl)
not_broke_told (while e s) b i l = refl
not_broke_told (do_while s e) b i l = refl
not_broke_told (for j e u s) b i l = refl
not_broke_told (switch d cs) b i l = refl
not_broke_told break b i l = absurd (b refl)
not_broke_told continue b i l = refl

-- it may go at the end of a list
