-- A byte that is taken is read the same.
use mathlib.Core.Path.{◌≡◌, refl}
use mathlib.Core.List.{List, [], ◌∷◌, ◌++◌}
use mathlib.Core.Option.{none}
use Prim.Native.Nat.{ℕ, zero, suc}
use Rattle.script.specs.declared.Table.{Table}
use Rattle.script.specs.Format.{Lexed, refused, awaits, ends, lexed}
use Rattle.script.specs.Stacks.{Stacks, Performed, lacks, misplaces, puts_expr, puts_item, puts_declarator, puts_body, perform}
use Rattle.script.specs.Judge.{Stage, reading, complete, Spares, Model, Verdict, turned_away, taken, spend, alone, settled}
use Rattle.script.specs.Judge.{after_lexing, judge_at, judge, Fed, all_taken, stopped, one_more, then_fed, judge_all}
use Rattle.script.specs.Reading.{Reading, spelled, obeyed, ends_or_joins, read_byte}
use Rattle.script.specs.Laws.{StageAgrees, Agrees, TakenIsRead, AfterFeeding, AcceptedBytesSpell}
use Rattle.script.proofs.Lexing.{LexedSpells, lexed_spells}

-- a verdict that takes the byte leaves a model that agrees
abbrev VerdictAgrees : Verdict → Reading → Type 0
VerdictAgrees (turned_away why) r = Unit {0}
VerdictAgrees (taken m) r = Agrees m r

spend_agrees : (n : ℕ) (t : Table) (k : ℕ → Verdict) (r : Reading) → ((n' : ℕ) → VerdictAgrees (k n') r) → VerdictAgrees (spend n t k) r
spend_agrees zero t k r h = tt
spend_agrees (suc n) t k r h = h n

alone_agrees : {A B C : Type 0} (es : List A) (is : List B) (ds : List C) (v : Verdict) (r : Reading) → VerdictAgrees v r → VerdictAgrees (alone es is ds v) r
alone_agrees [] [] [] v r h = h
alone_agrees [] [] (d ∷ ds) v r h = tt
alone_agrees [] (i ∷ is) [] v r h = tt
alone_agrees [] (i ∷ is) (d ∷ ds) v r h = tt
alone_agrees (e ∷ es) [] [] v r h = tt
alone_agrees (e ∷ es) [] (d ∷ ds) v r h = tt
alone_agrees (e ∷ es) (i ∷ is) [] v r h = tt
alone_agrees (e ∷ es) (i ∷ is) (d ∷ ds) v r h = tt

-- a whole command
settled_agrees : (p : Performed) (n : Spares) (r : Reading) → r.body ≡ none → VerdictAgrees (settled p n) (obeyed p r)
settled_agrees lacks n r e = tt
settled_agrees misplaces n r e = tt
settled_agrees (puts_expr x s) n r e = spend_agrees n.exprs _ _ _ (λ m. record { stage = (refl, e); stacks = refl })
settled_agrees (puts_item x s) n r e = spend_agrees n.stmts _ _ _ (λ m. record { stage = (refl, e); stacks = refl })
settled_agrees (puts_declarator x s) n r e = spend_agrees n.decls _ _ _ (λ m. record { stage = (refl, e); stacks = refl })
settled_agrees (puts_body ss s) n r e = alone_agrees s.exprs s.stmts s.decls _ _ (record { stage = (refl, refl); stacks = refl })

-- a byte that was lexed
after_lexing_agrees : (l : Lexed) (bytes : List ℕ) (s : Stacks) (n : Spares) (r : Reading) →
    LexedSpells l bytes → r.body ≡ none → s ≡ r.stacks → VerdictAgrees (after_lexing l s n) (ends_or_joins bytes (spelled bytes) r)
after_lexing_agrees (refused why) bytes s n r spells e same = tt
after_lexing_agrees (awaits a) bytes s n r spells e same = rw spells.1 (record { stage = (spells.0, e); stacks = same })
after_lexing_agrees (ends c) bytes s n r spells e same = rw (spells, same) (settled_agrees (perform c r.stacks) n r e)

judge_at_agrees : (stage : Stage) (s : Stacks) (n : Spares) (r : Reading) (b : ℕ) →
    StageAgrees stage r → s ≡ r.stacks → VerdictAgrees (judge_at stage s n b) (read_byte r b)
judge_at_agrees (complete ss) s n r b agrees same = tt
judge_at_agrees (reading a) s n r b agrees same =
    after_lexing_agrees (lexed a b) (r.begun ++ (b ∷ [])) s n r (rw agrees.0 (lexed_spells a b)) agrees.1 same

judge_agrees : (m : Model) (r : Reading) (b : ℕ) → Agrees m r → VerdictAgrees (judge m b) (read_byte r b)
judge_agrees m r b agrees = judge_at_agrees m.stage m.stacks m.spares r b agrees.stage agrees.stacks

pub taken_is_read : TakenIsRead
taken_is_read m m' r b agrees e = rw e at (judge_agrees m r b agrees)

-- what bytes come to
one_more_agrees : (f : Fed) (b : ℕ) (bs : List ℕ) (r : Reading) → AfterFeeding f bs (read_byte r b) → AfterFeeding (one_more f) (b ∷ bs) r
one_more_agrees (all_taken m) b bs r h = h
one_more_agrees (stopped n why m) b bs r h = h

then_fed_agrees : (v : Verdict) (m : Model) (r : Reading) (b : ℕ) (bs : List ℕ) → Agrees m r → VerdictAgrees v (read_byte r b) →
    ((m' : Model) → Agrees m' (read_byte r b) → AfterFeeding (judge_all bs m') bs (read_byte r b)) →
    AfterFeeding (then_fed v m (λ m'. judge_all bs m')) (b ∷ bs) r
then_fed_agrees (turned_away why) m r b bs agrees h rest = agrees
then_fed_agrees (taken m') m r b bs agrees h rest = one_more_agrees (judge_all bs m') b bs r (rest m' h)

pub accepted_bytes_spell : AcceptedBytesSpell
accepted_bytes_spell m r [] agrees = agrees
accepted_bytes_spell m r (b ∷ bs) agrees =
    then_fed_agrees (judge m b) m r b bs agrees (judge_agrees m r b agrees) (λ m' h. accepted_bytes_spell m' (read_byte r b) bs h)
