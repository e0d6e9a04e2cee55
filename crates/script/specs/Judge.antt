-- The judging of a byte: what a draft holds, and what the next byte makes of it.
use Rattle.std.specs.Prelude.{List, [], ◌∷◌, ℕ, zero, suc}
use Rattle.script.specs.declared.Awaiting.{Awaiting}
use Rattle.script.specs.declared.Awaiting.TheVariants as awaiting
use Rattle.script.specs.declared.Table.{Table}
use Rattle.script.specs.declared.Table.TheVariants.{Expressions, Statements, Declarators}
use Rattle.script.specs.Tree.{Expr, Stmts}
use Rattle.script.specs.Format.{Refusal, body_complete, too_few, misplaced, leftover, no_spare}
use Rattle.script.specs.Format.{Lexed, refused, awaits, ends, lexed}
use Rattle.script.specs.Stacks.{Item, Declarator, Stacks, no_items, Performed, lacks, misplaces, puts_expr, puts_item, puts_declarator, puts_body, perform}

-- a command is begun or awaited, or the body is complete
pub data Stage : Type 0 where
  reading : Awaiting → Stage
  complete : Stmts → Stage

-- how many records of each table are spare
pub record Spares : Type 0 where
  pub exprs : ℕ
  pub stmts : ℕ
  pub decls : ℕ

-- all that a draft is, with no word of tables: what it awaits or its body, the parts on its stacks, how many records are spare
pub record Model : Type 0 where
  pub stage : Stage
  pub stacks : Stacks
  pub spares : Spares

-- what a draft of tables with so many records begins with
abbrev pub fresh : Spares → Model
fresh n = record { stage = reading awaiting.Command; stacks = no_items; spares = n }

pub data Verdict : Type 0 where
  turned_away : Refusal → Verdict
  taken : Model → Verdict

-- one record fewer, if there is one
abbrev pub spend : ℕ → Table → (ℕ → Verdict) → Verdict
spend zero t k = turned_away (no_spare t)
spend (suc n) t k = k n

abbrev pub between : Stacks → Spares → Model
between s n = record { stage = reading awaiting.Command; stacks = s; spares = n }

abbrev pub push_expr : Expr → Stacks → Stacks
push_expr e s = record { exprs = e ∷ s.exprs; stmts = s.stmts; decls = s.decls }

abbrev pub push_item : Item → Stacks → Stacks
push_item i s = record { exprs = s.exprs; stmts = i ∷ s.stmts; decls = s.decls }

abbrev pub push_declarator : Declarator → Stacks → Stacks
push_declarator d s = record { exprs = s.exprs; stmts = s.stmts; decls = d ∷ s.decls }

-- a body stands alone
abbrev pub alone : {A B C : Type 0} → List A → List B → List C → Verdict → Verdict
alone [] [] [] v = v
alone [] [] (d ∷ ds) v = turned_away leftover
alone [] (i ∷ is) [] v = turned_away leftover
alone [] (i ∷ is) (d ∷ ds) v = turned_away leftover
alone (e ∷ es) [] [] v = turned_away leftover
alone (e ∷ es) [] (d ∷ ds) v = turned_away leftover
alone (e ∷ es) (i ∷ is) [] v = turned_away leftover
alone (e ∷ es) (i ∷ is) (d ∷ ds) v = turned_away leftover

-- an item takes a record of its table, the body takes none
abbrev pub settled : Performed → Spares → Verdict
settled lacks n = turned_away too_few
settled misplaces n = turned_away misplaced
settled (puts_expr e s) n =
    spend n.exprs Expressions (λ m. taken (between (push_expr e s) (record { exprs = m; stmts = n.stmts; decls = n.decls })))
settled (puts_item i s) n =
    spend n.stmts Statements (λ m. taken (between (push_item i s) (record { exprs = n.exprs; stmts = m; decls = n.decls })))
settled (puts_declarator d s) n =
    spend n.decls Declarators (λ m. taken (between (push_declarator d s) (record { exprs = n.exprs; stmts = n.stmts; decls = m })))
settled (puts_body ss s) n =
    alone s.exprs s.stmts s.decls (taken (record { stage = complete ss; stacks = s; spares = n }))

abbrev pub after_lexing : Lexed → Stacks → Spares → Verdict
after_lexing (refused r) s n = turned_away r
after_lexing (awaits a) s n = taken (record { stage = reading a; stacks = s; spares = n })
after_lexing (ends c) s n = settled (perform c s) n

abbrev pub judge_at : Stage → Stacks → Spares → ℕ → Verdict
judge_at (complete ss) s n b = turned_away body_complete
judge_at (reading a) s n b = after_lexing (lexed a b) s n

-- the next byte of a draft
abbrev pub judge : Model → ℕ → Verdict
judge m b = judge_at m.stage m.stacks m.spares b

-- what bytes come to: all are taken, or those before a refused one
pub data Fed : Type 0 where
  all_taken : Model → Fed
  stopped : ℕ → Refusal → Model → Fed

abbrev pub one_more : Fed → Fed
one_more (all_taken m) = all_taken m
one_more (stopped n r m) = stopped (suc n) r m

abbrev pub then_fed : Verdict → Model → (Model → Fed) → Fed
then_fed (turned_away r) m k = stopped 0 r m
then_fed (taken m') m k = one_more (k m')

-- bytes one after another, up to the first that is turned away
abbrev pub judge_all : List ℕ → Model → Fed
judge_all [] m = all_taken m
judge_all (b ∷ bs) m = then_fed (judge m b) m (λ m'. judge_all bs m')
