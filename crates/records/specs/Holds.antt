-- Tables hold a sheet: its trees are there, every record is reached once, no part breaks a rule, and its counts are those found.
use Rattle.std.specs.Prelude.{◌≡◌, List, [], ◌∷◌, length}
use Rattle.script.specs.declared.Awaiting.{Awaiting}
use Rattle.script.specs.Tree.{Stmts}
use Rattle.script.specs.Stacks.{Stacks, no_items}
use Rattle.script.specs.Judge.{Stage as ModelStage, reading, complete, Spares, Model}
use Rattle.script.specs.Sound.{SoundModel, SoundStmts}
use Rattle.records.specs.declared.record.Pools.{Pools}
use Rattle.records.specs.declared.record.Stage.{Stage}
use Rattle.records.specs.declared.record.Stage.TheVariants.{Reading, Complete}
use Rattle.records.specs.declared.record.Draft.{Draft}
use Rattle.records.specs.declared.record.Whole.{Whole}
use Rattle.records.specs.Heap.{Heap, expr_at, stmt_at, decl_at}
use Rattle.records.specs.Owned.{Root, Owns}
use Rattle.records.specs.Embedding.{expr_stack, stmt_stack, decl_stack, stmts_row}

-- the numbers of the stage are those of the model
abbrev pub SameStage : Stage → ModelStage → Type 0
SameStage (Reading a) (reading b) = a ≡ b
SameStage (Reading a) (complete ss) = ⊥
SameStage (Complete at) (reading b) = ⊥
SameStage (Complete at) (complete ss) = Unit {0}

-- a body is a root of its own
abbrev pub body_root : Stage → ModelStage → List Root
body_root (Reading a) (reading b) = []
body_root (Reading a) (complete ss) = []
body_root (Complete at) (reading b) = []
body_root (Complete at) (complete ss) = (stmt_at at, stmts_row ss) ∷ []

-- a complete body has left nothing on the stacks
abbrev pub StandsAlone : ModelStage → Stacks → Type 0
StandsAlone (reading a) s = Unit {0}
StandsAlone (complete ss) s = s ≡ no_items

abbrev pub roots : Draft → Model → List Root
roots d m =
    (expr_at d.exprs.top, expr_stack m.stacks.exprs)
    ∷ (stmt_at d.stmts.top, stmt_stack m.stacks.stmts)
    ∷ (decl_at d.decls.top, decl_stack m.stacks.decls)
    ∷ body_root d.stage m.stage

abbrev pub counted : Pools → Spares
counted p = record { exprs = p.exprs.count; stmts = p.stmts.count; decls = p.decls.count }

-- the tables hold this draft, and what it holds is this model
pub record Holds (h : Heap) (d : Draft) (m : Model) : Type 0 where
  pub sound : SoundModel m
  pub stage : SameStage d.stage m.stage
  pub alone : StandsAlone m.stage m.stacks
  pub owned : Owns h d.pools [] (roots d m)
  pub exprs : d.exprs.count ≡ length m.stacks.exprs
  pub stmts : d.stmts.count ≡ length m.stacks.stmts
  pub decls : d.decls.count ≡ length m.stacks.decls
  pub spares : counted d.pools ≡ m.spares

-- the tables hold this whole sheet, and its body is this one
pub record HoldsWhole (h : Heap) (w : Whole) (body : Stmts) : Type 0 where
  pub sound : SoundStmts body
  pub owned : Owns h w.pools [] ((stmt_at w.body, stmts_row body) ∷ [])

-- the draft still reads commands
abbrev pub Reads : Model → Type 0
Reads m = (a : Awaiting) × (m.stage ≡ reading a)
