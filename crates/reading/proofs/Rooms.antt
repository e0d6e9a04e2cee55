-- What a draft that is held leaves room for: its counts are below the number of records.
use Rattle.std.proofs.Common.{◌≡◌, ◌<◌, [], refl, arith}
use Rattle.pool.specs.Chain.{nowhere}
use Rattle.script.specs.declared.Awaiting.{Awaiting}
use Rattle.script.specs.Judge.{Stage as ModelStage, reading, complete, Model}
use Rattle.records.specs.declared.record.Stage.{Stage}
use Rattle.records.specs.declared.record.Stage.TheVariants.{Reading, Complete}
use Rattle.records.specs.declared.record.Draft.{Draft}
use Rattle.records.specs.Heap.{Heap}
use Rattle.records.specs.Owned.{Limited}
use Rattle.records.specs.Embedding.{expr_stack, stmt_stack, decl_stack}
use Rattle.records.specs.Holds.{Holds, body_root}
use Rattle.records.proofs.Moves.{pick}
use Rattle.records.proofs.Sizes.{owned_size, row_size}
use Rattle.shapes.proofs.Decoding.{expr_stack_length}
use Rattle.reading.proofs.PerformedStmts.{stmt_stack_length, decl_row_length}

module _ (h : Heap) (d : Draft) (m : Model) (limited : Limited h) (holds : Holds h d m) where
  pub exprs_room : d.exprs.count < nowhere
  exprs_room =
      let a = owned_size holds.owned in
      let b = row_size (expr_stack m.stacks.exprs) in
      let l = expr_stack_length m.stacks.exprs in
      let c = holds.exprs in
      let x = limited.exprs in
      let y = limited.stmts in
      let z = limited.decls in
      omega arith

  pub stmts_room : d.stmts.count < nowhere
  stmts_room =
      let a = owned_size (pick 1 holds.owned) in
      let b = row_size (stmt_stack m.stacks.stmts) in
      let l = stmt_stack_length m.stacks.stmts in
      let c = holds.stmts in
      let x = limited.exprs in
      let y = limited.stmts in
      let z = limited.decls in
      omega arith

  pub decls_room : d.decls.count < nowhere
  decls_room =
      let a = owned_size (pick 2 holds.owned) in
      let b = row_size (decl_stack m.stacks.decls) in
      let l = decl_row_length m.stacks.decls in
      let c = holds.decls in
      let x = limited.exprs in
      let y = limited.stmts in
      let z = limited.decls in
      omega arith

-- while commands are read there is no body
pub no_body_yet : (s : Stage) (t : ModelStage) (a : Awaiting) → t ≡ reading a → body_root s t ≡ []
no_body_yet (Reading x) (reading b) a e = refl
no_body_yet (Reading x) (complete ss) a e = refl
no_body_yet (Complete at) (reading b) a e = refl
no_body_yet (Complete at) (complete ss) a e = cc
