use Rattle.std.proofs.Common.{not as negated, sym, ap, ◌∙◌}
use Rattle.moves.proofs.Single.{give_stmt_of}
use Rattle.heading.proofs.Pushing.{block_opens, block_stays, list_fits}
use Rattle.heading.proofs.blocks.handle_block.Goals as goal

pub returns-then-any_cares_about_scope : goal.returns-then-any_cares_about_scope
returns-then-any_cares_about_scope c = record {
  turns = λ es ds xs ys loose rest o.
      rw c.set.ensures
      (block_stays xs ys (sym (c.any_cares_about_scope.ensures es ds xs o.short o.held.0 (list_fits xs o)) ∙ c.if-any_cares_about_scope.true) o);
  tells = λ es ds xs s a f. ap negated (sym c.if-any_cares_about_scope.true ∙ c.any_cares_about_scope.ensures es ds xs s a f);
}

pub returns : goal.returns
returns c = record {
  turns = λ es ds xs ys loose rest o.
      block_opens xs ys (sym (c.any_cares_about_scope.ensures es ds xs o.short o.held.0 (list_fits xs o)) ∙ c.if-any_cares_about_scope.false)
      (give_stmt_of c.args.at c.give.new.table c.give.new.pool c.give.ensures o)
      (λ o₁. c.push_all.ensures es ds (record { exprs = c.args.pools.now.exprs; stmts = c.give.new.pool; decls = c.args.pools.now.decls })
      xs ys loose rest o₁);
  tells = λ es ds xs s a f. ap negated (sym c.if-any_cares_about_scope.false ∙ c.any_cares_about_scope.ensures es ds xs s a f);
}
